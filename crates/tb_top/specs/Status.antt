-- The exit code of each status.
use Rattle.std.specs.Prelude.{ℕ}
use Rattle.tb_top.specs.declared.status.Status.{Status}
use Rattle.tb_top.specs.declared.status.Status.TheVariants as answers

-- the code with which the program ends
abbrev pub code_of : Status → ℕ
code_of answers.Done = 0
code_of answers.Words = 2
code_of answers.Syntax = 3
code_of answers.Range = 4
code_of answers.PoolFull = 5
code_of answers.DeadCycles = 6
code_of answers.PageLimit = 7
code_of answers.ReadFault = 8
code_of answers.WriteFault = 9
code_of answers.Memory = 10
code_of answers.NodeLimit = 11
code_of answers.Unsuited = 12
code_of answers.TooFar = 13
code_of answers.Dvi = 14
code_of answers.NoBreaks = 15
code_of answers.Choices = 16
