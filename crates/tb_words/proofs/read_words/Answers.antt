use Rattle.std.proofs.Common.{map}
use Rattle.std.specs.Prelude.{string_bytes}
use Rattle.clap.specs.Words.{app_of}
use Rattle.tb_words.proofs.Counts.{count_found}
use Rattle.tb_words.proofs.Commands.{asked_of, command_free}
use Rattle.tb_words.proofs.read_words.Goals as goal

pub mode_in-requires : goal.mode_in-requires
mode_in-requires c = count_found c.in_ok-command.command c.in_ok-matches.matches c.in_ok-command.ensures c.in_ok-matches.ensures.parsed

pub returns-in-Some-clause-asked : goal.returns-in-Some-clause-asked
returns-in-Some-clause-asked c =
    asked_of (app_of c.in_ok-command.command) (map string_bytes c.args.words.now) c.in_ok-matches.matches _ c.in_ok-command.ensures c.in_ok-matches.ensures.matches
    (c.in_ok-matches.ensures.kinds (command_free _ c.in_ok-command.ensures)) c.in-Some.ensures.mode
