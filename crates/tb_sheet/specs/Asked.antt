-- What the nodes of a page ask of an output routine: the penalties of its firings, and acts (ltoutput.dtx, \@specialoutput).
use Rattle.std.specs.Prelude.{ℤ, negsuc, ◌≤◌}
use Rattle.tb_node.specs.declared.Act.{Act}
use Rattle.tb_node.specs.declared.Act.TheVariants as acts
use Rattle.tb_node.specs.Fit.{IsExtent}
use Rattle.tb_float.specs.Ranges.{IsSizedMargin}

-- the penalty of a clear
abbrev pub clear_penalty : ℤ
clear_penalty = negsuc 10000

-- the penalty of a float or note in a paragraph
abbrev pub par_penalty : ℤ
par_penalty = negsuc 10001

-- the penalty of a float or note between paragraphs
abbrev pub vert_penalty : ℤ
vert_penalty = negsuc 10002

-- the penalty of the page before it, which is held
abbrev pub hold_penalty : ℤ
hold_penalty = negsuc 10003

-- the amounts of an act are in their ranges
abbrev pub IsSizedAct : Act → Type 0
IsSizedAct (acts.Take f) = IsExtent f.height
IsSizedAct (acts.TakeMargin m) = IsSizedMargin m
IsSizedAct (acts.Suppress area) = Unit {0}
IsSizedAct (acts.Columns two) = Unit {0}
IsSizedAct (acts.Page n) = n ≤ 1000000
IsSizedAct (acts.Head f) = IsExtent f.height
IsSizedAct (acts.Set c) = Unit {0}
