-- Acts that come directly after whatsits.
use Rattle.std.specs.Prelude.{◌≡◌, Bool, true, false, List, [], ◌∷◌}
use Rattle.tb_node.specs.PlainNodes.{hbox, rule, skip, kerned, pen, mark, note, whatsit, PlainKind, plain, ins, act, PlainNode}
use Rattle.tb_plain.specs.MakeupCalls.{IsTake}

-- the node is a whatsit
abbrev pub is_whatsit : PlainKind → Bool
is_whatsit (plain (hbox what h d)) = false
is_whatsit (plain (rule name h d)) = false
is_whatsit (plain (skip g)) = false
is_whatsit (plain (kerned w)) = false
is_whatsit (plain (pen p)) = false
is_whatsit (plain (mark name)) = false
is_whatsit (plain (note name)) = false
is_whatsit (plain whatsit) = true
is_whatsit (ins i) = false
is_whatsit (act a) = false

-- a node that is an act takes a float, and comes directly after a whatsit
abbrev pub LedBy : Bool → PlainKind → Type 0
LedBy b (plain m) = Unit {0}
LedBy b (ins i) = Unit {0}
LedBy b (act a) = (b ≡ true) × IsTake a

-- the same of each act of a list; `b` says whether a whatsit comes directly before the list
abbrev pub ActsAreLed : Bool → List PlainNode → Type 0
ActsAreLed b [] = Unit {0}
ActsAreLed b (n ∷ ns) = LedBy b n.kind × ActsAreLed (is_whatsit n.kind) ns
