-- Names without a line feed: those in what is shown, and in the stories.
use Rattle.std.specs.Prelude.{List, Option, Some, None}
use Rattle.std.specs.List.{AllByRecursion}
use Rattle.tb_text.specs.Lines.{IsUnended}
use Rattle.tb_node.specs.declared.RuleOf.{RuleOf}
use Rattle.tb_node.specs.declared.RuleOf.TheVariants.{Item, Footnotes, Floats}
use Rattle.tb_node.specs.declared.Float.{Float}
use Rattle.tb_node.specs.declared.What.{What}
use Rattle.tb_node.specs.declared.What.TheVariants as what
use Rattle.tb_node.specs.PlainNodes.{Matter, hbox, rule, skip, kerned, pen, mark, note, whatsit, PlainKind, plain, ins, act, PlainNode}
use Rattle.tb_sheet.specs.declared.Warn.{Warn}
use Rattle.tb_sheet.specs.declared.Warn.TheVariants as warnings
use Rattle.tb_sheet.specs.Sheet.{PlainSheet, one, wide, two, PlainSent, warned, shipped}
use Rattle.tb_steps.specs.Run.{End, done}
use Rattle.tb_items.specs.RunEvents.{RunEvent, offered, sent}
use Rattle.tb_told.specs.declared.Told.{Told}
use Rattle.tb_told.specs.declared.Told.TheVariants.{Enters, TestsHere, TestsTop, TestsBottom, TestsWide, Goes}
use Rattle.tb_told.specs.declared.ToldColumn.{ToldColumn}
use Rattle.tb_told.specs.declared.ToldColumn.TheVariants.{Heads, Joins, Companied, Takes}
use Rattle.tb_told.specs.declared.Tale.{Tale}
use Rattle.tb_told.specs.declared.Tale.TheVariants.{Waits, Calls, Decides, Begins, InColumn, Back, Beside, Stands, PutOut}
use Rattle.tb_why.specs.WhyRun.{Shown, happens, tells}

-- ---- what is sent

-- the name of a box
abbrev pub HasPlainName : What → Type 0
HasPlainName (what.Text name) = IsUnended name
HasPlainName what.Blank = Unit {0}
HasPlainName (what.Float name class place item) = IsUnended name
HasPlainName (what.Margin name side item shift height depth) = IsUnended name

-- the name of a rule that has one
abbrev pub IsPlainRule : RuleOf → Type 0
IsPlainRule (Item name) = IsUnended name
IsPlainRule Footnotes = Unit {0}
IsPlainRule Floats = Unit {0}

abbrev pub IsPlainMatter : Matter → Type 0
IsPlainMatter (hbox content h d) = HasPlainName content
IsPlainMatter (rule of h d) = IsPlainRule of
IsPlainMatter (skip g) = Unit {0}
IsPlainMatter (kerned w) = Unit {0}
IsPlainMatter (pen p) = Unit {0}
IsPlainMatter (mark name) = IsUnended name
IsPlainMatter (note name) = IsUnended name
IsPlainMatter whatsit = Unit {0}

-- the name of a node that has a line
abbrev pub IsPlainKind : PlainKind → Type 0
IsPlainKind (plain m) = IsPlainMatter m
IsPlainKind (ins i) = Unit {0}
IsPlainKind (act a) = Unit {0}

abbrev pub ArePlainNodes : List PlainNode → Type 0
ArePlainNodes ns = AllByRecursion (λ n. IsPlainKind n.kind) ns

abbrev pub IsPlainSheet : PlainSheet → Type 0
IsPlainSheet (one c) = ArePlainNodes c.nodes
IsPlainSheet (wide c) = ArePlainNodes c.nodes
IsPlainSheet (two tops at left right) = ArePlainNodes tops × ArePlainNodes left.nodes × ArePlainNodes right.nodes

-- the name in a warning
abbrev pub IsPlainWarning : Warn → Type 0
IsPlainWarning (warnings.Large name by) = IsUnended name
IsPlainWarning (warnings.Ht name) = IsUnended name
IsPlainWarning (warnings.Moved name shift) = IsUnended name
IsPlainWarning (warnings.Floats page) = Unit {0}

abbrev pub IsPlainSent : PlainSent → Type 0
IsPlainSent (warned w) = IsPlainWarning w
IsPlainSent (shipped page sheet) = IsPlainSheet sheet

-- a place that was tried has no name
abbrev pub IsPlainEvent : RunEvent → Type 0
IsPlainEvent (offered t) = Unit {0}
IsPlainEvent (sent e) = IsPlainSent e

-- ---- what is told

abbrev pub IsPlainFloat : Float → Type 0
IsPlainFloat f = IsUnended f.name

-- a float that is in the way, if there is one
abbrev pub IsPlainBlocker : Option Float → Type 0
IsPlainBlocker None = Unit {0}
IsPlainBlocker (Some f) = IsPlainFloat f

-- the name of the float in the way of a decision
abbrev pub IsPlainTold : Told → Type 0
IsPlainTold (Enters t) = IsPlainBlocker t.blocker
IsPlainTold (TestsHere t) = IsPlainBlocker t.blocker
IsPlainTold (TestsTop t) = IsPlainBlocker t.blocker
IsPlainTold (TestsBottom t) = Unit {0}
IsPlainTold (TestsWide t) = IsPlainBlocker t.blocker
IsPlainTold (Goes w) = Unit {0}

abbrev pub IsPlainColumn : ToldColumn → Type 0
IsPlainColumn (Heads f t) = IsPlainFloat f × IsPlainBlocker t.blocker
IsPlainColumn (Joins f t) = IsPlainFloat f × IsPlainBlocker t.blocker
IsPlainColumn (Companied f t) = IsPlainFloat f
IsPlainColumn (Takes f) = IsPlainFloat f

abbrev pub IsPlainTale : Tale → Type 0
IsPlainTale (Waits at f) = IsPlainFloat f
IsPlainTale (Calls at f height) = IsPlainFloat f
IsPlainTale (Decides f t) = IsPlainFloat f × IsPlainTold t
IsPlainTale (Begins at z) = Unit {0}
IsPlainTale (InColumn t) = IsPlainColumn t
IsPlainTale (Back f place) = IsPlainFloat f
IsPlainTale (Beside at m height reach placed) = IsUnended m.name
IsPlainTale (Stands line) = Unit {0}
IsPlainTale PutOut = Unit {0}

-- ---- what is shown

abbrev pub IsPlainShown : Shown → Type 0
IsPlainShown (happens e) = IsPlainEvent e
IsPlainShown (tells t) = IsPlainTale t

-- no name in what is shown has a line feed
abbrev pub ArePlainNames : List Shown → Type 0
ArePlainNames xs = AllByRecursion IsPlainShown xs

-- what is left on the page by a run that ends well
abbrev pub IsPlainEnd : End → Type 0
IsPlainEnd (done left) = ArePlainNodes left
IsPlainEnd e = Unit {0}
