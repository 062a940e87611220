-- The canonical text of a galley is read as the galley itself.
use Rattle.std.specs.Prelude.{◌≡◌, map, Ok}
use Rattle.tb_galley.specs.declared.Leaf.{Leaf}
use Rattle.tb_galley.specs.declared.Item.{Item}
use Rattle.tb_galley.specs.declared.ItemKind.{ItemKind}
use Rattle.tb_galley.specs.declared.ItemKind.TheVariants as items
use Rattle.tb_galley.specs.declared.classes.ClassLine.{ClassLine}
use Rattle.tb_galley.specs.declared.Galley.{Galley}
use Rattle.tb_galley.specs.Grammar.{grammar}
use Rattle.tb_galley.specs.CanonicalText.{printed}

-- what is in a footnote, without its line
abbrev pub unnumbered_leaf : Leaf → Leaf
unnumbered_leaf l = record l { line = 0 }

-- an item without the lines in it
abbrev pub unnumbered_kind : ItemKind → ItemKind
unnumbered_kind (items.Hbox name h d) = items.Hbox name h d
unnumbered_kind (items.Rule name h d) = items.Rule name h d
unnumbered_kind (items.Skip g) = items.Skip g
unnumbered_kind (items.Kern w) = items.Kern w
unnumbered_kind (items.Penalty p) = items.Penalty p
unnumbered_kind (items.Mark name) = items.Mark name
unnumbered_kind (items.Note name) = items.Note name
unnumbered_kind (items.Foot class ls) = items.Foot class (map unnumbered_leaf ls)
unnumbered_kind (items.Float f vert) = items.Float (record f { line = 0 }) vert
unnumbered_kind (items.Margin m vert) = items.Margin (record m { line = 0 }) vert
unnumbered_kind items.NewPage = items.NewPage
unnumbered_kind items.ClearPage = items.ClearPage
unnumbered_kind (items.PageBreak k) = items.PageBreak k
unnumbered_kind (items.NoPageBreak k) = items.NoPageBreak k
unnumbered_kind items.OneColumn = items.OneColumn
unnumbered_kind items.TwoColumn = items.TwoColumn
unnumbered_kind (items.Suppress area) = items.Suppress area
unnumbered_kind (items.Page n) = items.Page n
unnumbered_kind (items.Head f) = items.Head (record f { line = 0 })
unnumbered_kind (items.Enlarge by star) = items.Enlarge by star
unnumbered_kind (items.Set c) = items.Set c

-- an item without its line
abbrev pub unnumbered_item : Item → Item
unnumbered_item i = record { line = 0; kind = unnumbered_kind i.kind }

-- a class without its line
abbrev pub unnumbered_class : ClassLine → ClassLine
unnumbered_class c = record c { line = 0 }

-- a galley without its line numbers
abbrev pub unnumbered : Galley → Galley
unnumbered g = record { params = g.params; version = g.version; classes = map unnumbered_class g.classes; items = map unnumbered_item g.items; end_line = 0 }

-- the canonical text of the galley spells a galley that differs from it in line numbers alone
pub record ReadsBack (g : Galley) : Type 0 where
  pub galley : Galley
  pub read : grammar (printed g) ≡ Ok galley
  pub same : unnumbered galley ≡ unnumbered g
