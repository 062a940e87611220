-- The galleys that plain TeX's page makeup serves: without marginal notes, changes of columns, suppressed areas, page numbers, titles over
-- both columns, pages that are made higher, and insertions of another class than that of footnotes.
use Rattle.std.specs.Prelude.{◌≡◌, ◌==◌, ℕ, Bool, true, false, List, [], ◌∷◌, Option, Some, None, if◌then◌else◌}
use Rattle.tb_galley.specs.declared.Item.{Item}
use Rattle.tb_galley.specs.declared.ItemKind.{ItemKind}
use Rattle.tb_galley.specs.declared.ItemKind.TheVariants as items
use Rattle.tb_galley.specs.declared.Galley.{Galley}

-- whether an item is served
abbrev pub is_suited : ItemKind → Bool
is_suited (items.Foot class ls) = class == 254
is_suited (items.Margin m vert) = false
is_suited items.OneColumn = false
is_suited items.TwoColumn = false
is_suited (items.Suppress area) = false
is_suited (items.Page n) = false
is_suited (items.Set c) = false
is_suited (items.Head f) = false
is_suited (items.Enlarge by star) = false
is_suited _ = true

-- the line of the first item that is not served
abbrev pub unsuited_among : List Item → Option ℕ
unsuited_among [] = None
unsuited_among (n ∷ ns) = if is_suited n.kind then unsuited_among ns else Some n.line

-- the line of the first item of a galley that is not served
abbrev pub first_unsuited : Galley → Option ℕ
first_unsuited g = unsuited_among g.items

-- each item is served
abbrev pub IsSuited : Galley → Type 0
IsSuited g = first_unsuited g ≡ None
