-- The lines of a listing, as bytes, and what a page of placements lists.
use Rattle.std.specs.Prelude.{◌≡◌, ◌≤◌, All, Ok, ℕ, ◌+◌, ◌/◌, ◌%◌, ℤ, pos, not, ◌&&◌, ◌==◌, nat_lt, nat_le, if◌then◌else◌, List, [], ◌∷◌, ◌++◌, flat_map, length, Option, Some, None, codes}
use Rattle.tb_text.specs.Fields.{and_number, and_count, and_text, line}
use Rattle.tb_dvi.specs.Placement.{Placement}
use Rattle.tb_dvi.specs.File.{Page, IsWritablePage, first_too_far, file_bytes}
use Rattle.tb_dvi.specs.Machine.{Item, opened, special, ruled, ended, listed}

-- a hexadecimal digit in lower case
abbrev pub hex_digit : ℕ → ℕ
hex_digit d = if nat_lt d 10 then 48 + d else 87 + d

-- a byte of a special as it is shown: itself if it is printable and no backslash, else two digits after a backslash
abbrev pub shown_byte : ℕ → List ℕ
shown_byte b = if nat_le 32 b && (nat_le b 126 && not (b == 92)) then b ∷ [] else 92 ∷ hex_digit (b / 16) ∷ hex_digit (b % 16) ∷ []

-- the text of a special as it is shown
abbrev pub shown : List ℕ → List ℕ
shown text = flat_map shown_byte text

-- the line of what is listed
abbrev pub item_line : Item → List ℕ
item_line (opened number) = line (codes "page" ++ and_number number)
item_line (special h v text) = line (codes "special" ++ and_number h ++ and_number v ++ and_text (shown text))
item_line (ruled h v height width) = line (codes "rule" ++ and_number h ++ and_number v ++ and_number height ++ and_number width)
item_line (ended pages) = line (codes "end pages" ++ and_count pages)

-- a listing
abbrev pub listing : List Item → List ℕ
listing items = line (codes "dvi 1") ++ flat_map item_line items

-- the rule of a placement as it is listed
abbrev pub rule_item : ℤ → ℤ → Option ℤ → List Item
rule_item h v None = []
rule_item h v (Some height) = ruled h v height (pos 65536) ∷ []

-- a placement as it is listed: its label, and its rule if it has one
abbrev pub placement_items : Placement → List Item
placement_items p = special p.h p.v p.label ∷ rule_item p.h p.v p.rule

-- a page as it is listed
abbrev pub page_items : Page → List Item
page_items p = opened (pos p.number) ∷ flat_map placement_items p.placed

-- exactly the placements of these pages
abbrev pub pages_items : List Page → List Item
pages_items ps = flat_map page_items ps ++ ended (length ps) ∷ []

-- a file of pages in range, of at most 8388608 bytes, lists exactly their placements
abbrev pub ListsItsPages : ℤ → List Page → Type 0
ListsItsPages textheight ps =
    All IsWritablePage ps → first_too_far 27 ps ≡ None → length (file_bytes textheight ps) ≤ 8388608 → listed (file_bytes textheight ps) ≡ Ok (pages_items ps)
