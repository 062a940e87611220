-- Worked values of the definitions: the file of no page, the file of a page of three boxes, and what they list.
use Rattle.std.proofs.Common.{◌≡◌, refl, ℕ, pos, List, [], ◌∷◌, ◌++◌}
use Rattle.std.specs.Prelude.{codes, take, Ok, Err}
use Rattle.std.specs.Fmt.{digits}
use Rattle.tb_scaled.specs.declared.Glue.{Glue}
use Rattle.tb_scaled.specs.declared.Order.TheVariants.{Normal}
use Rattle.tb_node.specs.declared.What.TheVariants as what
use Rattle.tb_node.specs.PlainNodes.{hbox, skip, PlainNode, made}
use Rattle.tb_column.specs.declared.ColumnKind.TheVariants as kinds
use Rattle.tb_sheet.specs.Sheet.{PlainSheet, one}
use Rattle.tb_column.specs.Column.{column_of}
use Rattle.tb_dvi.specs.declared.DviCause.TheVariants as causes
use Rattle.tb_dvi.specs.Placement.{sheet_placed}
use Rattle.tb_dvi.specs.File.{Page, file_bytes}
use Rattle.tb_dvi.specs.Machine.{ended, listed}
use Rattle.tb_dvi.specs.Listing.{listing, pages_items}

abbrev empty_file : List ℕ
empty_file = 247 ∷ 2 ∷ 1 ∷ 131 ∷ 146 ∷ 192 ∷ 28 ∷ 59 ∷ 0 ∷ 0 ∷ 0 ∷ 0 ∷ 3 ∷ 232 ∷ 12 ∷ 103 ∷ 97 ∷ 108 ∷ 108 ∷ 101 ∷ 121 ∷ 95 ∷ 112 ∷ 97 ∷ 103 ∷ 101 ∷ 115 ∷ 248 ∷ 255 ∷ 255 ∷ 255 ∷ 255 ∷ 1 ∷ 131 ∷ 146 ∷ 192 ∷ 28 ∷ 59 ∷ 0 ∷ 0 ∷ 0 ∷ 0 ∷ 3 ∷ 232 ∷ 2 ∷ 38 ∷ 0 ∷ 0 ∷ 1 ∷ 45 ∷ 0 ∷ 0 ∷ 0 ∷ 0 ∷ 0 ∷ 0 ∷ 249 ∷ 0 ∷ 0 ∷ 0 ∷ 27 ∷ 2 ∷ 223 ∷ 223 ∷ 223 ∷ 223 ∷ 223 ∷ 223 ∷ []

no_page : file_bytes (pos 36044800) [] ≡ empty_file
no_page = refl

no_page_listed : listed empty_file ≡ Ok (ended 0 ∷ [])
no_page_listed = refl

no_page_listing : listing (ended 0 ∷ []) ≡ codes "dvi 1\nend pages 0\n"
unfolding digits
no_page_listing = refl

-- five points of stretch
abbrev five : Glue
five = record { width = pos 0; stretch = pos 5; order = Normal; shrink = pos 0 }

abbrev no_glue : Glue
no_glue = record { width = pos 0; stretch = pos 0; order = Normal; shrink = pos 0 }

abbrev text_box : List ℕ → PlainNode
text_box name = made (hbox (what.Text name) (pos 10) (pos 0))

-- a page of three boxes
abbrev three_boxes : PlainSheet
three_boxes = one (column_of kinds.Text (pos 30) (pos 0) (made (skip no_glue) ∷ text_box (codes "a") ∷ made (skip five) ∷ text_box (codes "b") ∷ made (skip five) ∷ text_box (codes "c") ∷ made (skip no_glue) ∷ []))

abbrev three_pages : List Page
three_pages = record { number = 1; placed = sheet_placed three_boxes } ∷ []

abbrev three_file : List ℕ
three_file = 247 ∷ 2 ∷ 1 ∷ 131 ∷ 146 ∷ 192 ∷ 28 ∷ 59 ∷ 0 ∷ 0 ∷ 0 ∷ 0 ∷ 3 ∷ 232 ∷ 12 ∷ 103 ∷ 97 ∷ 108 ∷ 108 ∷ 101 ∷ 121 ∷ 95 ∷ 112 ∷ 97 ∷ 103 ∷ 101 ∷ 115 ∷ 139 ∷ 0 ∷ 0 ∷ 0 ∷ 1 ∷ 0 ∷ 0 ∷ 0 ∷ 0 ∷ 0 ∷ 0 ∷ 0 ∷ 0 ∷ 0 ∷ 0 ∷ 0 ∷ 0 ∷ 0 ∷ 0 ∷ 0 ∷ 0 ∷ 0 ∷ 0 ∷ 0 ∷ 0 ∷ 0 ∷ 0 ∷ 0 ∷ 0 ∷ 0 ∷ 0 ∷ 0 ∷ 0 ∷ 0 ∷ 0 ∷ 0 ∷ 0 ∷ 0 ∷ 0 ∷ 0 ∷ 0 ∷ 255 ∷ 255 ∷ 255 ∷ 255 ∷ 141 ∷ 160 ∷ 0 ∷ 0 ∷ 0 ∷ 10 ∷ 146 ∷ 0 ∷ 0 ∷ 0 ∷ 0 ∷ 239 ∷ 5 ∷ 98 ∷ 111 ∷ 120 ∷ 32 ∷ 97 ∷ 137 ∷ 0 ∷ 0 ∷ 0 ∷ 10 ∷ 0 ∷ 1 ∷ 0 ∷ 0 ∷ 142 ∷ 141 ∷ 160 ∷ 0 ∷ 0 ∷ 0 ∷ 20 ∷ 146 ∷ 0 ∷ 0 ∷ 0 ∷ 0 ∷ 239 ∷ 5 ∷ 98 ∷ 111 ∷ 120 ∷ 32 ∷ 98 ∷ 137 ∷ 0 ∷ 0 ∷ 0 ∷ 10 ∷ 0 ∷ 1 ∷ 0 ∷ 0 ∷ 142 ∷ 141 ∷ 160 ∷ 0 ∷ 0 ∷ 0 ∷ 30 ∷ 146 ∷ 0 ∷ 0 ∷ 0 ∷ 0 ∷ 239 ∷ 5 ∷ 98 ∷ 111 ∷ 120 ∷ 32 ∷ 99 ∷ 137 ∷ 0 ∷ 0 ∷ 0 ∷ 10 ∷ 0 ∷ 1 ∷ 0 ∷ 0 ∷ 142 ∷ 140 ∷ 248 ∷ 0 ∷ 0 ∷ 0 ∷ 27 ∷ 1 ∷ 131 ∷ 146 ∷ 192 ∷ 28 ∷ 59 ∷ 0 ∷ 0 ∷ 0 ∷ 0 ∷ 3 ∷ 232 ∷ 0 ∷ 0 ∷ 0 ∷ 30 ∷ 1 ∷ 45 ∷ 0 ∷ 0 ∷ 0 ∷ 1 ∷ 0 ∷ 1 ∷ 249 ∷ 0 ∷ 0 ∷ 0 ∷ 157 ∷ 2 ∷ 223 ∷ 223 ∷ 223 ∷ 223 ∷ []

three : file_bytes (pos 30) three_pages ≡ three_file
three = refl

three_listed : listed three_file ≡ Ok (pages_items three_pages)
three_listed = refl

three_listing : listing (pages_items three_pages) ≡ codes "dvi 1\npage 1\nspecial 0 10 box a\nrule 0 10 10 65536\nspecial 0 20 box b\nrule 0 20 10 65536\nspecial 0 30 box c\nrule 0 30 10 65536\nend pages 1\n"
unfolding digits
three_listing = refl

-- a character after the preamble
font : listed (take 27 empty_file ++ 0 ∷ []) ≡ Err (record { byte = 27; cause = causes.Font })
font = refl

-- the preamble alone
truncated : listed (take 27 empty_file) ≡ Err (record { byte = 27; cause = causes.Truncated })
truncated = refl
