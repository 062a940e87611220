-- The bytes of a DVI file. All numbers are big-endian, of two's complement if they have a sign.
use Rattle.std.specs.Prelude.{ℕ, ◌+◌, ◌-◌, ◌%◌, ◌<◌, ℤ, pos, negsuc, Bool, false, not, ◌||◌, nat_lt, int_le, if◌then◌else◌, List, [], ◌∷◌, ◌++◌, length, drop, replicate, flat_map, Option, Some, None, IfSome, FitsSigned, All, codes}
use Rattle.std.specs.Int.{w16, w32, w128, to_be_bytes, cast_unsigned}
use Rattle.std.specs.List.{list_any}
use Rattle.tb_sheet.specs.Sheet.{PlainSheet}
use Rattle.tb_dvi.specs.Placement.{Placement, sheet_placed}

-- a number with a sign in four bytes
abbrev pub signed_4 : ℤ → List ℕ
signed_4 z = to_be_bytes w32 (cast_unsigned w32 z)

-- the low four bytes of a number of two's complement: those of `signed_4` if it has no more
abbrev pub low_4 : ℤ → List ℕ
low_4 z = drop 12 (to_be_bytes w128 (cast_unsigned w128 z))

-- a number in four bytes
abbrev pub four : ℕ → List ℕ
four n = to_be_bytes w32 n

-- a number in two bytes
abbrev pub two_bytes : ℕ → List ℕ
two_bytes n = to_be_bytes w16 n

-- the unit of length, 25400000 / 473628672 of 10^-7 m (one scaled point), and the magnification
abbrev pub units : List ℕ
units = four 25400000 ++ four 473628672 ++ four 1000

-- the start of a file: 27 bytes
abbrev pub preamble : List ℕ
preamble = 247 ∷ 2 ∷ units ++ 12 ∷ codes "galley_pages"

-- the rule of a placement, if it has one: its height, and a point of width
abbrev pub rule_bytes : Option ℤ → List ℕ
rule_bytes None = []
rule_bytes (Some height) = 137 ∷ low_4 height ++ four 65536

-- a label as a special; its length is in one byte
abbrev pub special_bytes : List ℕ → List ℕ
special_bytes label = 239 ∷ length label % 256 ∷ label

-- a placement: push, down, right, its label, its rule, pop
abbrev pub placement_bytes : Placement → List ℕ
placement_bytes p = 141 ∷ 160 ∷ signed_4 p.v ++ 146 ∷ signed_4 p.h ++ special_bytes p.label ++ rule_bytes p.rule ++ 142 ∷ []

-- a page under its number
pub record Page : Type 0 where
  pub number : ℕ
  pub placed : List Placement

-- a page as it is shipped
abbrev pub sheet_page : ℕ → PlainSheet → Page
sheet_page number sheet = record { number = number; placed = sheet_placed sheet }

-- the start of a page: its number (its low four bytes), nine numbers 0, and where the page before begins, or -1
abbrev pub page_start : ℕ → ℤ → List ℕ
page_start number last = 139 ∷ four (number % 4294967296) ++ replicate 36 0 ++ signed_4 last

-- a page; `last` is where the page before begins, or -1
abbrev pub page_bytes : ℤ → Page → List ℕ
page_bytes last p = page_start p.number last ++ flat_map placement_bytes p.placed ++ 140 ∷ []

-- pages one after another, the first at this place
abbrev pub pages_bytes : ℤ → ℕ → List Page → List ℕ
pages_bytes last place [] = []
pages_bytes last place (p ∷ ps) = page_bytes last p ++ pages_bytes (pos place) (place + length (page_bytes last p)) ps

-- where the last of these pages begins
abbrev pub last_begin : ℤ → ℕ → List Page → ℤ
last_begin last place [] = last
last_begin last place (p ∷ ps) = last_begin (pos place) (place + length (page_bytes last p)) ps

-- whether a list has a placement on any page
abbrev pub has_any : List Page → Bool
has_any [] = false
has_any (p ∷ ps) = nat_lt 0 (length p.placed) || has_any ps

-- the greatest depth of the stack
abbrev pub greatest_depth : Bool → ℕ
greatest_depth any = if any then 1 else 0

-- how many bytes 223 end a file whose postamble begins at this place: four to seven, so that 4 divides its length
abbrev pub filling : ℕ → ℕ
filling place = 7 - (place + 34) % 4

-- the postamble after its first byte: 28 bytes
abbrev pub post_fields : ℤ → ℕ → Bool → ℤ → List ℕ
post_fields textheight count any last = signed_4 last ++ units ++ signed_4 textheight ++ four 19726336 ++ two_bytes (greatest_depth any) ++ two_bytes (count % 65536)

-- the end of a file whose postamble begins at this place
abbrev pub file_end : ℕ → List ℕ
file_end place = 249 ∷ four place ++ 2 ∷ replicate (filling place) 223

-- the postamble, which begins at this place, and the end of the file
abbrev pub post_bytes : ℤ → ℕ → Bool → ℤ → ℕ → List ℕ
post_bytes textheight count any last place = 248 ∷ post_fields textheight count any last ++ file_end place

-- where the postamble of a file of these pages begins
abbrev pub post_place : List Page → ℕ
post_place ps = 27 + length (pages_bytes (negsuc 0) 27 ps)

-- the file of these pages up to its postamble
abbrev pub file_front : List Page → List ℕ
file_front ps = preamble ++ pages_bytes (negsuc 0) 27 ps

-- the file of these pages
abbrev pub file_bytes : ℤ → List Page → List ℕ
file_bytes textheight ps = file_front ps ++ post_bytes textheight (length ps) (has_any ps) (last_begin (negsuc 0) 27 ps) (post_place ps)

-- ---- pages out of range

-- whether a place down the page has no four bytes
abbrev pub is_far_down : ℤ → Bool
is_far_down v = not (int_le (negsuc 2147483647) v) || not (int_le v (pos 2147483647))

-- a place down the page, if it has four bytes
abbrev pub near : ℤ → Option ℤ
near v = if is_far_down v then None else Some v

-- whether one of these placements is too far up or down
abbrev pub has_far : List Placement → Bool
has_far ps = list_any (λ x. is_far_down x.v) ps

-- whether a page at this place is out of range: an item too far up or down, or bytes past the last place
abbrev pub is_too_far : ℕ → Page → Bool
is_too_far place p = has_far p.placed || nat_lt 2147483000 (place + length (page_bytes (pos 0) p))

-- the number of the first page out of range, if there is one
abbrev pub first_too_far : ℕ → List Page → Option ℕ
first_too_far place [] = None
first_too_far place (p ∷ ps) = if is_too_far place p then Some p.number else first_too_far (place + length (page_bytes (pos 0) p)) ps

-- the pages before the first that is out of range
abbrev pub pages_in_range : ℕ → List Page → List Page
pages_in_range place [] = []
pages_in_range place (p ∷ ps) = if is_too_far place p then [] else p ∷ pages_in_range (place + length (page_bytes (pos 0) p)) ps

-- ---- what has bytes

-- a placement whose label and rule have bytes: at most 255 bytes of text, and a height of 32 bits
pub record IsWritable (p : Placement) : Type 0 where
  pub right : FitsSigned w32 p.h
  pub label : length p.label < 256
  pub rule : IfSome p.rule (λ height. FitsSigned w32 height)

-- each placement of a page has bytes, and so has its number
pub record IsWritablePage (p : Page) : Type 0 where
  pub number : p.number < 2147483648
  pub placed : All IsWritable p.placed
