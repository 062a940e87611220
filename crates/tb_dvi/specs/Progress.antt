-- How far a DVI file is written.
use Rattle.std.specs.Prelude.{◌≡◌, ℕ, ◌+◌, ◌≤◌, ◌≤ℤ◌, ℤ, pos, negsuc, Bool, true, false, Option, Some, None, ◌||◌, nat_lt, List, [], ◌∷◌, length}
use Rattle.tb_sheet.specs.Sheet.{PlainSent, warned, shipped}
use Rattle.tb_dvi.specs.declared.progress.Progress.{Progress}
use Rattle.tb_dvi.specs.File.{Page, sheet_page, page_bytes, last_begin, has_any, post_place, file_front, file_bytes, is_too_far, first_too_far, pages_in_range}

-- a file of its preamble alone
abbrev pub at_first : Progress
at_first = record { place = 27; last = negsuc 0; pages = 0; any = false }

-- places of a file: none is past the last that a page may reach
pub record IsInFile (w : Progress) : Type 0 where
  pub near : w.place ≤ 2147483000
  pub last_low : negsuc 0 ≤ℤ w.last
  pub last_high : w.last ≤ℤ pos 2147483000
  pub few : w.pages ≤ w.place

-- the file with one page more
abbrev pub with_page : Page → Progress → Progress
with_page p w = record {
  place = w.place + length (page_bytes w.last p);
  last = pos w.place;
  pages = w.pages + 1;
  any = w.any || nat_lt 0 (length p.placed);
}

-- each of these pages is in range, the first at this place
abbrev pub AreInRange : ℕ → List Page → Type 0
AreInRange place [] = Unit {0}
AreInRange place (p ∷ ps) = (is_too_far place p ≡ false) × AreInRange (place + length (page_bytes (pos 0) p)) ps

-- the file holds its preamble and these pages, which are all in range
pub record HasWritten (w : Progress) (ps : List Page) : Type 0 where
  pub place : w.place ≡ post_place ps
  pub last : w.last ≡ last_begin (negsuc 0) 27 ps
  pub pages : w.pages ≡ length ps
  pub any : w.any ≡ has_any ps
  pub in_range : AreInRange 27 ps

-- ---- a run

-- the pages of what a run sends out
abbrev pub sent_pages : List PlainSent → List Page
sent_pages [] = []
sent_pages (warned w ∷ ss) = sent_pages ss
sent_pages (shipped number sheet ∷ ss) = sheet_page number sheet ∷ sent_pages ss

-- what is written: the pages before the first out of range, if there is one; else all, and the end of the file if the run ended well
abbrev pub bytes_by : Option ℕ → ℤ → List Page → Bool → List ℕ
bytes_by (Some number) textheight ps well = file_front (pages_in_range 27 ps)
bytes_by None textheight ps true = file_bytes textheight ps
bytes_by None textheight ps false = file_front ps

-- what a run of these pages writes
abbrev pub run_bytes : ℤ → List Page → Bool → List ℕ
run_bytes textheight ps well = bytes_by (first_too_far 27 ps) textheight ps well
