-- The length of a page, and what is out of range.
use Rattle.std.proofs.Common.{◌≡◌, ◌∙◌, ap, sym, ℕ, ◌+◌, ◌-◌, ◌≤◌, ℤ, pos, false, ◌||◌, nat_lt, List, [], ◌∷◌, ◌++◌, length, flat_map, Err, arith, length-append, le-ltb}
use Rattle.tb_text.proofs.FrontLemmas.{cut, past}
use Rattle.tb_dvi.specs.declared.placement.PlaceFault.{PlaceFault}
use Rattle.tb_dvi.specs.declared.placement.PlaceFault.TheVariants as faults
use Rattle.tb_dvi.specs.File.{Page, placement_bytes, page_start, page_bytes, has_far, is_too_far}
use Rattle.tb_dvi.specs.Page.{Writes, WritesPage}

pub length-page : (last : ℤ) (p : Page) → length (page_bytes last p) ≡ 46 + length (flat_map placement_bytes p.placed)
length-page last p = omega (arith, length-append (flat_map placement_bytes p.placed) (140 ∷ []))

-- the place of the page before does not change the length
pub same-length : (a b : ℤ) (p : Page) → length (page_bytes a p) ≡ length (page_bytes b p)
same-length a b p = length-page a p ∙ sym (length-page b p)

-- a page whose items are near and which ends in time
pub in_range : (place : ℕ) (last : ℤ) (p : Page) → has_far p.placed ≡ false → place + length (page_bytes last p) ≤ 2147483000 → is_too_far place p ≡ false
in_range place last p near ends =
    ap (λ b. b || nat_lt 2147483000 (place + length (page_bytes (pos 0) p))) near
    ∙ le-ltb 2147483000 (place + length (page_bytes (pos 0) p)) (omega (arith, same-length last (pos 0) p, ends))

-- how many bytes were appended
pub appended : (old new page : List ℕ) → new ≡ old ++ page → length new - length old ≡ length page
appended old new page e = omega (arith, length-append old page, ap length e)

-- it stops within the items of a page
pub page-stops : (e : PlaceFault) (old mid new : List ℕ) (last : ℤ) (p : Page) → mid ≡ old ++ page_start p.number last → Writes (Err e) mid new p.placed → WritesPage (Err e) old new last p
page-stops faults.Far old mid new last p m w = (w.0, past (page_start p.number last) m (cut (140 ∷ []) w.1))
page-stops faults.Memory old mid new last p m w = past (page_start p.number last) m (cut (140 ∷ []) w)
