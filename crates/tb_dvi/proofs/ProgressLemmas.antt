-- A file that grows page by page.
use Rattle.std.proofs.Common.{◌≡◌, refl, ◌∙◌, ap, sym, ℕ, zero, suc, ◌+◌, ℤ, pos, negsuc, Bool, true, false, cond, ◌||◌, nat_lt, List, [], ◌∷◌, ◌++◌, length, flat_map, Some, None, append_assoc, append-nil, length-append, arith, lt-ltb}
use Rattle.std.proofs.Math.Bool.{or-false, or_assoc}
use Rattle.tb_dvi.specs.Placement.{Placement}
use Rattle.tb_dvi.specs.declared.progress.Progress.{Progress}
use Rattle.tb_dvi.specs.File.{Page, preamble, placement_bytes, page_bytes, pages_bytes, last_begin, has_any, post_bytes, file_front, file_bytes, is_too_far, first_too_far, pages_in_range}
use Rattle.tb_dvi.specs.Progress.{at_first, with_page, AreInRange, HasWritten, bytes_by, run_bytes}
use Rattle.tb_dvi.proofs.PageLemmas.{length-page, same-length}

-- ---- pages after pages

pages-append : (ps : List Page) (p : Page) (last : ℤ) (place : ℕ)
    → pages_bytes last place (ps ++ p ∷ []) ≡ pages_bytes last place ps ++ page_bytes (last_begin last place ps) p
pages-append [] p last place = append-nil (page_bytes last p)
pages-append (q ∷ qs) p last place =
    ap (λ t. page_bytes last q ++ t) (pages-append qs p (pos place) (place + length (page_bytes last q)))
    ∙ sym (append_assoc (page_bytes last q) (pages_bytes (pos place) (place + length (page_bytes last q)) qs) (page_bytes (last_begin last place (q ∷ qs)) p))

last-append : (ps : List Page) (p : Page) (last : ℤ) (place : ℕ) → last_begin last place (ps ++ p ∷ []) ≡ pos (place + length (pages_bytes last place ps))
last-append [] p last place = ap pos (omega arith)
last-append (q ∷ qs) p last place =
    let b : List ℕ = page_bytes last q in
    last-append qs p (pos place) (place + length b)
    ∙ ap pos (omega (arith, length-append b (pages_bytes (pos place) (place + length b) qs)))

any-append : (ps : List Page) (p : Page) → has_any (ps ++ p ∷ []) ≡ (has_any ps || nat_lt 0 (length p.placed))
any-append [] p = or-false (nat_lt 0 (length p.placed))
any-append (q ∷ qs) p =
    ap (λ t. nat_lt 0 (length q.placed) || t) (any-append qs p) ∙ sym (or_assoc (nat_lt 0 (length q.placed)) (has_any qs) (nat_lt 0 (length p.placed)))

length-more : (ps : List Page) (p : Page) → length (ps ++ p ∷ []) ≡ length ps + 1
length-more ps p = length-append ps (p ∷ [])

-- the pages of a place do not depend on the place but by their pointers, which are as long
same-span : (ps : List Page) (a b : ℤ) (m n : ℕ) → length (pages_bytes a m ps) ≡ length (pages_bytes b n ps)
same-span [] a b m n = refl
same-span (p ∷ ps) a b m n =
    omega (arith, length-append (page_bytes a p) (pages_bytes (pos m) (m + length (page_bytes a p)) ps), length-append (page_bytes b p) (pages_bytes (pos n) (n + length (page_bytes b p)) ps), same-length a b p, same-span ps (pos m) (pos n) (m + length (page_bytes a p)) (n + length (page_bytes b p)))

-- how long these pages are
abbrev span : List Page → ℕ
span ps = length (pages_bytes (negsuc 0) 27 ps)

span-first : (q : Page) (qs : List Page) (place : ℕ) → place + length (page_bytes (pos 0) q) + span qs ≡ place + span (q ∷ qs)
span-first q qs place =
    omega (arith, same-length (negsuc 0) (pos 0) q, length-append (page_bytes (negsuc 0) q) (pages_bytes (pos 27) (27 + length (page_bytes (negsuc 0) q)) qs), same-span qs (negsuc 0) (pos 27) 27 (27 + length (page_bytes (negsuc 0) q)))

in_range-append : (ps : List Page) (p : Page) (place : ℕ) → AreInRange place ps → is_too_far (place + span ps) p ≡ false → AreInRange place (ps ++ p ∷ [])
in_range-append [] p place all e = (ap (λ n. is_too_far n p) (omega arith) ∙ e, tt)
in_range-append (q ∷ qs) p place all e =
    (all.0, in_range-append qs p (place + length (page_bytes (pos 0) q)) all.1 (ap (λ n. is_too_far n p) (span-first q qs place) ∙ e))

-- the first page out of range cuts the file
range-cut : (ps more : List Page) (p : Page) (place : ℕ) → AreInRange place ps → is_too_far (place + span ps) p ≡ true → pages_in_range place (ps ++ p ∷ more) ≡ ps
range-cut [] more p place all e =
    ap (λ b. cond b [] (p ∷ pages_in_range (place + length (page_bytes (pos 0) p)) more)) (ap (λ n. is_too_far n p) (omega arith) ∙ e)
range-cut (q ∷ qs) more p place all e =
    ap (λ b. cond b [] (q ∷ pages_in_range (place + length (page_bytes (pos 0) q)) (qs ++ p ∷ more))) all.0
    ∙ ap (λ t. q ∷ t) (range-cut qs more p (place + length (page_bytes (pos 0) q)) all.1 (ap (λ n. is_too_far n p) (span-first q qs place) ∙ e))

first-cut : (ps more : List Page) (p : Page) (place : ℕ) → AreInRange place ps → is_too_far (place + span ps) p ≡ true → first_too_far place (ps ++ p ∷ more) ≡ Some p.number
first-cut [] more p place all e =
    ap (λ b. cond b (Some p.number) (first_too_far (place + length (page_bytes (pos 0) p)) more)) (ap (λ n. is_too_far n p) (omega arith) ∙ e)
first-cut (q ∷ qs) more p place all e =
    ap (λ b. cond b (Some q.number) (first_too_far (place + length (page_bytes (pos 0) q)) (qs ++ p ∷ more))) all.0
    ∙ first-cut qs more p (place + length (page_bytes (pos 0) q)) all.1 (ap (λ n. is_too_far n p) (span-first q qs place) ∙ e)

none-far : (ps : List Page) (place : ℕ) → AreInRange place ps → first_too_far place ps ≡ None
none-far [] place all = refl
none-far (q ∷ qs) place all =
    ap (λ b. cond b (Some q.number) (first_too_far (place + length (page_bytes (pos 0) q)) qs)) all.0
    ∙ none-far qs (place + length (page_bytes (pos 0) q)) all.1

-- ---- the file of a run

-- the preamble alone
pub begins_written : HasWritten at_first []
begins_written = record { place = refl; last = refl; pages = refl; any = refl; in_range = tt }

module _ (w : Progress) (ps : List Page) (p : Page) (so_far : HasWritten w ps) where
  here : w.place ≡ 27 + span ps
  here = so_far.place

  -- a page in range goes on
  pub written-more : is_too_far w.place p ≡ false → HasWritten (with_page p w) (ps ++ p ∷ [])
  written-more near = record {
    place =
        omega (arith, so_far.place, length-append (pages_bytes (negsuc 0) 27 ps) (page_bytes (last_begin (negsuc 0) 27 ps) p), ap length (pages-append ps p (negsuc 0) 27), same-length w.last (last_begin (negsuc 0) 27 ps) p);
    last = ap pos so_far.place ∙ sym (last-append ps p (negsuc 0) 27);
    pages = ap (λ n. n + 1) so_far.pages ∙ sym (length-more ps p);
    any = ap (λ b. b || nat_lt 0 (length p.placed)) so_far.any ∙ sym (any-append ps p);
    in_range = in_range-append ps p 27 so_far.in_range (ap (λ n. is_too_far n p) (sym so_far.place) ∙ near);
  }

  -- and its bytes are the next of the file
  pub front-more : file_front (ps ++ p ∷ []) ≡ file_front ps ++ page_bytes w.last p
  front-more =
      ap (λ t. preamble ++ t) (pages-append ps p (negsuc 0) 27 ∙ ap (λ l. pages_bytes (negsuc 0) 27 ps ++ page_bytes l p) (sym so_far.last))
      ∙ sym (append_assoc preamble (pages_bytes (negsuc 0) 27 ps) (page_bytes w.last p))

  -- a page out of range ends it, whatever comes after
  module _ (far : is_too_far w.place p ≡ true) (more : List Page) where
    pub cut_there : pages_in_range 27 (ps ++ p ∷ more) ≡ ps
    cut_there = range-cut ps more p 27 so_far.in_range (ap (λ n. is_too_far n p) (sym so_far.place) ∙ far)

    pub first_there : first_too_far 27 (ps ++ p ∷ more) ≡ Some p.number
    first_there = first-cut ps more p 27 so_far.in_range (ap (λ n. is_too_far n p) (sym so_far.place) ∙ far)

    -- what the run writes is what is written so far
    pub cut_bytes : (textheight : ℤ) (well : Bool) → run_bytes textheight (ps ++ p ∷ more) well ≡ file_front ps
    cut_bytes textheight well = ap (λ far. bytes_by far textheight (ps ++ p ∷ more) well) first_there ∙ ap file_front cut_there

-- the end of a file whose pages are all in range
module _ (w : Progress) (ps : List Page) (so_far : HasWritten w ps) where
  pub ends_whole : (textheight : ℤ) → file_front ps ++ post_bytes textheight w.pages w.any w.last w.place ≡ file_bytes textheight ps
  ends_whole textheight = λ i. file_front ps ++ post_bytes textheight (so_far.pages i) (so_far.any i) (so_far.last i) (so_far.place i)

  pub none_far : first_too_far 27 ps ≡ None
  none_far = none-far ps 27 so_far.in_range

  -- the run ended well, or not
  pub well_bytes : (textheight : ℤ) → run_bytes textheight ps true ≡ file_front ps ++ post_bytes textheight w.pages w.any w.last w.place
  well_bytes textheight = ap (λ far. bytes_by far textheight ps true) none_far ∙ sym (ends_whole textheight)

  pub stopped_bytes : (textheight : ℤ) → run_bytes textheight ps false ≡ file_front ps
  stopped_bytes textheight = ap (λ far. bytes_by far textheight ps false) none_far

-- ---- whether a page shows anything

length-placed : (ps : List Placement) → nat_lt 0 (length ps) ≡ nat_lt 0 (length (flat_map placement_bytes ps))
length-placed [] = refl
length-placed (p ∷ ps) = lt-ltb 0 (length (p ∷ ps)) (omega arith) ∙ sym (lt-ltb 0 (length (flat_map placement_bytes (p ∷ ps))) (omega arith))

-- by its length
pub shows_any : (last : ℤ) (p : Page) → nat_lt 46 (length (page_bytes last p)) ≡ nat_lt 0 (length p.placed)
shows_any last p = shift (length (page_bytes last p)) (length (flat_map placement_bytes p.placed)) (length-page last p) ∙ sym (length-placed p.placed)
  where
    shift : (m n : ℕ) → m ≡ 46 + n → nat_lt 46 m ≡ nat_lt 0 n
    shift m zero e = ap (λ k. nat_lt 46 k) e
    shift m (suc n) e = lt-ltb 46 m (omega (arith, e)) ∙ sym (lt-ltb 0 (suc n) (omega arith))
