-- Pages that are in range begin the file, whatever pages come after them.
use Rattle.std.proofs.Common.{◌≡◌, refl, ◌∙◌, ap, sym, ℕ, ◌+◌, ℤ, pos, negsuc, Bool, true, false, cond, List, [], ◌∷◌, ◌++◌, length, Option, Some, None, append_assoc}
use Rattle.tb_dvi.specs.File.{Page, preamble, page_bytes, pages_bytes, last_begin, has_any, post_place, post_bytes, file_front, first_too_far, pages_in_range}
use Rattle.tb_dvi.specs.Progress.{AreInRange, bytes_by, run_bytes}

-- the bytes of pages begin those of more pages
pages-begin : (ps qs : List Page) (last : ℤ) (place : ℕ) → (rest : List ℕ) × (pages_bytes last place (ps ++ qs) ≡ pages_bytes last place ps ++ rest)
pages-begin [] qs last place = (pages_bytes last place qs, refl)
pages-begin (p ∷ ps) qs last place =
    let b : List ℕ = page_bytes last p in
    let r = pages-begin ps qs (pos place) (place + length b) in
    (r.0, ap (λ t. b ++ t) r.1 ∙ sym (append_assoc b (pages_bytes (pos place) (place + length b) ps) r.0))

front-begins : (ps qs : List Page) → (rest : List ℕ) × (file_front (ps ++ qs) ≡ file_front ps ++ rest)
front-begins ps qs =
    let r = pages-begin ps qs (negsuc 0) 27 in
    (r.0, ap (λ t. preamble ++ t) r.1 ∙ sym (append_assoc preamble (pages_bytes (negsuc 0) 27 ps) r.0))

-- pages in range are not left out
range-begins : (ps qs : List Page) (place : ℕ) → AreInRange place ps → (more : List Page) × (pages_in_range place (ps ++ qs) ≡ ps ++ more)
range-begins [] qs place all = (pages_in_range place qs, refl)
range-begins (p ∷ ps) qs place all =
    let later : ℕ = place + length (page_bytes (pos 0) p) in
    let r = range-begins ps qs later all.1 in
    (r.0, ap (λ b. cond b [] (p ∷ pages_in_range later (ps ++ qs))) all.0 ∙ ap (λ t. p ∷ t) r.1)

bytes-begin : (o : Option ℕ) (ps qs : List Page) → AreInRange 27 ps → (textheight : ℤ) (well : Bool) → (rest : List ℕ) × (bytes_by o textheight (ps ++ qs) well ≡ file_front ps ++ rest)
bytes-begin (Some number) ps qs all textheight well =
    let r = range-begins ps qs 27 all in
    let s = front-begins ps r.0 in
    (s.0, ap file_front r.1 ∙ s.1)
bytes-begin None ps qs all textheight true =
    let s = front-begins ps qs in
    let end : List ℕ = post_bytes textheight (length (ps ++ qs)) (has_any (ps ++ qs)) (last_begin (negsuc 0) 27 (ps ++ qs)) (post_place (ps ++ qs)) in
    (s.0 ++ end, ap (λ t. t ++ end) s.1 ∙ append_assoc (file_front ps) s.0 end)
bytes-begin None ps qs all textheight false = front-begins ps qs

-- what a run writes begins with these pages
pub run_begins : (ps qs : List Page) → AreInRange 27 ps → (textheight : ℤ) (well : Bool) → (rest : List ℕ) × (run_bytes textheight (ps ++ qs) well ≡ file_front ps ++ rest)
run_begins ps qs all textheight well = bytes-begin (first_too_far 27 (ps ++ qs)) ps qs all textheight well
