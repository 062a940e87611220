-- The lister's machine on a whole file lists exactly the placements.
use Rattle.std.proofs.Common.{◌≡◌, refl, ◌∙◌, ap, sym, subst, ℕ, zero, suc, ◌+◌, ◌%◌, ◌^◌, ◌<◌, ℤ, pos, negsuc, FitsSigned, IfSome, All, Bool, true, false, cond, nat_lt, ◌==◌, ◌&&◌, List, [], ◌∷◌, ◌++◌, length, take, replicate, flat_map, append_assoc, append-nil, length-append, Option, Some, None, Ok, Err, arith, le-ltb, lt-ltb, eq-eqb, true≢false, is_some}
use Rattle.std.proofs.lemmas.Int.{ints}
use Rattle.std.specs.Prelude.{codes}
use Rattle.std.specs.Int.{w32}
use Rattle.std.specs.List.{list_all, list_any}
use Rattle.std.proofs.lemmas.Bool.{or_parts}
use Rattle.std.proofs.lemmas.List.Elements.{All-nil, All-cons}
use Rattle.tb_dvi.specs.declared.command.Mode.TheVariants as modes
use Rattle.tb_dvi.specs.declared.command.Op.TheVariants as ops
use Rattle.tb_dvi.specs.Placement.{Placement}
use Rattle.tb_dvi.specs.File.{signed_4, low_4, four, units, preamble, rule_bytes, placement_bytes, Page, page_bytes, pages_bytes, last_begin, has_any, filling, post_fields, file_end, post_bytes, post_place, file_front, file_bytes, is_far_down, is_too_far, first_too_far, IsWritable, IsWritablePage}
use Rattle.tb_dvi.specs.Machine.{Item, opened, special, ruled, ended, State, goes, ends, unsigned_number, op_step, end_step, is_end, before, followed, run, listed, listed_after, at_start}
use Rattle.tb_dvi.specs.declared.DviCause.TheVariants as causes
use Rattle.tb_dvi.specs.Listing.{rule_item, placement_items, page_items, pages_items, ListsItsPages}
use Rattle.tb_dvi.proofs.LawLemmas.{run-skip, enough, whole, command, before-before, before-none, unsigned-4, signed-4, fresh, inside, pushes, down, right, says, draws, comes_back}

-- from a place and a state the machine lists these and comes to another
abbrev Lists : ℕ → State → List ℕ → List Item → ℕ → State → List ℕ → Type 0
Lists place s bytes items place' s' rest = run 0 place s bytes ≡ before items (run 0 place' s' rest)

and_then : (p q r : ℕ) (s t u : State) (x y z : List ℕ) (a b : List Item) → Lists p s x a q t y → Lists q t y b r u z → Lists p s x (a ++ b) r u z
and_then p q r s t u x y z a b first second = first ∙ ap (before a) second ∙ before-before a b (run 0 r u z)

-- the rest of a placement after its label
ruled_on : (rule : Option ℤ) (h v : ℤ) (rest : List ℕ) (place pages : ℕ) → IfSome rule (λ height. FitsSigned w32 height)
    → Lists place (inside h v pages) (rule_bytes rule ++ 142 ∷ rest) (rule_item h v rule) (length (rule_bytes rule) + suc place) (fresh pages) rest
ruled_on None h v rest place pages fits = comes_back h v rest place pages ∙ ap (λ p. before [] (run 0 p (fresh pages) rest)) (omega arith)
ruled_on (Some height) h v rest place pages fits =
    and_then place (8 + suc place) (9 + suc place) (inside h v pages) (inside h v pages) (fresh pages) (137 ∷ (low_4 height ++ four 65536) ++ 142 ∷ rest) (142 ∷ rest) rest
    (ruled h v height (pos 65536) ∷ []) [] (draws h v height (142 ∷ rest) place pages fits)
    (comes_back h v rest (8 + suc place) pages ∙ ap (λ p. before [] (run 0 p (fresh pages) rest)) (omega arith))

-- a placement
placed : (p : Placement) (rest : List ℕ) (place pages : ℕ) → IsWritable p → FitsSigned w32 p.v
    → Lists place (fresh pages) (placement_bytes p ++ rest) (placement_items p) (length (placement_bytes p) + place) (fresh pages) rest
placed p rest place pages fits v =
    let s0 = fresh pages in
    let s1 = inside (pos 0) (pos 0) pages in
    let s2 = inside (pos 0) p.v pages in
    let s3 = inside p.h p.v pages in
    let after : List ℕ = rule_bytes p.rule ++ 142 ∷ rest in
    let x4 : List ℕ = 239 ∷ (length p.label % 256 ∷ p.label) ++ after in
    let x3 : List ℕ = 146 ∷ signed_4 p.h ++ x4 in
    let x2 : List ℕ = 160 ∷ signed_4 p.v ++ x3 in
    let q1 = suc place in
    let q2 = 4 + suc q1 in
    let q3 = 4 + suc q2 in
    let q4 = suc (length p.label) + suc q3 in
    let q5 = length (rule_bytes p.rule) + suc q4 in
    let joined : p.label ++ after ≡ ((p.label ++ rule_bytes p.rule) ++ 142 ∷ []) ++ rest =
    sym (append_assoc (p.label ++ rule_bytes p.rule) (142 ∷ []) rest ∙ append_assoc p.label (rule_bytes p.rule) (142 ∷ rest)) in
    let whole_bytes : (141 ∷ x2) ≡ placement_bytes p ++ rest = ap (λ t. 141 ∷ 160 ∷ signed_4 p.v ++ 146 ∷ signed_4 p.h ++ (239 ∷ length p.label % 256 ∷ t)) joined in
    let size : q5 ≡ length (placement_bytes p) + place =
    omega (arith, length-append (p.label ++ rule_bytes p.rule) (142 ∷ []), length-append p.label (rule_bytes p.rule)) in
    let listing =
    and_then place q1 q5 s0 s1 s0 (141 ∷ x2) x2 rest [] (placement_items p) (pushes x2 place pages)
    (and_then q1 q2 q5 s1 s2 s0 x2 x3 rest [] (placement_items p) (down p.v x3 q1 pages v)
    (and_then q2 q3 q5 s2 s3 s0 x3 x4 rest [] (placement_items p) (right p.h p.v x4 q2 pages fits.right)
    (and_then q3 q4 q5 s3 s3 s0 x4 after rest (special p.h p.v p.label ∷ []) (rule_item p.h p.v p.rule) (says p.h p.v p.label after q3 pages fits.label)
    (ruled_on p.rule p.h p.v rest q4 pages fits.rule)))) in
    ap (run 0 place s0) (sym whole_bytes) ∙ listing ∙ ap (λ q. before (placement_items p) (run 0 q s0 rest)) size

-- what holds of each of a list
all-first : {X : Type 0} (P : X → Type 0) (x : X) (xs : List X) → All P (x ∷ xs) → P x
all-first P x xs all = all 0 x (omega arith)

all-rest : {X : Type 0} (P : X → Type 0) (x : X) (xs : List X) → All P (x ∷ xs) → All P xs
all-rest P x xs all = λ k d h. all (suc k) d (omega (arith, h))

-- all placements of a page
all_placed : (ps : List Placement) (rest : List ℕ) (place pages : ℕ) → All IsWritable ps → All (λ p. FitsSigned w32 p.v) ps
    → Lists place (fresh pages) (flat_map placement_bytes ps ++ rest) (flat_map placement_items ps) (length (flat_map placement_bytes ps) + place) (fresh pages) rest
all_placed [] rest place pages fits v = sym (before-none (run 0 place (fresh pages) rest)) ∙ ap (λ q. before [] (run 0 q (fresh pages) rest)) (omega arith)
all_placed (p ∷ ps) rest place pages fits v =
    let s = fresh pages in
    let q1 = length (placement_bytes p) + place in
    let q2 = length (flat_map placement_bytes ps) + q1 in
    let more : List ℕ = flat_map placement_bytes ps ++ rest in
    let size : q2 ≡ length (flat_map placement_bytes (p ∷ ps)) + place = omega (arith, length-append (placement_bytes p) (flat_map placement_bytes ps)) in
    ap (run 0 place s) (append_assoc (placement_bytes p) (flat_map placement_bytes ps) rest)
    ∙ and_then place q1 q2 s s s (placement_bytes p ++ more) more rest (placement_items p) (flat_map placement_items ps)
    (placed p more place pages (all-first IsWritable p ps fits) (all-first (λ p. FitsSigned w32 p.v) p ps v))
    (all_placed ps rest q1 pages (all-rest IsWritable p ps fits) (all-rest (λ p. FitsSigned w32 p.v) p ps v))
    ∙ ap (λ q. before (flat_map placement_items (p ∷ ps)) (run 0 q s rest)) size

-- between pages
abbrev idle : ℕ → State
idle pages = record { mode = modes.Between; stack = []; pages = pages }

-- the first byte of a page and what belongs to it
begins-small : (number : ℕ) (last : ℤ) (rest : List ℕ) (place pages : ℕ) → number < 2147483648
    → Lists place (idle pages) (139 ∷ (four number ++ replicate 36 0 ++ signed_4 last) ++ rest) (opened (pos number) ∷ []) (44 + suc place) (fresh (pages + 1)) rest
begins-small number last rest place pages small =
    command 139 (four number ++ replicate 36 0 ++ signed_4 last) rest place (idle pages) (fresh (pages + 1)) (opened (pos number) ∷ []) refl refl refl
    (ap (λ z. goes 44 (opened z ∷ []) (fresh (pages + 1))) (signed-4 (pos number) (replicate 36 0 ++ signed_4 last ++ rest) (record { sfits = small })))

begins : (number : ℕ) (last : ℤ) (rest : List ℕ) (place pages : ℕ) → number < 2147483648
    → Lists place (idle pages) (139 ∷ (four (number % 4294967296) ++ replicate 36 0 ++ signed_4 last) ++ rest) (opened (pos number) ∷ []) (44 + suc place) (fresh (pages + 1)) rest
begins number last rest place pages small =
    let kept : number % 4294967296 ≡ number = omega (arith, small) in
    subst (λ n. Lists place (idle pages) (139 ∷ (four n ++ replicate 36 0 ++ signed_4 last) ++ rest) (opened (pos number) ∷ []) (44 + suc place) (fresh (pages + 1)) rest) (sym kept) (begins-small number last rest place pages small)

closes : (rest : List ℕ) (place pages : ℕ) → Lists place (fresh pages) (140 ∷ rest) [] (suc place) (idle pages) rest
closes rest place pages = command 140 [] rest place (fresh pages) (idle pages) [] refl refl refl refl ∙ ap (λ p. before [] (run 0 p (idle pages) rest)) (omega arith)

-- the places down the page fit
abbrev FitDown : Page → Type 0
FitDown p = All (λ x. FitsSigned w32 x.v) p.placed

-- a page
paged : (p : Page) (last : ℤ) (rest : List ℕ) (place pages : ℕ) → IsWritablePage p → FitDown p
    → Lists place (idle pages) (page_bytes last p ++ rest) (page_items p) (length (page_bytes last p) + place) (idle (pages + 1)) rest
paged p last rest place pages fits down =
    let inner : List ℕ = flat_map placement_bytes p.placed in
    let s0 = idle pages in
    let s1 = fresh (pages + 1) in
    let s2 = idle (pages + 1) in
    let q1 = 44 + suc place in
    let q2 = length inner + q1 in
    let front : List ℕ = four (p.number % 4294967296) ++ replicate 36 0 ++ signed_4 last in
    let x1 : List ℕ = inner ++ 140 ∷ rest in
    let joined : 139 ∷ front ++ x1 ≡ page_bytes last p ++ rest = ap (λ t. 139 ∷ front ++ t) (sym (append_assoc inner (140 ∷ []) rest)) in
    let size : suc q2 ≡ length (page_bytes last p) + place = omega (arith, length-append inner (140 ∷ [])) in
    ap (run 0 place s0) (sym joined)
    ∙ and_then place q1 (suc q2) s0 s1 s2 (139 ∷ front ++ x1) x1 rest (opened (pos p.number) ∷ []) (flat_map placement_items p.placed)
    (begins p.number last x1 place pages fits.number)
    (and_then q1 q2 (suc q2) s1 s1 s2 x1 (140 ∷ rest) rest (flat_map placement_items p.placed) []
    (all_placed p.placed (140 ∷ rest) q1 (pages + 1) fits.placed down) (closes rest q2 (pages + 1))
    ∙ ap (λ t. before t (run 0 (suc q2) s2 rest)) (append-nil (flat_map placement_items p.placed)))
    ∙ ap (λ q. before (page_items p) (run 0 q s2 rest)) size

-- pages one after another
all_paged : (ps : List Page) (last : ℤ) (rest : List ℕ) (place pages : ℕ) → All IsWritablePage ps → All FitDown ps
    → Lists place (idle pages) (pages_bytes last place ps ++ rest) (flat_map page_items ps) (length (pages_bytes last place ps) + place) (idle (pages + length ps)) rest
all_paged [] last rest place pages fits down =
    sym (before-none (run 0 place (idle pages) rest)) ∙ (λ i. before [] (run 0 (nothing i) (idle (none i)) rest))
  where
    nothing : place ≡ 0 + place
    nothing = omega arith

    none : pages ≡ pages + 0
    none = omega arith
all_paged (p ∷ ps) last rest place pages fits down =
    let b : List ℕ = page_bytes last p in
    let later : List ℕ = pages_bytes (pos place) (place + length b) ps in
    let q1 = length b + place in
    let q1' = place + length b in
    let q2 = length later + q1' in
    let turned : q1 ≡ q1' = omega arith in
    let s0 = idle pages in
    let s1 = idle (pages + 1) in
    let s2 = idle (pages + 1 + length ps) in
    let size : q2 ≡ length (b ++ later) + place = omega (arith, length-append b later) in
    let count : pages + 1 + length ps ≡ pages + suc (length ps) = omega arith in
    ap (run 0 place s0) (append_assoc b later rest)
    ∙ and_then place q1' q2 s0 s1 s2 (b ++ (later ++ rest)) (later ++ rest) rest (page_items p) (flat_map page_items ps)
    (paged p last (later ++ rest) place pages (all-first IsWritablePage p ps fits) (all-first FitDown p ps down)
    ∙ ap (λ q. before (page_items p) (run 0 q s1 (later ++ rest))) turned)
    (all_paged ps (pos place) rest q1' (pages + 1) (all-rest IsWritablePage p ps fits) (all-rest FitDown p ps down))
    ∙ (λ i. before (flat_map page_items (p ∷ ps)) (run 0 (size i) (idle (count i)) rest))

-- ---- the end of a file

length-replicate : (k b : ℕ) → length (replicate k b) ≡ k
length-replicate zero b = refl
length-replicate (suc k) b = ap suc (length-replicate k b)

all-replicate : (k : ℕ) → list_all (λ b. b == 223) (replicate k 223) ≡ true
all-replicate zero = refl
all-replicate (suc k) = all-replicate k

-- the bytes after a 249 end a file whose postamble begins at this place
ends_well : (place : ℕ) → place < 2 ^ 32 → is_end place (28 + suc place + 1 + length (four place ++ 2 ∷ replicate (filling place) 223)) (four place ++ 2 ∷ replicate (filling place) 223) ≡ true
ends_well place small =
    let fill = replicate (filling place) 223 in
    let total = 28 + suc place + 1 + length (four place ++ 2 ∷ fill) in
    let pointer : (unsigned_number (take 4 (four place ++ 2 ∷ fill)) == place) ≡ true = eq-eqb (unsigned_number (take 4 (four place ++ 2 ∷ fill))) place (unsigned-4 place (2 ∷ fill) small) in
    let long : nat_lt 3 (length fill) ≡ true = lt-ltb 3 (length fill) (omega (arith, length-replicate (filling place) 223)) in
    let fours : (total % 4 == 0) ≡ true = eq-eqb (total % 4) 0 (omega (arith, length-replicate (filling place) 223)) in
    (λ i. pointer i && ((long i && all-replicate (filling place) i) && fours i))

-- the machine after a postamble at this place
abbrev after_post : ℕ → ℕ → State
after_post place pages = record { mode = modes.AfterPost place; stack = []; pages = pages }

ended_there : (place pages : ℕ) → place < 2 ^ 32 → run 0 (28 + suc place) (after_post place pages) (249 ∷ four place ++ 2 ∷ replicate (filling place) 223) ≡ Ok (ended pages ∷ [])
ended_there place pages small =
    let fill = replicate (filling place) 223 in
    let args : List ℕ = four place ++ 2 ∷ fill in
    let q = 28 + suc place in
    let s = after_post place pages in
    let due : op_step q ops.PostPost args s ≡ end_step place q ops.PostPost args = whole q ops.PostPost args s refl refl (le-ltb (length args) 5 (omega arith)) in
    ap (λ t. followed q pages t (λ skip s. run skip (suc q) s args)) (due ∙ ap (λ t. cond t ends (end_step place q ops.Unknown args)) (ends_well place small))

posted : (textheight : ℤ) (place pages : ℕ) (any : Bool) (last : ℤ) → place < 2 ^ 32 → run 0 place (idle pages) (post_bytes textheight pages any last place) ≡ Ok (ended pages ∷ [])
posted textheight place pages any last small =
    command 248 (post_fields textheight pages any last) (file_end place) place (idle pages) (after_post place pages) [] refl refl refl refl
    ∙ ap (before []) (ended_there place pages small)

-- the preamble after its first two bytes
abbrev pre_fields : List ℕ
pre_fields = units ++ 12 ∷ codes "galley_pages"

-- the machine passes the preamble
starts : (rest : List ℕ) → listed (preamble ++ rest) ≡ run 0 27 at_start rest
starts rest =
    let first : nat_lt (length (pre_fields ++ rest)) 13 ≡ false = enough pre_fields rest 13 (omega arith) in
    let second : nat_lt (length (pre_fields ++ rest)) 25 ≡ false = enough pre_fields rest 25 (omega arith) in
    (λ i. listed_after (cond (first i) (Err causes.Truncated) (cond (second i) (Err causes.Truncated) (Ok 27))) (preamble ++ rest))
    ∙ run-skip preamble rest 0 at_start

-- the file of these pages lists exactly them
pub file_listed : (textheight : ℤ) (ps : List Page) → All IsWritablePage ps → All FitDown ps → post_place ps < 2 ^ 32 → listed (file_bytes textheight ps) ≡ Ok (pages_items ps)
file_listed textheight ps fits down small =
    let pages : List ℕ = pages_bytes (negsuc 0) 27 ps in
    let place = post_place ps in
    let last = last_begin (negsuc 0) 27 ps in
    let post : List ℕ = post_bytes textheight (length ps) (has_any ps) last place in
    let turned : length pages + 27 ≡ place = omega arith in
    let count : 0 + length ps ≡ length ps = omega arith in
    ap listed (append_assoc preamble pages post)
    ∙ starts (pages ++ post)
    ∙ all_paged ps (negsuc 0) post 27 0 fits down
    ∙ (λ i. before (flat_map page_items ps) (run 0 (turned i) (idle (count i)) post))
    ∙ ap (before (flat_map page_items ps)) (posted textheight place (length ps) (has_any ps) last small)

-- ---- pages in range

near-fits : (v : ℤ) → is_far_down v ≡ false → FitsSigned w32 v
near-fits (pos m) near = record { sfits = grind (arith, ints) }
near-fits (negsuc m) near = record { sfits = grind (arith, ints) }

none_far : (ps : List Placement) → list_any (λ x. is_far_down x.v) ps ≡ false → All (λ x. FitsSigned w32 x.v) ps
none_far [] e = All-nil (λ x. FitsSigned w32 x.v)
none_far (p ∷ ps) e =
    let both = or_parts (is_far_down p.v) (list_any (λ x. is_far_down x.v) ps) e in
    All-cons (λ x. FitsSigned w32 x.v) p ps (near-fits p.v both.0) (none_far ps both.1)

not-first : (b : Bool) (n : ℕ) (r : Option ℕ) → cond b (Some n) r ≡ None → (b ≡ false) × (r ≡ None)
not-first true n r e = absurd (true≢false (ap is_some e))
not-first false n r e = (refl, e)

pub in_range_fits : (place : ℕ) (ps : List Page) → first_too_far place ps ≡ None → All FitDown ps
in_range_fits place [] none = All-nil FitDown
in_range_fits place (p ∷ ps) none =
    let later = place + length (page_bytes (pos 0) p) in
    let split = not-first (is_too_far place p) p.number (first_too_far later ps) none in
    let near = or_parts (list_any (λ x. is_far_down x.v) p.placed) (nat_lt 2147483000 (place + length (page_bytes (pos 0) p))) split.0 in
    All-cons FitDown p ps (none_far p.placed near.0) (in_range_fits later ps split.1)

pub lists_its_pages : (textheight : ℤ) (ps : List Page) → ListsItsPages textheight ps
lists_its_pages textheight ps fits range size =
    file_listed textheight ps fits (in_range_fits 27 ps range)
    (omega (arith, size, length-append (file_front ps) (post_bytes textheight (length ps) (has_any ps) (last_begin (negsuc 0) 27 ps) (post_place ps)), length-append preamble (pages_bytes (negsuc 0) 27 ps)))
