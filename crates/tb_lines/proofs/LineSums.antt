-- The sums of a line are the difference of two running sums.
use Rattle.std.proofs.Common.{◌≡◌, refl, sym, ◌∙◌, ap, ℕ, zero, suc, ◌<◌, ◌≤◌, ◌+◌, min, Bool, true, false, List, [], ◌∷◌, ◌++◌, length, take, drop, Option, None, Some, arith}
use Rattle.std.specs.Prelude.{slice_get, if◌then◌else◌}
use Rattle.std.proofs.lemmas.List.{take-append-drop}
use Rattle.tb_lines.specs.declared.entries.Entry.{Entry}
use Rattle.tb_lines.specs.declared.sums.Sums.{Sums}
use Rattle.tb_lines.specs.Entries.{is_word, from_word, first_word, line_start, line_between}
use Rattle.std.proofs.lemmas.Bool.Decides.{nat_tests}
use Rattle.tb_lines.specs.SolutionLines.{is_within}
use Rattle.tb_lines.specs.Demerits.{no_sums, entry_sums, plus_sums, sums_of}

pub same_sums : (a b : Sums) → a.width ≡ b.width → a.stretch ≡ b.stretch → a.shrink ≡ b.shrink → a.fills ≡ b.fills → a ≡ b
same_sums a b w st sh f =
    ap (λ x. let s : Sums = record { width = x; stretch = a.stretch; shrink = a.shrink; fills = a.fills } in s) w
    ∙ ap (λ x. let s : Sums = record { width = b.width; stretch = x; shrink = a.shrink; fills = a.fills } in s) st
    ∙ ap (λ x. let s : Sums = record { width = b.width; stretch = b.stretch; shrink = x; fills = a.fills } in s) sh
    ∙ ap (λ x. let s : Sums = record { width = b.width; stretch = b.stretch; shrink = b.shrink; fills = x } in s) f

plus_zero : (a : Sums) → plus_sums no_sums a ≡ a
plus_zero a = same_sums (plus_sums no_sums a) a (omega arith) (omega arith) (omega arith) (omega arith)

plus_assoc : (a b c : Sums) → plus_sums (plus_sums a b) c ≡ plus_sums a (plus_sums b c)
plus_assoc a b c = same_sums (plus_sums (plus_sums a b) c) (plus_sums a (plus_sums b c)) (omega arith) (omega arith) (omega arith) (omega arith)

pub sums_of-append : (xs ys : List Entry) → sums_of (xs ++ ys) ≡ plus_sums (sums_of xs) (sums_of ys)
sums_of-append [] ys = sym (plus_zero (sums_of ys))
sums_of-append (x ∷ xs) ys = ap (plus_sums (entry_sums x)) (sums_of-append xs ys) ∙ sym (plus_assoc (entry_sums x) (sums_of xs) (sums_of ys))

plus_zero_right : (a : Sums) → plus_sums a no_sums ≡ a
plus_zero_right a = same_sums (plus_sums a no_sums) a (omega arith) (omega arith) (omega arith) (omega arith)

-- one more entry is taken
take_one : (es : List Entry) (k : ℕ) (e : Entry) → slice_get es k ≡ Some e → take (suc k) es ≡ take k es ++ e ∷ []
take_one [] k e h = absurd (cc)
take_one (x ∷ es) zero e h = let same : x ≡ e = cc in ap (λ y. y ∷ []) same
take_one (x ∷ es) (suc k) e h = ap (λ ys. x ∷ ys) (take_one es k e h)

-- the running sum with one more entry
pub sums_of-more : (es : List Entry) (k : ℕ) (e : Entry) → slice_get es k ≡ Some e → sums_of (take (k + 1) es) ≡ plus_sums (sums_of (take k es)) (entry_sums e)
sums_of-more es k e h =
    ap (λ n. sums_of (take n es)) (let one : k + 1 ≡ suc k = omega arith in one)
    ∙ ap sums_of (take_one es k e h) ∙ sums_of-append (take k es) (e ∷ []) ∙ ap (plus_sums (sums_of (take k es))) (plus_zero_right (entry_sums e))

drop_none : (n : ℕ) → drop {A = Entry} n [] ≡ []
drop_none zero = refl
drop_none (suc n) = refl

nothing_left : (k m : ℕ) → from_word (drop k []) ≡ drop m []
nothing_left k m = ap from_word (drop_none k) ∙ sym (drop_none m)

-- what is left from the first word on, in a part of a list
pub from_word-drop : (es : List Entry) (k j : ℕ) → k ≤ j → j ≤ length es → from_word (drop k (take j es)) ≡ drop (min (first_word es k) j) (take j es)
from_word-drop [] k zero le in' = nothing_left k (min 0 0)
from_word-drop [] k (suc j) le in' = nothing_left k (min 0 (suc j))
from_word-drop (e ∷ es) k zero le in' = nothing_left k (min (first_word (e ∷ es) k) 0)
from_word-drop (e ∷ es) zero (suc j) le in' = tested (is_word e) (from_word-drop es zero j (omega arith) (omega arith))
  where
    tested : (t : Bool) → from_word (drop 0 (take j es)) ≡ drop (min (first_word es 0) j) (take j es)
        → (if t then e ∷ take j es else from_word (take j es)) ≡ drop (min (if t then 0 else first_word es 0 + 1) (suc j)) (e ∷ take j es)
    tested true h = let m : min 0 (suc j) ≡ 0 = omega arith in ap (λ n. drop n (e ∷ take j es)) (sym m)
    tested false h = let m : min (first_word es 0 + 1) (suc j) ≡ suc (min (first_word es 0) j) = omega arith in h ∙ ap (λ n. drop n (e ∷ take j es)) (sym m)
from_word-drop (e ∷ es) (suc k) (suc j) le in' =
    let m : min (first_word es k + 1) (suc j) ≡ suc (min (first_word es k) j) = omega arith in
    from_word-drop es k j (omega arith) (omega arith) ∙ ap (λ n. drop n (e ∷ take j es)) (sym m)

-- a part of a part from the front
take_part : (es : List Entry) (a j : ℕ) → a ≤ j → take a (take j es) ≡ take a es
take_part es zero j le = refl
take_part [] (suc a) zero le = refl
take_part [] (suc a) (suc j) le = refl
take_part (e ∷ es) (suc a) zero le = absurd (omega arith)
take_part (e ∷ es) (suc a) (suc j) le = ap (λ ys. e ∷ ys) (take_part es a j (omega arith))

-- a line before break j is what comes after its start
line_is : (es : List Entry) (q : Option ℕ) (j : ℕ) → is_within q j ≡ true → j ≤ length es → line_between es q j ≡ drop (line_start es q j) (take j es)
line_is es None j b in' = refl
line_is es (Some i) j b in' = let lt : i < j = grind (arith, nat_tests) in from_word-drop es (i + 1) j (omega arith) in'

pub start_within : (es : List Entry) (q : Option ℕ) (j : ℕ) → line_start es q j ≤ j
start_within es None j = omega arith
start_within es (Some i) j = omega arith

-- the sums up to a line's start and those of the line are the sums up to its end
pub line_sums : (es : List Entry) (q : Option ℕ) (j : ℕ) → is_within q j ≡ true → j ≤ length es
    → plus_sums (sums_of (take (line_start es q j) es)) (sums_of (line_between es q j)) ≡ sums_of (take j es)
line_sums es q j b in' =
    let a : ℕ = line_start es q j in
    ap (plus_sums (sums_of (take a es))) (ap sums_of (line_is es q j b in'))
    ∙ ap (λ x. plus_sums (sums_of x) (sums_of (drop a (take j es)))) (sym (take_part es a j (start_within es q j)))
    ∙ sym (sums_of-append (take a (take j es)) (drop a (take j es)))
    ∙ ap sums_of (take-append-drop a (take j es))

-- ---- first words, from the right

pub first_word-end : (es : List Entry) → first_word es (length es) ≡ length es
first_word-end [] = refl
first_word-end (e ∷ es) = let h : first_word es (length es) ≡ length es = first_word-end es in omega arith

first_word_suc : (es : List Entry) (k : ℕ) (e : Entry) → slice_get es k ≡ Some e → first_word es k ≡ (if is_word e then k else first_word es (suc k))
first_word_suc [] k e h = absurd (cc)
first_word_suc (x ∷ es) zero e h = let same : x ≡ e = cc in ap (λ y. if is_word y then 0 else first_word es 0 + 1) same
first_word_suc (x ∷ es) (suc k) e h = tested (is_word e) (first_word_suc es k e h)
  where
    tested : (t : Bool) → first_word es k ≡ (if t then k else first_word es (suc k)) → first_word es k + 1 ≡ (if t then suc k else first_word es (suc k) + 1)
    tested true h = omega arith
    tested false h = ap (λ n. n + 1) h

-- the first word from a place on is there, or the first from the next place on
pub first_word-step : (es : List Entry) (k : ℕ) (e : Entry) → slice_get es k ≡ Some e → first_word es k ≡ (if is_word e then k else first_word es (k + 1))
first_word-step es k e h = first_word_suc es k e h ∙ ap (λ n. if is_word e then k else first_word es n) (let one : suc k ≡ k + 1 = omega arith in one)

-- what is added to get the same is the same
pub same_rest : (a x y s : Sums) → plus_sums a x ≡ s → plus_sums a y ≡ s → x ≡ y
same_rest a x y s h g =
    let e : plus_sums a x ≡ plus_sums a y = h ∙ sym g in
    same_sums x y
    (let w : a.width + x.width ≡ a.width + y.width = ap (λ t. t.width) e in omega arith)
    (let w : a.stretch + x.stretch ≡ a.stretch + y.stretch = ap (λ t. t.stretch) e in omega arith)
    (let w : a.shrink + x.shrink ≡ a.shrink + y.shrink = ap (λ t. t.shrink) e in omega arith)
    (let w : a.fills + x.fills ≡ a.fills + y.fills = ap (λ t. t.fills) e in omega arith)
