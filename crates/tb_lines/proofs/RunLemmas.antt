-- Running sums and first words, with one more entry.
use Rattle.std.proofs.Common.{◌≡◌, refl, sym, ◌∙◌, ap, subst, inl, inr, ℕ, zero, suc, ◌<◌, ◌≤◌, ◌+◌, ℤ, true, List, [], ◌∷◌, ◌++◌, length, take, set, get_or, ◌-◌, Option, Some, arith, length-append, replicate, length-set}
use Rattle.std.specs.Prelude.{slice_get, if◌then◌else◌}
use Rattle.std.proofs.lemmas.Bool.{cases_eq}
use Rattle.std.proofs.lemmas.Option.{slice_get-get_or, get_or_from_slice_get}
use Rattle.std.proofs.lemmas.List.{length-replicate}
use Rattle.tb_lines.specs.declared.entries.Entry.{Entry}
use Rattle.tb_lines.specs.declared.sums.Sums.{Sums}
use Rattle.tb_lines.specs.Entries.{is_word, first_word, line_start, line_between, entry_penalty, penalty_in, penalty_at}
use Rattle.tb_lines.specs.SolutionLines.{is_within}
use Rattle.tb_lines.specs.Demerits.{entry_sums, plus_sums, sums_of}
use Rattle.tb_lines.specs.Prepared.{AreRunning, AreSmall}
use Rattle.tb_lines.proofs.LineSums.{sums_of-more, first_word-step, first_word-end, start_within, line_sums}

get_before : {X : Type 0} (xs : List X) (x : X) (k : ℕ) → k < length xs → slice_get (xs ++ x ∷ []) k ≡ slice_get xs k
get_before [] x k lt = absurd (omega arith)
get_before (y ∷ xs) x zero lt = refl
get_before (y ∷ xs) x (suc k) lt = get_before xs x k (omega arith)

get_last : {X : Type 0} (xs : List X) (x : X) (k : ℕ) → k ≡ length xs → slice_get (xs ++ x ∷ []) k ≡ Some x
get_last [] x zero e = refl
get_last [] x (suc k) e = absurd (omega arith)
get_last (y ∷ xs) x zero e = absurd (omega arith)
get_last (y ∷ xs) x (suc k) e = get_last xs x k (omega arith)

-- the sums before each place up to k
pub record RunTo (es : List Entry) (sums : List Sums) (k : ℕ) : Type 0 where
  pub long : length sums ≡ k + 1
  pub each : (i : ℕ) → i ≤ k → slice_get sums i ≡ Some (sums_of (take i es))
  pub small : (i : ℕ) → i ≤ k → AreSmall i (sums_of (take i es))

pub run_more : (es : List Entry) (sums : List Sums) (k : ℕ) (t : Sums) → RunTo es sums k → t ≡ sums_of (take (k + 1) es) → AreSmall (k + 1) t → RunTo es (sums ++ t ∷ []) (k + 1)
run_more es sums k t r e s = record {
  long = length-append sums (t ∷ []) ∙ (let l : length sums ≡ k + 1 = r.long in omega arith);
  each = λ i le. elim (cases_eq i (k + 1)) [
    | inl same ↦ get_last sums t i (let l : length sums ≡ k + 1 = r.long in omega arith) ∙ ap Some (e ∙ ap (λ n. sums_of (take n es)) (sym same))
    | inr ne ↦ get_before sums t i (let l : length sums ≡ k + 1 = r.long in omega arith) ∙ r.each i (omega arith)
  ];
  small = λ i le. elim (cases_eq i (k + 1)) [
    | inl same ↦
        let P : Sums → Type 0 = λ x. AreSmall (k + 1) x in let Q : ℕ → Type 0 = λ n. AreSmall n (sums_of (take n es)) in
        subst Q (sym same) (subst P e s)
    | inr ne ↦ r.small i (omega arith)
  ];
}

get_set_same : {X : Type 0} (xs : List X) (k : ℕ) (v : X) → k < length xs → slice_get (set xs k v) k ≡ Some v
get_set_same [] k v lt = absurd (omega arith)
get_set_same (x ∷ xs) zero v lt = refl
get_set_same (x ∷ xs) (suc k) v lt = get_set_same xs k v (omega arith)

get_set_other : {X : Type 0} (xs : List X) (k i : ℕ) (v : X) → (k ≡ i → ⊥) → slice_get (set xs k v) i ≡ slice_get xs i
get_set_other [] k i v ne = refl
get_set_other (x ∷ xs) zero zero v ne = absurd (ne refl)
get_set_other (x ∷ xs) zero (suc i) v ne = refl
get_set_other (x ∷ xs) (suc k) zero v ne = refl
get_set_other (x ∷ xs) (suc k) (suc i) v ne = get_set_other xs k i v (λ e. ne (ap suc e))

get_replicate : {X : Type 0} (n k : ℕ) (x : X) → k < n → slice_get (replicate n x) k ≡ Some x
get_replicate zero k x lt = absurd (omega arith)
get_replicate (suc n) zero x lt = refl
get_replicate (suc n) (suc k) x lt = get_replicate n k x (omega arith)

-- the first words from place k on
pub record WordsFrom (es : List Entry) (starts : List ℕ) (k : ℕ) : Type 0 where
  pub long : length starts ≡ length es + 1
  pub each : (i : ℕ) → k ≤ i → i ≤ length es → slice_get starts i ≡ Some (first_word es i)

pub words_start : (es : List Entry) (starts : List ℕ) → starts ≡ replicate (length es + 1) (length es) → WordsFrom es starts (length es)
words_start es starts e = record {
  long = ap length e ∙ length-replicate (length es + 1) (length es);
  each = λ i le le'.
      let same : length es ≡ i = omega arith in
      ap (λ xs. slice_get xs i) e ∙ get_replicate (length es + 1) i (length es) (omega arith) ∙ ap Some (sym (first_word-end es) ∙ ap (first_word es) same);
}

pub words_more : (es : List Entry) (starts : List ℕ) (k : ℕ) (v : ℕ) → k < length es → WordsFrom es starts (k + 1) → v ≡ first_word es k → WordsFrom es (set starts k v) k
words_more es starts k v lt w e = record {
  long = length-set starts k v ∙ w.long;
  each = λ i le le'. elim (cases_eq k i) [
    | inl same ↦ ap (slice_get (set starts k v)) (sym same) ∙ get_set_same starts k v (let l : length starts ≡ length es + 1 = w.long in omega arith) ∙ ap Some (e ∙ ap (first_word es) same)
    | inr ne ↦ get_set_other starts k i v ne ∙ w.each i (omega arith) le'
  ];
}

-- the sums with one more entry of the list
pub sum_step : (es : List Entry) (k : ℕ) (d : Entry) (t r m : Sums) → k < length es → t ≡ sums_of (take k es) → m ≡ entry_sums (get_or es k d) → r ≡ plus_sums t m → r ≡ sums_of (take (k + 1) es)
sum_step es k d t r m lt e h g =
    g ∙ ap (λ x. plus_sums x m) e ∙ ap (plus_sums (sums_of (take k es))) h ∙ sym (sums_of-more es k (get_or es k d) (slice_get-get_or es k d lt))

-- the first word from the next place on decides that from this one on
pub word_step : (es : List Entry) (starts : List ℕ) (n k : ℕ) (d : Entry) (next v dn : ℕ) → 0 < n → k ≡ n - 1 → n ≤ length es → WordsFrom es starts n
    → next ≡ get_or starts (k + 1) dn → v ≡ (if is_word (get_or es k d) then k else next) → WordsFrom es (set starts k v) k
word_step es starts n k d next v dn pos e le w h g =
    let w' : WordsFrom es starts (k + 1) = let P : ℕ → Type 0 = λ x. WordsFrom es starts x in subst P (let same : n ≡ k + 1 = omega arith in same) w in
    let read : get_or starts (k + 1) dn ≡ first_word es (k + 1) = get_or_from_slice_get starts (k + 1) (first_word es (k + 1)) dn (w'.each (k + 1) (omega arith) (omega arith)) in
    words_more es starts k v (omega arith) w'
    (g ∙ ap (λ x. if is_word (get_or es k d) then k else x) (h ∙ read) ∙ sym (first_word-step es k (get_or es k d) (slice_get-get_or es k d (omega arith))))

-- ---- a line's sums by the running sums

pub read_sum : (es : List Entry) (sums : List Sums) (k : ℕ) (d s : Sums) → AreRunning es sums → k ≤ length es → s ≡ get_or sums k d → s ≡ sums_of (take k es)
read_sum es sums k d s r le h = h ∙ get_or_from_slice_get sums k (sums_of (take k es)) d (r.each k le)

-- what is known of the two running sums of a line
pub record LineBounds (es : List Entry) (q : Option ℕ) (j : ℕ) (a b : Sums) : Type 0 where
  pub whole : plus_sums a (sums_of (line_between es q j)) ≡ b
  pub small : AreSmall 65536 b

pub line_bounds : (es : List Entry) (sums : List Sums) (q : Option ℕ) (j : ℕ) (d e a b : Sums) → AreRunning es sums → length es ≤ 65536 → is_within q j ≡ true → j ≤ length es
    → a ≡ get_or sums (line_start es q j) d → b ≡ get_or sums j e → LineBounds es q j a b
line_bounds es sums q j d e a b r few w le ha hb =
    let sa = read_sum es sums (line_start es q j) d a r (let s = start_within es q j in omega arith) ha in
    let sb = read_sum es sums j e b r le hb in
    let P : Sums → Type 0 = λ x. AreSmall 65536 x in
    record {
      whole = ap (λ x. plus_sums x (sums_of (line_between es q j))) sa ∙ line_sums es q j w le ∙ sym sb;
      small = subst P (sym sb) (wide j (sums_of (take j es)) (omega arith) (r.small j le));
    }
  where
    wide : (k : ℕ) (s : Sums) → k ≤ 65536 → AreSmall k s → AreSmall 65536 s
    wide k s le a = record { width = let h = a.width in omega arith; stretch = let h = a.stretch in omega arith; shrink = let h = a.shrink in omega arith; fills = let h = a.fills in omega arith }

pub record IsPartOf (a b : Sums) : Type 0 where
  pub width : a.width ≤ b.width
  pub stretch : a.stretch ≤ b.stretch
  pub shrink : a.shrink ≤ b.shrink
  pub fills : a.fills ≤ b.fills

pub start_below : (es : List Entry) (q : Option ℕ) (j : ℕ) (a b : Sums) → LineBounds es q j a b → IsPartOf a b
start_below es q j a b l = record {
  width = let h : a.width + (sums_of (line_between es q j)).width ≡ b.width = ap (λ x. x.width) l.whole in omega arith;
  stretch = let h : a.stretch + (sums_of (line_between es q j)).stretch ≡ b.stretch = ap (λ x. x.stretch) l.whole in omega arith;
  shrink = let h : a.shrink + (sums_of (line_between es q j)).shrink ≡ b.shrink = ap (λ x. x.shrink) l.whole in omega arith;
  fills = let h : a.fills + (sums_of (line_between es q j)).fills ≡ b.fills = ap (λ x. x.fills) l.whole in omega arith;
}

-- a line's sums are small
pub line_small : (es : List Entry) (q : Option ℕ) (j : ℕ) (a b r : Sums) → LineBounds es q j a b → plus_sums a r ≡ b → AreSmall 65536 r
line_small es q j a b r l e = record {
  width = let h : a.width + r.width ≡ b.width = ap (λ x. x.width) e in let s = l.small.width in omega arith;
  stretch = let h : a.stretch + r.stretch ≡ b.stretch = ap (λ x. x.stretch) e in let s = l.small.stretch in omega arith;
  shrink = let h : a.shrink + r.shrink ≡ b.shrink = ap (λ x. x.shrink) e in let s = l.small.shrink in omega arith;
  fills = let h : a.fills + r.fills ≡ b.fills = ap (λ x. x.fills) e in let s = l.small.fills in omega arith;
}

pub line_penalty : (es : List Entry) (j : ℕ) (d : Entry) (p : ℤ) → j < length es → p ≡ entry_penalty (get_or es j d) → p ≡ penalty_at es j
line_penalty es j d p lt h = h ∙ ap penalty_in (sym (slice_get-get_or es j d lt))
