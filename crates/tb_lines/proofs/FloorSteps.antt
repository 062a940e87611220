-- The least widths before a break, from the right.
use Rattle.std.proofs.Common.{◌≡◌, ◌∙◌, sym, ap, subst, inl, inr, ℕ, ◌<◌, ◌≤◌, ◌+◌, ◌-◌, true, List, length, get_or, set, take, replicate, arith, length-set}
use Rattle.std.proofs.lemmas.Bool.{cases_eq}
use Rattle.std.proofs.lemmas.List.{get_or-set_same, get_or-set_other, length-replicate}
use Rattle.tb_lines.specs.declared.entries.Entry.{Entry}
use Rattle.tb_lines.specs.declared.sums.Sums.{Sums}
use Rattle.tb_lines.specs.Entries.{is_legal}
use Rattle.tb_lines.specs.Demerits.{sums_of}
use Rattle.tb_lines.specs.Prepared.{least_width, AreRunning, AreFloors}
use Rattle.tb_lines.proofs.RunLemmas.{read_sum}

-- the least widths from place k on
pub record FloorsFrom (es : List Entry) (floors : List ℕ) (k : ℕ) : Type 0 where
  pub long : length floors ≡ length es + 1
  pub each : (j m : ℕ) (d : ℕ) → k ≤ j → j ≤ m → m < length es → is_legal es m ≡ true → get_or floors j d ≤ least_width (sums_of (take m es))

pub floors_start : (es : List Entry) (floors : List ℕ) (top : ℕ) → floors ≡ replicate (length es + 1) top → FloorsFrom es floors (length es)
floors_start es floors top e = record {
  long = ap length e ∙ length-replicate (length es + 1) top;
  each = λ j m d le le' lt legal. absurd (omega arith);
}

pub floors_done : (es : List Entry) (floors : List ℕ) → FloorsFrom es floors 0 → AreFloors es floors
floors_done es floors f = record { long = f.long; each = λ j k d le lt legal. f.each j k d (omega arith) le lt legal }

at_most : (a b c : ℕ) → a ≤ b → b ≤ c → a ≤ c
at_most a b c h k = omega arith

pub floors_more : (es : List Entry) (sums : List Sums) (floors : List ℕ) (n k : ℕ) (v next width dn : ℕ) (s ds : Sums) → AreRunning es sums → 0 < n → k ≡ n - 1 → n ≤ length es → FloorsFrom es floors n
    → s ≡ get_or sums k ds → width ≡ least_width s → next ≡ get_or floors (k + 1) dn → v ≤ next → (is_legal es k ≡ true → v ≤ width) → FloorsFrom es (set floors k v) k
floors_more es sums floors n k v next width dn s ds running least e in' f read is_width is_next below here = record {
  long = length-set floors k v ∙ f.long;
  each = λ j m d le le' lt legal. elim (cases_eq j k) [
    | inl same ↦ subst (λ x. x ≤ least_width (sums_of (take m es))) (sym (ap (λ i. get_or (set floors k v) i d) same ∙ get_or-set_same floors k v d (let l : length floors ≡ length es + 1 = f.long in omega arith))) (first m (omega arith) lt legal)
    | inr ne ↦ subst (λ x. x ≤ least_width (sums_of (take m es))) (sym (get_or-set_other floors k j v d ne)) (f.each j m d (omega arith) le' lt legal)
  ];
}
  where
    first : (m : ℕ) → k ≤ m → m < length es → is_legal es m ≡ true → v ≤ least_width (sums_of (take m es))
    first m le lt legal = elim (cases_eq m k) [
      | inl same ↦
          let here' : v ≤ width = here (ap (is_legal es) (sym same) ∙ legal) in
          let w : width ≡ least_width (sums_of (take m es)) = is_width ∙ ap least_width (read_sum es sums k ds s running (omega arith) read) ∙ ap (λ i. least_width (sums_of (take i es))) (sym same) in
          subst (λ x. v ≤ x) w here'
      | inr ne ↦
          let later : next ≤ least_width (sums_of (take m es)) = subst (λ x. x ≤ least_width (sums_of (take m es))) (sym is_next) (f.each (k + 1) m dn (omega arith) (omega arith) lt legal) in
          at_most v next (least_width (sums_of (take m es))) below later
    ]
