-- The place of a class among those of rising numbers, and what a write, an insert or a push there gives.
use Rattle.std.proofs.Common.{◌≡◌, ℕ, zero, suc, ◌<◌, ◌≤◌, true, false, ◌==◌, nat_lt, List, [], ◌∷◌, ◌++◌, length, get_or, set, Result, Ok, Err, IfOk, IfErr, OnOk, OnErr, if◌then◌else◌, refl, ap, sym, ◌∙◌, arith}
use Rattle.std.specs.Cmp.{first_so}
use Rattle.std.proofs.lemmas.Bool.{and_from}
use Rattle.std.specs.List.{All, insert}
use Rattle.std.specs.List.Sorted.{IsSearchInRange, IsBinarySearchResult, IsNonDecreasingBy}
use Rattle.std.specs.Ordering.{nat_cmp, ordering_index}
use Rattle.std.proofs.lemmas.Cmp.{ranked}
use Rattle.std.proofs.lemmas.List.Elements.{All-tail}
use Rattle.std.proofs.lemmas.Bool.Decides.{nat_tests}
use Rattle.tb_galley.specs.declared.classes.ClassLine.{ClassLine}
use Rattle.tb_galley.specs.Classes.{do_classes_rise, with_class, IsAt, IsGapFor}
use Rattle.tb_galley.proofs.WithClass.{rise-rest, rise-with}

-- the number of the class at a place
abbrev number_at : List ClassLine → ℕ → ClassLine → ℕ
number_at cs k d = (get_or cs k d).number

less : (a b : ℕ) → nat_lt a b ≡ true → a < b
less a b h = grind (arith, nat_tests)

-- the first number is below all after it
first-below : (c : ClassLine) (cs : List ClassLine) → do_classes_rise (c ∷ cs) ≡ true → (k : ℕ) (d : ClassLine) → k < length cs → c.number < number_at cs k d
first-below c [] rise k d h = absurd (omega arith)
first-below c (e ∷ es) rise zero d h = less c.number e.number (first_so (nat_lt c.number e.number) (do_classes_rise (e ∷ es)) rise)
first-below c (e ∷ es) rise (suc k) d h =
    let step : c.number < e.number = less c.number e.number (first_so (nat_lt c.number e.number) (do_classes_rise (e ∷ es)) rise) in
    let more : e.number < number_at es k d = first-below e es (rise-rest c (e ∷ es) rise) k d (omega arith) in
    omega arith

rising : (cs : List ClassLine) → do_classes_rise cs ≡ true → (i j : ℕ) (d : ClassLine) → i ≤ j → j < length cs → number_at cs i d ≤ number_at cs j d
rising [] rise i j d h k = absurd (omega arith)
rising (c ∷ cs) rise zero zero d h k = omega arith
rising (c ∷ cs) rise zero (suc j) d h k = let more : c.number < number_at cs j d = first-below c cs rise j d (omega arith) in omega arith
rising (c ∷ cs) rise (suc i) zero d h k = absurd (omega arith)
rising (c ∷ cs) rise (suc i) (suc j) d h k = rising cs (rise-rest c cs rise) i j d (omega arith) (omega arith)

-- what a binary search by number ends at
module _ (cs : List ClassLine) (rise : do_classes_rise cs ≡ true) (n : ℕ) where
  comparisons-rise : IsNonDecreasingBy (λ (c : ClassLine). ordering_index (nat_cmp c.number n)) cs
  comparisons-rise i j d le in_range = let more : number_at cs i d ≤ number_at cs j d = rising cs rise i j d le in_range in grind (arith, nat_tests)

  pub searched : (r : Result ℕ ℕ) → IsSearchInRange r (length cs) → IsBinarySearchResult (λ (c : ClassLine). nat_cmp c.number n) cs r
      → record { found : IfOk r (IsAt cs n); absent : IfErr r (IsGapFor cs n) }
  searched (Ok k) in_range equal = record { found = record { in_range = in_range; has_number = λ d. ranked _ n _ (sym (equal d)) }; absent = tt }
  searched (Err k) in_range parted = record {
    found = tt;
    absent = record {
      in_range = in_range;
      smaller_before = λ j d lt. ranked _ n _ (sym ((parted comparisons-rise).0 j d (omega arith) lt));
      greater_after = λ j d le lt. ranked _ n _ (sym ((parted comparisons-rise).1 j d le lt));
    };
  }

same-test : (a b : ℕ) → a ≡ b → (a == b) ≡ true
same-test a b h = grind (arith, nat_tests)

other-test : (a b : ℕ) → b < a → (a == b) ≡ false
other-test a b h = grind (arith, nat_tests)

not-less-test : (a b : ℕ) → b < a → nat_lt a b ≡ false
not-less-test a b h = grind (arith, nat_tests)

less-test : (a b : ℕ) → a < b → nat_lt a b ≡ true
less-test a b h = grind (arith, nat_tests)

-- a class after one of a smaller number
past : (c d : ClassLine) (ds : List ClassLine) → d.number < c.number → with_class c (d ∷ ds) ≡ d ∷ with_class c ds
past c d ds h =
    ap (λ t. if t then c ∷ ds else (if nat_lt c.number d.number then c ∷ d ∷ ds else d ∷ with_class c ds)) (other-test c.number d.number h)
    ∙ ap (λ t. if t then c ∷ d ∷ ds else d ∷ with_class c ds) (not-less-test c.number d.number h)

-- a class is written over the one of its number
pub set-at : (cs : List ClassLine) (c : ClassLine) (k : ℕ) → do_classes_rise cs ≡ true → IsAt cs c.number k → set cs k c ≡ with_class c cs
set-at [] c k rise at = absurd (omega (arith, at.in_range))
set-at (d ∷ ds) c zero rise at =
    sym (ap (λ t. if t then c ∷ ds else (if nat_lt c.number d.number then c ∷ d ∷ ds else d ∷ with_class c ds)) (same-test c.number d.number (sym (at.has_number d))))
set-at (d ∷ ds) c (suc k) rise at =
    let in_range : k < length ds = omega (arith, at.in_range) in
    let below : d.number < c.number = omega (arith, first-below d ds rise k d in_range, at.has_number d) in
    ap (λ es. d ∷ es) (set-at ds c k (rise-rest d ds rise) (record { in_range = in_range; has_number = at.has_number })) ∙ sym (past c d ds below)

-- a class of a new number is put in its gap
pub insert-at : (cs : List ClassLine) (c : ClassLine) (k : ℕ) → IsGapFor cs c.number k → insert cs k c ≡ with_class c cs
insert-at [] c zero gap = refl
insert-at [] c (suc k) gap = absurd (omega (arith, gap.in_range))
insert-at (d ∷ ds) c zero gap =
    let above : c.number < d.number = gap.greater_after 0 d (omega arith) (omega arith) in
    sym
    (ap (λ t. if t then c ∷ ds else (if nat_lt c.number d.number then c ∷ d ∷ ds else d ∷ with_class c ds)) (unlike c.number d.number above)
    ∙ ap (λ t. if t then c ∷ d ∷ ds else d ∷ with_class c ds) (less-test c.number d.number above))
  where
    unlike : (a b : ℕ) → a < b → (a == b) ≡ false
    unlike a b h = grind (arith, nat_tests)
insert-at (d ∷ ds) c (suc k) gap =
    ap (λ es. d ∷ es)
    (insert-at ds c k (record {
      in_range = omega (arith, gap.in_range);
      smaller_before = λ j e h. gap.smaller_before (suc j) e (omega arith);
      greater_after = λ j e h l. gap.greater_after (suc j) e (omega arith) (omega arith);
    }))
    ∙ sym (past c d ds (gap.smaller_before 0 d (omega arith)))

-- a class of a greater number than all before goes to the end
pub rise-last : (cs : List ClassLine) (c : ClassLine) → do_classes_rise cs ≡ true → All (λ (d : ClassLine). d.number < c.number) cs → do_classes_rise (cs ++ c ∷ []) ≡ true
rise-last [] c rise below = refl
rise-last (d ∷ []) c rise below = and_from (nat_lt d.number c.number) true (less-test d.number c.number (below 0 d (omega arith))) refl
rise-last (d ∷ e ∷ es) c rise below =
    and_from (nat_lt d.number e.number) (do_classes_rise (e ∷ es ++ c ∷ [])) (first_so (nat_lt d.number e.number) (do_classes_rise (e ∷ es)) rise)
    (rise-last (e ∷ es) c (rise-rest d (e ∷ es) rise) (All-tail (λ (x : ClassLine). x.number < c.number) d (e ∷ es) below))

-- they rise after each of these
pub rise-set : (cs : List ClassLine) (c : ClassLine) (k : ℕ) → do_classes_rise cs ≡ true → IsAt cs c.number k → do_classes_rise (set cs k c) ≡ true
rise-set cs c k rise at = ap do_classes_rise (set-at cs c k rise at) ∙ rise-with c cs rise

pub rise-insert : (cs : List ClassLine) (c : ClassLine) (k : ℕ) → do_classes_rise cs ≡ true → IsGapFor cs c.number k → do_classes_rise (insert cs k c) ≡ true
rise-insert cs c k rise gap = ap do_classes_rise (insert-at cs c k gap) ∙ rise-with c cs rise

pub rise-pushed : {E : Type 0} (r : Result (Unit {0}) E) (old new : List ClassLine) (c : ClassLine) → OnOk r (new ≡ old ++ c ∷ []) → OnErr r (new ≡ old) → do_classes_rise old ≡ true
    → All (λ (d : ClassLine). d.number < c.number) old → do_classes_rise new ≡ true
rise-pushed (Ok u) old new c ok err rise below = ap do_classes_rise ok ∙ rise-last old c rise below
rise-pushed (Err e) old new c ok err rise below = ap do_classes_rise err ∙ rise
