-- One more class among those that were declared: what holds of each stays so, they rise, and none is lost.
use Rattle.std.proofs.Common.{◌≡◌, ℕ, Bool, true, false, ◌||◌, ◌==◌, nat_lt, List, [], ◌∷◌, map, if◌then◌else◌, refl, ap, sym, subst, ◌∙◌, arith}
use Rattle.std.specs.Cmp.{first_so, second_so}
use Rattle.std.specs.List.{list_all, list_any}
use Rattle.std.proofs.lemmas.Bool.{eqb-true, or_right, and_from}
use Rattle.std.proofs.lemmas.Bool.Decides.{nat_tests}
use Rattle.tb_galley.specs.declared.classes.ClassLine.{ClassLine}
use Rattle.tb_galley.specs.Fields.{is_class_among}
use Rattle.tb_galley.specs.Grammar.{with_class}
use Rattle.tb_galley.specs.Valid.{do_classes_rise}

-- the first class has a greater number
abbrev is_over : ℕ → List ClassLine → Bool
is_over n [] = true
is_over n (c ∷ cs) = nat_lt n c.number

rise-cons : (c : ClassLine) (cs : List ClassLine) → is_over c.number cs ≡ true → do_classes_rise cs ≡ true → do_classes_rise (c ∷ cs) ≡ true
rise-cons c [] over rise = refl
rise-cons c (d ∷ ds) over rise = and_from (nat_lt c.number d.number) (do_classes_rise (d ∷ ds)) over rise

rise-over : (c : ClassLine) (cs : List ClassLine) → do_classes_rise (c ∷ cs) ≡ true → is_over c.number cs ≡ true
rise-over c [] rise = refl
rise-over c (d ∷ ds) rise = first_so (nat_lt c.number d.number) (do_classes_rise (d ∷ ds)) rise

-- so do those after the first
pub rise-rest : (c : ClassLine) (cs : List ClassLine) → do_classes_rise (c ∷ cs) ≡ true → do_classes_rise cs ≡ true
rise-rest c [] rise = refl
rise-rest c (d ∷ ds) rise = second_so (nat_lt c.number d.number) (do_classes_rise (d ∷ ds)) rise

over-with : (n : ℕ) (c : ClassLine) (cs : List ClassLine) → nat_lt n c.number ≡ true → is_over n cs ≡ true → is_over n (with_class c cs) ≡ true
over-with n c [] first over = first
over-with n c (d ∷ ds) first over = by_number (c.number == d.number) (nat_lt c.number d.number)
  where
    by_number : (same less : Bool) → is_over n (if same then c ∷ ds else (if less then c ∷ d ∷ ds else d ∷ with_class c ds)) ≡ true
    by_number true less = first
    by_number false true = first
    by_number false false = over

above : (a b : ℕ) → (a == b) ≡ false → nat_lt a b ≡ false → nat_lt b a ≡ true
above a b h k = grind (arith, nat_tests)

-- they rise
pub rise-with : (c : ClassLine) (cs : List ClassLine) → do_classes_rise cs ≡ true → do_classes_rise (with_class c cs) ≡ true
rise-with c [] rise = refl
rise-with c (d ∷ ds) rise = by_number (c.number == d.number) (nat_lt c.number d.number) refl refl (rise-with c ds (rise-rest d ds rise))
  where
    by_number : (same less : Bool) → (c.number == d.number) ≡ same → nat_lt c.number d.number ≡ less → do_classes_rise (with_class c ds) ≡ true
        → do_classes_rise (if same then c ∷ ds else (if less then c ∷ d ∷ ds else d ∷ with_class c ds)) ≡ true
    by_number true less is not_less more = rise-cons c ds (subst (λ n. is_over n ds ≡ true) (sym (eqb-true c.number d.number is)) (rise-over d ds rise)) (rise-rest d ds rise)
    by_number false true is less more = rise-cons c (d ∷ ds) less rise
    by_number false false is less more = rise-cons d (with_class c ds) (over-with d.number c ds (above c.number d.number is less) (rise-over d ds rise)) more

-- what holds of each of them holds of each still
pub all-with : (p : ClassLine → Bool) (c : ClassLine) (cs : List ClassLine) → p c ≡ true → list_all p cs ≡ true → list_all p (with_class c cs) ≡ true
all-with p c [] good all = and_from (p c) true good refl
all-with p c (d ∷ ds) good all = by_number (c.number == d.number) (nat_lt c.number d.number) (all-with p c ds good (second_so (p d) (list_all p ds) all))
  where
    by_number : (same less : Bool) → list_all p (with_class c ds) ≡ true → list_all p (if same then c ∷ ds else (if less then c ∷ d ∷ ds else d ∷ with_class c ds)) ≡ true
    by_number true less more = and_from (p c) (list_all p ds) good (second_so (p d) (list_all p ds) all)
    by_number false true more = and_from (p c) (list_all p (d ∷ ds)) good all
    by_number false false more = and_from (p d) (list_all p (with_class c ds)) (first_so (p d) (list_all p ds) all) more

abbrev numbers : List ClassLine → List ℕ
numbers cs = map (λ (c : ClassLine). c.number) cs

or-more : (a b c : Bool) → (b ≡ true → c ≡ true) → (a || b) ≡ true → (a || c) ≡ true
or-more true b c f h = refl
or-more false b c f h = f h

abbrev is_in : List ℕ → ℕ → Bool
is_in ks n = list_any (λ (k : ℕ). k == n) ks

in-with : (c : ClassLine) (cs : List ClassLine) (n : ℕ) → is_in (numbers cs) n ≡ true → is_in (numbers (with_class c cs)) n ≡ true
in-with c [] n h = cc
in-with c (d ∷ ds) n h = by_number (c.number == d.number) (nat_lt c.number d.number) refl (λ k. in-with c ds n k)
  where
    by_number : (same less : Bool) → (c.number == d.number) ≡ same → (is_in (numbers ds) n ≡ true → is_in (numbers (with_class c ds)) n ≡ true)
        → is_in (numbers (if same then c ∷ ds else (if less then c ∷ d ∷ ds else d ∷ with_class c ds))) n ≡ true
    by_number true less is more = ap (λ k. (k == n) || is_in (numbers ds) n) (eqb-true c.number d.number is) ∙ h
    by_number false true is more = or_right (c.number == n) (is_in (numbers (d ∷ ds)) n) h
    by_number false false is more = or-more (d.number == n) (is_in (numbers ds) n) (is_in (numbers (with_class c ds)) n) more h

-- none of their numbers is lost
pub among-with : (c : ClassLine) (cs : List ClassLine) (n : ℕ) → is_class_among (numbers cs) n ≡ true → is_class_among (numbers (with_class c cs)) n ≡ true
among-with c cs n h = or-more (n == 254) (is_in (numbers cs) n) (is_in (numbers (with_class c cs)) n) (in-with c cs n) h
