-- Lists that are copied one by one.
use Rattle.std.proofs.Common.{◌≡◌, sym, ◌∙◌, ap, ℕ, zero, suc, ◌+◌, ◌<◌, true, List, [], ◌∷◌, ◌++◌, length, take, get_or, arith, nat_lt}
use Rattle.std.specs.List.{All}
use Rattle.std.specs.Cmp.{first_so}
use Rattle.std.proofs.lemmas.List.{take_more}
use Rattle.std.proofs.lemmas.List.Elements.{All-nil, All-cons}
use Rattle.std.proofs.lemmas.Bool.Decides.{nat_tests}
use Rattle.tb_galley.specs.declared.classes.ClassLine.{ClassLine}
use Rattle.tb_galley.specs.Classes.{do_classes_rise}
use Rattle.tb_galley.proofs.WithClass.{rise-rest}

pub copied-more : {A : Type 0} (xs ys zs : List A) (k : ℕ) (x : A) → k < length xs → x ≡ get_or xs k x → ys ≡ take k xs → zs ≡ ys ++ x ∷ [] → zs ≡ take (k + 1) xs
copied-more xs ys zs k x within is so_far put = put ∙ ap (λ l. l ++ x ∷ []) so_far ∙ sym (take_more xs k x within ∙ ap (λ y. take k xs ++ y ∷ []) (sym is))

-- ---- classes of rising numbers

less : (a b : ℕ) → nat_lt a b ≡ true → a < b
less a b h = grind (arith, nat_tests)

first-below : (c : ClassLine) (cs : List ClassLine) → do_classes_rise (c ∷ cs) ≡ true → (k : ℕ) (d : ClassLine) → k < length cs → c.number < (get_or cs k d).number
first-below c [] rise k d h = absurd (omega arith)
first-below c (e ∷ es) rise zero d h = less c.number e.number (first_so (nat_lt c.number e.number) (do_classes_rise (e ∷ es)) rise)
first-below c (e ∷ es) rise (suc k) d h =
    let step : c.number < e.number = less c.number e.number (first_so (nat_lt c.number e.number) (do_classes_rise (e ∷ es)) rise) in
    let more : e.number < (get_or es k d).number = first-below e es (rise-rest c (e ∷ es) rise) k d (omega arith) in
    omega arith

-- the classes before a class have smaller numbers
pub before-below : (cs : List ClassLine) → do_classes_rise cs ≡ true → (k : ℕ) (d : ClassLine) → k < length cs → All (λ c. c.number < (get_or cs k d).number) (take k cs)
before-below cs rise zero d h = All-nil (λ c. c.number < (get_or cs zero d).number)
before-below [] rise (suc k) d h = absurd (omega arith)
before-below (c ∷ cs) rise (suc k) d h =
    All-cons (λ e. e.number < (get_or cs k d).number) c (take k cs) (first-below c cs rise k d (omega arith)) (before-below cs (rise-rest c cs rise) k d (omega arith))
