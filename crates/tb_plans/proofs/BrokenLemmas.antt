-- Items copied with breaks between them.
use Rattle.std.proofs.Common.{◌≡◌, refl, sym, ◌∙◌, ap, ℕ, zero, suc, ◌+◌, ◌<◌, ◌≤◌, Bool, true, false, ◌==◌, List, [], ◌∷◌, ◌++◌, length, drop, get_or, append_assoc, append-nil, if◌then◌else◌, arith}
use Rattle.std.proofs.Math.Seq.{drop-cons}
use Rattle.std.proofs.lemmas.List.{drop_all}
use Rattle.tb_galley.specs.declared.Item.{Item}
use Rattle.tb_plans.specs.Plans.{break_before, broken, is_first, with_break}

-- without breaks the items are themselves
broken-none : (k : ℕ) (ns : List Item) → broken k ns [] ≡ ns
broken-none k [] = refl
broken-none k (n ∷ ns) = refl

drop-one : {A : Type 0} (n : ℕ) (xs : List A) → drop 1 (drop n xs) ≡ drop (suc n) xs
drop-one zero xs = refl
drop-one (suc n) [] = refl
drop-one (suc n) (x ∷ xs) = drop-one n xs

module _ (k : ℕ) (n : Item) (ns : List Item) (next : ℕ) (bs : List ℕ) where
  by-test : (d : ℕ) (ds : List ℕ) → drop next bs ≡ d ∷ ds → (t : Bool)
      → (if t then break_before n ∷ n ∷ broken (suc k) ns ds else n ∷ broken (suc k) ns (d ∷ ds)) ≡ with_break t n ++ broken (suc k) ns (drop (if t then next + 1 else next) bs)
  by-test d ds e true =
      let one : next + 1 ≡ suc next = omega arith in
      ap (λ l. break_before n ∷ n ∷ broken (suc k) ns l) (sym (ap (λ m. drop m bs) one ∙ sym (drop-one next bs) ∙ ap (λ l. drop 1 l) e))
  by-test d ds e false = ap (λ l. n ∷ broken (suc k) ns l) (sym e)

  by-rest : (ds : List ℕ) → drop next bs ≡ ds → broken k (n ∷ ns) ds ≡ with_break (is_first ds k) n ++ broken (suc k) ns (drop (if is_first ds k then next + 1 else next) bs)
  by-rest [] e = ap (λ l. n ∷ l) (sym (ap (λ l. broken (suc k) ns l) e ∙ broken-none (suc k) ns))
  by-rest (d ∷ ds) e = by-test d ds e (d == k)

-- one item further
pub item-more : (ns : List Item) (bs : List ℕ) (k next : ℕ) (n : Item) (here : Bool) (made more : List Item) (after : ℕ) → k < length ns → n ≡ get_or ns k n → here ≡ is_first (drop next bs) k
    → more ≡ made ++ with_break here n → after ≡ (if here then next + 1 else next)
    → made ++ broken k (drop k ns) (drop next bs) ≡ broken 0 ns bs → more ++ broken (suc k) (drop (suc k) ns) (drop after bs) ≡ broken 0 ns bs
item-more ns bs k next n here made more after within is test put then_next h =
    ap (λ l. l ++ broken (suc k) (drop (suc k) ns) (drop after bs)) put
    ∙ append_assoc made (with_break here n) (broken (suc k) (drop (suc k) ns) (drop after bs))
    ∙ ap (λ l. made ++ l) (ap (λ m. with_break here n ++ broken (suc k) (drop (suc k) ns) (drop m bs)) then_next
    ∙ ap (λ t. with_break t n ++ broken (suc k) (drop (suc k) ns) (drop (if t then next + 1 else next) bs)) test
    ∙ sym (ap (λ l. broken k l (drop next bs)) (drop-cons ns k n within ∙ ap (λ m. m ∷ drop (suc k) ns) (sym is)) ∙ by-rest k n (drop (suc k) ns) next bs (drop next bs) refl))
    ∙ h

-- a break is left only while a number is
pub first-within : (bs : List ℕ) (next k : ℕ) → is_first (drop next bs) k ≡ true → next < length bs
first-within [] zero k h = let no : false ≡ true = h in cc
first-within [] (suc next) k h = let no : false ≡ true = h in cc
first-within (b ∷ bs) zero k h = omega arith
first-within (b ∷ bs) (suc next) k h = let more : next < length bs = first-within bs next k h in omega arith

pub still-within : (bs : List ℕ) (next k after : ℕ) (here : Bool) → here ≡ is_first (drop next bs) k → after ≡ (if here then next + 1 else next) → next ≤ length bs → after ≤ length bs
still-within bs next k after true test e h = let in_range : next < length bs = first-within bs next k (sym test) in omega (arith, e)
still-within bs next k after false test e h = omega (arith, e)

pub all-made : (ns : List Item) (bs : List ℕ) (k next : ℕ) (made : List Item) → length ns ≤ k → made ++ broken k (drop k ns) (drop next bs) ≡ broken 0 ns bs → made ≡ broken 0 ns bs
all-made ns bs k next made end h = sym (append-nil made) ∙ ap (λ l. made ++ l) (sym (ap (λ l. broken k l (drop next bs)) (drop_all k ns end))) ∙ h
