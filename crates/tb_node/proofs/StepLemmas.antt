-- Two lists that are walked in step: they are the same exactly if what is left of them is.
use Rattle.std.proofs.Common.{◌≡◌, suc, true, false, List, [], ◌∷◌, length, drop, refl, ap, sym, ◌∙◌, arith}

-- the first value of a list, or this one if the list is empty
abbrev first_or : {A : Type 0} → A → List A → A
first_or x [] = x
first_or x (y ∷ ys) = y

-- two lists are the same exactly if what is left of them in a walk is
abbrev pub InStep : {A : Type 0} → List A → List A → List A → List A → Type 0
InStep xs ys rest others = (rest ≡ others → xs ≡ ys) × (xs ≡ ys → rest ≡ others)

pub walk_begins : {A : Type 0} (xs ys rest others : List A) → rest ≡ xs → others ≡ ys → InStep xs ys rest others
walk_begins xs ys rest others r o = (λ e. sym r ∙ e ∙ o, λ e. r ∙ e ∙ sym o)

-- one more step, past values that are the same
pub walk_goes : {A : Type 0} (xs ys rest others more others_more : List A) (a b : A) → rest ≡ a ∷ more → others ≡ b ∷ others_more → a ≡ b → InStep xs ys rest others → InStep xs ys more others_more
walk_goes xs ys rest others more others_more a b r o same walk =
    (λ (e : more ≡ others_more). walk.0 (r ∙ (λ i. same i ∷ e i) ∙ sym o), λ (e : xs ≡ ys). ap (λ zs. drop 1 zs) (sym r ∙ walk.1 e ∙ o))

-- the lists differ if the next values do
pub walk_parts : {A : Type 0} (xs ys rest others more others_more : List A) (a b : A) → rest ≡ a ∷ more → others ≡ b ∷ others_more → (a ≡ b → ⊥) → InStep xs ys rest others → xs ≡ ys → ⊥
walk_parts xs ys rest others more others_more a b r o differ walk e = differ (ap (λ zs. first_or a zs) (sym r ∙ walk.1 e ∙ o))

-- nothing is left of a list as long as an empty one
pub both_end : {A : Type 0} (rest others : List A) → rest ≡ [] → length rest ≡ length others → others ≡ []
both_end rest [] r even = refl
both_end rest (b ∷ others) r even = let short : length rest ≡ 0 = ap length r in absurd (omega arith)

-- a list as long as one with a next value has one too
pub none_falls_short : {A : Type 0} (rest others more : List A) (a : A) → rest ≡ a ∷ more → length rest ≡ length others → others ≡ [] → ⊥
none_falls_short rest others more a r even o = let long : length rest ≡ suc (length more) = ap length r in let short : length others ≡ 0 = ap length o in omega arith

-- what is left is as long after a step
pub even_after : {A : Type 0} (rest others more others_more : List A) (a b : A) → rest ≡ a ∷ more → others ≡ b ∷ others_more → length rest ≡ length others → length more ≡ length others_more
even_after rest others more others_more a b r o even = let long : length rest ≡ suc (length more) = ap length r in let long_too : length others ≡ suc (length others_more) = ap length o in omega arith

-- that they are the same is rightly denied of values that differ
pub denied : {A : Type 0} (x y : A) → (x ≡ y → ⊥) → (false ≡ true → x ≡ y) × (x ≡ y → false ≡ true)
denied x y differ = (λ never. cc, λ e. absurd (differ e))
