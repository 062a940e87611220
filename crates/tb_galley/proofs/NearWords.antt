-- A word between two spaces is the first field.
use Rattle.std.proofs.Common.{◌≡◌, ℕ, true, List, [], ◌∷◌, codes, ap, sym, ◌∙◌}
use Rattle.std.proofs.lemmas.Bool.{eqb-true}
use Rattle.tb_text.specs.Lines.{begins_with, fields_of}

pub plus_is_first : (rest : List ℕ) → begins_with 32 rest ≡ true → fields_of (32 ∷ 112 ∷ 108 ∷ 117 ∷ 115 ∷ rest) ≡ codes "plus" ∷ fields_of rest
plus_is_first [] h = cc
plus_is_first (b ∷ bs) h =
    let e : b ≡ 32 = eqb-true b 32 h in
    ap (λ c. fields_of (32 ∷ 112 ∷ 108 ∷ 117 ∷ 115 ∷ c ∷ bs)) e ∙ ap (λ c. codes "plus" ∷ fields_of (c ∷ bs)) (sym e)

pub minus_is_first : (rest : List ℕ) → begins_with 32 rest ≡ true → fields_of (32 ∷ 109 ∷ 105 ∷ 110 ∷ 117 ∷ 115 ∷ rest) ≡ codes "minus" ∷ fields_of rest
minus_is_first [] h = cc
minus_is_first (b ∷ bs) h =
    let e : b ≡ 32 = eqb-true b 32 h in
    ap (λ c. fields_of (32 ∷ 109 ∷ 105 ∷ 110 ∷ 117 ∷ 115 ∷ c ∷ bs)) e ∙ ap (λ c. codes "minus" ∷ fields_of (c ∷ bs)) (sym e)
