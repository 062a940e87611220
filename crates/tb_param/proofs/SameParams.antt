-- Parameters are the same if the value of each of them is.
use Rattle.std.proofs.Common.{◌≡◌, refl, sym, ap, ◌∙◌, List, [], ◌∷◌}
use Rattle.std.specs.List.{fold}
use Rattle.tb_param.specs.declared.params.Params.{Params}
use Rattle.tb_param.specs.Fields.{value_of, with_value}
use Rattle.tb_param.specs.Table.{Row, rows}
use Rattle.tb_param.specs.Changes.{Agree}
use Rattle.tb_param.proofs.AllSet.{all_set}

set-alike : (a b p : Params) (rs : List Row) → Agree a b rs → fold (λ q (r : Row). with_value r.field (value_of r.field a) q) p rs ≡ fold (λ q (r : Row). with_value r.field (value_of r.field b) q) p rs
set-alike a b p [] h = refl
set-alike a b p (r ∷ rs) h =
    set-alike a b (with_value r.field (value_of r.field a) p) rs h.1
    ∙ ap (λ v. fold (λ q (s : Row). with_value s.field (value_of s.field b) q) (with_value r.field v p) rs) h.0

-- parameters that agree are the same
pub agreed-same : (a b : Params) → Agree a b rows → a ≡ b
agreed-same a b h = sym (all_set a a) ∙ set-alike a b a rows h ∙ all_set b a

-- and the same parameters agree
pub same-agreed : (a b : Params) (rs : List Row) → a ≡ b → Agree a b rs
same-agreed a b [] e = tt
same-agreed a b (r ∷ rs) e = (ap (λ p. value_of r.field p) e, same-agreed a b rs e)
