use Rattle.std.proofs.Common.{◌≡◌, refl, sym, ap, ◌∙◌, ℕ, true, nat_eq, arith}
use Rattle.tb_param.specs.declared.fields.Field.{Field}
use Rattle.tb_param.specs.declared.fields.Field.TheVariants as fields
use Rattle.tb_param.specs.Fields.{place}
use Rattle.tb_param.proofs.ChangeLemmas.{one-place}
use Rattle.tb_param.proofs.changes.same_fields.Goals as goal

abbrev number : Field → ℕ
number f = denote.Enum.Declared.tag_of Rattle.tb_param.specs.contracts.fields.Field.the_type f

number-place : (f : Field) → number f ≡ place f
number-place fields.Textheight = refl
number-place f = refl

same-number : (x y : ℕ) → nat_eq x y ≡ true → x ≡ y
same-number x y h = grind (arith, h)

itself : (x : ℕ) → nat_eq x x ≡ true
itself x = grind arith

pub returns : goal.returns
returns c = (
  λ same. one-place c.args.a c.args.b (sym (number-place c.args.a) ∙ same-number (number c.args.a) (number c.args.b) same ∙ number-place c.args.b),
  λ e. ap (λ (f : Field). nat_eq (number c.args.a) (number f)) (sym e) ∙ itself (number c.args.a),
)
