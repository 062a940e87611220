use Rattle.std.proofs.Common.{◌≡◌, ◌∙◌, ℕ, ◌+◌, ◌*◌, ℤ, pos, List, FitsSigned, w64, rules}
use Rattle.std.specs.Prelude.{◌+ℤ◌}
use Rattle.std.specs.Int.{w128}
use Rattle.std.proofs.lemmas.Int.{to_z-of_z}
use Rattle.tb_param.specs.declared.Params.{Params}
use Rattle.tb_builder.specs.declared.Try.{Try}
use Rattle.tb_rate.specs.declared.Rating.{Rating}
use Rattle.tb_rate.specs.declared.PlacePenalty.{PlacePenalty}
use Rattle.tb_rate.specs.Rating.{rated_badness, rated_penalty, base, with_penalty, rated}
use Rattle.tb_rate.proofs.ratings.rated.Goals as goal

-- a rating whose numbers are these
same : (p : Params) (places : List PlacePenalty) (page : ℕ) (t : Try) (waiting held : ℕ) (b q d : ℤ) → b ≡ rated_badness p t → q ≡ rated_penalty places t → d ≡ with_penalty (base t b) q +ℤ pos (10000 * (waiting + held))
    → (let r : Rating = record { page = page; badness = b; penalty = q; waiting = waiting; held = held; demerits = d } in r) ≡ rated p places page t waiting held
same p places page t waiting held b q d e f h =
    let all : d ≡ with_penalty (base t (rated_badness p t)) (rated_penalty places t) +ℤ pos (10000 * (waiting + held)) = h ∙ (λ i. with_penalty (base t (e i)) (f i) +ℤ pos (10000 * (waiting + held))) in
    λ i. record { page = page; badness = e i; penalty = f i; waiting = waiting; held = held; demerits = all i }

pub returns-clause-value : goal.returns-clause-value
returns-clause-value c =
    let b : FitsSigned w64 c.rated_badness-badness.result = search rules in
    let q : FitsSigned w64 c.rated_penalty-penalty.result = search rules in
    let d : FitsSigned w128 c.demerits-demerits.result = search rules in
    simp to_z-of_z (same c.args.p.now c.args.places.now c.args.page c.args.t.now c.args.waiting c.args.held _ _ _ c.rated_badness-badness.ensures.value c.rated_penalty-penalty.ensures.value (simp to_z-of_z at c.demerits-demerits.ensures.value))
