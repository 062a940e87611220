-- The rating of a page that a routine served last.
use Rattle.std.proofs.Common.{◌≡◌, refl, ap, ℕ, suc, ◌+◌, ◌≤◌, Bool, true, false, List, [], ◌∷◌, Option, None, Some, arith}
use Rattle.std.specs.Prelude.{ℤ, pos, ◌+ℤ◌, ◌*◌, int_lt, int_le, if◌then◌else◌}
use Rattle.tb_scaled.specs.Scaled.{eject_penalty}
use Rattle.tb_node.specs.PlainNodes.{PlainKind, plain, ins, act, PlainNode, is_insertion_kind}
use Rattle.tb_param.specs.declared.Params.{Params}
use Rattle.tb_builder.specs.declared.Try.{Try}
use Rattle.tb_builder.specs.Contents.{kind_count, node_count}
use Rattle.tb_run.specs.declared.routine.Routine.{Routine}
use Rattle.tb_run.specs.Routine.{state_of, IsReady}
use Rattle.tb_rate.specs.declared.PlacePenalty.{PlacePenalty}
use Rattle.tb_rate.specs.declared.Rating.{Rating}
use Rattle.tb_rate.specs.Places.{own_penalty}
use Rattle.tb_rate.specs.Rating.{rated_badness, base, with_penalty, rated, rating}
use Rattle.tb_rate.specs.RatedRun.{demerits_if, insertions_first}
use Rattle.tb_search.specs.Penalties.{line_of}

-- ---- the insertions that come first

kind-counted : (k : PlainKind) (m n : ℕ) → m ≤ n → (if is_insertion_kind k then suc m else 0) ≤ kind_count k + n
kind-counted (plain x) m n h = omega arith
kind-counted (ins i) m n h = omega (arith, h)
kind-counted (act a) m n h = omega arith

first-counted : (ns : List PlainNode) → insertions_first ns ≤ node_count ns
first-counted [] = omega arith
first-counted (n ∷ ns) = kind-counted n.kind (insertions_first ns) (node_count ns) (first-counted ns)

-- a routine that is ready has not too many of them
pub few-first : (r : Routine) → IsReady r → insertions_first (state_of r).waiting ≤ 4194304
few-first r ready =
    let a = first-counted (state_of r).waiting in
    let b = ready.settled.bounded.held in
    let c = ready.settled.bounded.few in
    omega (arith, a, b, c)

-- ---- places that have the same penalty on the line of a column

-- the rating of a column whose place has this penalty of its own
abbrev rated_by : Params → ℤ → ℕ → Try → ℕ → ℕ → Rating
rated_by p own page t waiting held =
    let b = rated_badness p t in
    let q = if int_le t.penalty eject_penalty then own else t.penalty in
    record { page = page; badness = b; penalty = q; waiting = waiting; held = held; demerits = with_penalty (base t b) q +ℤ pos (10000 * (waiting + held)) }

module _ (p : Params) (some all : List PlacePenalty) (page waiting held : ℕ) where
  pub rated-there : (t : Try) → own_penalty some t.line ≡ own_penalty all t.line → rated p some page t waiting held ≡ rated p all page t waiting held
  rated-there t same = ap (λ own. rated_by p own page t waiting held) same

  pub rating-there : (place : Option Try) → own_penalty some (line_of place) ≡ own_penalty all (line_of place) → rating p some page place waiting held ≡ rating p all page place waiting held
  rating-there None same = refl
  rating-there (Some t) same = ap (λ r. if int_lt t.penalty eject_penalty then None else Some r) (rated-there t same)

-- ---- the number of the page is not among the demerits

module _ (p : Params) (places : List PlacePenalty) (a b : ℕ) (waiting held : ℕ) where
  rated-any : (t : Try) (low : Bool) → demerits_if (if low then None else Some (rated p places a t waiting held)) ≡ demerits_if (if low then None else Some (rated p places b t waiting held))
  rated-any t true = refl
  rated-any t false = refl

  pub page-any : (place : Option Try) → demerits_if (rating p places a place waiting held) ≡ demerits_if (rating p places b place waiting held)
  page-any None = refl
  page-any (Some t) = rated-any t (int_lt t.penalty eject_penalty)
