-- A walk over the floats that wait, from one that is the first of its class in their list to the next such one.
use Rattle.std.proofs.Common.{◌≡◌, ℕ, suc, ◌+◌, ◌<◌, ◌≤◌, List, ◌∷◌, length, take, drop, drop-cons, add-one, slice_index_or, refl, sym, ap, ◌∙◌, arith}
use Rattle.std.proofs.lemmas.List.{drop_all}
use Rattle.std.proofs.lemmas.Option.{slice_get_within}
use Rattle.tb_node.specs.declared.Float.{Float}
use Rattle.tb_float.specs.declared.Part.{Part}
use Rattle.tb_float.specs.declared.firsts.First.{First}
use Rattle.tb_float.specs.Classes.{AreOfClasses}
use Rattle.tb_float.specs.Firsts.{firsts_of, firsts_from}
use Rattle.tb_float.specs.Lists.{FloatLists, floats_of}
use Rattle.tb_float.proofs.FirstLemmas.{NextFirst, next-first, no-first}
use Rattle.tb_area.specs.declared.deferred.Kept.{Kept}
use Rattle.tb_area.specs.DeferredWalk.{GoesOn}
use Rattle.tb_area.proofs.FullLemmas.{Walk, Stays, all-behind}
use Rattle.tb_area.proofs.DeferredWalks.{way-passed}

-- of the first floats of their class, those from this one on are behind the first k floats of the list
abbrev pub AreBehind : List First → ℕ → List Float → ℕ → Type 0
AreBehind firsts i fs k = drop i firsts ≡ firsts_from (take k fs) (drop k fs)

pub behind-start : (firsts : List First) (fs : List Float) (k : ℕ) → firsts ≡ firsts_of fs → k ≡ 0 → AreBehind firsts 0 fs k
behind-start firsts fs k are none = are ∙ ap (λ n. firsts_from (take n fs) (drop n fs)) (sym none)

pub first-at : (firsts : List First) (i : ℕ) (fs : List Float) (k : ℕ) (x : First) → i < length firsts → x ≡ slice_index_or firsts i x → AreBehind firsts i fs k → NextFirst fs k x (drop (i + 1) firsts)
first-at firsts i fs k x lt is behind =
    next-first fs k (drop k fs) x (drop (i + 1) firsts) refl (sym behind ∙ drop-cons firsts i x lt ∙ (λ j. sym is j ∷ drop (sym (add-one i) j) firsts))

-- the others are behind it
pub behind-next : (firsts : List First) (i : ℕ) (fs : List Float) (k n : ℕ) (x : First) → n ≡ x.place + 1 → NextFirst fs k x (drop (i + 1) firsts) → AreBehind firsts (i + 1) fs n
behind-next firsts i fs k n x one next =
    let at : suc x.place ≡ n = omega (arith, one) in
    next.later ∙ ap (λ m. firsts_from (take m fs) (drop m fs)) at

-- if none is left, all floats are of classes that come before
pub behind-last : (firsts : List First) (i : ℕ) (fs : List Float) (k : ℕ) → length firsts ≤ i → AreBehind firsts i fs k → AreOfClasses (take k fs) fs
behind-last firsts i fs k past behind = all-behind k fs (no-first (take k fs) (drop k fs) (sym behind ∙ drop_all i firsts past))

-- the walk goes on there
pub way-first : (from : Part) (walk : Walk) (w : Kept) (l : FloatLists) (x : First) (xs : List First) → Stays walk l → NextFirst (floats_of from l) w.count x xs → GoesOn from walk l w (record w { count = x.place })
way-first from walk w l x xs stays next =
    way-passed from walk w (record w { count = x.place }) l stays next.within (omega (arith, slice_get_within (floats_of from l) x.place x.float next.there)) refl next.passed
