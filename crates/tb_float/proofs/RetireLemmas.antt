-- For a caller that retires the marked floats one by one: the pool once they have left is the same before and after each.
use Rattle.std.proofs.Common.{◌≡◌, ℕ, suc, Bool, true, false, List, [], ◌∷◌, length, replicate, refl, sym, ap, ◌∙◌, arith}
use Rattle.std.specs.Prelude.{if◌then◌else◌}
use Rattle.tb_node.specs.declared.Float.{Float}
use Rattle.tb_float.specs.declared.Part.{Part}
use Rattle.tb_float.specs.Lists.{IsWaiting, floats_of, with_floats_of}
use Rattle.tb_float.specs.Pool.{FloatPool, marks_of, with_marks_of, with_contents, without_entry, marked_among, marked_floats, unmarked_floats}
use Rattle.tb_float.specs.MarkedFloats.{without_marked}
use Rattle.tb_float.proofs.WaitingLemmas.{with-floats-same, with-marks-same, contents-again, contents-waiting}

no-marks : (ms : List Bool) (fs : List Float) → length ms ≡ length fs → marked_among ms fs ≡ [] → ms ≡ replicate (length fs) false
no-marks [] [] many none = refl
no-marks [] (f ∷ fs) many none = absurd (omega arith)
no-marks (m ∷ ms) [] many none = absurd (omega arith)
no-marks (m ∷ ms) (f ∷ fs) many none = by_mark m (λ h. no-marks ms fs (omega arith) h) none
  where
    by_mark : (b : Bool) → (marked_among ms fs ≡ [] → ms ≡ replicate (length fs) false) → (if b then f ∷ marked_among ms fs else marked_among ms fs) ≡ [] → (b ∷ ms) ≡ replicate (suc (length fs)) false
    by_mark true ih h = cc
    by_mark false ih h = ap (λ bs. false ∷ bs) (ih h)

-- one float left, and it was marked
pub one-left : (from : Part) (v w : FloatPool) (k : ℕ) → IsWaiting from → w ≡ without_entry from k v → unmarked_floats from w ≡ unmarked_floats from v → without_marked from w ≡ without_marked from v
one-left from v w k waits is same =
    let left = unmarked_floats from w in
    let ms = replicate (length left) false in
    sym (contents-waiting from waits [] left ms w) ∙ ap (with_contents from [] left ms) is ∙ contents-again from [] _ left _ ms _ v ∙ contents-waiting from waits [] left ms v
    ∙ ap (λ fs. with_marks_of from (replicate (length fs) false) (record v { lists = with_floats_of from fs v.lists })) same

-- none is marked any more
pub all-left : (from : Part) (v : FloatPool) → IsWaiting from → length (marks_of from v) ≡ length (floats_of from v.lists) → marked_floats from v ≡ [] → unmarked_floats from v ≡ floats_of from v.lists → without_marked from v ≡ v
all-left from v waits many none same =
    let marks = no-marks (marks_of from v) (floats_of from v.lists) many none in
    ap (λ fs. with_marks_of from (replicate (length fs) false) (record v { lists = with_floats_of from fs v.lists })) same
    ∙ (λ i. with_marks_of from (sym marks i) (record v { lists = with-floats-same from waits v.lists i }))
    ∙ with-marks-same from v
