use Rattle.std.proofs.Common.{◌≡◌, ◌∙◌, List, ℕ, Result, Ok, Err, append_assoc, if◌then◌else◌}
use Rattle.std.specs.Prelude.{OnOk, is_ok}
use Rattle.tb_top.proofs.refusal.put_unsuited.Goals as goal

when_ok : {T E : Type 0} (r : Result T E) (new appended kept wanted : List ℕ) → new ≡ (if is_ok r then appended else kept) → appended ≡ wanted → OnOk r (new ≡ wanted)
when_ok (Ok v) new appended kept wanted h is = h ∙ is
when_ok (Err e) new appended kept wanted h is = tt

pub returns : goal.returns
returns c =
    when_ok c.extend_from_slice.result _ _ _ _ (rw (c.in_ok-put_counted.ensures) at c.extend_from_slice.ensures.items)
    (simp (append_assoc, c.from.ensures))
