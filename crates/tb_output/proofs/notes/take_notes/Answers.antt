use Rattle.std.proofs.Common.{◌≡◌, ◌+◌, ◌<◌, ◌≤◌, ◌∙◌, ap, sym, subst, length, get_or, ◌++◌, append-nil, arith}
use Rattle.std.specs.Prelude.{option_to_list}
use Rattle.tb_output.specs.Notes.{boxes_held}
use Rattle.tb_output.proofs.Firings.ClassesTaken.{TakenSoFar, none-so-far, so-far-awaits, so-far-known, so-far-next, all-taken}
use Rattle.tb_output.proofs.Firings.ReadingLemmas.{past}
use Rattle.tb_output.proofs.notes.take_notes.Goals as goal
use Rattle.tb_output.proofs.notes.take_notes.Goals.{in-Some+in_ok-push, in_default}

pub loop-class-init : goal.loop-class-init
loop-class-init c = subst (λ ns. TakenSoFar c.args.classes.now 0 ns c.args.b.now c.args.b.now c.args.store.now c.args.store.now) (sym c.requires.none) (none-so-far c.args.classes.now c.args.b.now c.args.store.now c.requires.sound)

pub take_class-requires-clause-awaits : goal.take_class-requires-clause-awaits
take_class-requires-clause-awaits c =
    let same = c.deref-class-items.ensures.value ∙ c.classes.view_is in
    let lt : c.loop-class.class-index < length c.args.classes.now = let n = ap length same in omega (arith, n) in
    so-far-awaits c.args.classes.now c.loop-class.class-index (get_or c.deref-class-items.result.now c.loop-class.class-index past) past (boxes_held c.loop-class.notes) c.args.b.now c.loop-class.b c.args.store.now c.loop-class.store lt
    (ap (λ xs. get_or xs c.loop-class.class-index past) same) c.loop-class.invariant c.requires.awaits

pub take_class-requires-clause-known : goal.take_class-requires-clause-known
take_class-requires-clause-known c =
    let same = c.deref-class-items.ensures.value ∙ c.classes.view_is in
    let lt : c.loop-class.class-index < length c.args.classes.now = let n = ap length same in omega (arith, n) in
    so-far-known c.args.classes.now c.loop-class.class-index (get_or c.deref-class-items.result.now c.loop-class.class-index past) past (boxes_held c.loop-class.notes) c.args.b.now c.loop-class.b c.args.store.now c.loop-class.store lt
    (ap (λ xs. get_or xs c.loop-class.class-index past) same) c.loop-class.invariant c.requires.known

pub loop-class-preserved : goal.loop-class-preserved
loop-class-preserved c =
    let same = c.deref-class-items.ensures.value ∙ c.classes.view_is in
    let lt : c.loop-class.class-index < length c.args.classes.now = let n = ap length same in omega (arith, n) in
    let own = option_to_list c.in_ok-note.field-0 in
    let next = so-far-next c.args.classes.now c.loop-class.class-index (get_or c.deref-class-items.result.now c.loop-class.class-index past) past (boxes_held c.loop-class.notes) c.args.b.now c.loop-class.b c.args.store.now c.loop-class.store lt
    (ap (λ xs. get_or xs c.loop-class.class-index past) same) c.loop-class.invariant own c.take_class.new.b c.take_class.new.store c.requires.classes c.in_ok-note.ensures.taken c.in_ok-note.ensures.sound c.in_ok-note.ensures.frame in
    subst (λ ns. TakenSoFar c.args.classes.now (c.loop-class.class-index + 1) ns c.args.b.now c.take_class.new.b c.args.store.now c.take_class.new.store)
    (elim c.match-branch-2.branch as (λ x. boxes_held c.loop-class.notes ++ own ≡ boxes_held c.match-branch-2.notes) [ in-Some+in_ok-push w ↦ rw (w.in-Some.is, w.notes-is) (sym w.in_ok-push.ensures) | in_default w ↦ rw (w.in_default.is, w.notes-is) (append-nil (boxes_held c.loop-class.notes)) ]) next

pub returns-clause-taken : goal.returns-clause-taken
returns-clause-taken c =
    let same = c.deref-class-items.ensures.value ∙ c.classes.view_is in
    let whole : length c.args.classes.now ≤ c.loop-class.class-index = let n = ap length same in omega (arith, n) in
    all-taken c.args.classes.now c.loop-class.class-index (boxes_held c.loop-class.notes) c.args.b.now c.loop-class.b c.args.store.now c.loop-class.store whole c.requires.classes c.requires.known c.requires.sized c.requires.few c.loop-class.invariant
