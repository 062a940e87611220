use Rattle.std.proofs.Common.{◌≡◌, ◌+◌, ◌<◌, sym, ap, subst, ◌∙◌, ◌++◌, ◌∷◌, [], append-nil, length, take, IsSome, true, arith}
use Rattle.std.specs.Prelude.{if◌then◌else◌}
use Rattle.tb_pool.specs.Lists.{Lists}
use Rattle.tb_node.specs.declared.Node.{Node}
use Rattle.std.proofs.lemmas.List.{take_more}
use Rattle.tb_column.specs.declared.NoteBox.{NoteBox}
use Rattle.tb_column.specs.Column.{standing_of, is_at as at_place}
use Rattle.tb_column.specs.Notes.{boxes_at}
use Rattle.tb_column.proofs.NoteLemmas.{JoinedSoFar, IsTurn, next_turn, next_same, joined_begin, joined_go, at-more}
use Rattle.tb_column.proofs.notes.join_standing.Goals.{After-is_at, then-is_at, else-is_at}
use Rattle.tb_column.proofs.notes.join_standing.Goals as goal

pub loop-note-init : goal.loop-note-init
loop-note-init c = joined_begin c.args.p.now c.args.kern c.args.body c.args.store.now c.requires.live

turn : (c : After-is_at) → c.is_at.result ≡ true
    → IsTurn c.args.store.now c.args.body (boxes_at c.args.standing (take c.loop-note.note-index c.args.notes.now)) c.note-item.result (boxes_at c.args.standing c.args.notes.now)
turn c e =
    let lt : c.loop-note.note-index < length c.args.notes.now = omega arith in
    let there : at_place c.args.standing (standing_of c.note-item.result.class c.note-item.result.below) ≡ true = sym c.is_at.ensures ∙ e in
    next_turn c.args.store.now c.args.body c.args.standing c.args.notes.now c.loop-note.note-index c.note-item.result c.requires.notes lt c.note-item.is there

pub join_class-requires-clause-note : goal.join_class-requires-clause-note
join_class-requires-clause-note c =
    let t = turn (goal.at.join_class-requires-clause-note c).After-is_at c.if-is_at.true in
    subst (λ o. IsSome o) (sym (next_same c.args.p.now c.args.kern c.args.body c.args.store.now (boxes_at c.args.standing (take c.loop-note.note-index c.args.notes.now)) c.note-item.result c.loop-note.store t.next c.loop-note.invariant)) t.live

pub join_class-requires-clause-apart : goal.join_class-requires-clause-apart
join_class-requires-clause-apart c = let t = turn (goal.at.join_class-requires-clause-apart c).After-is_at c.if-is_at.true in λ e. t.next.text (sym e)

pub join_class-requires-clause-room : goal.join_class-requires-clause-room
join_class-requires-clause-room c = let t = turn (goal.at.join_class-requires-clause-room c).After-is_at c.if-is_at.true in omega (arith, t.room, c.loop-note.invariant.spare, c.requires.room)

-- those among the first classes and the next one
next : (c : goal.Joined-is_at) → boxes_at c.args.standing (take (c.loop-note.note-index + 1) c.args.notes.now) ≡ boxes_at c.args.standing (take c.loop-note.note-index c.args.notes.now) ++ (if c.is_at.result then c.note-item.result ∷ [] else [])
next c =
    let i = c.loop-note.note-index in
    let ns = c.args.notes.now in
    let lt : i < length ns = omega arith in
    ap (boxes_at c.args.standing) (take_more ns i c.note-item.result lt ∙ ap (λ (m : NoteBox). take i ns ++ m ∷ []) (sym c.note-item.is))
    ∙ at-more c.args.standing c.is_at.result (take i ns) c.note-item.result (sym c.is_at.ensures)

pub loop-note-preserved : goal.loop-note-preserved
loop-note-preserved c =
    let done = boxes_at c.args.standing (take c.loop-note.note-index c.args.notes.now) in
    let n = c.note-item.result in
    let taken = next c in
    elim c.if-is_at.branch [
      | then-is_at w ↦
          let t = turn (goal.at.loop-note-preserved c).After-is_at w.if-is_at.true in
          let more = taken ∙ ap (λ b. done ++ (if b then n ∷ [] else [])) w.if-is_at.true in
          let go = joined_go c.args.p.now c.args.kern c.args.body c.args.store.now done n c.loop-note.store w.join_class.new.store t.next c.loop-note.invariant w.join_class.ensures.lists w.join_class.ensures.spare in
          subst (λ (s : Lists Node). JoinedSoFar c.args.p.now c.args.kern c.args.body c.args.store.now (boxes_at c.args.standing (take (c.loop-note.note-index + 1) c.args.notes.now)) s) (sym w.store-is)
          (subst (λ ns. JoinedSoFar c.args.p.now c.args.kern c.args.body c.args.store.now ns w.join_class.new.store) (sym more) go)
      | else-is_at w ↦
          let more = taken ∙ ap (λ b. done ++ (if b then n ∷ [] else [])) w.if-is_at.false ∙ append-nil done in
          subst (λ (s : Lists Node). JoinedSoFar c.args.p.now c.args.kern c.args.body c.args.store.now (boxes_at c.args.standing (take (c.loop-note.note-index + 1) c.args.notes.now)) s) (sym w.store-is)
          (subst (λ ns. JoinedSoFar c.args.p.now c.args.kern c.args.body c.args.store.now ns c.loop-note.store) (sym more) c.loop-note.invariant)
    ]
