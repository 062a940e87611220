use Rattle.std.proofs.Common.{◌≡◌, ◌+◌, ◌≤◌, ◌++◌, sym, subst, arith}
use Rattle.tb_pool.specs.Lists.{list_at}
use Rattle.tb_column.specs.declared.Standing.TheVariants as standings
use Rattle.tb_column.specs.Notes.{AreApart, boxes_at, boxes_among}
use Rattle.tb_column.specs.ColumnChanges.{AreJoined}
use Rattle.tb_column.specs.TextColumns.{above_count, notes_list}
use Rattle.tb_column.proofs.NoteLemmas.{above_count-append}
use Rattle.tb_column.proofs.StandingLemmas.{first-apart, second-apart, second-text, second-joined}
use Rattle.tb_column.proofs.notes.join_notes.Goals as goal

pub join_standing-requires-clause-notes : goal.join_standing-requires-clause-notes
join_standing-requires-clause-notes c =
    let can = subst (λ t. AreApart c.args.store.now c.args.body (boxes_among t c.args.notes.now)) c.if-feet.true c.requires.notes in
    first-apart c.args.body (boxes_at standings.Feet c.args.notes.now) (boxes_at standings.Below c.args.notes.now) c.args.store.now can

pub join_standing-requires-clause-room : goal.join_standing-requires-clause-room
join_standing-requires-clause-room c =
    let room = subst (λ t. above_count (boxes_among t c.args.notes.now) ≤ c.args.store.now.spare) c.if-feet.true c.requires.room in
    omega (arith, room, above_count-append (boxes_at standings.Feet c.args.notes.now) (boxes_at standings.Below c.args.notes.now))

pub join_standing-requires-then-feet-clause-notes : goal.join_standing-requires-then-feet-clause-notes
join_standing-requires-then-feet-clause-notes c =
    let can = subst (λ t. AreApart c.args.store.now c.args.body (boxes_among t c.args.notes.now)) c.if-feet.true c.requires.notes in
    second-apart c.args.body (boxes_at standings.Feet c.args.notes.now) (boxes_at standings.Below c.args.notes.now) c.args.store.now can c.join_standing.new.store c.join_standing.ensures.lists

pub join_standing-requires-then-feet-clause-room : goal.join_standing-requires-then-feet-clause-room
join_standing-requires-then-feet-clause-room c =
    let room = subst (λ t. above_count (boxes_among t c.args.notes.now) ≤ c.args.store.now.spare) c.if-feet.true c.requires.room in
    omega (arith, room, c.join_standing.ensures.spare, above_count-append (boxes_at standings.Feet c.args.notes.now) (boxes_at standings.Below c.args.notes.now))

pub returns-then-feet-clause-text : goal.returns-then-feet-clause-text
returns-then-feet-clause-text c =
    let can = subst (λ t. AreApart c.args.store.now c.args.body (boxes_among t c.args.notes.now)) c.if-feet.true c.requires.notes in
    subst (λ t. list_at c.join_standing-then-feet.new.store c.args.body ≡ list_at c.args.store.now c.args.body ++ notes_list c.args.p.now c.args.kern c.args.store.now (boxes_among t c.args.notes.now)) (sym c.if-feet.true)
    (second-text c.args.body (boxes_at standings.Feet c.args.notes.now) (boxes_at standings.Below c.args.notes.now) c.args.store.now can c.join_standing.new.store c.join_standing.ensures.lists c.join_standing-then-feet.new.store c.args.p.now c.args.kern
    c.join_standing.ensures.text c.join_standing-then-feet.ensures.text)

pub returns-then-feet-clause-lists : goal.returns-then-feet-clause-lists
returns-then-feet-clause-lists c =
    let can = subst (λ t. AreApart c.args.store.now c.args.body (boxes_among t c.args.notes.now)) c.if-feet.true c.requires.notes in
    subst (λ t. AreJoined c.args.body (boxes_among t c.args.notes.now) c.args.store.now c.join_standing-then-feet.new.store) (sym c.if-feet.true)
    (second-joined c.args.body (boxes_at standings.Feet c.args.notes.now) (boxes_at standings.Below c.args.notes.now) c.args.store.now can c.join_standing.new.store c.join_standing.ensures.lists c.join_standing-then-feet.new.store c.join_standing-then-feet.ensures.lists)

pub returns-then-feet-clause-spare : goal.returns-then-feet-clause-spare
returns-then-feet-clause-spare c =
    subst (λ t. c.args.store.now.spare ≤ c.join_standing-then-feet.new.store.spare + above_count (boxes_among t c.args.notes.now)) (sym c.if-feet.true)
    (omega (arith, c.join_standing.ensures.spare, c.join_standing-then-feet.ensures.spare, above_count-append (boxes_at standings.Feet c.args.notes.now) (boxes_at standings.Below c.args.notes.now)))
