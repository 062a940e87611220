use Rattle.std.proofs.Common.{refl, ap, sym, ◌∙◌}
use Rattle.tb_pool.specs.Lists.{list_at}
use Rattle.tb_output.specs.Machine.{MachineView}
use Rattle.tb_output.proofs.SameLemmas.{same_pages, told_pages}
use Rattle.tb_output.proofs.Machine.shows_same.Goals as goal

pub returns-then-not-numbers_same : goal.returns-then-not-numbers_same
returns-then-not-numbers_same c =
    (λ never. cc, λ same. c.if-not-numbers_same.ensures.1 (same.goal, same.note_bottom, same.shrink))

pub returns-then-not-flags_same : goal.returns-then-not-flags_same
returns-then-not-flags_same c =
    (λ never. cc, λ same. c.if-not-flags_same.ensures.1 (same.two_columns, same.first_column, same.suppress))

pub returns-then-not-holds_same : goal.returns-then-not-holds_same
returns-then-not-holds_same c = (
  λ never. cc,
  λ same. c.if-not-holds_same.ensures.1 (ap (λ (v : MachineView). v.pool.lists) c.self.view_is ∙ same.floats ∙ ap (λ (v : MachineView). v.pool.lists) (sym c.other.view_is)),
)

pub returns-then-not-same_lists : goal.returns-then-not-same_lists
returns-then-not-same_lists c =
    let s = c.args.store.now in
    let t = c.args.other_store.now in (
      λ never. cc,
      λ same. c.if-not-same_lists.ensures.1
          (ap (λ (v : MachineView). list_at s v.held_page) c.self.view_is
          ∙ told_pages s t c.args.self.now.held_page c.args.other.now.held_page c.requires.machine.held_page c.requires.other_machine.held_page same.held_page
          ∙ ap (λ (v : MachineView). list_at t v.held_page) (sym c.other.view_is)),
    )

pub returns : goal.returns
returns c =
    let numbers = c.if-not-numbers_same.ensures.0 refl in
    let flags = c.if-not-flags_same.ensures.0 refl in
    let s = c.args.store.now in
    let t = c.args.other_store.now in (
      λ yes. record {
        params = ap (λ (v : MachineView). v.params) (sym c.self.view_is) ∙ c.is_same.ensures.0 yes ∙ ap (λ (v : MachineView). v.params) c.other.view_is;
        held_page = same_pages s t c.args.self.now.held_page c.args.other.now.held_page c.requires.machine.held_page c.requires.other_machine.held_page
            (ap (λ (v : MachineView). list_at s v.held_page) (sym c.self.view_is) ∙ c.if-not-same_lists.ensures.0 refl ∙ ap (λ (v : MachineView). list_at t v.held_page) c.other.view_is);
        floats = ap (λ (v : MachineView). v.pool.lists) (sym c.self.view_is) ∙ c.if-not-holds_same.ensures.0 refl ∙ ap (λ (v : MachineView). v.pool.lists) c.other.view_is;
        goal = numbers.0;
        two_columns = flags.0;
        first_column = flags.1;
        note_bottom = numbers.1;
        shrink = numbers.2;
        suppress = flags.2;
      },
      λ same. c.is_same.ensures.1 (ap (λ (v : MachineView). v.params) c.self.view_is ∙ same.params ∙ ap (λ (v : MachineView). v.params) (sym c.other.view_is)),
    )
