use Rattle.std.proofs.Common.{option_copied, ◌≡◌, ℕ, List, ◌∙◌, refl, sym, ap, ◌∷◌, map}
use Rattle.std.specs.Prelude.{slice_set}
use Rattle.tb_pool.specs.Lists.{list_at, with_list}
use Rattle.tb_node.specs.PlainNodes.{plain_of}
use Rattle.tb_break.proofs.StoreLemmas.{none_first}
use Rattle.tb_pool.proofs.CallerLemmas.{with_list-same}
use Rattle.tb_builder.specs.FiredPages.{line_at, penalty_at}
use Rattle.tb_builder.specs.Firing.{spent_nodes}
use Rattle.tb_builder.proofs.Turns.FillLemmas.{first_is}
use Rattle.tb_node.specs.declared.Node.{Node}
use Rattle.tb_builder.proofs.firing.spend_break.Goals.{After-break_at-at}
use Rattle.tb_builder.proofs.firing.spend_break.Goals as goal

pub returns-in_default-clause-spent : goal.returns-in_default-clause-spent
returns-in_default-clause-spent c =
    let s = c.args.store.now in
    let empty = none_first (list_at s c.args.l) (ap option_copied (sym c.in_default.is) ∙ c.first_in.ensures) in
    with_list-same s s c.args.l c.requires refl ∙ ap (with_list s c.args.l) (empty ∙ sym (ap spent_nodes empty))

pub returns-in_default-clause-line : goal.returns-in_default-clause-line
returns-in_default-clause-line c = λ held.
    sym (ap (λ ns. line_at (map (plain_of held) ns)) (none_first (list_at c.args.store.now c.args.l) (ap option_copied (sym c.in_default.is) ∙ c.first_in.ensures)))

pub returns-in_default-clause-penalty : goal.returns-in_default-clause-penalty
returns-in_default-clause-penalty c = λ held.
    sym (ap (λ ns. penalty_at (map (plain_of held) ns)) (none_first (list_at c.args.store.now c.args.l) (ap option_copied (sym c.in_default.is) ∙ c.first_in.ensures)))

pub returns-then-is_penalty-clause-spent : goal.returns-then-is_penalty-clause-spent
returns-then-is_penalty-clause-spent c =
    let s = c.args.store.now in
    let l = c.args.l in
    let f = first_is (list_at s l) c.in-Some.n.now (sym c.in-Some.ensures) in
    c.replace.ensures.after
    ∙ ap (λ xs. with_list s l (slice_set xs 0 c.spent-spent.result)) f.1
    ∙ ap (λ m. with_list s l (slice_set (c.in-Some.n.now ∷ f.0) 0 m)) c.spent-spent.ensures
    ∙ ap (λ xs. with_list s l (spent_nodes xs)) (sym f.1)

pub returns-else-is_penalty-clause-spent : goal.returns-else-is_penalty-clause-spent
returns-else-is_penalty-clause-spent c =
    let s = c.args.store.now in
    let l = c.args.l in
    let n = c.in-Some.n.now in
    let f = first_is (list_at s l) n (sym c.in-Some.ensures) in
    let same = c.is_penalty.ensures c.if-is_penalty.false in
    with_list-same s s l c.requires refl
    ∙ ap (with_list s l) (f.1 ∙ (λ i. record { line = n.line; kind = sym same i } ∷ f.0) ∙ sym (ap spent_nodes f.1))

-- the line and the penalty of the break
line_told : (c : After-break_at-at) (held : ℕ → List Node) → c.break_at-at.result.line ≡ line_at (map (plain_of held) (list_at c.args.store.now c.args.l))
line_told c held =
    let f = first_is (list_at c.args.store.now c.args.l) c.in-Some.n.now (sym c.in-Some.ensures) in
    c.break_at-at.ensures.line ∙ sym (ap (λ ns. line_at (map (plain_of held) ns)) f.1)

penalty_told : (c : After-break_at-at) (held : ℕ → List Node) → c.break_at-at.result.penalty ≡ penalty_at (map (plain_of held) (list_at c.args.store.now c.args.l))
penalty_told c held =
    let f = first_is (list_at c.args.store.now c.args.l) c.in-Some.n.now (sym c.in-Some.ensures) in
    c.break_at-at.ensures.penalty held f.0 ∙ sym (ap (λ ns. penalty_at (map (plain_of held) ns)) f.1)

pub returns-then-is_penalty-clause-line : goal.returns-then-is_penalty-clause-line
returns-then-is_penalty-clause-line c = line_told (goal.at.returns-then-is_penalty-clause-line c).After-break_at-at

pub returns-then-is_penalty-clause-penalty : goal.returns-then-is_penalty-clause-penalty
returns-then-is_penalty-clause-penalty c = penalty_told (goal.at.returns-then-is_penalty-clause-penalty c).After-break_at-at

pub returns-else-is_penalty-clause-line : goal.returns-else-is_penalty-clause-line
returns-else-is_penalty-clause-line c = line_told (goal.at.returns-else-is_penalty-clause-line c).After-break_at-at

pub returns-else-is_penalty-clause-penalty : goal.returns-else-is_penalty-clause-penalty
returns-else-is_penalty-clause-penalty c = penalty_told (goal.at.returns-else-is_penalty-clause-penalty c).After-break_at-at
