use Rattle.std.proofs.Common.{◌∙◌, ap, FitsSigned, w64, rules}
use Rattle.std.specs.Prelude.{nat_abs}
use Rattle.std.proofs.lemmas.Int.{to_z-of_z, ints}
use Rattle.tb_output.specs.Machine.{first_view}
use Rattle.tb_output.proofs.state.with_held_page.Goals as goal

pub returns : goal.returns
returns c =
    let height : FitsSigned w64 c.args.p.now.textheight = search (rules, ints, c.requires.columns.floats.textheight) in
    let size = ap nat_abs c.pool_size-size.ensures.size in
    simp to_z-of_z (λ i. record (first_view c.args.p.now c.args.classes.now c.args.held_page) {
      classes = c.in_ok-known.ensures i;
      suppress = c.no_suppress.ensures i;
      pool = (c.in_ok-pool.ensures ∙ (λ j. record (first_view c.args.p.now c.args.classes.now c.args.held_page).pool { size = size j })) i;
      events = (c.in_ok-events.ensures i).sent;
    })
