use Rattle.std.proofs.Common.{◌∙◌, ap, subst, ◌++◌}
use Rattle.tb_items.specs.Happenings.{events_of}
use Rattle.tb_rate.specs.RatingLines.{rating_lines}
use Rattle.tb_top.specs.declared.View.TheVariants as views
use Rattle.tb_top.specs.Report.{all_lines, event_lines}
use Rattle.tb_top.specs.Views.{Shows}
use Rattle.tb_top.proofs.rated_pages.send.Goals as goal

pub returns-clause-shown : goal.returns-clause-shown
returns-clause-shown g c =
    let lines = all_lines event_lines (events_of c.args.store.now c.args.happened.now) in
    let text = c.as_slice.ensures.value ∙ c.in_ok-put_rated.ensures ∙ ap (λ ls. ls ++ rating_lines c.args.rating) (c.in_ok-put_reports.ensures ∙ ap (λ ls. ls ++ lines) c.clear.ensures.items) in
    subst (λ ls. Shows views.Report (g.K.Sink.held c.args.out.now) (g.K.Sink.held c.show.new.out) (g.K.Sink.faults c.args.out.now) (g.K.Sink.faults c.show.new.out) ls c.show.result) text c.show.ensures
