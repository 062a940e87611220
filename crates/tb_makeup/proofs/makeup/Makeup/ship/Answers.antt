use Rattle.std.proofs.Common.{refl, sym, subst, ◌∙◌, ◌++◌, ◌∷◌, []}
use Rattle.std.specs.Prelude.{IfNone}
use Rattle.tb_items.specs.declared.happenings.Happening.TheVariants as happenings
use Rattle.tb_makeup.specs.declared.makeup.Makeup.{Makeup}
use Rattle.tb_makeup.specs.Makeup.{state_of, IsBounded}
use Rattle.tb_makeup.specs.MakeupPages.{Ships}
use Rattle.tb_makeup.proofs.Shipping.ShipLemmas.{still-awaits, waiting-few, boxes-void, page-none, still-bounded, ships, same-sound}
use Rattle.tb_makeup.proofs.makeup.Makeup.ship.Goals as goal

pub put_back-requires-clause-awaits : goal.put_back-requires-clause-awaits
put_back-requires-clause-awaits c = still-awaits c.args.self.now c.args.page c.in-Ok.made c.fire.new.self c.fire.new.b c.fire.new.store c.requires.can c.in-Ok.ensures.fires

pub limit_after_page-requires-clause-few : goal.limit_after_page-requires-clause-few
limit_after_page-requires-clause-few c =
    waiting-few c.args.self.now c.args.page c.in-Ok.made c.fire.new.self c.fire.new.b c.fire.new.store c.requires.can c.in-Ok.ensures.fires
    c.put_back.new.self c.put_back.ensures.sound c.put_back.ensures.contents c.put_back.ensures.others c.put_back.ensures.keeps c.put_back.ensures.plain c.put_back.ensures.ask c.put_back.ensures.limit c.put_back.ensures.left c.requires.few

pub limit_after_page-requires-clause-void : goal.limit_after_page-requires-clause-void
limit_after_page-requires-clause-void c =
    boxes-void c.args.self.now c.args.page c.in-Ok.made c.fire.new.self c.fire.new.b c.fire.new.store c.requires.can c.in-Ok.ensures.fires
    c.put_back.new.self c.put_back.ensures.sound c.put_back.ensures.contents c.put_back.ensures.others c.put_back.ensures.keeps c.put_back.ensures.plain c.put_back.ensures.ask c.put_back.ensures.limit c.put_back.ensures.left c.requires.void

pub limit_after_page-requires-clause-empty : goal.limit_after_page-requires-clause-empty
limit_after_page-requires-clause-empty c =
    page-none c.args.self.now c.args.page c.in-Ok.made c.fire.new.self c.fire.new.b c.fire.new.store c.requires.can c.in-Ok.ensures.fires
    c.put_back.new.self c.put_back.ensures.sound c.put_back.ensures.contents c.put_back.ensures.others c.put_back.ensures.keeps c.put_back.ensures.plain c.put_back.ensures.ask c.put_back.ensures.limit c.put_back.ensures.left

pub limit_after_page-requires-clause-bounded : goal.limit_after_page-requires-clause-bounded
limit_after_page-requires-clause-bounded c =
    still-bounded c.args.self.now c.args.page c.in-Ok.made c.fire.new.self c.fire.new.b c.fire.new.store c.requires.can c.in-Ok.ensures.fires
    c.put_back.new.self c.put_back.ensures.sound c.put_back.ensures.contents c.put_back.ensures.others c.put_back.ensures.keeps c.put_back.ensures.plain c.put_back.ensures.ask c.put_back.ensures.limit c.put_back.ensures.left c.put_back.ensures.bound c.requires.bounded

pub returns-in_ok-note_sent-in-Ok : goal.returns-in_ok-note_sent-in-Ok
returns-in_ok-note_sent-in-Ok c =
    subst (λ (x : Makeup). Ships c.args.page c.args.self.now c.limit_after_page.result x c.args.happened.now.items c.note_sent.new.happened.items) (sym c.limit_after_page.ensures.same)
    (ships c.args.self.now c.args.page c.in-Ok.made c.fire.new.self c.fire.new.b c.fire.new.store c.requires.can c.in-Ok.ensures.fires
    (record c.put_back.new.self { bound = c.limit_after_page.new.self.bound }) c.put_back.ensures.sound c.put_back.ensures.contents c.put_back.ensures.others c.put_back.ensures.keeps c.put_back.ensures.plain c.put_back.ensures.ask c.put_back.ensures.limit c.put_back.ensures.left
    c.args.happened.now.items c.note_sent.new.happened.items c.requires.tries (c.in_ok-note_sent-in-Ok.ensures ∙ (λ i. c.args.happened.now.items ++ happenings.Sent (c.sent_page.ensures i) ∷ []))
    c.limit_after_page.result
    (subst (λ (x : Makeup). IfNone c.limit_after_page.result (IsBounded 0 (state_of x) x.bound)) c.limit_after_page.ensures.same c.limit_after_page.ensures.bounded)
    c.limit_after_page.ensures.limit)

pub returns-in-Err-PageLimit : goal.returns-in-Err-PageLimit
returns-in-Err-PageLimit c =
    let refused = rw c.in-Err-PageLimit.field-0-is at c.in-Err-PageLimit.ensures.refused in
    record {
      over = refused.1;
      pages = refused.0;
      none = refl;
      sound = same-sound c.args.self.now.builder c.fire.new.b c.args.self.now.store c.fire.new.store c.requires.can.sound c.in-Err-PageLimit.ensures.err_builder c.in-Err-PageLimit.ensures.err_lists;
      plain = c.in-Err-PageLimit.ensures.err_same;
    }
