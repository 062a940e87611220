use Rattle.std.proofs.Common.{subst}
use Rattle.std.proofs.lemmas.Result.{IfOk-weaker}
use Rattle.tb_makeup.specs.MakeupPages.{Fills, IsFiring, IsOver}
use Rattle.tb_makeup.proofs.Turns.TurnLemmas.{TurnsTo, fired-tries, fired-plain, fired-few, fired-void, fired-bounded, fired-limit, fired-turns, over-waiting, over-turns}
use Rattle.tb_makeup.proofs.makeup.Makeup.turn.Goals as goal

pub ship-requires : goal.ship-requires
ship-requires c =
    let h : IsFiring c.args.wanted c.args.self.now c.in-Some.page c.fill.new.self c.fill.new.happened.items = subst (λ x. Fills c.args.wanted c.args.self.now x c.fill.new.self c.fill.new.happened.items) c.in-Some.is c.in_ok-page.ensures in
    record {
      plain = fired-plain c.args.wanted c.args.self.now c.fill.new.self c.in-Some.page c.fill.new.happened.items c.requires h;
      can = h.can;
      few = fired-few c.args.wanted c.args.self.now c.fill.new.self c.in-Some.page c.fill.new.happened.items c.requires h;
      void = fired-void c.args.wanted c.args.self.now c.fill.new.self c.in-Some.page c.fill.new.happened.items c.requires h;
      bounded = fired-bounded c.args.wanted c.args.self.now c.fill.new.self c.in-Some.page c.fill.new.happened.items c.requires h;
      limit = fired-limit c.args.wanted c.args.self.now c.fill.new.self c.in-Some.page c.fill.new.happened.items c.requires h;
      tries = fired-tries c.args.wanted c.args.self.now c.fill.new.self c.in-Some.page c.fill.new.happened.items c.requires h;
    }

pub returns-in-Some : goal.returns-in-Some
returns-in-Some c =
    let h : IsFiring c.args.wanted c.args.self.now c.in-Some.page c.fill.new.self c.fill.new.happened.items = subst (λ x. Fills c.args.wanted c.args.self.now x c.fill.new.self c.fill.new.happened.items) c.in-Some.is c.in_ok-page.ensures in
    let all =
    IfOk-weaker c.ship.result _ (λ o. TurnsTo c.args.wanted c.args.self.now c.ship.new.happened.items o c.ship.new.self) (fired-turns c.args.wanted c.args.self.now c.fill.new.self c.ship.new.self c.in-Some.page c.fill.new.happened.items c.ship.new.happened.items c.requires h)
    c.ship.ensures in
    record {
      turned = IfOk-weaker c.ship.result _ _ (λ o x. x.turned) all;
      ready = IfOk-weaker c.ship.result _ _ (λ o x. x.ready) all;
      params = IfOk-weaker c.ship.result _ _ (λ o x. x.params) all;
      live = IfOk-weaker c.ship.result _ _ (λ o x. x.live) all;
      pages = IfOk-weaker c.ship.result _ _ (λ o x. x.pages) all;
      lists = IfOk-weaker c.ship.result _ _ (λ o x. x.lists) all;
    }

pub finish-requires : goal.finish-requires
finish-requires c =
    let h : IsOver c.args.wanted c.args.self.now c.fill.new.self c.fill.new.happened.items = subst (λ x. Fills c.args.wanted c.args.self.now x c.fill.new.self c.fill.new.happened.items) c.in-None.is c.in_ok-page.ensures in
    record { sound = h.sound; over = over-waiting c.args.wanted c.args.self.now c.fill.new.self c.fill.new.happened.items h }

pub returns-in-None : goal.returns-in-None
returns-in-None c =
    let h : IsOver c.args.wanted c.args.self.now c.fill.new.self c.fill.new.happened.items = subst (λ x. Fills c.args.wanted c.args.self.now x c.fill.new.self c.fill.new.happened.items) c.in-None.is c.in_ok-page.ensures in
    let all =
    IfOk-weaker c.finish.result _ (λ o. TurnsTo c.args.wanted c.args.self.now c.fill.new.happened.items o c.finish.new.self) (over-turns c.args.wanted c.args.self.now c.fill.new.self c.finish.new.self c.fill.new.happened.items c.requires h)
    c.finish.ensures in
    record {
      turned = IfOk-weaker c.finish.result _ _ (λ o x. x.turned) all;
      ready = IfOk-weaker c.finish.result _ _ (λ o x. x.ready) all;
      params = IfOk-weaker c.finish.result _ _ (λ o x. x.params) all;
      live = IfOk-weaker c.finish.result _ _ (λ o x. x.live) all;
      pages = IfOk-weaker c.finish.result _ _ (λ o x. x.pages) all;
      lists = IfOk-weaker c.finish.result _ _ (λ o x. x.lists) all;
    }
