use Rattle.std.proofs.Common.{◌≡◌, refl, sym, subst, ◌∙◌, Bool, true, false, None, Some, if◌then◌else◌}
use Rattle.std.specs.Bool.{then_some}
use Rattle.tb_items.specs.declared.items_left.ItemsLeft.{ItemsLeft}
use Rattle.tb_items.specs.ItemsLeft.{IsHandedNext}
use Rattle.tb_items.proofs.items_left.ItemsLeft.hand_next.Goals as goal

then_some-is : (more : Bool) (rest : ItemsLeft) → (if more then Some rest else None) ≡ then_some more rest
then_some-is true rest = refl
then_some-is false rest = refl

pub returns : goal.returns
returns c =
    subst (λ rest. IsHandedNext c.args.self.now rest c.args.builder.now c.args.store.now c.hand_on.new.builder c.hand_on.new.store)
    (then_some-is c.in_ok-more.more c.hand_on.new.self ∙ sym c.then_some.ensures) c.in_ok-more.ensures
