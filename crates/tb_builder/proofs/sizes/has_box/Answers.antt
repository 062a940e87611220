use Rattle.std.proofs.Common.{◌∙◌, sym, ap, map, List, Bool}
use Rattle.std.specs.Prelude.{◌||◌}
use Rattle.std.specs.List.{list_any}
use Rattle.tb_node.specs.declared.Node.{Node}
use Rattle.tb_node.specs.PlainNodes.{shape_of}
use Rattle.tb_node.specs.Shape.{is_box}
use Rattle.tb_builder.proofs.sizes.has_box.Goals as goal

-- a box is among these nodes
abbrev any : List Node → Bool
any ns = list_any is_box (map shape_of ns)

pub loop-n-init : goal.loop-n-init
loop-n-init c =
    let items = c.into_iter-n-iterator.ensures.into_iter_gives ∙ c.iter-n-items.ensures in
    record { can_next = tt; is_finite = tt; left = sym (ap any items) }

pub loop-n-preserved : goal.loop-n-preserved
loop-n-preserved c =
    let one = ap any c.in-Some.ensures.steps ∙ ap (λ b. b || any c.next.new.self) (sym c.is_box.ensures ∙ c.if-is_box.false) in
    record { can_next = tt; is_finite = tt; left = c.loop-n.invariant.left ∙ one }

pub returns-then-is_box : goal.returns-then-is_box
returns-then-is_box c =
    sym (c.loop-n.invariant.left ∙ ap any c.in-Some.ensures.steps ∙ ap (λ b. b || any c.next.new.self) (sym c.is_box.ensures ∙ c.if-is_box.true))

pub returns : goal.returns
returns c = sym (c.loop-n.invariant.left ∙ ap any c.in-None.ensures.steps.0)
