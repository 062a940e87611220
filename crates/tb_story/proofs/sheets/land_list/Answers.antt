use Rattle.std.proofs.Common.{sym, ap, ◌∙◌, map}
use Rattle.tb_pool.specs.Lists.{list_at}
use Rattle.tb_node.specs.PlainNodes.{plain_of}
use Rattle.tb_story.specs.Summary.{after_nodes}
use Rattle.tb_story.proofs.sheets.land_list.Goals as goal

pub loop-node-init : goal.loop-node-init
loop-node-init c =
    let items = c.into_iter-node-iterator.ensures.into_iter_gives ∙ c.iter-node-items.ensures in
    record {
      can_next = tt;
      is_finite = tt;
      over = c.requires.over;
      sound = λ n h. h;
      left = ap (λ t. after_nodes c.args.page (map (plain_of (list_at c.args.store.now)) t) c.args.stories.now) (sym items);
    }

pub loop-node-preserved : goal.loop-node-preserved
loop-node-preserved c =
    let seen = plain_of (list_at c.args.store.now) in
    record {
      can_next = tt;
      is_finite = tt;
      over = c.land_node.ensures.over;
      sound = λ n h. c.land_node.ensures.sound n (c.loop-node.invariant.sound n h);
      left = c.loop-node.invariant.left ∙ ap (λ t. after_nodes c.args.page (map seen t) c.loop-node.stories) c.in-Some.ensures.steps
          ∙ ap (λ t. after_nodes c.args.page (map seen c.next.new.self) t) (sym (c.land_node.ensures.landed (list_at c.args.store.now)));
    }

pub returns-clause-landed : goal.returns-clause-landed
returns-clause-landed c =
    sym (c.loop-node.invariant.left ∙ ap (λ t. after_nodes c.args.page (map (plain_of (list_at c.args.store.now)) t) c.loop-node.stories) c.in-None.ensures.steps.0)

pub returns-clause-over : goal.returns-clause-over
returns-clause-over c = c.loop-node.invariant.over

pub returns-clause-sound : goal.returns-clause-sound
returns-clause-sound c n h = c.loop-node.invariant.sound n h
