-- The page makeup before the first page.
use Rattle.std.proofs.Common.{◌≡◌, refl, sym, subst, ◌∙◌, ap, ℤ, ◌+◌, ◌≤◌, false, List, Some, arith}
use Rattle.tb_pool.specs.Lists.{Lists}
use Rattle.tb_node.specs.declared.Node.{Node}
use Rattle.tb_node.specs.PlainNodes.{PlainNode}
use Rattle.tb_param.specs.declared.Params.{Params}
use Rattle.tb_builder.specs.declared.Ask.{Ask}
use Rattle.tb_builder.specs.declared.Builder.{Builder}
use Rattle.tb_builder.specs.Contents.{Contents, contents_of, nothing_yet}
use Rattle.tb_builder.specs.Courses.{IsSound}
use Rattle.tb_items.specs.WaitingNodes.{AreItems}
use Rattle.tb_items.specs.ItemsLeft.{kern_last, with_more}
use Rattle.tb_plain.specs.declared.Plain.{Plain}
use Rattle.tb_plain.specs.MakeupCalls.{IsPlain}
use Rattle.tb_plain.specs.Run.{makeup_ask, makeup_classes, builder_holds, act_count, first_makeup}
use Rattle.tb_makeup.specs.declared.makeup.Makeup.{Makeup}
use Rattle.tb_makeup.specs.declared.makeup.NodeBound.{NodeBound}
use Rattle.tb_makeup.specs.declared.makeup_left.MakeupLeft.{MakeupLeft}
use Rattle.tb_makeup.specs.MakeupLeft.{nodes_of}
use Rattle.tb_makeup.specs.Makeup.{held_in, state_of, node_total, AreRunParams, AreRunNodes, Phase, begins, IsBounded, unsaid_nodes, IsReady}

module _ (p : Params) (b : Builder) (u : Lists Node) (m : Plain) (ask : Ask) (limit : ℤ) (bound : NodeBound) (l : MakeupLeft) (ns : List PlainNode) (holds : contents_of b u ≡ nothing_yet (makeup_classes p)) (all : nodes_of l ≡ ns) (params : m.params ≡ p) (page : m.page ≡ 1) where
  abbrev begun : Makeup
  begun = record { store = u; builder = b; plain = m; ask = ask; limit = limit; bound = bound; left = Some l }

  begun-holds : held_in begun ≡ builder_holds p (first_makeup ns)
  begun-holds = (λ i. with_more (all i) (holds i))

  pub begin-state : state_of begun ≡ first_makeup ns
  begin-state = λ i. record { page = (begun-holds i).page; waiting = (begun-holds i).waiting; number = page i }

  pub begin-ready : IsSound b u → AreItems (makeup_classes p) l.items.now → IsPlain m → ask ≡ makeup_ask p → limit ≡ p.maxnodes → AreRunParams p → AreRunNodes (first_makeup ns) → node_total (first_makeup ns) + 10 ≤ 7500000 → bound.most ≡ 7500000 → bound.acts ≡ act_count ns → IsReady begun
  begin-ready sound items plain asks limits runs nodes room most acts = record {
    sound = sound;
    plain = plain;
    params = subst AreRunParams (sym params) runs;
    ask = asks ∙ ap makeup_ask (sym params);
    limit = limits ∙ ap (λ (q : Params). q.maxnodes) (sym params);
    holds = begun-holds ∙ (λ i. builder_holds (sym params i) (sym begin-state i));
    nodes = subst AreRunNodes (sym begin-state) nodes;
    phase = subst Phase (sym begin-state) (begins refl room);
    bounded = subst (λ s. IsBounded (unsaid_nodes s) s bound) (sym begin-state) (let few = nodes.acts in record { total = omega (arith, room, most); acts = omega (arith, acts); few_nodes = omega (arith, most); few_acts = omega (arith, acts, few) });
    items = subst (λ (q : Params). AreItems (makeup_classes q) l.items.now) (sym params) items;
    ends = (ap (λ (c : Contents). c.page) holds, ap (λ (c : Contents). kern_last false c.waiting) holds);
  }
