-- The makeup once a page that was shipped is done with.
use Rattle.std.proofs.Common.{◌≡◌, sym, subst, ◌∙◌, ap, ℕ, List}
use Rattle.std.specs.FinMap.{get}
use Rattle.tb_pool.specs.Lists.{Lists}
use Rattle.tb_pool.specs.Frame.{IsNoneOf}
use Rattle.tb_node.specs.declared.Node.{Node}
use Rattle.tb_items.specs.declared.happenings.Happening.{Happening}
use Rattle.tb_items.specs.Happenings.{happened_lists}
use Rattle.tb_items.specs.ItemsLeft.{with_more}
use Rattle.tb_items.proofs.ClosedLists.{closed-contents, closed-sound}
use Rattle.tb_plain.specs.Run.{builder_holds}
use Rattle.tb_makeup.specs.declared.makeup.Makeup.{Makeup}
use Rattle.tb_makeup.specs.MakeupLeft.{nodes_left}
use Rattle.tb_makeup.specs.Makeup.{built_in, held_in, state_of, AreRunNodes, Phase, IsBounded, unsaid_nodes, IsOpenAtStart, IsReady, AreHappened}

module _ (r : Makeup) (new : Lists Node) (hs : List Happening) (ready : IsReady r) (h : AreHappened r hs) (others : (q : ℕ) → IsNoneOf q (happened_lists hs) → get new.lists q ≡ get r.store.lists q) where
  abbrev after : Makeup
  after = record r { store = new }

  built : built_in after ≡ built_in r
  built = closed-contents r.builder r.store new (happened_lists hs) ready.sound others h.builder

  contents : held_in after ≡ held_in r
  contents = ap (with_more (nodes_left r.left)) built

  -- it stands for the same state
  pub done-state : state_of after ≡ state_of r
  done-state = λ i. record { page = (contents i).page; waiting = (contents i).waiting; number = r.plain.page }

  -- and is ready for its next turn
  pub done-ready : IsReady after
  done-ready = record {
    sound = closed-sound r.builder r.store new (happened_lists hs) ready.sound others h.builder;
    plain = ready.plain;
    params = ready.params;
    ask = ready.ask;
    limit = ready.limit;
    holds = contents ∙ ready.holds ∙ ap (builder_holds r.plain.params) (sym done-state);
    nodes = subst AreRunNodes (sym done-state) ready.nodes;
    phase = subst Phase (sym done-state) ready.phase;
    bounded = subst (λ s. IsBounded (unsaid_nodes s) s r.bound) (sym done-state) ready.bounded;
    items = ready.items;
    ends = subst (IsOpenAtStart r.left) (sym built) ready.ends;
  }
