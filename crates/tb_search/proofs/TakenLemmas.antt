-- An item was taken.
use Rattle.std.proofs.Common.{◌≡◌, refl, sym, subst, ◌∙◌, ap, ℕ, ◌+◌, ◌≤◌, false, ◌==◌, List, [], ◌∷◌, ◌++◌, length, get_or, Option, None, Some, append_assoc, arith}
use Rattle.std.specs.Prelude.{pos, neg_ℤ, All, is_some, IfNone}
use Rattle.tb_pool.specs.Lists.{Lists}
use Rattle.tb_node.specs.declared.Node.{Node}
use Rattle.tb_node.specs.PlainNodes.{pen, plain, PlainNode}
use Rattle.tb_builder.specs.Contents.{node_count}
use Rattle.tb_builder.proofs.Ranges.PageableLemmas.{count-append}
use Rattle.tb_galley.specs.declared.Item.{Item}
use Rattle.tb_builder.specs.declared.Builder.{Builder}
use Rattle.tb_output.specs.State.{State}
use Rattle.tb_items.specs.declared.items_left.ItemsLeft.{ItemsLeft}
use Rattle.tb_items.specs.ItemsLeft.{nodes_left, next_nodes, AreItemsLeft, IsHandedNext}
use Rattle.tb_items.specs.GalleyNodes.{IsGalleyNode}
use Rattle.tb_items.specs.WaitingNodes.{Waits, AreItems}
use Rattle.tb_items.proofs.WaitsLemmas.{waits-then}
use Rattle.tb_run.specs.declared.routine.Routine.{Routine}
use Rattle.tb_run.specs.declared.routine.Ending.{Ending}
use Rattle.tb_run.specs.Routine.{state_of, IsBounded, IsReady}
use Rattle.tb_run.specs.ServedStates.{notes_waiting, IsServed}
use Rattle.tb_search.specs.declared.branch.Branch.{Branch}
use Rattle.tb_search.specs.Branches.{IsBranch, HasHanded, first_break}
use Rattle.tb_search.proofs.WaitingLemmas.{now-wait, wait-ready}
use Rattle.tb_search.proofs.ServedLemmas.{served-front, served-with, served-among}

module _ (b : Branch) (l : ItemsLeft) (is : b.ahead ≡ Some l) (h : IsBranch b) where
  -- the items ahead
  pub items-ahead : AreItems (state_of b.routine.value).classes l.items.now
  items-ahead = subst (AreItemsLeft (state_of b.routine.value).classes) is h.items

  all-few : node_count (nodes_left (Some l)) ≤ 600005
  all-few = subst (λ o. node_count (nodes_left o) ≤ 600005) is h.few

  module _ (before : List PlainNode) (good : All (IsGalleyNode (state_of b.routine.value).classes) before) (none : notes_waiting before ≡ 0) (rest : Option ItemsLeft) (q : Routine) (k : HasHanded before l rest b.routine.value q) where
    abbrev s : State
    s = state_of b.routine.value

    abbrev ns : List PlainNode
    ns = before ++ next_nodes l

    all-served : IsServed ((s.waiting ++ ns) ++ nodes_left rest) s
    all-served =
        subst (λ xs. IsServed xs s) (ap (λ xs. s.waiting ++ xs) (sym (append_assoc before (next_nodes l) (nodes_left rest))) ∙ sym (append_assoc s.waiting ns (nodes_left rest)))
        (served-among s.waiting before (next_nodes l ++ nodes_left rest) s good none
        (subst (λ xs. IsServed (s.waiting ++ xs) s) (sym k.all) (subst (λ o. IsServed (s.waiting ++ nodes_left o) s) is h.served)))

    now-served : IsServed ((state_of q).waiting ++ nodes_left rest) (state_of q)
    now-served = subst (λ (t : State). IsServed (t.waiting ++ nodes_left rest) t) (sym k.wait.state) (served-with ((s.waiting ++ ns) ++ nodes_left rest) ns s all-served)

    module _ (m : Routine) (same : m ≡ record q { most = m.most }) where
      abbrev after : Branch
      after = record { routine = record b.routine { value = m }; ahead = rest; plain = false }

      pub taken-branch : IsBounded 4194304 m → IsBranch after
      taken-branch few = record {
        ready = wait-ready ns b.routine.value q h.ready k.wait m same few (served-front (state_of q).waiting (nodes_left rest) (state_of q) now-served);
        none = ap (λ (x : Routine). x.left) same ∙ k.wait.left;
        items =
            subst (λ (x : Routine). AreItemsLeft (state_of x).classes rest) (sym same)
            (subst (λ (t : State). AreItemsLeft t.classes rest) (sym k.wait.state) (k.items s.classes items-ahead));
        served = subst (λ (x : Routine). IsServed ((state_of x).waiting ++ nodes_left rest) (state_of x)) (sym same) now-served;
        few = let a = ap node_count k.all in let c = count-append (next_nodes l) (nodes_left rest) in let d = all-few in omega (arith, a, c, d);
      }

-- the limit was not met
pub none-limit : (o : Option Ending) (P : Type 0) → is_some o ≡ false → IfNone o P → P
none-limit None P e h = h
none-limit (Some x) P e h = cc

-- a break was put in before an item, and the item was handed over
module _ (r : Routine) (ready : IsReady r) (none : r.left ≡ None) (l : ItemsLeft) (xs : List Item) (are : xs ≡ l.items.now) (d : Item) (some : (length xs == 0) ≡ false) (few : node_count (next_nodes l) ≤ 600005) where
  abbrev forced : List PlainNode
  forced = record { line = (get_or xs 0 d).line; kind = plain (pen (neg_ℤ (pos 10000))) } ∷ []

  break-is : (ys : List Item) → (length ys == 0) ≡ false → record { line = (get_or ys 0 d).line; kind = plain (pen (neg_ℤ (pos 10000))) } ∷ [] ≡ first_break ys
  break-is [] h = cc
  break-is (y ∷ ys) h = refl

  pub handed-cut : (b : Builder) (s : Lists Node) (rest : Option ItemsLeft) (q : Routine) (count : ℕ) → Waits forced r.builder r.store b s → IsHandedNext l rest b s q.builder q.store
      → q.machine ≡ r.machine → q.left ≡ r.left → q.most ≡ r.most + (1 + count) → count ≡ node_count (next_nodes l) → HasHanded (first_break l.items.now) l rest r q
  handed-cut b s rest q count w h machine left most e = subst (λ ns. HasHanded ns l rest r q) (break-is xs some ∙ ap first_break are) (record {
    wait = now-wait (forced ++ next_nodes l) r q ready none (waits-then forced (next_nodes l) r.builder r.store b s q.builder q.store w h.waits) machine left (1 + count) most (omega (arith, e)) (omega (arith, e, few));
    past = h.past;
    all = h.all;
    items = h.items;
  })
