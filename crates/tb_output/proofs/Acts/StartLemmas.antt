-- A machine at its beginning.
use Rattle.std.proofs.Common.{◌≡◌, refl, sym, subst, ◌∙◌, ap, ℕ, ℤ, pos, negsuc, inl, inr, List, [], map, None, arith}
use Rattle.std.specs.Prelude.{◌≤◌, length, nat_abs, All}
use Rattle.std.specs.FinMap.{FinMap, get, insert, remove}
use Rattle.std.specs.Ordering.{nat_cmp}
use Rattle.std.proofs.lemmas.Int.{ints}
use Rattle.std.proofs.lemmas.Bool.{true≢false, cases_eq}
use Rattle.std.proofs.lemmas.List.Elements.{All-nil}
use Rattle.tb_builder.proofs.Ranges.PageableLemmas.{extent_goal}
use Rattle.tb_pool.specs.Lists.{Lists, IsLive, list_at, with_list}
use Rattle.tb_pool.proofs.CallerLemmas.{list_same, live_same}
use Rattle.tb_pool.proofs.MapLemmas.{get-insert_other, get-remove_same, get-remove_other, same_from_get}
use Rattle.tb_node.specs.declared.Node.{Node}
use Rattle.tb_node.specs.PlainNodes.{PlainNode, plain_of}
use Rattle.tb_node.specs.Fit.{IsSizedNode}
use Rattle.tb_param.specs.declared.Params.{Params}
use Rattle.tb_insert.specs.declared.Class.{Class}
use Rattle.tb_column.specs.Page.{AreLeaves, IsPageList}
use Rattle.tb_output.specs.State.{first_state, void_boxes}
use Rattle.tb_output.specs.Machine.{first_view, state_shown, IsPoolSize, AreOutputParams, AreClassesFrom, IsRoomOf, IsMachine}

-- the size of a pool is no less than 0
size-is : (v : ℤ) → IsPoolSize v → pos (nat_abs v) ≡ v
size-is (pos n) h = refl
size-is (negsuc n) h = let low = h.low in absurd (grind (arith, ints, low))

-- a list without nodes is one of a page
empty-list : (store : Lists Node) (l : ℕ) → IsLive store l → list_at store l ≡ [] → IsPageList store l
empty-list store l live e = record {
  live = live;
  leaves = subst AreLeaves (sym e) tt;
  sized = subst (All IsSizedNode) (sym e) (All-nil IsSizedNode);
  few = subst (λ (ns : List Node). length ns ≤ 8388608) (sym e) (omega arith);
}

module _ (p : Params) (cs : List Class) (store new : Lists Node) (l : ℕ) (opened : new.lists ≡ with_list store l []) where
  empty : list_at new l ≡ []
  empty = list_same store new l [] opened

  -- its state is that in which a run begins
  pub new-state : (waiting : List PlainNode) → state_shown new (void_boxes cs) waiting (first_view p cs l) ≡ first_state p cs waiting
  new-state waiting = ap (λ (ns : List Node). record (first_state p cs waiting) { held_page = map (plain_of (list_at new)) ns }) empty

  pub new-stands : AreOutputParams p → AreClassesFrom 0 cs → IsMachine (first_view p cs l) new
  new-stands ok rising = record {
    params = ok;
    classes = rising;
    goal = extent_goal p.textheight ok.columns.floats.textheight;
    first = omega arith;
    last = omega arith;
    numbered = omega arith;
    shrink = record { low = omega (arith, ints); high = omega (arith, ints) };
    pool = size-is p.pool ok.pool;
    unmarked = record { deferred = refl; second = refl };
    left = λ e. absurd (true≢false e);
    held_page = empty-list new l (live_same store new l [] opened) empty;
    held_room = subst (λ (ns : List Node). IsRoomOf ns (pos 0)) (sym empty) tt;
    left_column = tt;
    events = tt;
    apart = (tt, tt);
  }

-- a list that was opened and closed
pub opened-closed : (m : FinMap nat_cmp (List Node)) (l : ℕ) → get m l ≡ None → remove (insert m l []) l ≡ m
opened-closed m l fresh = same_from_get (remove (insert m l []) l) m (λ q. elim (cases_eq q l) [
  | inl e ↦ ap (get (remove (insert m l []) l)) e ∙ get-remove_same (insert m l []) l ∙ sym (ap (get m) e ∙ fresh)
  | inr ne ↦ get-remove_other (insert m l []) l q ne ∙ get-insert_other m l [] q ne
])
