-- Lists of the store that are cut, joined and passed on.
use Rattle.std.proofs.Common.{◌≡◌, ◌≢◌, inl, inr, sym, ◌∙◌, ap, ℕ, ℤ, List, [], ◌++◌, take, drop, Some, is_some, unwrap_or}
use Rattle.std.proofs.lemmas.Bool.{cases_eq}
use Rattle.std.specs.FinMap.{get, insert}
use Rattle.tb_pool.specs.Lists.{Lists, IsLive, list_at, with_list}
use Rattle.tb_pool.proofs.MapLemmas.{get-insert_same, get-insert_other, insert_twice_from_get, has_value}
use Rattle.tb_node.specs.declared.Node.{Node}
use Rattle.tb_break.specs.PageTop.{pruned_list}

module _ {T : Type 0} where
  -- two lists were written, as the map has them
  pub record Got (s t : Lists T) (a b : ℕ) (xs ys : List T) : Type 0 where
    pub first : get t.lists a ≡ Some xs
    pub second : get t.lists b ≡ Some ys
    pub others : (q : ℕ) → q ≢ a → q ≢ b → get t.lists q ≡ get s.lists q

  pub got_two : (s t : Lists T) (a b : ℕ) (xs ys : List T) → a ≢ b → t.lists ≡ insert (with_list s a xs) b ys → Got s t a b xs ys
  got_two s t a b xs ys apart e = record {
    first = ap (λ m. get m a) e ∙ get-insert_other (with_list s a xs) b ys a apart ∙ get-insert_same s.lists a xs;
    second = ap (λ m. get m b) e ∙ get-insert_same (with_list s a xs) b ys;
    others = λ q na nb. ap (λ m. get m q) e ∙ get-insert_other (with_list s a xs) b ys q nb ∙ get-insert_other s.lists a xs q na;
  }

  -- the items of a list, from the map
  pub list_got : (s : Lists T) (a : ℕ) (xs : List T) → get s.lists a ≡ Some xs → list_at s a ≡ xs
  list_got s a xs e = ap (λ o. unwrap_or o []) e

  pub live_got : (s : Lists T) (a : ℕ) (xs : List T) → get s.lists a ≡ Some xs → IsLive s a
  live_got s a xs e = ap is_some e

  pub list_kept : (s t : Lists T) (a : ℕ) → get t.lists a ≡ get s.lists a → list_at t a ≡ list_at s a
  list_kept s t a e = ap (λ o. unwrap_or o []) e

  pub live_kept : (s t : Lists T) (a : ℕ) → get t.lists a ≡ get s.lists a → IsLive s a → IsLive t a
  live_kept s t a e live = ap is_some e ∙ live

  -- a live list, in the map
  pub live_has : (s : Lists T) (a : ℕ) → IsLive s a → get s.lists a ≡ Some (list_at s a)
  live_has s a live = let v = has_value (get s.lists a) live in v.1 ∙ ap Some (sym (ap (λ o. unwrap_or o []) v.1))

  pub one_got : (s t : Lists T) (a : ℕ) (xs : List T) → t.lists ≡ with_list s a xs → get t.lists a ≡ Some xs
  one_got s t a xs e = ap (λ m. get m a) e ∙ get-insert_same s.lists a xs

  pub one_other : (s t : Lists T) (a q : ℕ) (xs : List T) → q ≢ a → t.lists ≡ with_list s a xs → get t.lists q ≡ get s.lists q
  one_other s t a q xs ne e = ap (λ m. get m q) e ∙ get-insert_other s.lists a xs q ne

-- ---- a front goes to another list, and the rest is pruned

pub record Apart3 (to from between : ℕ) : Type 0 where
  pub to_from : to ≢ from
  pub between_to : between ≢ to
  pub between_from : between ≢ from

module _ (s a : Lists Node) (to from between place : ℕ) (ne : Apart3 to from between)
    (cut : a.lists ≡ insert (with_list s from (take place (list_at s from))) between (drop place (list_at s from))) where
  abbrev front : List Node
  front = take place (list_at s from)

  abbrev back : List Node
  back = drop place (list_at s from)

  at_a : Got s a from between front back
  at_a = got_two s a from between front back (λ e. ne.between_from (sym e)) cut

  pub cut_lives : IsLive s to → IsLive a to × IsLive a from
  cut_lives live = (live_kept s a to (at_a.others to ne.to_from (λ e. ne.between_to (sym e))) live, live_got a from front at_a.first)

  module _ (b : Lists Node) (joined : b.lists ≡ insert (with_list a to (list_at a to ++ list_at a from)) from []) where
    at_b : Got a b to from (list_at a to ++ list_at a from) []
    at_b = got_two a b to from (list_at a to ++ list_at a from) [] ne.to_from joined

    between_b : get b.lists between ≡ Some back
    between_b = at_b.others between ne.between_to ne.between_from ∙ at_a.second

    pub join_lives : IsLive b from × IsLive b between
    join_lives = (live_got b from [] at_b.second, live_got b between back between_b)

    module _ (c : Lists Node) (brought : c.lists ≡ insert (with_list b from (list_at b from ++ list_at b between)) between []) where
      at_c : Got b c from between (list_at b from ++ list_at b between) []
      at_c = got_two b c from between (list_at b from ++ list_at b between) [] (λ e. ne.between_from (sym e)) brought

      pub back_there : get c.lists from ≡ Some back
      back_there = at_c.first ∙ ap Some ((λ i. list_got b from [] at_b.second i ++ list_got b between back between_b i))

      others_c : (q : ℕ) → IsLive s between → list_at s between ≡ [] → q ≢ to → q ≢ from → get c.lists q ≡ get s.lists q
      others_c q live empty not_to not_from = elim (cases_eq q between) [
        | inl x ↦ ap (get c.lists) x ∙ at_c.second ∙ sym (ap (get s.lists) x ∙ live_has s between live ∙ ap Some empty)
        | inr not_between ↦ at_c.others q not_from not_between ∙ at_b.others q not_to not_from ∙ at_a.others q not_from not_between
      ]

      to_there : get c.lists to ≡ Some (list_at s to ++ front)
      to_there =
          at_c.others to ne.to_from (λ x. ne.between_to (sym x))
          ∙ at_b.first
          ∙ ap Some ((λ i. list_kept s a to (at_a.others to ne.to_from (λ x. ne.between_to (sym x))) i ++ list_got a from front at_a.first i))

      pub moved_lists : IsLive s between → list_at s between ≡ [] → c.lists ≡ insert (with_list s from back) to (list_at s to ++ front)
      moved_lists live empty = insert_twice_from_get s.lists c.lists from to back (list_at s to ++ front) (λ x. ne.to_from (sym x)) back_there to_there
          (λ q not_from not_to. others_c q live empty not_to not_from)

-- the rest of a list whose front went is pruned
module _ (s c : Lists Node) (to from : ℕ) (front back : List Node) (ne : to ≢ from) (moved : c.lists ≡ insert (with_list s from back) to (list_at s to ++ front)) where
  at_moved : Got s c from to back (list_at s to ++ front)
  at_moved = got_two s c from to back (list_at s to ++ front) (λ x. ne (sym x)) moved

  pub moved_live : IsLive c from
  moved_live = live_got c from back at_moved.first

  pub moved_left : list_at c from ≡ back
  moved_left = list_got c from back at_moved.first

  pub given_lists : (t : Lists Node) (top : ℤ) → t.lists ≡ with_list c from (pruned_list top (list_at c from)) → t.lists ≡ insert (with_list s to (list_at s to ++ front)) from (pruned_list top back)
  given_lists t top e = insert_twice_from_get s.lists t.lists to from (list_at s to ++ front) (pruned_list top back) ne
      (one_other c t from to (pruned_list top (list_at c from)) ne e ∙ at_moved.second)
      (one_got c t from (pruned_list top (list_at c from)) e ∙ ap (λ ns. Some (pruned_list top ns)) moved_left)
      (λ q not_to not_from. one_other c t from q (pruned_list top (list_at c from)) not_from e ∙ at_moved.others q not_from not_to)
