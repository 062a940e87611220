-- A copy of a slab has the slab's values under its keys, if the clone of each value is equal to it.
use Rattle.std.proofs.Common.{◌≡◌, ◌+◌, refl, sym, ◌∙◌, ap, ℕ, zero, suc, List, [], ◌∷◌, Option, Some, None}
use Rattle.std.specs.List.{AllZip}
use Rattle.slab.specs.Slab.{Slab, get, IsSlotClone, IsSlabClone}
use Rattle.tb_pool.specs.Lists.{total, listed}
use Rattle.tb_pool.specs.Links.{Shape, IsShaped, value_at, next_at, prepended, walk, values_of}
use Rattle.tb_pool.specs.declared.Node.{Node}
use Rattle.tb_pool.specs.declared.Ends.{Ends}

module _ {X : Type 0} (R : X → X → Type 0) (equal : (x y : X) → R x y → y ≡ x) where
  slot_same : (x y : Option X) → IsSlotClone R x y → y ≡ x
  slot_same None y h = h
  slot_same (Some x) None h = absurd h
  slot_same (Some x) (Some y) h = ap Some (equal x y h)

  slots_same : (xs ys : List (Option X)) → AllZip (IsSlotClone R) xs ys → ys ≡ xs
  slots_same [] [] h = refl
  slots_same [] (y ∷ ys) h = absurd h
  slots_same (x ∷ xs) [] h = absurd h
  slots_same (x ∷ xs) (y ∷ ys) h = λ i. slot_same x y h.0 i ∷ slots_same xs ys h.1 i

  pub slab_same : (s t : Slab X) → IsSlabClone R s t → t.slots ≡ s.slots
  slab_same s t h = slots_same s.slots t.slots h.slots

-- lists that are linked as a shape says are so over ends with the same values
pub same_ends : {T : Type 0} (nodes : Slab (Node T)) (heads new : Slab Ends) (spare places : ℕ) (s : Shape T) → IsShaped nodes heads spare places s → new.slots ≡ heads.slots
    → IsShaped nodes new spare places s
same_ends nodes heads new spare places s h e = record {
  chains = h.chains;
  ends = λ l x q. h.ends l x (ap (λ slots. get (record heads { slots = slots }) l) (sym e) ∙ q);
  room = h.room;
  places_is = ap (λ slots. spare + total (λ (x : Ends). x.len) (record heads { slots = slots })) e ∙ h.places_is;
}

module _ {T : Type 0} (nodes new : Slab (Node T)) (same : (k : ℕ) → get new k ≡ get nodes k) where
  walk_same : (key n : ℕ) → walk new key n ≡ walk nodes key n
  walk_same key zero = refl
  walk_same key (suc n) =
      ap (λ o. prepended (value_at o) (walk new (next_at (get new key)) n)) (same key)
      ∙ ap (prepended (value_at (get nodes key))) (walk_same (next_at (get new key)) n ∙ ap (λ o. walk nodes (next_at o) n) (same key))

  -- the lists are the same over ends with the same values
  pub lists_same : (heads ends : Slab Ends) → ends.slots ≡ heads.slots → listed (values_of new) ends ≡ listed (values_of nodes) heads
  lists_same heads ends e =
      ap (λ slots. listed (values_of new) (record heads { slots = slots })) e
      ∙ ap (λ f. listed f heads) (λ i x. walk_same x.first x.len i)
