-- A list is emptied: its values are dropped from the first on.
use Rattle.std.proofs.Common.{◌≡◌, ℕ, suc, ◌+◌, ◌-◌, ◌<◌, ◌≤◌, List, [], length, drop, Some, None, IsSome, unwrap_or, is_some, slice_set, refl, sym, ap, subst, ◌∙◌, arith}
use Rattle.std.specs.Option.{option_map}
use Rattle.std.specs.Ordering.{nat_cmp}
use Rattle.std.proofs.lemmas.List.{set-set, set-get_or}
use Rattle.std.specs.FinMap as map
use Rattle.slab.specs.Slab.{Slab, get, with_value}
use Rattle.slab.proofs.SlabLemmas.{Updates-with_value}
use Rattle.tb_pool.specs.Lists.{listed}
use Rattle.tb_pool.specs.Links.{values_of, Shape, IsShaped, IsSound}
use Rattle.tb_pool.specs.declared.Node.{Node}
use Rattle.tb_pool.specs.declared.Ends.{Ends}
use Rattle.tb_pool.proofs.MapLemmas.{total-le, insert_from_get, get-insert_same, get-insert_other}
use Rattle.tb_pool.proofs.ChainLemmas.{length-chain}
use Rattle.tb_pool.proofs.ShapeLemmas.{get-shaped, items-shaped}
use Rattle.tb_pool.proofs.JoinLemmas.{first_there}
use Rattle.tb_pool.proofs.PopLemmas.{IsTaken, pop_front_done, drop_next}

-- the ends of a list of which k values are dropped
abbrev pub left_of : ℕ → ℕ → ℕ → ℕ → Ends
left_of first last len k = record { first = first; last = last; len = len - k }

-- a value that is written where it is
same_value : {X : Type 0} (s : Slab X) (k : ℕ) (x : X) → get s k ≡ Some x → with_value s k x ≡ s
same_value s k x is = ap (λ o. record s { slots = slice_set s.slots k o }) (sym is) ∙ ap (λ slots. record s { slots = slots }) (set-get_or s.slots k None)

-- a value that is written over
twice_value : {X : Type 0} (s : Slab X) (k : ℕ) (x y : X) → with_value (with_value s k x) k y ≡ with_value s k y
twice_value s k x y = ap (λ slots. record s { slots = slots }) (set-set s.slots k (Some x) (Some y))

module _ {T : Type 0} (nodes : Slab (Node T)) (heads : Slab Ends) (spare places : ℕ) (s : Shape T) (h : IsShaped nodes heads spare places s)
    (l : ℕ) (e : Ends) (at_l : get heads l ≡ Some e) where
  -- nothing is dropped yet
  pub clear_begins : IsSound nodes (with_value heads l (left_of e.first e.last e.len 0)) (spare + 0) places
      × (listed (values_of nodes) (with_value heads l (left_of e.first e.last e.len 0)) ≡ map.insert (listed (values_of nodes) heads) l (unwrap_or (map.get (listed (values_of nodes) heads) l) []))
  clear_begins =
      let whole : e.len - 0 ≡ e.len = omega arith in
      let same : with_value heads l (left_of e.first e.last e.len 0) ≡ heads = ap (λ n. with_value heads l (record { first = e.first; last = e.last; len = n })) whole ∙ same_value heads l e at_l in
      let none : spare ≡ spare + 0 = omega arith in
      let here = get-shaped nodes heads spare places s h l ∙ ap (option_map (λ _. s.items l)) at_l in
      let items = items-shaped nodes heads spare places s h l e at_l in
      let kept : listed (values_of nodes) heads ≡ map.insert (listed (values_of nodes) heads) l (unwrap_or (map.get (listed (values_of nodes) heads) l) []) = insert_from_get _ _ l _ (here ∙ ap Some (sym items)) (λ q ne. refl) in
      let sound : IsSound nodes heads (spare + 0) places = subst (λ (n : ℕ). IsSound nodes heads n places) none (s, h) in
      (subst (λ (hs : Slab Ends). IsSound nodes hs (spare + 0) places) (sym same) sound, ap (λ hs. listed (values_of nodes) hs) same ∙ kept)

  pub clear_len : length (unwrap_or (map.get (listed (values_of nodes) heads) l) []) ≡ e.len
  clear_len = ap length (items-shaped nodes heads spare places s h l e at_l) ∙ omega (arith, (h.ends l e at_l).len, length-chain nodes s.owner s.rank l 0 (s.keys l) (s.items l) (h.chains l))

  pub clear_room : spare + e.len ≤ places
  clear_room = omega (arith, h.places_is, total-le (λ (d : Ends). d.len) heads l e at_l)

module _ {T : Type 0} (nodes : Slab (Node T)) (heads : Slab Ends) (spare places : ℕ) (l : ℕ) (e : Ends) (at_l : get heads l ≡ Some e) (first last len k : ℕ)
    (sound : IsSound nodes (with_value heads l (left_of first last len k)) (spare + k) places) (more : k < len) where
  here : get (with_value heads l (left_of first last len k)) l ≡ Some (left_of first last len k)
  here = (Updates-with_value heads l (left_of first last len k) (ap is_some at_l)).changed

  -- the next node to go
  pub clear_there : IsSome (get nodes first)
  clear_there =
      let has : 0 < len - k = omega arith in
      first_there nodes (with_value heads l (left_of first last len k)) (spare + k) places sound.0 sound.1 l (left_of first last len k) here has

  -- one value more is dropped
  pub clear_goes_on : (m : map.FinMap nat_cmp (List T)) (items : List T) → listed (values_of nodes) (with_value heads l (left_of first last len k)) ≡ map.insert m l (drop k items)
      → (n : Node T) (new : Slab (Node T)) → get nodes first ≡ Some n → IsTaken nodes new first
      → IsSound new (with_value heads l (left_of n.next last len (k + 1))) (spare + (k + 1)) places
      × (listed (values_of new) (with_value heads l (left_of n.next last len (k + 1))) ≡ map.insert m l (drop (k + 1) items))
  clear_goes_on m items seen n new at_first taken =
      let heads1 = with_value heads l (left_of first last len k) in
      let has : 0 < len - k = omega arith in
      let fewer : len - (k + 1) + 1 ≡ len - k = omega arith in
      let done = pop_front_done nodes heads1 (spare + k) places sound.0 sound.1 l (left_of first last len k) here has n (left_of n.next last len (k + 1)) new at_first taken fewer refl refl in
      let over = twice_value heads l (left_of first last len k) (left_of n.next last len (k + 1)) in
      let count : spare + k + 1 ≡ spare + (k + 1) = omega arith in
      let now = listed (values_of new) (with_value heads l (left_of n.next last len (k + 1))) in
      let changed : now ≡ map.insert (map.insert m l (drop k items)) l (drop 1 (sound.0.items l)) = ap (λ hs. listed (values_of new) hs) (sym over) ∙ done.1 ∙ ap (λ v. map.insert v l (drop 1 (sound.0.items l))) seen in
      let held : sound.0.items l ≡ drop k items = sym (items-shaped nodes heads1 (spare + k) places sound.0 sound.1 l (left_of first last len k) here) ∙ ap (λ v. unwrap_or (map.get v l) []) seen ∙ ap (λ o. unwrap_or o []) (get-insert_same m l (drop k items)) in
      let after : suc k ≡ k + 1 = omega arith in
      let next : drop 1 (sound.0.items l) ≡ drop (k + 1) items = ap (drop 1) held ∙ drop_next k items ∙ ap (λ j. drop j items) after in
      let at_now : map.get now l ≡ Some (drop (k + 1) items) = ap (λ v. map.get v l) changed ∙ get-insert_same (map.insert m l (drop k items)) l (drop 1 (sound.0.items l)) ∙ ap Some next in (
        subst (λ (q : ℕ). IsSound new (with_value heads l (left_of n.next last len (k + 1))) q places) count
            (subst (λ (hs : Slab Ends). IsSound new hs (spare + k + 1) places) over done.0),
        insert_from_get m now l (drop (k + 1) items) at_now (λ q ne. ap (λ v. map.get v q) changed ∙ get-insert_other (map.insert m l (drop k items)) l (drop 1 (sound.0.items l)) q ne ∙ get-insert_other m l (drop k items) q ne),
      )

-- all values are dropped
pub clear_ends : {T : Type 0} (nodes : Slab (Node T)) (heads : Slab Ends) (spare places l first last len k : ℕ) → k ≡ len → IsSound nodes (with_value heads l (left_of first last len k)) (spare + k) places
    → IsSound nodes (with_value heads l (record { first = first; last = last; len = 0 })) (spare + len) places
clear_ends nodes heads spare places l first last len k all sound =
    let none : len - k ≡ 0 = omega arith in
    subst (λ (n : ℕ). IsSound nodes (with_value heads l (record { first = first; last = last; len = 0 })) (spare + n) places) all
    (subst (λ (n : ℕ). IsSound nodes (with_value heads l (record { first = first; last = last; len = n })) (spare + k) places) none sound)
