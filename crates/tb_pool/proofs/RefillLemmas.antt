-- A store becomes a copy of another one: its lists are emptied, then each is filled.
use Rattle.std.proofs.Common.{◌≡◌, ◌≢◌, ◌↔◌, ℕ, Bool, false, IsTrue, ◌+◌, ◌<◌, ◌≤◌, List, [], ◌∷◌, ◌++◌, length, drop, sum_by, Option, Some, None, IsSome, is_some, count_by, unwrap_or, refl, sym, ap, ◌∙◌, inl, inr, arith, append_assoc, zero-add}
use Rattle.std.proofs.lemmas.Bool.{cases_eq, cases_lt, true≢false}
use Rattle.std.proofs.lemmas.List.{append-nil, get_or_past, drop_more, drop_all}
use Rattle.std.proofs.lemmas.List.Sums.{sum_by-cons}
use Rattle.std.specs.Option.{option_map}
use Rattle.std.specs.FinMap as map
use Rattle.slab.specs.Slab as slab
use Rattle.slab.specs.Slab.{Slab, ContainsKey, with_value}
use Rattle.slab.proofs.SlabLemmas.{Updates-with_value, ContainsKey-within}
use Rattle.tb_pool.specs.Lists.{Lists, IsLive, list_at, with_list, listed, weight_of, total}
use Rattle.tb_pool.specs.Links.{values_of, IsSound}
use Rattle.tb_pool.specs.declared.Node.{Node}
use Rattle.tb_pool.specs.declared.Ends.{Ends}
use Rattle.tb_pool.proofs.MapLemmas.{get-listed, same_from_get, no_weight, get-insert_same}
use Rattle.tb_pool.proofs.ShapeLemmas.{items-shaped}
use Rattle.tb_pool.proofs.PlaceLemmas.{len-shaped}
use Rattle.tb_pool.proofs.CallerLemmas.{list_same, live_same, get_other, with_list-same, with_list-twice, some_list}

-- the ends of an empty list
abbrev pub no_nodes : Ends
no_nodes = record { first = 0; last = 0; len = 0 }

-- the ends of an empty list, if there is a list
abbrev pub emptied_ends : Option Ends → Option Ends
emptied_ends o = option_map (λ _. no_nodes) o

-- the ends under the keys below k are those of empty lists, and the others are as before
pub record Emptying (heads new : Slab Ends) (k : ℕ) : Type 0 where
  pub before : (q : ℕ) → q < k → slab.get new q ≡ emptied_ends (slab.get heads q)
  pub rest : (q : ℕ) → k ≤ q → slab.get new q ≡ slab.get heads q

module _ (heads new : Slab Ends) (k : ℕ) (h : Emptying heads new k) where
  at_next : (next : Slab Ends) → slab.get next k ≡ emptied_ends (slab.get heads k) → ((q : ℕ) → q ≢ k → slab.get next q ≡ slab.get new q) → Emptying heads next (k + 1)
  at_next next here others = record {
    before = λ q below. elim (cases_eq q k) [
      | inl e ↦ ap (slab.get next) e ∙ here ∙ sym (ap (λ j. emptied_ends (slab.get heads j)) e)
      | inr ne ↦ others q ne ∙ h.before q (omega (arith, below, ne))
    ];
    rest = λ q past. others q (λ e. omega (arith, past, e)) ∙ h.rest q (omega (arith, past));
  }

  -- no list has this key
  pub emptying_none : slab.get new k ≡ None → Emptying heads new (k + 1)
  emptying_none none = at_next new (none ∙ sym (ap emptied_ends (sym (h.rest k (omega arith)) ∙ none))) (λ q ne. refl)

  -- the list with this key is empty now
  pub emptying_some : (e : Ends) → slab.get new k ≡ Some e → Emptying heads (with_value new k no_nodes) (k + 1)
  emptying_some e some =
      let u = Updates-with_value new k no_nodes (ap is_some some) in
      at_next (with_value new k no_nodes) (u.changed ∙ sym (ap emptied_ends (sym (h.rest k (omega arith)) ∙ some))) u.others

  pub emptying_ends : length heads.slots ≤ k → (q : ℕ) → slab.get new q ≡ emptied_ends (slab.get heads q)
  emptying_ends past q = elim (cases_lt q k) [
    | inl below ↦ h.before q below
    | inr above ↦
        let none : slab.get heads q ≡ None = get_or_past heads.slots q None (omega (arith, past, above)) in
        h.rest q above ∙ none ∙ sym (ap emptied_ends none)
  ]

-- a store without nodes, with these ends, is sound, and contracts see an empty list under each id
module _ {T : Type 0} (nodes : Slab (Node T)) (heads new : Slab Ends) (no_slots : nodes.slots ≡ []) (all : (q : ℕ) → slab.get new q ≡ emptied_ends (slab.get heads q)) where
  len_none : (o p : Option Ends) → p ≡ emptied_ends o → weight_of (λ (e : Ends). e.len) p ≡ 0
  len_none None p is = ap (weight_of (λ (e : Ends). e.len)) is
  len_none (Some e) p is = ap (weight_of (λ (e : Ends). e.len)) is

  ends_none : (o : Option Ends) (e : Ends) → Some e ≡ emptied_ends o → e ≡ no_nodes
  ends_none None e is = absurd (cc)
  ends_none (Some d) e is = ap (λ p. unwrap_or p no_nodes) is

  pub emptied_sound : (places : ℕ) → places ≤ nodes.capacity → IsSound nodes new places places
  emptied_sound places room = (
    record { keys = λ _. []; items = λ _. []; owner = λ _. 0; rank = λ _. 0 },
    record {
      chains = λ l. tt;
      ends = λ l e at.
          let none = ends_none (slab.get heads l) e (sym at ∙ all l) in
          record { len = ap (λ (d : Ends). d.len) none; first = λ p. absurd (omega (arith, p)); last = λ p. absurd (omega (arith, p)) };
      room = omega (arith, room, ap (count_by is_some) no_slots);
      places_is = omega (arith, no_weight (λ (e : Ends). e.len) new.slots (λ k. len_none (slab.get heads k) (slab.get new k) (all k)));
    },
  )

  pub emptied_lists : (f : Ends → List T) (q : ℕ) → map.get (listed (values_of nodes) new) q ≡ option_map (λ _. []) (map.get (listed f heads) q)
  emptied_lists f q = get-listed (values_of nodes) new q ∙ ap (option_map (values_of nodes)) (all q) ∙ by_head (slab.get heads q) ∙ ap (option_map (λ _. [])) (sym (get-listed f heads q))
    where
      by_head : (o : Option Ends) → option_map (values_of nodes) (emptied_ends o) ≡ option_map (λ _. []) (option_map f o)
      by_head None = refl
      by_head (Some e) = refl

-- some of these items were put at the end of list l, in spare places, and there is room for those that are left
pub record Pushing {T : Type 0} (old now : Lists T) (l : ℕ) (items left : List T) : Type 0 where
  pub done : List T
  pub pushed : now.lists ≡ with_list old l (list_at old l ++ done)
  pub parted : items ≡ done ++ left
  pub spare : now.spare + length items ≡ old.spare + length left

module _ {T : Type 0} (old now : Lists T) (l : ℕ) (items : List T) where
  pub pushing_begins : IsLive old l → now ≡ old → Pushing old now l items items
  pushing_begins live same = record {
    done = [];
    pushed = with_list-same old now l live (ap (λ s. s.lists) same) ∙ ap (with_list old l) (sym (append-nil (list_at old l)));
    parted = refl;
    spare = ap (λ (s : Lists T). s.spare + length items) same;
  }

  pub pushing_live : (left : List T) → Pushing old now l items left → IsLive now l
  pushing_live left h = live_same old now l (list_at old l ++ h.done) h.pushed

  pub pushing_room : (x : T) (rest : List T) → Pushing old now l items (x ∷ rest) → length items ≤ old.spare → 0 < now.spare
  pushing_room x rest h room = omega (arith, h.spare, room)

  pub pushing_goes_on : (next : Lists T) (x y : T) (rest : List T) → Pushing old now l items (x ∷ rest) → y ≡ x
      → next.lists ≡ with_list now l (list_at now l ++ y ∷ []) → next.spare + 1 ≡ now.spare → Pushing old next l items rest
  pushing_goes_on next x y rest h same after spare = record {
    done = h.done ++ x ∷ [];
    pushed =
        let was = list_same old now l (list_at old l ++ h.done) h.pushed in
        with_list-twice old now next l (list_at old l ++ h.done) (list_at now l ++ y ∷ []) h.pushed after
        ∙ ap (with_list old l) (ap (λ xs. xs ++ y ∷ []) was ∙ append_assoc (list_at old l) h.done (y ∷ []) ∙ ap (λ z. list_at old l ++ (h.done ++ z ∷ [])) same);
    parted = h.parted ∙ sym (append_assoc h.done (x ∷ []) rest);
    spare = omega (arith, h.spare, spare);
  }

  pub pushing_ends : Pushing old now l items [] → now.lists ≡ with_list old l (list_at old l ++ items)
  pushing_ends h = h.pushed ∙ ap (λ xs. with_list old l (list_at old l ++ xs)) (sym (h.parted ∙ append-nil h.done))

  pub pushing_spare : Pushing old now l items [] → now.spare + length items ≡ old.spare
  pushing_spare h = omega (arith, h.spare)

-- the number of nodes of the lists whose keys are k or more
pub nodes_from : Slab Ends → ℕ → ℕ
nodes_from heads k = sum_by (weight_of (λ (e : Ends). e.len)) (drop k heads.slots)

nodes_from-past : (heads : Slab Ends) (k : ℕ) → length heads.slots ≤ k → nodes_from heads k ≡ 0
unfolding nodes_from
nodes_from-past heads k past = ap (sum_by (weight_of (λ (e : Ends). e.len))) (drop_all k heads.slots past)

module _ (heads : Slab Ends) (k : ℕ) where
  nodes_from-slot : k < length heads.slots → nodes_from heads k ≡ weight_of (λ (e : Ends). e.len) (slab.get heads k) + nodes_from heads (k + 1)
  unfolding nodes_from
  nodes_from-slot within = ap (sum_by (weight_of (λ (e : Ends). e.len))) (drop_more heads.slots k None within) ∙ sum_by-cons (weight_of (λ (e : Ends). e.len)) (slab.get heads k) (drop (k + 1) heads.slots)

  nodes_from-some : (e : Ends) → slab.get heads k ≡ Some e → nodes_from heads k ≡ e.len + nodes_from heads (k + 1)
  nodes_from-some e at_k =
      let slot = nodes_from-slot (ContainsKey-within heads k (ap is_some at_k)) in
      slot ∙ ap (λ o. weight_of (λ (e : Ends). e.len) o + nodes_from heads (k + 1)) at_k

  nodes_from-none : slab.get heads k ≡ None → nodes_from heads k ≡ nodes_from heads (k + 1)
  nodes_from-none vacant = elim (cases_lt k (length heads.slots)) [
    | inl within ↦ nodes_from-slot within ∙ ap (λ o. weight_of (λ (e : Ends). e.len) o + nodes_from heads (k + 1)) vacant ∙ zero-add (nodes_from heads (k + 1))
    | inr past ↦ nodes_from-past heads k past ∙ sym (nodes_from-past heads (k + 1) (omega (arith, past)))
  ]

-- the lists below id k are those of the other store, which has these heads; the others are empty and have the same ids,
-- and there is room for their values
pub record Copying {T : Type 0} (heads : Slab Ends) (other now : Lists T) (k : ℕ) : Type 0 where
  pub before : (q : ℕ) → q < k → map.get now.lists q ≡ map.get other.lists q
  pub rest : (q : ℕ) → k ≤ q → map.get now.lists q ≡ option_map (λ _. []) (map.get other.lists q)
  pub spare : now.spare ≡ other.spare + nodes_from heads k

module _ {T : Type 0} (heads : Slab Ends) (other now : Lists T) where
  pub copying_begins : (places : ℕ) → ((q : ℕ) → map.get now.lists q ≡ option_map (λ _. []) (map.get other.lists q)) → now.spare ≡ places → other.spare + total (λ (e : Ends). e.len) heads ≡ places → Copying heads other now 0
  unfolding nodes_from
  copying_begins places emptied spare all = record {
    before = λ q below. absurd (omega (arith, below));
    rest = λ q _. emptied q;
    spare = spare ∙ sym all;
  }

  module _ (k : ℕ) (h : Copying heads other now k) where
    at_next_list : (next : Lists T) → map.get next.lists k ≡ map.get other.lists k → ((q : ℕ) → q ≢ k → map.get next.lists q ≡ map.get now.lists q) → next.spare ≡ other.spare + nodes_from heads (k + 1) → Copying heads other next (k + 1)
    at_next_list next here others spare = record {
      before = λ q below. elim (cases_eq q k) [
        | inl e ↦ ap (map.get next.lists) e ∙ here ∙ sym (ap (map.get other.lists) e)
        | inr ne ↦ others q ne ∙ h.before q (omega (arith, below, ne))
      ];
      rest = λ q past. others q (λ e. omega (arith, past, e)) ∙ h.rest q (omega (arith, past));
      spare = spare;
    }

    pub copying_none : slab.get heads k ≡ None → map.get other.lists k ≡ None → Copying heads other now (k + 1)
    copying_none vacant none = at_next_list now (h.rest k (omega arith) ∙ ap (option_map (λ _. [])) none ∙ sym none) (λ q ne. refl) (omega (arith, h.spare, nodes_from-none heads k vacant))

    -- the list to be filled is there, and empty
    at_empty : IsLive other k → map.get now.lists k ≡ Some []
    at_empty live = h.rest k (omega arith) ∙ ap (option_map (λ _. [])) (some_list other k (list_at other k) live refl)

    pub copying_live : IsLive other k → IsLive now k
    copying_live live = ap is_some (at_empty live)

    pub copying_room : (e : Ends) → slab.get heads k ≡ Some e → length (list_at other k) ≡ e.len → length (list_at other k) ≤ now.spare
    copying_room e at_k len = omega (arith, h.spare, len, nodes_from-some heads k e at_k)

    pub copying_goes_on : (next : Lists T) (e : Ends) → slab.get heads k ≡ Some e → length (list_at other k) ≡ e.len → IsLive other k → next.lists ≡ with_list now k (list_at now k ++ list_at other k) → next.spare + length (list_at other k) ≡ now.spare → Copying heads other next (k + 1)
    copying_goes_on next e at_k len live pushed spare =
        let none : list_at now k ≡ [] = ap (λ o. unwrap_or o []) (at_empty live) in
        let filled : next.lists ≡ with_list now k (list_at other k) = pushed ∙ ap (λ xs. with_list now k (xs ++ list_at other k)) none in
        at_next_list next (ap (λ m. map.get m k) filled ∙ get-insert_same now.lists k (list_at other k) ∙ sym (some_list other k (list_at other k) live refl)) (λ q ne. get_other now next k (list_at other k) q ne filled)
        (omega (arith, h.spare, len, spare, nodes_from-some heads k e at_k))

    pub copying_ends : length heads.slots ≤ k → ((q : ℕ) → k ≤ q → map.get other.lists q ≡ None) → now ≡ other
    copying_ends all past =
        let lists : now.lists ≡ other.lists = same_from_get now.lists other.lists (λ q. elim (cases_lt q k) [
          | inl below ↦ h.before q below
          | inr above ↦ h.rest q above ∙ ap (option_map (λ _. [])) (past q above) ∙ sym (past q above)
        ]) in
        let spare : now.spare ≡ other.spare = omega (arith, h.spare, nodes_from-past heads k all) in
        λ i. record { lists = lists i; spare = spare i }

-- which lists a store has is told by its heads
module _ {X T : Type 0} (f : X → List T) (heads : Slab X) (k : ℕ) where
  pub listed_live : ContainsKey heads k → IsSome (map.get (listed f heads) k)
  listed_live there = by_head (slab.get heads k) there (get-listed f heads k)
    where
      by_head : (o : Option X) → IsSome o → map.get (listed f heads) k ≡ option_map f o → IsSome (map.get (listed f heads) k)
      by_head None some e = absurd (true≢false (sym some))
      by_head (Some x) some e = ap is_some e

  pub listed_none : slab.get heads k ≡ None → map.get (listed f heads) k ≡ None
  listed_none none = get-listed f heads k ∙ ap (option_map f) none

  pub listed_past : length heads.slots ≤ k → map.get (listed f heads) k ≡ None
  listed_past past = listed_none (get_or_past heads.slots k None past)

-- a key has no value if the test says so
pub none_there : {X : Type 0} (o : Option X) (b : Bool) → IsTrue b ↔ IsSome o → b ≡ false → o ≡ None
none_there None b tells off = refl
none_there (Some x) b tells off = let on = tells.1 refl in absurd (true≢false (sym on ∙ off))

-- a list has as many values as its ends say
pub listed_len : {T : Type 0} (nodes : Slab (Node T)) (heads : Slab Ends) (spare places k : ℕ) → IsSound nodes heads spare places → (e : Ends) → slab.get heads k ≡ Some e → length (unwrap_or (map.get (listed (values_of nodes) heads) k) []) ≡ e.len
listed_len nodes heads spare places k sound e at_k =
    ap length (items-shaped nodes heads spare places sound.0 sound.1 k e at_k)
    ∙ sym (len-shaped nodes heads spare places sound.0 sound.1 k e at_k)
