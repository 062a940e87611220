-- The first node of a list goes to the end of another.
use Rattle.std.proofs.Common.{◌≡◌, ◌≢◌, ℕ, suc, ◌+◌, ◌-◌, ◌<◌, List, [], ◌∷◌, ◌++◌, length, get_or, drop, slice_get, cond, eqb, Some, IsSome, is_some, unwrap_or, refl, sym, ap, ◌∙◌, inl, inr, arith, length-drop}
use Rattle.std.proofs.lemmas.Bool.{cases_eq}
use Rattle.std.proofs.lemmas.List.{get_or-drop}
use Rattle.std.specs.FinMap as map
use Rattle.slab.specs.Slab.{Slab, get, with_value}
use Rattle.slab.proofs.SlabLemmas.{Updates-with_value}
use Rattle.tb_pool.specs.Lists.{listed}
use Rattle.tb_pool.specs.Links.{value_at, next_at, IsChain, IsEnds, IsLinked, Shape, IsShaped, IsSound, values_of}
use Rattle.tb_pool.specs.declared.Node.{Node}
use Rattle.tb_pool.specs.declared.Ends.{Ends}
use Rattle.tb_pool.proofs.MapLemmas.{total-with_value}
use Rattle.tb_pool.proofs.ChainLemmas.{IsChain-stays, IsChain-append, IsChain-drop, joint_of, get-chain, get-links, IsEnds-append, IsEnds-one}
use Rattle.tb_pool.proofs.ShapeLemmas.{put, put_same, put_other, put_both, listed-two, items-shaped, when_eq, when_ne}
use Rattle.tb_pool.proofs.JoinLemmas.{last_node, first_node}

-- the ends of a list that has only this node
abbrev pub alone : ℕ → Ends
alone key = record { first = key; last = key; len = 1 }

module _ {T : Type 0} (nodes : Slab (Node T)) (heads : Slab Ends) (spare places : ℕ) (s : Shape T) (h : IsShaped nodes heads spare places s)
    (a b : ℕ) (d e : Ends) (apart : a ≢ b) (at_a : get heads a ≡ Some d) (at_b : get heads b ≡ Some e) (has : 0 < d.len)
    (new : Slab (Node T)) (linked : IsLinked nodes new e (alone d.first)) (v : T) (vs : List T) (items_is : s.items a ≡ v ∷ vs) where
  first : (s.owner d.first ≡ a) × (s.rank d.first ≡ 0) × IsSome (value_at (get nodes d.first)) × (d.first ≡ get_or (s.keys a) 0 0)
  first = first_node nodes heads spare places s h a d at_a has

  value_first : value_at (get nodes d.first) ≡ Some v
  value_first =
      let ends = h.ends a d at_a in
      let found = get-chain nodes s.owner s.rank a 0 0 (s.keys a) (s.items a) (h.chains a) (omega (arith, ends.len)) in
      let read : slice_get (s.items a) 0 ≡ Some v = ap (λ xs. slice_get xs 0) items_is in
      ap (λ k. value_at (get nodes k)) first.3 ∙ found.2.1 ∙ sym found.2.2 ∙ read

  owner' : ℕ → ℕ
  owner' = put s.owner d.first b

  rank' : ℕ → ℕ
  rank' = put (λ k. cond (eqb (s.owner k) a) (s.rank k - 1) (s.rank k)) d.first (length (s.keys b))

  not_last : (m k i : ℕ) → s.owner k ≡ m → s.rank k ≡ i → (m ≡ b → suc i < length (s.keys b)) → 0 < e.len → k ≢ e.last
  not_last m k i own at more some same =
      let last = last_node nodes heads spare places s h b e at_b some in
      let mine : m ≡ b = sym own ∙ ap s.owner same ∙ last.0 in
      omega (arith, more mine, ap s.rank same, at, last.1)

  kept : (m : ℕ) → m ≢ a → IsChain new owner' rank' m 0 (s.keys m) (s.items m)
  unfolding owner' rank'
  kept m other = IsChain-stays nodes new s.owner s.rank owner' rank' m m 0 0 (s.keys m) (s.items m) (h.chains m) (λ k i x own at within val.
      let ne : k ≢ d.first = λ same. other (sym own ∙ ap s.owner same ∙ first.0) in
      record {
        owner = put_other s.owner d.first b k ne ∙ own;
        rank = put_other (λ k. cond (eqb (s.owner k) a) (s.rank k - 1) (s.rank k)) d.first (length (s.keys b)) k ne ∙ when_ne (s.owner k) a (s.rank k - 1) (s.rank k) (λ q. other (sym own ∙ q)) ∙ at;
        value = linked.value k ∙ val;
        next = λ more. linked.next k (not_last m k i own (omega (arith, at)) (λ q. omega (arith, more, ap (λ z. length (s.keys z)) q)));
        prev = λ later. linked.prev k (λ _. ne);
      })

  rest : IsChain new owner' rank' a 0 (drop 1 (s.keys a)) (drop 1 (s.items a))
  unfolding owner' rank'
  rest = IsChain-stays nodes new s.owner s.rank owner' rank' a a (0 + 1) 0 (drop 1 (s.keys a)) (drop 1 (s.items a))
      (IsChain-drop nodes s.owner s.rank a 0 1 (s.keys a) (s.items a) (h.chains a)) (λ k i x own at within val.
      let ne : k ≢ d.first = λ same. omega (arith, ap s.rank same, at, first.1) in
      record {
        owner = put_other s.owner d.first b k ne ∙ own;
        rank = put_other (λ k. cond (eqb (s.owner k) a) (s.rank k - 1) (s.rank k)) d.first (length (s.keys b)) k ne ∙ when_eq (s.owner k) a (s.rank k - 1) (s.rank k) own ∙ omega (arith, at);
        value = linked.value k ∙ val;
        next = λ _. linked.next k (λ some same. apart (sym own ∙ ap s.owner same ∙ (last_node nodes heads spare places s h b e at_b some).0));
        prev = λ _. linked.prev k (λ _. ne);
      })

  at_end : IsChain new owner' rank' b (0 + length (s.keys b)) (d.first ∷ []) (v ∷ [])
  unfolding owner' rank'
  at_end = (
    put_same s.owner d.first b,
    omega (arith, put_same (λ k. cond (eqb (s.owner k) a) (s.rank k - 1) (s.rank k)) d.first (length (s.keys b))),
    linked.value d.first ∙ value_first,
    tt,
    tt,
  )

  behind : IsChain new owner' rank' b 0 (s.keys b ++ d.first ∷ []) (s.items b ++ v ∷ [])
  behind =
      let of_b = h.ends b e at_b in
      IsChain-append new owner' rank' b 0 (s.keys b) (d.first ∷ []) (s.items b) (v ∷ []) (kept b (λ q. apart (sym q))) at_end (joint_of new (s.keys b) (d.first ∷ [])
      (λ p q. ap (λ k. next_at (get new k)) (sym (of_b.last p)) ∙ linked.next_last (omega (arith, of_b.len)) (omega arith))
      (λ p q. linked.prev_first (omega (arith, of_b.len)) (omega arith) ∙ of_b.last p))

  move_shape : Shape T
  move_shape = record {
    keys = put (put s.keys a (drop 1 (s.keys a))) b (s.keys b ++ d.first ∷ []);
    items = put (put s.items a (drop 1 (s.items a))) b (s.items b ++ v ∷ []);
    owner = owner';
    rank = rank';
  }

  shorter_ends : (r : Ends) → r.len + 1 ≡ d.len → r.first ≡ next_at (get nodes d.first) → r.last ≡ d.last → IsEnds r (drop 1 (s.keys a))
  shorter_ends r fewer r_first r_last =
      let of_a = h.ends a d at_a in
      let ks = s.keys a in
      let shorter = length-drop 1 ks in
      record {
        len = omega (arith, of_a.len, shorter, fewer);
        first = λ some.
            let links = get-links nodes s.owner s.rank a 0 0 ks (s.items a) (h.chains a) (omega (arith, shorter)) in
            r_first ∙ ap (λ q. next_at (get nodes q)) first.3 ∙ links.0 ∙ sym (get_or-drop 1 ks 0 0);
        last = λ some.
            let shift : 1 + (length (drop 1 ks) - 1) ≡ length ks - 1 = omega (arith, shorter) in
            r_last ∙ of_a.last (omega (arith, shorter)) ∙ sym (get_or-drop 1 ks (length (drop 1 ks) - 1) 0 ∙ ap (λ i. get_or ks i 0) shift);
      }

  -- after the first node of a list went to the end of another the store is sound, and contracts see just that change
  pub move_done : (r z : Ends) → r.len + 1 ≡ d.len → r.first ≡ next_at (get nodes d.first) → r.last ≡ d.last
      → z.len ≡ e.len + 1 → (0 < e.len → z.first ≡ e.first) → (e.len ≡ 0 → z.first ≡ d.first) → z.last ≡ d.first
      → IsSound new (with_value (with_value heads a r) b z) spare places
      × (listed (values_of new) (with_value (with_value heads a r) b z) ≡ map.insert (map.insert (listed (values_of nodes) heads) a vs) b (unwrap_or (map.get (listed (values_of nodes) heads) b) [] ++ v ∷ []))
  unfolding move_shape
  move_done r z fewer r_first r_last more z_some z_none z_last =
      let new_heads = with_value (with_value heads a r) b z in
      let w : Ends → ℕ = λ (x : Ends). x.len in
      let ks : List ℕ = drop 1 (s.keys a) in
      let js : List ℕ = s.keys b ++ d.first ∷ [] in
      let xs : List T = drop 1 (s.items a) in
      let ys : List T = s.items b ++ v ∷ [] in
      let u = Updates-with_value heads a r (ap is_some at_a) in
      let still_b : get (with_value heads a r) b ≡ Some e = u.others b (λ q. apart (sym q)) ∙ at_b in
      let t = Updates-with_value (with_value heads a r) b z (ap is_some still_b) in
      let new_a : get new_heads a ≡ Some r = t.others a apart ∙ u.changed in
      let ends : (q : ℕ) (x : Ends) → get new_heads q ≡ Some x → IsEnds x (put (put s.keys a ks) b js q) = λ q x at_q. elim (cases_eq q b) [
        | inl same ↦
            let is_z : z ≡ x = let here = ap (get new_heads) same in let there = t.changed in cc in
            rw (same, put_same (put s.keys a ks) b js, ← is_z)
            (IsEnds-append e (alone d.first) z (s.keys b) (d.first ∷ []) (h.ends b e at_b) (IsEnds-one (alone d.first) d.first refl refl refl) more z_some z_none (λ _. z_last) (λ none. absurd (omega (arith, none))))
        | inr nb ↦ rw (put_other (put s.keys a ks) b js q nb) (elim (cases_eq q a) [
          | inl same ↦
              let is_r : r ≡ x = let here = ap (get new_heads) same in let there = new_a in cc in
              rw (same, put_same s.keys a ks, ← is_r) (shorter_ends r fewer r_first r_last)
          | inr na ↦ rw (put_other s.keys a ks q na) (h.ends q x (sym (t.others q nb ∙ u.others q na) ∙ at_q))
        ])
      ] in
      let shaped : IsShaped new new_heads spare places move_shape = record {
        chains = put_both (λ m is zs. IsChain new owner' rank' m 0 is zs) (put s.keys a ks) (put s.items a xs) b js ys behind
            (put_both (λ m is zs. m ≢ b → IsChain new owner' rank' m 0 is zs) s.keys s.items a ks xs (λ _. rest) (λ m na nb. kept m na));
        ends = ends;
        room = linked.room spare h.room;
        places_is = omega (arith, h.places_is, total-with_value w heads a d r at_a, total-with_value w (with_value heads a r) b e z still_b);
      } in
      let items_a : put (put s.items a xs) b ys a ≡ vs = put_other (put s.items a xs) b ys a apart ∙ put_same s.items a xs ∙ ap (drop 1) items_is in
      let seen = listed-two nodes heads spare places s h new new_heads spare places move_shape shaped a b r z apart new_a t.changed (λ q na nb. t.others q nb ∙ u.others q na)
      (λ m na nb. put_other (put s.items a xs) b ys m nb ∙ put_other s.items a xs m na) in
      let seen_b = items-shaped nodes heads spare places s h b e at_b in
      ((move_shape, shaped), rw (seen_b, ← items_a) (seen ∙ ap (map.insert (map.insert (listed (values_of nodes) heads) a (put (put s.items a xs) b ys a)) b) (put_same (put s.items a xs) b ys)))

pub first_of : {T : Type 0} (xs : List T) → 0 < length xs → (v : T) × ((vs : List T) × (xs ≡ v ∷ vs))
first_of [] some = absurd (omega arith)
first_of (v ∷ vs) some = (v, (vs, refl))
