-- What a builder holds once the insertion at the front of its page gave to its box, went or was held.
use Rattle.std.proofs.Common.{◌≡◌, refl, sym, subst, ◌∙◌, ap, ℕ, ℤ, true, List, [], ◌∷◌, ◌++◌, map, length, Some, append-nil, take, drop}
use Rattle.std.specs.FinMap.{insert, remove}
use Rattle.std.proofs.lemmas.List.{map-append, map-id, take-map, drop-map}
use Rattle.tb_pool.specs.Lists.{Lists, list_at, with_list}
use Rattle.tb_node.specs.declared.Node.{Node}
use Rattle.tb_node.specs.declared.Insertion.{Insertion}
use Rattle.tb_node.specs.declared.Kind.TheVariants as kinds
use Rattle.tb_node.specs.PlainNodes.{Leaf, leaf_of, leaf_shape, Inserted, inserted_of, PlainNode, plain_of, ins, on_line, plain_list}
use Rattle.tb_node.specs.Sums.{size_of}
use Rattle.tb_node.specs.Fit.{shapes}
use Rattle.tb_node.specs.Roles.{insertion_of_kind}
use Rattle.tb_break.specs.PageTop.{pruned_leaves, pruned_list}
use Rattle.tb_break.proofs.PageTopLemmas.{leaf-pruned_list}
use Rattle.tb_insert.proofs.AccountLemmas.{leaf_shapes}
use Rattle.tb_builder.specs.declared.Share.TheVariants.{All, Front, Nothing}
use Rattle.tb_builder.specs.FiredPages.{again_with, unless_empty}
use Rattle.tb_builder.specs.declared.Builder.{Builder}
use Rattle.tb_builder.specs.Ownership.{Lacks, inner_of, Ids, ids_of, owned, AllPlain, is_known, classes_of, IsOwned}
use Rattle.tb_builder.specs.Contents.{boxed_of, leaf_list, contents_of}
use Rattle.tb_builder.specs.Firing.{share_held, opened, box_list, box_with, GivesToBox, Takes, LeavesPage, SharesOut}
use Rattle.tb_builder.proofs.Ownership.FrameLemmas.{leaves_then}
use Rattle.tb_builder.proofs.Ownership.RelistLemmas.{relisted_own, relisted_others, relisted_keeps, relisted_held, relisted_page, relisted_waiting, relisted_boxes}
use Rattle.tb_builder.proofs.Turns.FreezeLemmas.{plain_insertion}
use Rattle.tb_builder.proofs.Sorting.OpenLemmas.{opened-classes}
use Rattle.tb_builder.proofs.Sorting.GiveLemmas.{given_own, given_others, given_keeps, given_boxes, given_held, given_behind, given_waiting, given_page, given_left, gone_own, gone_others, gone_keeps, gone_boxes, gone_held, gone_rest, gone_waiting, relisted_hold}
use Rattle.tb_builder.proofs.Turns.FillLemmas.{behind_is}

module _ (b d : Builder) (s t : Lists Node) (n : Node) (ns : List Node) (i : Insertion) (own : IsOwned (ids_of b) s) (first : list_at s b.page ≡ n ∷ ns) (is : insertion_of_kind n.kind ≡ Some i) where
  -- nodes went to the box
  pub gives_of : (gave kept : List Node) → d ≡ record b { boxes = d.boxes } → d.boxes ≡ opened i.class b.boxes
      → t.lists ≡ insert (with_list s (box_list i.class b.boxes) (list_at s (box_list i.class b.boxes) ++ gave)) i.list kept → AllPlain gave → AllPlain kept → GivesToBox b s d t n i gave kept
  gives_of gave kept same items e p q = record {
    sorts = record {
      own = subst (λ j. IsOwned j t) (sym ids) (given_own (ids_of b) s n ns i own first is t gave kept e p q);
      frame = record { others = λ x h. given_others (ids_of b) s n ns i own first is t gave kept e p q x h; apart = λ x h. subst (λ j. Lacks x (owned j t)) (sym ids) (given_keeps (ids_of b) s n ns i own first is t gave kept e p q x h) };
      builder = same;
      classes = ap (λ (j : Ids). classes_of j) ids ∙ opened-classes i.class b.boxes;
      waiting = ap (λ (j : Ids). plain_list t j.waiting) ids ∙ given_waiting (ids_of b) s n ns i own first is t gave kept e p q;
    };
    page = given_page (ids_of b) s n ns i own first is t gave kept e p q;
    behind = λ ms f. subst (λ xs. map (plain_of (list_at t)) xs ≡ map (plain_of (list_at s)) xs) (behind_is (list_at s b.page) ns ms n first f) (given_behind (ids_of b) s n ns i own first is t gave kept e p q);
    held = ap (λ (j : Ids). plain_list t j.held) ids ∙ given_held (ids_of b) s n ns i own first is t gave kept e p q;
    boxes = ap (λ (j : Ids). map (boxed_of t) j.boxes) ids ∙ given_boxes (ids_of b) s n ns i own first is t gave kept e p q;
    left = given_left (ids_of b) s n ns i own first is t gave kept e p q;
  }
    where
      ids : ids_of d ≡ record (ids_of b) { boxes = opened i.class b.boxes }
      ids = ap ids_of same ∙ ap (λ es. record (ids_of b) { boxes = es }) items

-- the insertion went, or is held: the builder itself stays
module _ (b : Builder) (s t : Lists Node) (n : Node) (ns : List Node) (i : Insertion) (own : IsOwned (ids_of b) s) (first : list_at s b.page ≡ n ∷ ns) (is : insertion_of_kind n.kind ≡ Some i) where
  pub drops_of : t.lists ≡ remove (with_list s b.page ns) i.list → LeavesPage b s b t n []
  drops_of e = record {
    takes = record {
      sorts = record {
        own = gone_own (ids_of b) s n ns i own first is t e;
        frame = record { others = λ x h. gone_others (ids_of b) s n ns i own first is t e x h; apart = λ x h. gone_keeps (ids_of b) s n ns i own first is t e x h };
        builder = refl;
        classes = refl;
        waiting = gone_waiting (ids_of b) s n ns i own first is t e;
      };
      page = λ ms f. gone_rest (ids_of b) s n ns i own first is t e ∙ ap (map (plain_of (list_at s))) (behind_is (list_at s b.page) ns ms n first f);
      held = gone_held (ids_of b) s n ns i own first is t e ∙ sym (append-nil (plain_list s b.held));
    };
    boxes = gone_boxes (ids_of b) s n ns i own first is t e;
  }

  pub holds_of : (m : Node) → inner_of m.kind ≡ inner_of n.kind → is_known (classes_of (ids_of b)) m.kind ≡ true → t.lists ≡ insert (with_list s b.page ns) b.held (list_at s b.held ++ m ∷ [])
      → LeavesPage b s b t n (plain_of (list_at s) m ∷ [])
  holds_of m inner known e =
      let w = relisted_hold (ids_of b) s n ns i own first is t m inner known e in
      record {
        takes = record {
          sorts = record {
            own = relisted_own (ids_of b) s t (list_at s b.held ++ m ∷ []) ns (list_at s b.waiting) own w;
            frame = record { others = λ x h. relisted_others (ids_of b) s t (list_at s b.held ++ m ∷ []) ns (list_at s b.waiting) own w x h; apart = λ x h. relisted_keeps (ids_of b) s t (list_at s b.held ++ m ∷ []) ns (list_at s b.waiting) own w x h };
            builder = refl;
            classes = refl;
            waiting = relisted_waiting (ids_of b) s t (list_at s b.held ++ m ∷ []) ns (list_at s b.waiting) own w;
          };
          page = λ ms f. relisted_page (ids_of b) s t (list_at s b.held ++ m ∷ []) ns (list_at s b.waiting) own w ∙ ap (map (plain_of (list_at s))) (behind_is (list_at s b.page) ns ms n first f);
          held = relisted_held (ids_of b) s t (list_at s b.held ++ m ∷ []) ns (list_at s b.waiting) own w ∙ map-append (plain_of (list_at s)) (list_at s b.held) (m ∷ []);
        };
        boxes = relisted_boxes (ids_of b) s t (list_at s b.held ++ m ∷ []) ns (list_at s b.waiting) own w;
      }

-- ---- nodes went to the box, and then the insertion went or was held

module _ (b d : Builder) (s t u : Lists Node) (n : Node) (i : Insertion) (gave kept : List Node) (more : List PlainNode) (gives : GivesToBox b s d t n i gave kept) (drops : LeavesPage d t d u n more) where
  page_id : d.page ≡ b.page
  page_id = ap (λ (x : Builder). x.page) gives.sorts.builder

  pub gives_takes : Takes b s d u n more
  gives_takes = record {
    sorts = record {
      own = drops.takes.sorts.own;
      frame = leaves_then (ids_of b) (ids_of d) (ids_of d) s t u gives.sorts.frame drops.takes.sorts.frame;
      builder = gives.sorts.builder;
      classes = drops.takes.sorts.classes ∙ gives.sorts.classes;
      waiting = drops.takes.sorts.waiting ∙ gives.sorts.waiting;
    };
    page = λ ns f. drops.takes.page ns (ap (list_at t) page_id ∙ gives.page ∙ f) ∙ gives.behind ns f;
    held = drops.takes.held ∙ ap (λ ms. ms ++ more) gives.held;
  }

  pub gives_boxes : (contents_of d u).boxes ≡ map (box_with i.class (map leaf_of gave)) (contents_of b s).boxes
  gives_boxes = drops.boxes ∙ gives.boxes

-- what is held of an insertion depends only on its list and on what is left of it
unless_same : (i j : Inserted) (ns : List Leaf) → ((ms : List Leaf) → again_with i ms ≡ again_with j ms) → unless_empty i ns ≡ unless_empty j ns
unless_same i j [] e = refl
unless_same i j (n ∷ ns) e = ap (λ k. k ∷ []) (e (n ∷ ns))

module _ (b d : Builder) (s t u : Lists Node) (n : Node) (i : Insertion) where
  pub settles_all : GivesToBox b s d t n i (list_at s i.list) [] → LeavesPage d t d u n [] → SharesOut b s d u n i All
  settles_all g h = record {
    takes = gives_takes b d s t u n i (list_at s i.list) [] [] g h;
    boxes = gives_boxes b d s t u n i (list_at s i.list) [] [] g h;
  }

  pub settles_front : (place : ℕ) → GivesToBox b s d t n i (take place (list_at s i.list)) (pruned_list i.split_top (drop place (list_at s i.list)))
      → LeavesPage d t d u n (on_line n.line (unless_empty (inserted_of (list_at t) i) (leaf_list t i.list))) → SharesOut b s d u n i (Front place)
  settles_front place g h = record {
    takes = subst (Takes b s d u n) (ap (on_line n.line) held_is) (gives_takes b d s t u n i (take place (list_at s i.list)) (pruned_list i.split_top (drop place (list_at s i.list))) (on_line n.line (unless_empty (inserted_of (list_at t) i) (leaf_list t i.list))) g h);
    boxes = gives_boxes b d s t u n i (take place (list_at s i.list)) (pruned_list i.split_top (drop place (list_at s i.list))) (on_line n.line (unless_empty (inserted_of (list_at t) i) (leaf_list t i.list))) g h
        ∙ ap (λ ls. map (box_with i.class ls) (contents_of b s).boxes) (sym (take-map leaf_of place (list_at s i.list)));
  }
    where
      held_is : unless_empty (inserted_of (list_at t) i) (leaf_list t i.list) ≡ share_held (Front place) (inserted_of (list_at s) i)
      held_is =
          unless_same (inserted_of (list_at t) i) (inserted_of (list_at s) i) (leaf_list t i.list) (λ ms. refl)
          ∙ ap (unless_empty (inserted_of (list_at s) i)) (ap (map leaf_of) g.left ∙ leaf-pruned_list i.split_top (drop place (list_at s i.list)) ∙ ap (pruned_leaves i.split_top) (sym (drop-map leaf_of place (list_at s i.list))))

-- a late insertion is held as it is
pub settles_none : (b : Builder) (s t : Lists Node) (n : Node) (i : Insertion) → insertion_of_kind n.kind ≡ Some i → LeavesPage b s b t n (plain_of (list_at s) n ∷ []) → SharesOut b s b t n i Nothing
settles_none b s t n i is h = record {
  takes = subst (Takes b s b t n) (ap (λ m. m ∷ []) (plain_insertion (list_at s) n i is)) h.takes;
  boxes = h.boxes ∙ sym (map-id (contents_of b s).boxes);
}

-- ---- what is left of an insertion, as it is held

pub dropped_nothing : (b : Builder) (s t : Lists Node) (n : Node) (i : Insertion) → list_at s i.list ≡ [] → LeavesPage b s b t n [] → LeavesPage b s b t n (on_line n.line (unless_empty (inserted_of (list_at s) i) (leaf_list s i.list)))
dropped_nothing b s t n i e h = subst (λ ls. LeavesPage b s b t n (on_line n.line (unless_empty (inserted_of (list_at s) i) (map leaf_of ls)))) (sym e) h

pub held_again : (b : Builder) (s t : Lists Node) (n m : Node) (i : Insertion) (height : ℤ) → (length (list_at s i.list) ≡ 0 → ⊥) → height ≡ size_of (shapes s i.list) → (let x : Node = record { line = n.line; kind = kinds.Ins (record i { height = height }) } in m ≡ x)
    → LeavesPage b s b t n (plain_of (list_at s) m ∷ []) → LeavesPage b s b t n (on_line n.line (unless_empty (inserted_of (list_at s) i) (leaf_list s i.list)))
held_again b s t n m i height some high is h = subst (LeavesPage b s b t n) (ap (λ x. plain_of (list_at s) x ∷ []) is ∙ same (list_at s i.list) some (high ∙ sym (ap size_of (leaf_shapes (list_at s i.list))))) h
  where
    same : (ls : List Node) → (length ls ≡ 0 → ⊥) → height ≡ size_of (map leaf_shape (map leaf_of ls))
        → (let x : PlainNode = record { line = n.line; kind = ins (record (inserted_of (list_at s) i) { inner = map leaf_of ls; height = height }) } in
        x ∷ [] ≡ on_line n.line (unless_empty (inserted_of (list_at s) i) (map leaf_of ls)))
    same [] some e = absurd (some refl)
    same (l ∷ ls) some e = ap (λ z. let x : PlainNode = record { line = n.line; kind = ins (record (inserted_of (list_at s) i) { inner = map leaf_of (l ∷ ls); height = z }) } in x ∷ []) e
