-- The page is cut at its break, and what comes after it goes back.
use Rattle.std.proofs.Common.{◌≡◌, ◌≢◌, inl, inr, refl, sym, subst, ◌∙◌, ap, ℕ, true, List, [], ◌∷◌, ◌++◌, map, length, take, drop, Some, append_assoc, arith}
use Rattle.std.specs.Prelude.{option_to_list}
use Rattle.std.specs.FinMap.{get, insert}
use Rattle.std.proofs.lemmas.Bool.{cases_eq}
use Rattle.std.proofs.lemmas.List.{map-append, take-map, drop-map, take-append-drop, take_all, drop_all}
use Rattle.tb_pool.specs.Lists.{Lists, IsLive, list_at, with_list}
use Rattle.tb_pool.proofs.MapLemmas.{insert_twice_from_get}
use Rattle.tb_node.specs.declared.Node.{Node}
use Rattle.tb_node.specs.declared.Kind.{Kind}
use Rattle.tb_node.specs.declared.Kind.TheVariants as kinds
use Rattle.tb_node.specs.PlainNodes.{plain_of}
use Rattle.tb_insert.specs.declared.Class.{Class}
use Rattle.tb_builder.specs.declared.Builder.{Builder}
use Rattle.tb_builder.specs.FiredPages.{spent_kind, with_spent_break}
use Rattle.tb_builder.specs.Ownership.{inner_of, inner_ids, Ids, ids_of, is_known, AllKnown, classes_of, IsOwned}
use Rattle.tb_builder.specs.Contents.{contents_of}
use Rattle.tb_builder.specs.Firing.{spent_node_kind, spent_nodes, Cuts}
use Rattle.tb_builder.proofs.Ownership.OwnedLemmas.{inner-append, known-left, known-right, known-append}
use Rattle.tb_builder.proofs.Ownership.StoreMoves.{Got, got_two, list_got, live_got, list_kept, live_kept, live_has, one_got, one_other}
use Rattle.tb_builder.proofs.Ownership.RelistLemmas.{Relisted, relisted_own, relisted_others, relisted_keeps, relisted_page, relisted_waiting, relisted_boxes}

-- ---- the break node

pub spent_inner : (k : Kind) → inner_of (spent_node_kind k) ≡ inner_of k
spent_inner (kinds.Hbox what h d) = refl
spent_inner k = refl

spent_ids : (ns : List Node) → inner_ids (spent_nodes ns) ≡ inner_ids ns
spent_ids [] = refl
spent_ids (n ∷ ns) = ap (λ o. option_to_list o ++ inner_ids ns) (spent_inner n.kind)

spent_is_known : (cs : List Class) (k : Kind) → is_known cs k ≡ true → is_known cs (spent_node_kind k) ≡ true
spent_is_known cs (kinds.Ins i) e = e
spent_is_known cs k e = refl

spent_known : (cs : List Class) (ns : List Node) → AllKnown cs ns → AllKnown cs (spent_nodes ns)
spent_known cs [] h = tt
spent_known cs (n ∷ ns) h = (spent_is_known cs n.kind h.0, h.1)

spent_one : (held : ℕ → List Node) (line : ℕ) (k : Kind) → (let m : Node = record { line = line; kind = spent_node_kind k } in let n : Node = record { line = line; kind = k } in plain_of held m ≡ record (plain_of held n) { kind = spent_kind (plain_of held n).kind })
spent_one held line (kinds.Hbox what h d) = refl
spent_one held line k = refl

-- a list with its break spent, in plain nodes
pub spent_plain : (held : ℕ → List Node) (ns : List Node) → map (plain_of held) (spent_nodes ns) ≡ with_spent_break (map (plain_of held) ns)
spent_plain held [] = refl
spent_plain held (n ∷ ns) = ap (λ m. m ∷ map (plain_of held) ns) (spent_one held n.line n.kind)

-- ---- what comes after the break goes back

-- nothing comes after it
pub turned_none : (b : Ids) (s : Lists Node) (place : ℕ) → IsOwned b s → place ≡ length (list_at s b.page)
    → s.lists ≡ insert (with_list s b.page (take place (list_at s b.page))) b.waiting (drop place (list_at s b.page) ++ list_at s b.waiting)
turned_none b s place own all =
    let page = list_at s b.page in
    let taken = ap (λ k. take k page) all ∙ take_all (length page) page (omega arith) in
    let left = ap (λ k. drop k page) all ∙ drop_all (length page) page (omega arith) in
    insert_twice_from_get s.lists s.lists b.page b.waiting (take place page) (drop place page ++ list_at s b.waiting) own.differ.0.0
    (live_has s b.page own.live.0 ∙ ap Some (sym taken)) (live_has s b.waiting own.live.1.0 ∙ ap (λ xs. Some (xs ++ list_at s b.waiting)) (sym left)) (λ q p w. refl)

module _ (b : Ids) (s a c t : Lists Node) (place : ℕ) (own : IsOwned b s)
    (cut : a.lists ≡ insert (with_list s b.page (take place (list_at s b.page))) b.rest (drop place (list_at s b.page))) where
  page_rest : b.page ≢ b.rest
  page_rest = own.differ.0.1.1.0

  waiting_rest : b.waiting ≢ b.rest
  waiting_rest = own.differ.1.0.1.0

  page_waiting : b.page ≢ b.waiting
  page_waiting = own.differ.0.0

  at_a : Got s a b.page b.rest (take place (list_at s b.page)) (drop place (list_at s b.page))
  at_a = got_two s a b.page b.rest (take place (list_at s b.page)) (drop place (list_at s b.page)) page_rest cut

  waiting_a : get a.lists b.waiting ≡ get s.lists b.waiting
  waiting_a = at_a.others b.waiting (λ e. page_waiting (sym e)) waiting_rest

  pub back_lives : IsLive a b.rest × IsLive a b.waiting
  back_lives = (live_got a b.rest (drop place (list_at s b.page)) at_a.second, live_kept s a b.waiting waiting_a own.live.1.0)

  module _ (joined : c.lists ≡ insert (with_list a b.rest (list_at a b.rest ++ list_at a b.waiting)) b.waiting []) where
    at_c : Got a c b.rest b.waiting (list_at a b.rest ++ list_at a b.waiting) []
    at_c = got_two a c b.rest b.waiting (list_at a b.rest ++ list_at a b.waiting) [] (λ e. waiting_rest (sym e)) joined

    pub again_lives : IsLive c b.waiting × IsLive c b.rest
    again_lives = (live_got c b.waiting [] at_c.second, live_got c b.rest (list_at a b.rest ++ list_at a b.waiting) at_c.first)

    module _ (back : t.lists ≡ insert (with_list c b.waiting (list_at c b.waiting ++ list_at c b.rest)) b.rest []) where
      at_t : Got c t b.waiting b.rest (list_at c b.waiting ++ list_at c b.rest) []
      at_t = got_two c t b.waiting b.rest (list_at c b.waiting ++ list_at c b.rest) [] waiting_rest back

      pub turned_lists : t.lists ≡ insert (with_list s b.page (take place (list_at s b.page))) b.waiting (drop place (list_at s b.page) ++ list_at s b.waiting)
      turned_lists = insert_twice_from_get s.lists t.lists b.page b.waiting (take place (list_at s b.page)) (drop place (list_at s b.page) ++ list_at s b.waiting) page_waiting at_page at_waiting others
        where
          at_page : get t.lists b.page ≡ Some (take place (list_at s b.page))
          at_page = at_t.others b.page page_waiting page_rest ∙ at_c.others b.page page_rest page_waiting ∙ at_a.first

          at_waiting : get t.lists b.waiting ≡ Some (drop place (list_at s b.page) ++ list_at s b.waiting)
          at_waiting =
              at_t.first
              ∙ ap Some ((λ i. list_got c b.waiting [] at_c.second i ++ list_got c b.rest (list_at a b.rest ++ list_at a b.waiting) at_c.first i))
              ∙ ap Some ((λ i. list_got a b.rest (drop place (list_at s b.page)) at_a.second i ++ list_kept s a b.waiting waiting_a i))

          others : (q : ℕ) → q ≢ b.page → q ≢ b.waiting → get t.lists q ≡ get s.lists q
          others q np nw = elim (cases_eq q b.rest) [
            | inl e ↦ ap (get t.lists) e ∙ at_t.second ∙ sym (ap (get s.lists) e ∙ live_has s b.rest own.live.1.1.1.0 ∙ ap Some own.between)
            | inr nr ↦ at_t.others q nw nr ∙ at_c.others q nr nw ∙ at_a.others q np nr
          ]

-- ---- the page is cut

module _ (b : Builder) (s a t : Lists Node) (place : ℕ) (own : IsOwned (ids_of b) s)
    (turned : a.lists ≡ insert (with_list s b.page (take place (list_at s b.page))) b.waiting (drop place (list_at s b.page) ++ list_at s b.waiting)) where
  abbrev front : List Node
  front = take place (list_at s b.page)

  abbrev back : List Node
  back = drop place (list_at s b.page) ++ list_at s b.waiting

  g : Got s a b.page b.waiting front back
  g = got_two s a b.page b.waiting front back own.differ.0.0 turned

  pub waiting_turned : list_at a b.waiting ≡ back
  waiting_turned = list_got a b.waiting back g.second

  pub waiting_lives : IsLive a b.waiting
  waiting_lives = live_got a b.waiting back g.second

  -- what waits then, as the definitions see it
  pub plain_turned : map (plain_of (list_at s)) (list_at a b.waiting) ≡ drop place (contents_of b s).page ++ (contents_of b s).waiting
  plain_turned =
      ap (map (plain_of (list_at s))) waiting_turned
      ∙ map-append (plain_of (list_at s)) (drop place (list_at s b.page)) (list_at s b.waiting)
      ∙ ap (λ ns. ns ++ (contents_of b s).waiting) (sym (drop-map (plain_of (list_at s)) place (list_at s b.page)))

  module _ (spent : t.lists ≡ with_list a b.waiting (spent_nodes (list_at a b.waiting))) where
    w : Relisted (ids_of b) s t (list_at s b.held) front (spent_nodes back)
    w = record {
      held_is = other b.held (λ e. own.differ.0.1.0 (sym e)) (λ e. own.differ.1.0.0 (sym e)) ∙ live_has s b.held own.live.1.1.0;
      page_is = one_other a t b.waiting b.page (spent_nodes (list_at a b.waiting)) own.differ.0.0 spent ∙ g.first;
      waiting_is = one_got a t b.waiting (spent_nodes (list_at a b.waiting)) spent ∙ ap (λ ns. Some (spent_nodes ns)) waiting_turned;
      others = λ q nh np nw. other q np nw;
      inner_is =
          inner-append (list_at s b.held) (front ++ spent_nodes back)
          ∙ ap (λ is. inner_ids (list_at s b.held) ++ is) (inner-append front (spent_nodes back) ∙ ap (λ is. inner_ids front ++ is) (spent_ids back) ∙ sym (inner-append front back) ∙ ap inner_ids whole)
          ∙ sym (inner-append (list_at s b.held) (list_at s b.page ++ list_at s b.waiting));
      known_is =
          let all = subst (AllKnown (classes_of (ids_of b))) (sym whole) (known-right (classes_of (ids_of b)) (list_at s b.held) (list_at s b.page ++ list_at s b.waiting) own.known) in
          known-append (classes_of (ids_of b)) (list_at s b.held) (front ++ spent_nodes back)
          (known-left (classes_of (ids_of b)) (list_at s b.held) (list_at s b.page ++ list_at s b.waiting) own.known)
          (known-append (classes_of (ids_of b)) front (spent_nodes back) (known-left (classes_of (ids_of b)) front back all) (spent_known (classes_of (ids_of b)) back (known-right (classes_of (ids_of b)) front back all)));
    }
      where
        other : (q : ℕ) → q ≢ b.page → q ≢ b.waiting → get t.lists q ≡ get s.lists q
        other q np nw = one_other a t b.waiting q (spent_nodes (list_at a b.waiting)) nw spent ∙ g.others q np nw

        whole : front ++ back ≡ list_at s b.page ++ list_at s b.waiting
        whole = sym (append_assoc front (drop place (list_at s b.page)) (list_at s b.waiting)) ∙ ap (λ ns. ns ++ list_at s b.waiting) (take-append-drop place (list_at s b.page))

    pub cuts_of : Cuts b s t place
    cuts_of = record {
      own = relisted_own (ids_of b) s t (list_at s b.held) front (spent_nodes back) own w;
      frame = record { others = λ q h. relisted_others (ids_of b) s t (list_at s b.held) front (spent_nodes back) own w q h; apart = λ q h. relisted_keeps (ids_of b) s t (list_at s b.held) front (spent_nodes back) own w q h };
      page = relisted_page (ids_of b) s t (list_at s b.held) front (spent_nodes back) own w ∙ sym (take-map (plain_of (list_at s)) place (list_at s b.page));
      waiting = relisted_waiting (ids_of b) s t (list_at s b.held) front (spent_nodes back) own w ∙ spent_plain (list_at s) back ∙ ap with_spent_break (ap (map (plain_of (list_at s))) (sym waiting_turned) ∙ plain_turned);
      held = list_got t b.held (list_at s b.held) w.held_is;
      boxes = relisted_boxes (ids_of b) s t (list_at s b.held) front (spent_nodes back) own w;
    }
