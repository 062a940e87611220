-- The insertions of a page are taken out of the boxes of their classes, class by class.
use Rattle.std.proofs.Common.{◌≡◌, ◌≢◌, refl, sym, subst, ◌∙◌, ap, ℕ, true, false, List, [], ◌∷◌, ◌++◌, map, Option, Some, None, is_none}
use Rattle.std.specs.List.{AllByRecursion}
use Rattle.std.specs.FinMap.{get}
use Rattle.std.proofs.lemmas.Bool.{true≢false}
use Rattle.tb_builder.proofs.Events.NextLemmas.{fresh_apart}
use Rattle.tb_pool.specs.Lists.{Lists, list_at, with_list}
use Rattle.tb_pool.specs.Frame.{IsNoneOf, OnlyChanged}
use Rattle.tb_pool.proofs.CallerLemmas.{get_other}
use Rattle.tb_node.specs.declared.Node.{Node}
use Rattle.tb_node.specs.declared.Kind.{Kind}
use Rattle.tb_node.specs.declared.Kind.TheVariants as kinds
use Rattle.tb_node.specs.PlainNodes.{Leaf, leaf_of}
use Rattle.tb_insert.specs.declared.Class.{Class}
use Rattle.tb_builder.specs.declared.Builder.{Builder}
use Rattle.tb_builder.specs.FiredPages.{content_of, box_content}
use Rattle.tb_builder.specs.Contents.{Contents, contents_of}
use Rattle.tb_builder.specs.Ownership.{Lacks, ids_of, owned, is_plain, AllPlain}
use Rattle.tb_builder.specs.Courses.{IsSound}
use Rattle.tb_builder.specs.Contributions.{NoPage, with_void, Taken}
use Rattle.tb_builder.proofs.Ownership.FrameLemmas.{opened_same, opened_empty, opened_apart, frame_owned, frame_contents, frame_sound}
use Rattle.tb_builder.proofs.Ownership.StoreSized.{boxes_of}
use Rattle.tb_column.specs.declared.NoteBox.{NoteBox}
use Rattle.tb_column.specs.Page.{is_leaf_kind, AreLeaves}
use Rattle.tb_column.specs.Notes.{note_shown}
use Rattle.tb_output.specs.State.{with_notes}
use Rattle.tb_builder.specs.BuilderLists.{builder_lists}
use Rattle.tb_output.specs.Notes.{IsLeafList, AreOwnLists, BoxesTaken}
use Rattle.tb_sheet.proofs.ListsApart.{apart-none}
use Rattle.tb_builder.proofs.Ownership.LackLemmas.{none-lacks, lacks-none}
use Rattle.tb_output.proofs.FiringWork.BuilderLemmas.{beside-owned, beside-sound}
use Rattle.tb_output.proofs.Firings.VoidBoxes.{void-same}

-- ---- no list was opened

module _ (b : Builder) (store new : Lists Node) (sound : IsSound b store) (same : new.lists ≡ store.lists) where
  nothing-changed : OnlyChanged [] [] store new
  nothing-changed = λ q live none. (ap (λ m. get m q) same, tt)

  pub unopened-sound : IsSound b new
  unopened-sound = beside-sound b [] [] store new sound nothing-changed (apart-none (builder_lists b store))

  pub unopened-frame : OnlyChanged (builder_lists b store) (builder_lists b new) store new
  unopened-frame = λ q live none. (ap (λ m. get m q) same, subst (IsNoneOf q) (sym (beside-owned b [] [] store new sound nothing-changed (apart-none (builder_lists b store)))) none)

-- ---- the box of a class is void

pub void-taken : (c : Class) (b : Builder) (store : Lists Node) → IsSound b store → box_content (contents_of b store).boxes c.number ≡ None → BoxesTaken (c ∷ []) [] b b store store
void-taken c b store sound none = record {
  contents = λ i. record (contents_of b store) { boxes = sym (void-same (contents_of b store).classes (contents_of b store).boxes c.number sound.own.classes (boxes_of store b.boxes) none) i };
  shown = sym (ap (λ o. with_notes c o []) none);
  lists = tt;
  own = record { apart = tt; fresh = λ q live free. tt; free = tt };
}

pub is-void : (o : Option (List Leaf)) → is_none o ≡ true → o ≡ None
is-void None h = refl
is-void (Some x) h = absurd (true≢false (sym h))

-- a box that is not void shows its nodes
full-is : (o : Option (List Leaf)) (ls : List Leaf) → is_none o ≡ false → ls ≡ content_of o → Some ls ≡ o
full-is None ls h e = absurd (true≢false h)
full-is (Some xs) ls h e = ap (λ x. Some x) e

-- ---- the box of a class is taken into a list that was opened for it

plain-leaf : (k : Kind) → is_plain k ≡ true → is_leaf_kind k
plain-leaf (kinds.Ins i) p = absurd (true≢false (sym p))
plain-leaf (kinds.Act a) p = absurd (true≢false (sym p))
plain-leaf k p = tt

plain-leaves : (ns : List Node) → AllPlain ns → AreLeaves ns
plain-leaves [] h = tt
plain-leaves (n ∷ ns) h = (plain-leaf n.kind h.0, plain-leaves ns h.1)

module _ (b : Builder) (store mid : Lists Node) (l : ℕ) (sound : IsSound b store) (fresh : get store.lists l ≡ None) (opened : mid.lists ≡ with_list store l []) where
  pub list-sound : IsSound b mid
  list-sound = frame_sound b store mid sound (opened_same b store mid l sound fresh opened)

  list-contents : contents_of b mid ≡ contents_of b store
  list-contents = frame_contents b store mid sound (opened_same b store mid l sound fresh opened)

  list-owned : builder_lists b mid ≡ builder_lists b store
  list-owned = frame_owned b store mid sound (opened_same b store mid l sound fresh opened)

  pub list-awaits : NoPage (contents_of b store) → NoPage (contents_of b mid)
  list-awaits h = subst NoPage (sym list-contents) h

  module _ (c : Class) (n : NoteBox) (d : Builder) (new : Lists Node) (is : n ≡ record { class = c.number; below = c.below; skip = c.skip; list = l }) (full : is_none (box_content (contents_of b store).boxes c.number) ≡ false)
      (contents : contents_of d new ≡ record (contents_of b mid) { boxes = with_void c.number (contents_of b mid).boxes }) (taken : Taken mid new l (box_content (contents_of b mid).boxes c.number))
      (keeps : (q : ℕ) → Lacks q (owned (ids_of b) mid) → Lacks q (owned (ids_of d) new)) where
    joined : list_at new l ≡ taken.nodes
    joined = taken.joined ∙ ap (λ (ns : List Node). ns ++ taken.nodes) (opened_empty b store mid l sound fresh opened)

    leaves : map leaf_of (list_at new l) ≡ content_of (box_content (contents_of b store).boxes c.number)
    leaves = ap (map leaf_of) joined ∙ taken.leaves ∙ ap (λ (x : Contents). content_of (box_content x.boxes c.number)) list-contents

    pub box-taken : BoxesTaken (c ∷ []) (n ∷ []) b d store new
    box-taken = record {
      contents = contents ∙ (λ i. record (list-contents i) { boxes = with_void c.number (list-contents i).boxes });
      shown = ap (λ (x : NoteBox). note_shown new x ∷ []) is ∙ ap (λ o. with_notes c o []) (full-is (box_content (contents_of b store).boxes c.number) (map leaf_of (list_at new l)) full leaves);
      lists = subst (λ (x : NoteBox). AllByRecursion (IsLeafList new) (x.list ∷ [])) (sym is) (record { live = taken.live; leaves = plain-leaves (list_at new l) (subst AllPlain (sym joined) taken.plain_nodes) }, tt);
      own = subst (λ (x : NoteBox). AreOwnLists (x.list ∷ []) b d store new) (sym is) (record {
        apart = (tt, tt);
        fresh = λ q live free. ((λ e. fresh_apart store l q fresh live (sym e)), tt);
        free = (lacks-none l (builder_lists d new) (keeps l (opened_apart b store mid l sound fresh opened)), tt);
      });
    }

    pub box-frame : ((q : ℕ) → q ≢ l → Lacks q (owned (ids_of b) mid) → get new.lists q ≡ get mid.lists q) → OnlyChanged (builder_lists b store) (builder_lists d new) store new
    box-frame others = λ q live none.
        let differ : q ≢ l = fresh_apart store l q fresh live in
        let lacks : Lacks q (owned (ids_of b) mid) = subst (Lacks q) (sym list-owned) (none-lacks q (builder_lists b store) none) in
        (others q differ lacks ∙ get_other store mid l [] q differ opened, lacks-none q (builder_lists d new) (keeps q lacks))
