-- After a page fired its nodes are still sized: those of its body, those that wait, those that are held, and those in the boxes.
use Rattle.std.proofs.Common.{refl, ℕ, ℤ, Bool, true, false, List, [], ◌∷◌, ◌++◌, length, take, drop, Option, None, Some, arith}
use Rattle.std.specs.Prelude.{map, All, ◌==◌, not, if◌then◌else◌}
use Rattle.std.proofs.lemmas.Int.{ints}
use Rattle.std.proofs.lemmas.List.Elements.{All-nil, All-cons, All-head, All-tail, All-append, All-push, All-filter, All-take, All-drop}
use Rattle.tb_node.specs.Fit.{IsExtent, IsSized, IsSizedLeaf}
use Rattle.tb_node.specs.Shape.{Shape, box, other}
use Rattle.tb_node.specs.PlainNodes.{skip, pen, Leaf, leaf_shape, Inserted, PlainKind, plain, ins, act, PlainNode, without_acts, is_act_kind, is_insertion_kind, on_line}
use Rattle.tb_break.specs.Best.{Breakpoint, is_stop}
use Rattle.tb_break.specs.PageTop.{pruned_leaves, pruned_at, top_glue}
use Rattle.tb_insert.specs.Terms.{Terms}
use Rattle.tb_insert.specs.Account.{Frozen, Label, whole, split, late, Labelled, label_of, labelled_with, labelled_from, labelled, terms_after}
use Rattle.tb_builder.specs.declared.Ask.{Ask}
use Rattle.tb_builder.specs.Reach.{Reach, also_reached, tried, stopped_at, page_place, reach_at_place, reach_at, reach_from}
use Rattle.tb_builder.specs.FiredPages.{Boxed, content_of, Fired, page_break, spent_kind, with_spent_break, given_by, given_to, is_given, box_after, again_with, unless_empty, held_of, held_insertions, fired_by}
use Rattle.tb_builder.specs.Contents.{Contents, frozen_of}
use Rattle.tb_builder.specs.PageEvents.{fired_page}
use Rattle.tb_builder.specs.Pageable.{IsSizedInserted, IsSizedKind, IsSizedOnPage, IsSizedBox}
use Rattle.tb_builder.proofs.Ranges.PageableLemmas.{glue_sized}

-- ---- what is passed and what is beyond

pub record EndSized (w : Reach) : Type 0 where
  pub passed : All IsSizedOnPage w.passed
  pub beyond : All IsSizedOnPage w.beyond

module _ (limit : ℤ) (terms : List PlainNode → Terms) where
  at_place : (before : List PlainNode) (n : PlainNode) (rest : List PlainNode) (later : Reach) (b : Breakpoint) → All IsSizedOnPage before → All IsSizedOnPage (n ∷ rest) → EndSized later → EndSized (reach_at_place before n rest later b)
  at_place before n rest later b h r l = by_stop (is_stop b)
    where
      by_stop : (t : Bool) → EndSized (if t then stopped_at before n rest b else also_reached (tried n.line b) later)
      by_stop true = record { passed = h; beyond = r }
      by_stop false = record { passed = l.passed; beyond = l.beyond }

  at_node : (before : List PlainNode) (n : PlainNode) (rest : List PlainNode) (later : Reach) (o : Option ℤ) → All IsSizedOnPage before → All IsSizedOnPage (n ∷ rest) → EndSized later → EndSized (reach_at limit terms before n rest later o)
  at_node before n rest later None h r l = l
  at_node before n rest later (Some p) h r l = at_place before n rest later (page_place limit terms before p) h r l

  pub reach_sized : (before ns : List PlainNode) → All IsSizedOnPage before → All IsSizedOnPage ns → EndSized (reach_from limit terms before ns)
  reach_sized before [] h r = record { passed = h; beyond = All-nil IsSizedOnPage }
  reach_sized before (n ∷ ns) h r =
      by_kind n.line n.kind (reach_sized (before ++ without_acts (n ∷ [])) ns (All-append IsSizedOnPage before (without_acts (n ∷ [])) h (All-filter (λ (m : PlainNode). not (is_act_kind m.kind)) IsSizedOnPage (n ∷ []) (All-cons IsSizedOnPage n [] (All-head IsSizedOnPage n ns r) (All-nil IsSizedOnPage)))) (All-tail IsSizedOnPage n ns r)) r
    where
      by_kind : (line : ℕ) (k : PlainKind) → (let m : PlainNode = record { line = line; kind = k } in EndSized (reach_from limit terms (before ++ without_acts (m ∷ [])) ns) → All IsSizedOnPage (m ∷ ns) → EndSized (reach_from limit terms before (m ∷ ns)))
      by_kind line (plain p) l r = at_node before (record { line = line; kind = plain p }) ns (reach_from limit terms (before ++ without_acts (record { line = line; kind = plain p } ∷ [])) ns) _ h r l
      by_kind line (ins i) l r = l
      by_kind line (act a) l r = record { passed = l.passed; beyond = l.beyond }

-- ---- insertions

inserted_in : (z : Frozen) (ls : List Labelled) (before ns : List PlainNode) → All (λ l. IsSizedInserted l.inserted) ls → All IsSizedOnPage ns → All (λ l. IsSizedInserted l.inserted) (labelled_from z ls before ns)
inserted_in z ls before [] h s = h
inserted_in z ls before (n ∷ ns) h s = inserted_in z (labelled_with z ls before n.line n.kind) (before ++ n ∷ []) ns (by_kind n.kind (All-head IsSizedOnPage n ns s).kind) (All-tail IsSizedOnPage n ns s)
  where
    by_kind : (k : PlainKind) → IsSizedKind k → All (λ l. IsSizedInserted l.inserted) (labelled_with z ls before n.line k)
    by_kind (plain m) k = h
    by_kind (ins i) k = All-push (λ l. IsSizedInserted l.inserted) ls (record { index = length before; line = n.line; inserted = i; label = label_of z ls before i }) h k
    by_kind (act a) k = h

given_sized : (lab : Label) (i : Inserted) → IsSizedInserted i → All IsSizedLeaf (given_by lab i)
given_sized whole i s = s.inner
given_sized (split f) i s = All-take IsSizedLeaf f.index i.inner s.inner
given_sized late i s = All-nil IsSizedLeaf

given_all : (k : ℕ) (ls : List Labelled) → All (λ l. IsSizedInserted l.inserted) ls → All IsSizedLeaf (given_to k ls)
given_all k [] h = All-nil IsSizedLeaf
given_all k (l ∷ ls) h = by_test (l.inserted.class == k) (given_all k ls (All-tail (λ l. IsSizedInserted l.inserted) l ls h))
  where
    by_test : (b : Bool) → All IsSizedLeaf (given_to k ls) → All IsSizedLeaf (if b then given_by l.label l.inserted ++ given_to k ls else given_to k ls)
    by_test true rest = All-append IsSizedLeaf (given_by l.label l.inserted) (given_to k ls) (given_sized l.label l.inserted (All-head (λ l. IsSizedInserted l.inserted) l ls h)) rest
    by_test false rest = rest

box_sized : (ls : List Labelled) (b : Boxed) → All (λ l. IsSizedInserted l.inserted) ls → IsSizedBox b → IsSizedBox (box_after ls b)
box_sized ls b h s = by_test (is_given b.number ls)
  where
    by_test : (t : Bool) → IsSizedBox (if t then record b { content = Some (content_of b.content ++ given_to b.number ls) } else b)
    by_test true = All-append IsSizedLeaf (content_of b.content) (given_to b.number ls) s (given_all b.number ls h)
    by_test false = s

boxes_sized : (ls : List Labelled) (bs : List Boxed) → All (λ l. IsSizedInserted l.inserted) ls → All IsSizedBox bs → All IsSizedBox (map (box_after ls) bs)
boxes_sized ls [] h s = All-nil IsSizedBox
boxes_sized ls (b ∷ bs) h s = All-cons IsSizedBox (box_after ls b) (map (box_after ls) bs) (box_sized ls b h (All-head IsSizedBox b bs s)) (boxes_sized ls bs h (All-tail IsSizedBox b bs s))

-- ---- what is held

leaf_at : (t : ℤ) (s : Shape) (n : Leaf) (ns pruned : List Leaf) → IsExtent t → IsSized s → IsSizedLeaf n → All IsSizedLeaf ns → All IsSizedLeaf pruned → All IsSizedLeaf (pruned_at (λ m g. record { line = m.line; matter = skip g }) t s n ns pruned)
leaf_at t (box h d) n ns pruned a s here rest later = All-cons IsSizedLeaf (record { line = n.line; matter = skip (top_glue t h) }) (n ∷ ns) (glue_sized t h a s.0) (All-cons IsSizedLeaf n ns here rest)
leaf_at t other n ns pruned a s here rest later = All-cons IsSizedLeaf n pruned here later
leaf_at t k n ns pruned a s here rest later = later

leaves_pruned : (t : ℤ) (ns : List Leaf) → IsExtent t → All IsSizedLeaf ns → All IsSizedLeaf (pruned_leaves t ns)
leaves_pruned t [] a h = All-nil IsSizedLeaf
leaves_pruned t (n ∷ ns) a h =
    let here = All-head IsSizedLeaf n ns h in
    let rest = All-tail IsSizedLeaf n ns h in
    leaf_at t (leaf_shape n) n ns (pruned_leaves t ns) a here here rest (leaves_pruned t ns a rest)

again_sized : (line : ℕ) (i : Inserted) (ns : List Leaf) → IsSizedInserted i → All IsSizedLeaf ns → All IsSizedOnPage (on_line line (unless_empty i ns))
again_sized line i [] s h = All-nil IsSizedOnPage
again_sized line i (n ∷ ns) s h =
    All-cons IsSizedOnPage (record { line = line; kind = again_with i (n ∷ ns) }) [] (record { shape = tt; kind = record { inner = h; height = refl; split_depth = s.split_depth; split_top = s.split_top; floating = s.floating } }) (All-nil IsSizedOnPage)

held_sized : (line : ℕ) (lab : Label) (i : Inserted) → IsSizedInserted i → All IsSizedOnPage (on_line line (held_of lab i))
held_sized line whole i s = All-nil IsSizedOnPage
held_sized line (split f) i s = again_sized line i (pruned_leaves i.split_top (drop f.index i.inner)) s (leaves_pruned i.split_top (drop f.index i.inner) s.split_top (All-drop IsSizedLeaf f.index i.inner s.inner))
held_sized line late i s = All-cons IsSizedOnPage (record { line = line; kind = ins i }) [] (record { shape = tt; kind = s }) (All-nil IsSizedOnPage)

held_all : (ls : List Labelled) → All (λ l. IsSizedInserted l.inserted) ls → All IsSizedOnPage (held_insertions ls)
held_all [] h = All-nil IsSizedOnPage
held_all (l ∷ ls) h =
    All-append IsSizedOnPage (on_line l.line (held_of l.label l.inserted)) (held_insertions ls) (held_sized l.line l.label l.inserted (All-head (λ l. IsSizedInserted l.inserted) l ls h)) (held_all ls (All-tail (λ l. IsSizedInserted l.inserted) l ls h))

-- ---- the break node

spent_sized : (line : ℕ) (k : PlainKind) → (let n : PlainNode = record { line = line; kind = k } in let m : PlainNode = record { line = line; kind = spent_kind k } in IsSizedOnPage n → IsSizedOnPage m)
spent_sized line (plain (pen p)) s = record { shape = record { low = omega (arith, ints); high = omega (arith, ints) }; kind = tt }
spent_sized line k s = s

rest_sized : (ns : List PlainNode) → All IsSizedOnPage ns → All IsSizedOnPage (with_spent_break ns)
rest_sized [] h = h
rest_sized (n ∷ ns) h = All-cons IsSizedOnPage (record n { kind = spent_kind n.kind }) ns (spent_sized n.line n.kind (All-head IsSizedOnPage n ns h)) (All-tail IsSizedOnPage n ns h)

-- ---- the page that fires

pub record FiredSized (f : Fired) : Type 0 where
  pub body : All IsSizedOnPage f.body
  pub boxes : All IsSizedBox f.boxes
  pub held : All IsSizedOnPage f.held
  pub rest : All IsSizedOnPage f.rest

pub fired_by_sized : (limit : ℤ) (terms : List PlainNode → Terms) (z : Frozen) (bs : List Boxed) (ns : List PlainNode) → All IsSizedOnPage ns → All IsSizedBox bs
    → (let w : Reach = reach_from limit terms [] ns in FiredSized (fired_by (labelled z (take (page_break w).place w.passed)) bs w))
fired_by_sized limit terms z bs ns sized boxes =
    let w : Reach = reach_from limit terms [] ns in
    let k = (page_break w).place in
    let ends = reach_sized limit terms [] ns (All-nil IsSizedOnPage) sized in
    let front = All-take IsSizedOnPage k w.passed ends.passed in
    let labels = inserted_in z [] [] (take k w.passed) (All-nil (λ l. IsSizedInserted l.inserted)) front in
    record {
      body = All-filter (λ (n : PlainNode). not (is_insertion_kind n.kind)) IsSizedOnPage (take k w.passed) front;
      boxes = boxes_sized (labelled z (take k w.passed)) bs labels boxes;
      held = held_all (labelled z (take k w.passed)) labels;
      rest = rest_sized (drop k w.passed ++ w.beyond) (All-append IsSizedOnPage (drop k w.passed) w.beyond (All-drop IsSizedOnPage k w.passed ends.passed) ends.beyond);
    }

pub fired_sized : (c : Contents) (ask : Ask) → All IsSizedOnPage c.page → All IsSizedOnPage c.waiting → All IsSizedBox c.boxes → FiredSized (fired_page c ask)
fired_sized c ask page waiting boxes =
    let z = frozen_of c ask in
    fired_by_sized z.limit (terms_after z) z c.boxes (c.page ++ c.waiting) (All-append IsSizedOnPage c.page c.waiting page waiting) boxes
