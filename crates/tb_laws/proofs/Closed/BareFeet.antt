-- What makes a page higher holds nothing that weighs: neither the insertions of class 255 that wait, nor what its box holds, nor those that are held.
use Rattle.std.proofs.Common.{◌≡◌, refl, sym, ◌∙◌, ap, subst, ℕ, ◌==◌, ℤ, Bool, true, false, List, [], ◌∷◌, ◌++◌, map, take, drop, length, Option, Some, None, arith}
use Rattle.std.specs.Prelude.{if◌then◌else◌}
use Rattle.std.specs.List.{AllByRecursion}
use Rattle.std.proofs.lemmas.Bool.{eqb-true}
use Rattle.tb_break.proofs.EachLemmas.{all-join, all-take, all-drop, all-front, all-back}
use Rattle.tb_node.specs.PlainNodes.{Matter, hbox, rule, skip, kerned, pen, mark, note, whatsit, Leaf, Inserted, PlainKind, plain, ins, act, PlainNode, without_acts, without_insertions, on_line}
use Rattle.tb_node.proofs.Weights.{Weight, matter_weight, leaves_weight}
use Rattle.tb_break.specs.PageTop.{pruned_leaves, pruned_nodes}
use Rattle.tb_insert.specs.declared.Class.{Class}
use Rattle.tb_insert.specs.Account.{Frozen, Labelled, Label, whole, split, late, label_of, labelled_with, labelled_from}
use Rattle.tb_builder.specs.FiredPages.{Boxed, spent_kind, with_spent_break, given_by, given_to, is_given, content_of, box_content, box_after, unless_empty, held_of, held_insertions}
use Rattle.tb_builder.specs.Reach.{Reach}
use Rattle.tb_builder.proofs.Cutting.CutLemmas.{CutAt}
use Rattle.tb_builder.proofs.FiredPages.PageWeights.{IsOnce, OfClass, AllOfClass}
use Rattle.tb_column.specs.Column.{Notes}
use Rattle.tb_output.specs.State.{with_notes, notes_in, void_boxes}
use Rattle.tb_output.specs.Columns

-- a node that weighs nothing
abbrev pub IsBare : Leaf → Type 0
IsBare l = (v : Weight) → matter_weight v l.line l.matter ≡ 0

abbrev pub AreBare : List Leaf → Type 0
AreBare ls = AllByRecursion IsBare ls

-- if they are of class 255
abbrev pub BareAt : ℕ → List Leaf → Type 0
BareAt n ls = (n == 255) ≡ true → AreBare ls

abbrev pub HoldsBare : PlainKind → Type 0
HoldsBare (plain m) = Unit {0}
HoldsBare (ins i) = BareAt i.class i.inner
HoldsBare (act a) = Unit {0}

abbrev pub HoldBare : List PlainNode → Type 0
HoldBare = AllByRecursion (λ n. HoldsBare n.kind)

abbrev pub BoxesBare : List Boxed → Type 0
BoxesBare = AllByRecursion (λ b. BareAt b.number (content_of b.content))

abbrev pub LabelsBare : List Labelled → Type 0
LabelsBare = AllByRecursion (λ l. BareAt l.inserted.class l.inserted.inner)

abbrev pub NotesBare : List Notes → Type 0
NotesBare = AllByRecursion (λ n. BareAt n.class n.inner)

pub bare-weight : (v : Weight) (ls : List Leaf) → AreBare ls → leaves_weight v ls ≡ 0
bare-weight v [] h = refl
bare-weight v (l ∷ ls) h =
    let a : matter_weight v l.line l.matter ≡ 0 = h.0 v in
    let b : leaves_weight v ls ≡ 0 = bare-weight v ls h.1 in
    omega arith

-- ---- the page that fires

leaf-pruned : (t : ℤ) (ls : List Leaf) → AreBare ls → AreBare (pruned_leaves t ls) → (n : ℕ) (m : Matter) → IsBare (record { line = n; matter = m }) → AreBare (pruned_leaves t (record { line = n; matter = m } ∷ ls))
leaf-pruned t ls h i n (hbox w a d) e = (λ v. refl, (e, h))
leaf-pruned t ls h i n (rule name a d) e = (λ v. refl, (e, h))
leaf-pruned t ls h i n (mark name) e = (e, i)
leaf-pruned t ls h i n (note name) e = (e, i)
leaf-pruned t ls h i n whatsit e = (e, i)
leaf-pruned t ls h i n m e = i

leaves-pruned : (t : ℤ) (ls : List Leaf) → AreBare ls → AreBare (pruned_leaves t ls)
leaves-pruned t [] h = tt
leaves-pruned t (l ∷ ls) h = leaf-pruned t ls h.1 (leaves-pruned t ls h.1) l.line l.matter h.0

with-bare : (z : Frozen) (ls : List Labelled) (before : List PlainNode) (line : ℕ) (d : PlainKind) → LabelsBare ls → HoldsBare d → LabelsBare (labelled_with z ls before line d)
with-bare z ls before line (plain m) h c = h
with-bare z ls before line (ins i) h c = all-join (λ (l : Labelled). BareAt l.inserted.class l.inserted.inner) ls (record { index = length before; line = line; inserted = i; label = label_of z ls before i } ∷ []) h (c, tt)
with-bare z ls before line (act a) h c = h

pub labelled-bare : (z : Frozen) (ls : List Labelled) (before ns : List PlainNode) → LabelsBare ls → HoldBare ns → LabelsBare (labelled_from z ls before ns)
labelled-bare z ls before [] h c = h
labelled-bare z ls before (n ∷ ns) h c = labelled-bare z (labelled_with z ls before n.line n.kind) (before ++ n ∷ []) ns (with-bare z ls before n.line n.kind h c.0) c.1

pub given-bare : (t : Label) (i : Inserted) → AreBare i.inner → AreBare (given_by t i)
given-bare whole i h = h
given-bare (split f) i h = all-take IsBare f.index i.inner h
given-bare late i h = tt

given-to-bare : (c : ℕ) → (c == 255) ≡ true → (ls : List Labelled) → LabelsBare ls → AreBare (given_to c ls)
given-to-bare c last [] h = tt
given-to-bare c last (l ∷ ls) h = by_class (l.inserted.class == c) refl (given-to-bare c last ls h.1)
  where
    by_class : (t : Bool) → (l.inserted.class == c) ≡ t → AreBare (given_to c ls) → AreBare (if t then given_by l.label l.inserted ++ given_to c ls else given_to c ls)
    by_class true e g = all-join IsBare (given_by l.label l.inserted) (given_to c ls) (given-bare l.label l.inserted (h.0 (ap (λ n. n == 255) (eqb-true l.inserted.class c e) ∙ last))) g
    by_class false e g = g

box-bare : (ls : List Labelled) (b : Boxed) → LabelsBare ls → BareAt b.number (content_of b.content) → BareAt (box_after ls b).number (content_of (box_after ls b).content)
box-bare ls b h c = by_given (is_given b.number ls)
  where
    by_given : (t : Bool) → BareAt (if t then record b { content = Some (content_of b.content ++ given_to b.number ls) } else b).number (content_of (if t then record b { content = Some (content_of b.content ++ given_to b.number ls) } else b).content)
    by_given true = λ last. all-join IsBare (content_of b.content) (given_to b.number ls) (c last) (given-to-bare b.number last ls h)
    by_given false = c

pub boxes-bare : (ls : List Labelled) (bs : List Boxed) → LabelsBare ls → BoxesBare bs → BoxesBare (map (box_after ls) bs)
boxes-bare ls [] h c = tt
boxes-bare ls (b ∷ bs) h c = (box-bare ls b h c.0, boxes-bare ls bs h c.1)

unless-bare : (line : ℕ) (i : Inserted) (ls : List Leaf) → BareAt i.class ls → HoldBare (on_line line (unless_empty i ls))
unless-bare line i [] h = tt
unless-bare line i (l ∷ ls) h = (h, tt)

held-of-bare : (line : ℕ) (t : Label) (i : Inserted) → BareAt i.class i.inner → HoldBare (on_line line (held_of t i))
held-of-bare line whole i h = tt
held-of-bare line (split f) i h = unless-bare line i _ (λ last. leaves-pruned i.split_top (drop f.index i.inner) (all-drop IsBare f.index i.inner (h last)))
held-of-bare line late i h = (h, tt)

pub held-bare : (ls : List Labelled) → LabelsBare ls → HoldBare (held_insertions ls)
held-bare [] h = tt
held-bare (l ∷ ls) h = all-join (λ (n : PlainNode). HoldsBare n.kind) (on_line l.line (held_of l.label l.inserted)) (held_insertions ls) (held-of-bare l.line l.label l.inserted h.0) (held-bare ls h.1)

prune-more : (l : ℕ) (t : ℤ) (d : PlainKind) (ns : List PlainNode) → HoldsBare d → HoldBare ns → HoldBare (pruned_nodes t ns) → HoldBare (pruned_nodes t (record { line = l; kind = d } ∷ ns))
prune-more l t (plain (hbox w a d)) ns c g h = (tt, (tt, g))
prune-more l t (plain (rule w a d)) ns c g h = (tt, (tt, g))
prune-more l t (plain (skip g)) ns c i h = h
prune-more l t (plain (kerned g)) ns c i h = h
prune-more l t (plain (pen g)) ns c i h = h
prune-more l t (ins x) ns c i h = (c, h)
prune-more l t d ns c g h = (tt, h)

pub pruned-bare : (t : ℤ) (ns : List PlainNode) → HoldBare ns → HoldBare (pruned_nodes t ns)
pruned-bare t [] h = tt
pruned-bare t (n ∷ ns) h = prune-more n.line t n.kind ns h.0 h.1 (pruned-bare t ns h.1)

acts-more : (l : ℕ) (d : PlainKind) (ns : List PlainNode) → HoldsBare d → HoldBare (without_acts ns) → HoldBare (without_acts (record { line = l; kind = d } ∷ ns))
acts-more l (plain m) ns c h = (c, h)
acts-more l (ins i) ns c h = (c, h)
acts-more l (act a) ns c h = h

pub acts-bare : (ns : List PlainNode) → HoldBare ns → HoldBare (without_acts ns)
acts-bare [] h = tt
acts-bare (n ∷ ns) h = acts-more n.line n.kind ns h.0 (acts-bare ns h.1)

pub spent-bare : (ns : List PlainNode) → HoldBare ns → HoldBare (with_spent_break ns)
spent-bare [] h = tt
spent-bare (n ∷ ns) h = (by_kind n.kind h.0, h.1)
  where
    by_kind : (d : PlainKind) → HoldsBare d → HoldsBare (spent_kind d)
    by_kind (plain (hbox w a d)) h = tt
    by_kind (ins i) h = h
    by_kind d h = tt

body-more : (ns : List PlainNode) → HoldBare (without_insertions ns) → (l : ℕ) (d : PlainKind) → HoldBare (without_insertions (record { line = l; kind = d } ∷ ns))
body-more ns h l (plain m) = (tt, h)
body-more ns h l (ins i) = h
body-more ns h l (act a) = (tt, h)

pub body-bare : (ns : List PlainNode) → HoldBare (without_insertions ns)
body-bare [] = tt
body-bare (n ∷ ns) = body-more ns (body-bare ns) n.line n.kind

pub bare-join : (xs ys : List PlainNode) → HoldBare xs → HoldBare ys → HoldBare (xs ++ ys)
bare-join xs ys h k = all-join (λ (n : PlainNode). HoldsBare n.kind) xs ys h k

pub bare-take : (i : ℕ) (ns : List PlainNode) → HoldBare ns → HoldBare (take i ns)
bare-take i ns h = all-take (λ (n : PlainNode). HoldsBare n.kind) i ns h

pub bare-drop : (i : ℕ) (ns : List PlainNode) → HoldBare ns → HoldBare (drop i ns)
bare-drop i ns h = all-drop (λ (n : PlainNode). HoldsBare n.kind) i ns h

-- what a page was made of, and what it did not reach
pub bare-passed : (ns : List PlainNode) (w : Reach) → CutAt [] ns w → HoldBare ns → HoldBare w.passed × HoldBare w.beyond
bare-passed ns w cut h =
    let all : HoldBare (cut.front ++ w.beyond) = subst HoldBare cut.whole h in
    (subst HoldBare (sym cut.passed) (acts-bare cut.front (all-front (λ (n : PlainNode). HoldsBare n.kind) cut.front w.beyond all)), all-back (λ (n : PlainNode). HoldsBare n.kind) cut.front w.beyond all)

-- ---- the boxes

pub void-bare : (cs : List Class) → BoxesBare (void_boxes cs)
void-bare [] = tt
void-bare (c ∷ cs) = ((λ e. tt), void-bare cs)

pub emptied-bare : (bs : List Boxed) → BoxesBare (Columns.emptied_boxes bs)
emptied-bare [] = tt
emptied-bare (b ∷ bs) = ((λ e. tt), emptied-bare bs)

pub content-bare : (n : ℕ) (bs : List Boxed) → BoxesBare bs → BareAt n (content_of (box_content bs n))
content-bare n [] h = λ e. tt
content-bare n (b ∷ bs) h = by_number (b.number == n) refl (content-bare n bs h.1)
  where
    by_number : (t : Bool) → (b.number == n) ≡ t → BareAt n (content_of (box_content bs n)) → BareAt n (content_of (if t then b.content else box_content bs n))
    by_number true e again = subst (λ k. BareAt k (content_of b.content)) (eqb-true b.number n e) h.0
    by_number false e again = again

with-notes-bare : (c : Class) (o : Option (List Leaf)) (ns : List Notes) → BareAt c.number (content_of o) → NotesBare ns → NotesBare (with_notes c o ns)
with-notes-bare c None ns h k = k
with-notes-bare c (Some ls) ns h k = (h, k)

-- the insertions of a page
pub notes-bare : (cs : List Class) (bs : List Boxed) → BoxesBare bs → NotesBare (notes_in cs bs)
notes-bare [] bs h = tt
notes-bare (c ∷ cs) bs h = with-notes-bare c (box_content bs c.number) (notes_in cs bs) (content-bare c.number bs h) (notes-bare cs bs h)

-- ---- with the classes

-- all insertions are of these classes, each of which is once among them, and those of class 255 hold nothing that weighs
abbrev pub FitsPlace : List ℕ → PlainKind → Type 0
FitsPlace ks (plain m) = Unit {0}
FitsPlace ks (ins i) = IsOnce ks i.class × BareAt i.class i.inner
FitsPlace ks (act a) = Unit {0}

abbrev pub AllPlaced : List ℕ → List PlainNode → Type 0
AllPlaced ks = AllByRecursion (λ n. FitsPlace ks n.kind)

kind-class : (ks : List ℕ) (d : PlainKind) → FitsPlace ks d → OfClass ks d
kind-class ks (plain m) h = tt
kind-class ks (ins i) h = h.0
kind-class ks (act a) h = tt

kind-bare : (ks : List ℕ) (d : PlainKind) → FitsPlace ks d → HoldsBare d
kind-bare ks (plain m) h = tt
kind-bare ks (ins i) h = h.1
kind-bare ks (act a) h = tt

kind-placed : (ks : List ℕ) (d : PlainKind) → OfClass ks d → HoldsBare d → FitsPlace ks d
kind-placed ks (plain m) h b = tt
kind-placed ks (ins i) h b = (h, b)
kind-placed ks (act a) h b = tt

pub placed-class : (ks : List ℕ) (ns : List PlainNode) → AllPlaced ks ns → AllOfClass ks ns
placed-class ks [] h = tt
placed-class ks (n ∷ ns) h = (kind-class ks n.kind h.0, placed-class ks ns h.1)

pub placed-bare : (ks : List ℕ) (ns : List PlainNode) → AllPlaced ks ns → HoldBare ns
placed-bare ks [] h = tt
placed-bare ks (n ∷ ns) h = (kind-bare ks n.kind h.0, placed-bare ks ns h.1)

pub all-placed : (ks : List ℕ) (ns : List PlainNode) → AllOfClass ks ns → HoldBare ns → AllPlaced ks ns
all-placed ks [] h b = tt
all-placed ks (n ∷ ns) h b = (kind-placed ks n.kind h.0 b.0, all-placed ks ns h.1 b.1)

pub placed-both : (ks : List ℕ) (xs ys : List PlainNode) → AllPlaced ks xs → AllPlaced ks ys → AllPlaced ks (xs ++ ys)
placed-both ks xs ys h k = all-join (λ (n : PlainNode). FitsPlace ks n.kind) xs ys h k

pub placed-take : (ks : List ℕ) (i : ℕ) (ns : List PlainNode) → AllPlaced ks ns → AllPlaced ks (take i ns)
placed-take ks i ns h = all-take (λ (n : PlainNode). FitsPlace ks n.kind) i ns h
