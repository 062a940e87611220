-- Pages whose only insertions make them higher: these are of class 255, which comes last.
use Rattle.std.proofs.Common.{◌≡◌, refl, sym, ◌∙◌, ap, subst, ℕ, suc, ◌+◌, ◌==◌, ℤ, Bool, true, false, List, [], ◌∷◌, ◌++◌, map, length, Option, Some, None, arith}
use Rattle.std.specs.Prelude.{pos, ◌+ℤ◌, ◌-ℤ◌, ◌||◌, ◌&&◌, int_le, not, if◌then◌else◌}
use Rattle.std.specs.List.{AllByRecursion}
use Rattle.std.proofs.lemmas.Bool.{eq-eqb, eqb-true}
use Rattle.tb_scaled.specs.Scaled.{min_ℤ}
use Rattle.tb_break.specs.declared.Found.{Found}
use Rattle.tb_break.specs.Split.{split_of}
use Rattle.tb_break.proofs.EachLemmas.{all-join, all-map}
use Rattle.tb_node.specs.declared.Sums.{Sums}
use Rattle.tb_node.specs.Sums.{sums_of, list_shrink}
use Rattle.tb_node.specs.PlainNodes.{Leaf, leaf_shape, node_shape, Inserted, PlainKind, plain, ins, act, PlainNode, on_line}
use Rattle.tb_node.proofs.Weights.{Weight, leaves_weight, leaves-append}
use Rattle.tb_insert.specs.declared.Class.{Class}
use Rattle.tb_insert.specs.Account.{scaled_by, clamped, unscaled_room, class_box, goal_after, class_height, skip_shapes, met_classes, insertions, ClassBox, Frozen, Labelled, Label, whole, split, late, is_split, has_split, label_where, label_of, labelled_with, labelled_from, labelled}
use Rattle.tb_builder.specs.FiredPages.{Boxed, gives, given_by, given_to, is_given, content_of, box_content, box_after, unless_empty, held_of, held_insertions}
use Rattle.tb_builder.proofs.FiredPages.PageWeights.{IsOnce, LabelsOfClass, boxes_weight, hits}
use Rattle.tb_column.specs.Column.{Notes, standing_notes}
use Rattle.tb_output.specs.State.{with_notes, notes_in}
use Rattle.tb_laws.proofs.NothingLost.StateWeights.{BoxesFit, class_numbers}
use Rattle.tb_laws.proofs.NothingLost.PutOutWeights.{other-box}
use Rattle.tb_laws.proofs.NothingLost.RunWeights.{box_after-number}
use Rattle.tb_laws.proofs.Closed.Closings.{never, Quiet, kind_token, tokens, tokens-append, ins-last, last-quiet}
use Rattle.tb_laws.proofs.Closed.BareFeet.{IsBare, AreBare, LabelsBare, bare-weight, given-bare}

-- all insertions are of class 255
abbrev pub LabelsLast : List Labelled → Type 0
LabelsLast = AllByRecursion (λ l. (l.inserted.class == 255) ≡ true)

-- ---- quiet nodes

last-with : (z : Frozen) (ls : List Labelled) (before : List PlainNode) (line : ℕ) (k : PlainKind) → LabelsLast ls → Quiet (kind_token k) → LabelsLast (labelled_with z ls before line k)
last-with z ls before line (plain m) h q = h
last-with z ls before line (ins i) h q = all-join (λ (l : Labelled). (l.inserted.class == 255) ≡ true) ls (record { index = length before; line = line; inserted = i; label = label_of z ls before i } ∷ []) h (ins-last (i.class == 255) q, tt)
last-with z ls before line (act a) h q = h

last-from : (z : Frozen) (ls : List Labelled) (before ns : List PlainNode) → LabelsLast ls → AllByRecursion Quiet (tokens ns) → LabelsLast (labelled_from z ls before ns)
last-from z ls before [] h q = h
last-from z ls before (n ∷ ns) h q = last-from z (labelled_with z ls before n.line n.kind) (before ++ n ∷ []) ns (last-with z ls before n.line n.kind h q.0) q.1

-- quiet nodes have no other insertions
pub quiet-last : (z : Frozen) (ns : List PlainNode) → AllByRecursion Quiet (tokens ns) → LabelsLast (labelled z ns)
quiet-last z ns q = last-from z [] [] ns tt q

-- ---- what they give and what is held

last-given : (c : ℕ) (ls : List Labelled) → LabelsLast ls → LabelsBare ls → AreBare (given_to c ls)
last-given c [] h b = tt
last-given c (l ∷ ls) h b = by_class (l.inserted.class == c) (last-given c ls h.1 b.1)
  where
    by_class : (t : Bool) → AreBare (given_to c ls) → AreBare (if t then given_by l.label l.inserted ++ given_to c ls else given_to c ls)
    by_class true g = all-join IsBare (given_by l.label l.inserted) (given_to c ls) (given-bare l.label l.inserted (b.0 h.0)) g
    by_class false g = g

box-same : (v : Weight) (ls : List Labelled) (b : Boxed) → LabelsLast ls → LabelsBare ls → leaves_weight v (content_of (box_after ls b).content) ≡ leaves_weight v (content_of b.content)
box-same v ls b h bare = by_given (is_given b.number ls)
  where
    by_given : (t : Bool) → leaves_weight v (content_of (if t then record b { content = Some (content_of b.content ++ given_to b.number ls) } else b).content) ≡ leaves_weight v (content_of b.content)
    by_given true =
        let e : leaves_weight v (content_of b.content ++ given_to b.number ls) ≡ leaves_weight v (content_of b.content) + leaves_weight v (given_to b.number ls) = leaves-append v (content_of b.content) (given_to b.number ls) in
        let z : leaves_weight v (given_to b.number ls) ≡ 0 = bare-weight v (given_to b.number ls) (last-given b.number ls h bare) in
        omega arith
    by_given false = refl

-- the boxes weigh as before
pub same-boxes : (v : Weight) (ls : List Labelled) (bs : List Boxed) → LabelsLast ls → LabelsBare ls → boxes_weight v (map (box_after ls) bs) ≡ boxes_weight v bs
same-boxes v ls [] h bare = refl
same-boxes v ls (b ∷ bs) h bare =
    let a : leaves_weight v (content_of (box_after ls b).content) ≡ leaves_weight v (content_of b.content) = box-same v ls b h bare in
    let c : boxes_weight v (map (box_after ls) bs) ≡ boxes_weight v bs = same-boxes v ls bs h bare in
    omega arith

unless-quiet : (line : ℕ) (i : Inserted) (ls : List Leaf) → (i.class == 255) ≡ true → AllByRecursion Quiet (tokens (on_line line (unless_empty i ls)))
unless-quiet line i [] e = tt
unless-quiet line i (l ∷ ls) e = (last-quiet (i.class == 255) e, tt)

held-of-quiet : (line : ℕ) (t : Label) (i : Inserted) → (i.class == 255) ≡ true → AllByRecursion Quiet (tokens (on_line line (held_of t i)))
held-of-quiet line whole i e = tt
held-of-quiet line (split f) i e = unless-quiet line i _ e
held-of-quiet line late i e = (last-quiet (i.class == 255) e, tt)

-- what is held is quiet
pub held-quiet : (ls : List Labelled) → LabelsLast ls → AllByRecursion Quiet (tokens (held_insertions ls))
held-quiet [] h = tt
held-quiet (l ∷ ls) h =
    subst (AllByRecursion Quiet) (sym (tokens-append (on_line l.line (held_of l.label l.inserted)) (held_insertions ls)))
    (all-join Quiet (tokens (on_line l.line (held_of l.label l.inserted))) (tokens (held_insertions ls)) (held-of-quiet l.line l.label l.inserted h.0) (held-quiet ls h.1))

-- ---- something is given of each class that is met

given-more : (k : ℕ) (xs ys : List Labelled) → is_given k xs ≡ true → is_given k (xs ++ ys) ≡ true
given-more k [] ys e = never e
given-more k (x ∷ xs) ys e = by_first (if x.inserted.class == k then gives x.label else false) (given-more k xs ys) e
  where
    by_first : (t : Bool) → (is_given k xs ≡ true → is_given k (xs ++ ys) ≡ true) → (t || is_given k xs) ≡ true → (t || is_given k (xs ++ ys)) ≡ true
    by_first true h e = refl
    by_first false h e = h e

given-last : (k : ℕ) (xs : List Labelled) (y : Labelled) → (y.inserted.class == k) ≡ true → gives y.label ≡ true → is_given k (xs ++ y ∷ []) ≡ true
given-last k [] y e g = λ i. (if e i then g i else false) || false
given-last k (x ∷ xs) y e g = by_first (if x.inserted.class == k then gives x.label else false) (given-last k xs y e g)
  where
    by_first : (t : Bool) → is_given k (xs ++ y ∷ []) ≡ true → (t || is_given k (xs ++ y ∷ [])) ≡ true
    by_first true h = refl
    by_first false h = h

split-gives : (t : Label) → is_split t ≡ true → gives t ≡ true
split-gives whole e = refl
split-gives (split f) e = refl
split-gives late e = never e

given-split : (k : ℕ) (xs : List Labelled) → has_split xs k ≡ true → is_given k xs ≡ true
given-split k [] e = never e
given-split k (x ∷ xs) e = by_class (x.inserted.class == k) (is_split x.label) (split-gives x.label) (given-split k xs) e
  where
    by_class : (c s : Bool) → (s ≡ true → gives x.label ≡ true) → (has_split xs k ≡ true → is_given k xs ≡ true) → ((c && s) || has_split xs k) ≡ true → ((if c then gives x.label else false) || is_given k xs) ≡ true
    by_class true true g h e = λ i. g refl i || is_given k xs
    by_class true false g h e = by_gives (gives x.label) (h e)
      where
        by_gives : (t : Bool) → is_given k xs ≡ true → (t || is_given k xs) ≡ true
        by_gives true i = refl
        by_gives false i = i
    by_class false s g h e = h e

by_room : (t : Bool) (f : Found) → gives (if t then whole else split f) ≡ true
by_room true f = refl
by_room false f = refl

where-gives : (c : ClassBox) (goal height : ℤ) (s : Sums) (shrink : ℤ) (i : Inserted) → gives (label_where c goal height s shrink i) ≡ true
where-gives c goal height s shrink i =
    by_room ((int_le (scaled_by c.class.factor i.height) (pos 0) || int_le (scaled_by c.class.factor i.height) ((goal -ℤ s.total -ℤ s.depth) +ℤ shrink)) && int_le (height +ℤ i.height) c.class.limit) (split_of (clamped (min_ℤ (unscaled_room c.class.factor (goal -ℤ s.total -ℤ s.depth)) (c.class.limit -ℤ height))) i.split_depth (map leaf_shape i.inner))

-- a label gives, or one of its class before it is split
label-gives : (z : Frozen) (ls : List Labelled) (before : List PlainNode) (i : Inserted) → has_split ls i.class ≡ false → gives (label_of z ls before i) ≡ true
label-gives z ls before i e =
    let s = sums_of z.limit (map node_shape before) in
    let met = i ∷ insertions ls in
    let l = label_where (class_box z.classes i.class) (goal_after z ls met) (class_height z.classes ls i.class) s (s.shrink +ℤ list_shrink (skip_shapes (met_classes z.classes met))) i in
    ap (λ t. gives (if t then late else l)) e ∙ where-gives (class_box z.classes i.class) (goal_after z ls met) (class_height z.classes ls i.class) s (s.shrink +ℤ list_shrink (skip_shapes (met_classes z.classes met))) i

abbrev pub GivenAll : List Labelled → List Labelled → Type 0
GivenAll all = AllByRecursion (λ l. is_given l.inserted.class all ≡ true)

with-given : (z : Frozen) (ls : List Labelled) (before : List PlainNode) (line : ℕ) (k : PlainKind) → GivenAll ls ls → GivenAll (labelled_with z ls before line k) (labelled_with z ls before line k)
with-given z ls before line (plain m) h = h
with-given z ls before line (ins i) h =
    let y : Labelled = record { index = length before; line = line; inserted = i; label = label_of z ls before i } in
    all-join (λ (l : Labelled). is_given l.inserted.class (ls ++ y ∷ []) ≡ true) ls (y ∷ []) (all-map (λ (l : Labelled). is_given l.inserted.class ls ≡ true) (λ (l : Labelled). is_given l.inserted.class (ls ++ y ∷ []) ≡ true) (λ l e. given-more l.inserted.class ls (y ∷ []) e) ls h) (by_split (has_split ls i.class) refl, tt)
  where
    by_split : (t : Bool) → has_split ls i.class ≡ t → is_given i.class (ls ++ record { index = length before; line = line; inserted = i; label = label_of z ls before i } ∷ []) ≡ true
    by_split true e = given-more i.class ls (record { index = length before; line = line; inserted = i; label = label_of z ls before i } ∷ []) (given-split i.class ls e)
    by_split false e = given-last i.class ls (record { index = length before; line = line; inserted = i; label = label_of z ls before i }) (eq-eqb i.class i.class refl) (label-gives z ls before i e)
with-given z ls before line (act a) h = h

pub from-given : (z : Frozen) (ls : List Labelled) (before ns : List PlainNode) → GivenAll ls ls → GivenAll (labelled_from z ls before ns) (labelled_from z ls before ns)
from-given z ls before [] h = h
from-given z ls before (n ∷ ns) h = from-given z (labelled_with z ls before n.line n.kind) (before ++ n ∷ []) ns (with-given z ls before n.line n.kind h)

-- ---- a page without insertions that stand on it

-- nothing is given to the other boxes
abbrev pub GivesLast : List ℕ → List Labelled → Type 0
GivesLast ks ls = (k : ℕ) → IsOnce ks k → (k == 255) ≡ false → is_given k ls ≡ false

void-first : (c : Class) (o : Option (List Leaf)) (ns : List Notes) → standing_notes (with_notes c o ns) ≡ [] → ((c.number == 255) ≡ false → o ≡ None) × (standing_notes ns ≡ [])
void-first c None ns e = ((λ f. refl), e)
void-first c (Some ls) ns e = by_class (record { class = c.number; below = c.below; skip = c.skip; inner = ls }) (c.number == 255) e
  where
    by_class : (n : Notes) (t : Bool) → (if not t then n ∷ standing_notes ns else standing_notes ns) ≡ [] → (t ≡ false → Some ls ≡ None) × (standing_notes ns ≡ [])
    by_class n true e = ((λ f. never (sym f)), e)
    by_class n false e = cc

-- a box that holds nothing was given nothing
void-box : (ls : List Labelled) (b : Boxed) → (box_after ls b).content ≡ None → is_given b.number ls ≡ false
void-box ls b e = by_given (is_given b.number ls) e
  where
    by_given : (t : Bool) → (if t then record b { content = Some (content_of b.content ++ given_to b.number ls) } else b).content ≡ None → t ≡ false
    by_given true e = cc
    by_given false e = refl

-- if no insertions stand on the page, the boxes of the other classes were given nothing
pub void-last : (ls : List Labelled) (cs : List Class) (bs : List Boxed) → BoxesFit cs bs → standing_notes (notes_in cs (map (box_after ls) bs)) ≡ [] → GivesLast (class_numbers cs) ls
void-last ls [] [] h e k o f = absurd (omega (arith, o))
void-last ls [] (b ∷ bs) h e k o f = absurd h
void-last ls (c ∷ cs) [] h e k o f = absurd h
void-last ls (c ∷ cs) (b ∷ bs) h e k o f = by_number (k == c.number) refl o (λ x y z. void-last ls cs bs x y k z f)
  where
    a : Boxed
    a = box_after ls b

    rest : List Boxed
    rest = map (box_after ls) bs

    same : a.number ≡ c.number
    same = box_after-number ls b ∙ h.0

    first : ((c.number == 255) ≡ false → box_content (a ∷ rest) c.number ≡ None) × (standing_notes (notes_in cs (a ∷ rest)) ≡ [])
    first = void-first c (box_content (a ∷ rest) c.number) (notes_in cs (a ∷ rest)) e

    empty : (c.number == 255) ≡ false → a.content ≡ None
    empty n = ap (λ t. if t then a.content else box_content rest c.number) (sym (eq-eqb a.number c.number same)) ∙ first.0 n

    others : standing_notes (notes_in cs rest) ≡ []
    others = ap (λ ns. standing_notes ns) (sym (other-box a cs rest (ap (λ n. hits n (class_numbers cs)) same ∙ h.1))) ∙ first.1

    by_number : (t : Bool) → (k == c.number) ≡ t → (if t then suc (hits k (class_numbers cs)) else hits k (class_numbers cs)) ≡ 1 → (BoxesFit cs bs → standing_notes (notes_in cs (map (box_after ls) bs)) ≡ [] → IsOnce (class_numbers cs) k → is_given k ls ≡ false) → is_given k ls ≡ false
    by_number true u o again =
        let e : k ≡ c.number = eqb-true k c.number u in
        subst (λ n. is_given n ls ≡ false) (h.0 ∙ sym e) (void-box ls b (empty (ap (λ n. n == 255) (sym e) ∙ f)))
    by_number false u o again = again h.2 others o

-- then all insertions are of class 255
pub clear-last : (ks : List ℕ) (z : Frozen) (ns : List PlainNode) → LabelsOfClass ks (labelled z ns) → GivesLast ks (labelled z ns) → LabelsLast (labelled z ns)
clear-last ks z ns c g = each (labelled z ns) c (from-given z [] [] ns tt)
  where
    one : (k : ℕ) → IsOnce ks k → is_given k (labelled z ns) ≡ true → (t : Bool) → (k == 255) ≡ t → t ≡ true
    one k o h true e = refl
    one k o h false e = sym (g k o e) ∙ h

    each : (ls : List Labelled) → LabelsOfClass ks ls → GivenAll (labelled z ns) ls → LabelsLast ls
    each [] c h = tt
    each (l ∷ ls) c h = (one l.inserted.class c.0 h.0 (l.inserted.class == 255) refl, each ls c.1 h.1)
