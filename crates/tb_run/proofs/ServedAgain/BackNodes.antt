-- What goes back in a firing: nodes that are no acts, which the output routine can serve again.
use Rattle.std.proofs.Common.{◌≡◌, refl, sym, subst, ◌∙◌, ap, ℕ, suc, ◌+◌, ◌≤◌, ℤ, ◌≤ℤ◌, Bool, true, false, List, [], ◌∷◌, ◌++◌, length, take, Option, Some, None, arith}
use Rattle.std.specs.Prelude.{All, if◌then◌else◌, ◌==◌, ◌||◌}
use Rattle.std.specs.List.{AllByRecursion}
use Rattle.std.proofs.lemmas.Int.{ints}
use Rattle.std.proofs.lemmas.Bool.{true≢false, or_right, or_parts}
use Rattle.std.proofs.lemmas.Bool.Decides.{nat_tests}
use Rattle.std.proofs.lemmas.List.Elements.{All-from_recursion}
use Rattle.tb_break.proofs.EachLemmas.{all-join}
use Rattle.tb_scaled.specs.declared.Glue.{Glue}
use Rattle.tb_node.specs.declared.Float.{Float}
use Rattle.tb_node.specs.declared.Margin.{Margin}
use Rattle.tb_node.specs.Fit.{IsSizedLeaf, IsSizedPlain}
use Rattle.tb_node.specs.PlainNodes.{Leaf, PlainKind, plain, ins, act, PlainNode}
use Rattle.tb_param.specs.declared.Params.{Params}
use Rattle.tb_insert.specs.declared.Class.{Class}
use Rattle.tb_builder.specs.FiredPages.{Boxed, content_of, box_content}
use Rattle.tb_builder.specs.Contents.{node_count, box_count}
use Rattle.tb_builder.specs.SizedContents.{AreBoxesOf}
use Rattle.tb_builder.specs.Ownership.{has_class, ClassesFit}
use Rattle.tb_builder.specs.Pageable.{IsSizedInserted, IsSizedKind, IsSizedBox}
use Rattle.tb_builder.proofs.FiredPages.FiredCounts.{count-split}
use Rattle.tb_column.specs.Column.{Notes}
use Rattle.tb_margin.specs.declared.Placed.{Placed}
use Rattle.tb_output.specs.State.{notes_in, with_notes}
use Rattle.tb_output.specs.Machine.{AreClassesFrom}
use Rattle.tb_output.specs.Columns.{emptied_boxes}
use Rattle.tb_output.specs.Clear.{clear_again}
use Rattle.tb_output.specs.Text.{penalty_nodes, penalty_between, notes_nodes, here_nodes, note_nodes}
use Rattle.tb_sheet.specs.Asked.{hold_penalty}
use Rattle.tb_output.specs.Output.{blank_column}
use Rattle.tb_items.specs.GalleyNodes.{IsMild, IsServable, IsGalleyNode}
use Rattle.tb_steps.specs.Runnable.{AreRunnable}
use Rattle.tb_run.specs.ServedStates.{notes_waiting, IsTextKind}

-- no act, a penalty is mild, and an insertion is sized and of one of these classes
abbrev pub IsBackKind : List Class → PlainKind → Type 0
IsBackKind cs (plain m) = IsMild m
IsBackKind cs (ins i) = (has_class cs i.class ≡ true) × IsSizedInserted i
IsBackKind cs (act a) = ⊥

abbrev pub AreBack : List Class → List PlainNode → Type 0
AreBack cs ns = AllByRecursion (λ n. IsBackKind cs n.kind) ns

abbrev pub AreText : List PlainNode → Type 0
AreText ns = AllByRecursion (λ n. IsTextKind n.kind) ns

pub back-append : (cs : List Class) (ns ms : List PlainNode) → AreBack cs ns → AreBack cs ms → AreBack cs (ns ++ ms)
back-append cs ns ms h k = all-join (λ (n : PlainNode). IsBackKind cs n.kind) ns ms h k

pub text-back : (cs : List Class) (ns : List PlainNode) → AreText ns → AreBack cs ns
text-back cs [] h = tt
text-back cs (n ∷ ns) h = (by_kind n.kind h.0, text-back cs ns h.1)
  where
    by_kind : (k : PlainKind) → IsTextKind k → IsBackKind cs k
    by_kind (plain m) h = h
    by_kind (ins i) h = absurd h
    by_kind (act a) h = absurd h

-- with their shapes, they are nodes as a galley gives them
pub back-nodes : (cs : List Class) (ns : List PlainNode) → AreBack cs ns → AllByRecursion IsSizedPlain ns → AllByRecursion (IsGalleyNode cs) ns
back-nodes cs [] h s = tt
back-nodes cs (n ∷ ns) h s = (record { sized = record { shape = s.0; kind = sized n.kind h.0 }; servable = served n.kind h.0 }, back-nodes cs ns h.1 s.1)
  where
    sized : (k : PlainKind) → IsBackKind cs k → IsSizedKind k
    sized (plain m) h = tt
    sized (ins i) h = h.1
    sized (act a) h = absurd h

    served : (k : PlainKind) → IsBackKind cs k → IsServable cs k
    served (plain m) h = h
    served (ins i) h = h.0
    served (act a) h = absurd h

-- no note waits among them
pub back-notes : (cs : List Class) (ns : List PlainNode) → AreBack cs ns → notes_waiting ns ≡ 0
back-notes cs [] h = refl
back-notes cs (n ∷ ns) h = by_kind n.line n.kind h.0 (back-notes cs ns h.1)
  where
    by_kind : (l : ℕ) (k : PlainKind) → IsBackKind cs k → notes_waiting ns ≡ 0 → notes_waiting (record { line = l; kind = k } ∷ ns) ≡ 0
    by_kind l (plain m) h e = omega (arith, e)
    by_kind l (ins i) h e = omega (arith, e)
    by_kind l (act a) h e = absurd h

-- ---- nodes that the routine makes

module _ (cs : List Class) where
  pub clear-back : AreBack cs clear_again
  clear-back = (tt, (omega (arith, ints), (tt, (tt, (omega (arith, ints), tt)))))

  pub blank-back : AreBack cs blank_column
  blank-back = (tt, (omega (arith, ints), tt))

  penalty-back : (q : ℤ) (o : Option Glue) → hold_penalty ≤ℤ q → AreBack cs (penalty_nodes q o)
  penalty-back q None h = (h, tt)
  penalty-back q (Some g) h = (tt, (h, (tt, tt)))

  penalty-few : (q : ℤ) (o : Option Glue) → node_count (penalty_nodes q o) ≤ 3
  penalty-few q None = omega arith
  penalty-few q (Some g) = omega arith

  module _ (p : Params) (runs : AreRunnable p) where
    -- the penalty between the lines
    pub interline-back : (nobreak : Bool) (ns : List PlainNode) → AreBack cs (penalty_between p.interlinepenalty nobreak ns)
    interline-back true ns = (omega (arith, ints), tt)
    interline-back false ns = penalty-back p.interlinepenalty _ runs.interline

    pub interline-few : (nobreak : Bool) (ns : List PlainNode) → node_count (penalty_between p.interlinepenalty nobreak ns) ≤ 3
    interline-few true ns = omega arith
    interline-few false ns = penalty-few p.interlinepenalty _

    -- a float in the text
    pub here-back : (vert : Bool) (f : Float) → AreBack cs (here_nodes p vert f)
    here-back true f = (tt, (tt, (runs.interline, (tt, (tt, tt)))))
    here-back false f = (tt, (tt, (runs.interline, (tt, tt))))

    pub here-few : (vert : Bool) (f : Float) → node_count (here_nodes p vert f) ≤ 5
    here-few true f = omega arith
    here-few false f = omega arith

  -- a marginal note
  pub note-back : (depth : ℤ) (m : Margin) (at : Placed) → AreBack cs (note_nodes depth m at)
  note-back depth m at = (tt, (tt, (tt, tt)))

-- ---- the list so far

pub count-take : (k : ℕ) (ns : List PlainNode) → node_count (take k ns) ≤ node_count ns
count-take k ns = let e = count-split k ns in omega (arith, e)

-- ---- the insertions of the class boxes

content-sized : (bs : List Boxed) (k : ℕ) (ls : List Leaf) → AllByRecursion IsSizedBox bs → box_content bs k ≡ Some ls → All IsSizedLeaf ls
content-sized [] k ls h e = cc
content-sized (b ∷ bs) k ls h e = by_test (b.number == k) h.0 (content-sized bs k ls h.1) e
  where
    of-content : (o : Option (List Leaf)) → All IsSizedLeaf (content_of o) → o ≡ Some ls → All IsSizedLeaf ls
    of-content o s e = subst (λ (x : Option (List Leaf)). All IsSizedLeaf (content_of x)) e s

    by_test : (t : Bool) → IsSizedBox b → (box_content bs k ≡ Some ls → All IsSizedLeaf ls) → (if t then b.content else box_content bs k) ≡ Some ls → All IsSizedLeaf ls
    by_test true s rest e = of-content b.content s e
    by_test false s rest e = rest e

-- the insertions are of these classes, with sized nodes
abbrev AreKnown : List Class → List Notes → Type 0
AreKnown all ns = AllByRecursion (λ (n : Notes). (has_class all n.class ≡ true) × All IsSizedLeaf n.inner) ns

abbrev AreAmong : List Class → List Class → Type 0
AreAmong all cs = AllByRecursion (λ (c : Class). has_class all c.number ≡ true) cs

notes-known : (all cs : List Class) (bs : List Boxed) → AreAmong all cs → AllByRecursion IsSizedBox bs → AreKnown all (notes_in cs bs)
notes-known all [] bs a h = tt
notes-known all (c ∷ cs) bs a h = by_content (box_content bs c.number) refl (notes-known all cs bs a.1 h)
  where
    by_content : (o : Option (List Leaf)) → box_content bs c.number ≡ o → AreKnown all (notes_in cs bs) → AreKnown all (with_notes c o (notes_in cs bs))
    by_content None e rest = rest
    by_content (Some ls) e rest = ((a.0, content-sized bs c.number ls h e), rest)

same-number : (n : ℕ) → (n == n) ≡ true
same-number n = grind (arith, nat_tests)

more-among : (c : Class) (all cs : List Class) → AreAmong all cs → AreAmong (c ∷ all) cs
more-among c all [] h = tt
more-among c all (d ∷ cs) h = (or_right (c.number == d.number) (has_class all d.number) h.0, more-among c all cs h.1)

all-among : (cs : List Class) → AreAmong cs cs
all-among [] = tt
all-among (c ∷ cs) = (first (c.number == c.number) (same-number c.number), more-among c cs cs (all-among cs))
  where
    first : (t : Bool) → t ≡ true → (t || has_class cs c.number) ≡ true
    first true e = refl
    first false e = absurd (true≢false (sym e))

module _ (all : List Class) (p : Params) (runs : AreRunnable p) where
  again-back : (ns : List Notes) → AreKnown all ns → AreBack all (notes_nodes p ns)
  again-back [] h = tt
  again-back (n ∷ ns) h = (
    (h.0.0, record { inner = h.0.1; height = refl; split_depth = runs.output.splitmaxdepth; split_top = runs.splittopskip; floating = runs.floatingpenalty }),
    again-back ns h.1,
  )

  -- the insertions that go back
  pub notes-back : (bs : List Boxed) → AllByRecursion IsSizedBox bs → AreBack all (notes_nodes p (notes_in all bs))
  notes-back bs h = again-back (notes_in all bs) (notes-known all all bs (all-among all) h)

-- ---- how many they are

no-box : (c : Class) (number : ℕ) (content : Option (List Leaf)) (bs : List Boxed) → (number == c.number) ≡ false → box_content (record { number = number; content = content } ∷ bs) c.number ≡ box_content bs c.number
no-box c number content bs e = ap (λ t. if t then content else box_content bs c.number) e

other-number : (n m : ℕ) → (n == m) ≡ false → (m == n) ≡ false
other-number n m e = grind (arith, nat_tests, e)

-- the box of another class is passed
notes-past : (cs : List Class) (number : ℕ) (content : Option (List Leaf)) (bs : List Boxed) → has_class cs number ≡ false → notes_in cs (record { number = number; content = content } ∷ bs) ≡ notes_in cs bs
notes-past [] number content bs e = refl
notes-past (c ∷ cs) number content bs e =
    let both = or_parts (c.number == number) (has_class cs number) e in
    (λ i. with_notes c (no-box c number content bs (other-number c.number number both.0) i) (notes_in cs (record { number = number; content = content } ∷ bs)))
    ∙ ap (with_notes c (box_content bs c.number)) (notes-past cs number content bs both.1)

module _ (p : Params) where
  count-with : (c : Class) (o : Option (List Leaf)) (ns : List Notes) → node_count (notes_nodes p (with_notes c o ns)) ≤ 1 + length (content_of o) + node_count (notes_nodes p ns)
  count-with c None ns = omega arith
  count-with c (Some ls) ns = omega arith

  -- one for each class, and the nodes of the boxes
  pub notes-few : (cs : List Class) (bs : List Boxed) → ClassesFit cs → AreBoxesOf cs bs → node_count (notes_nodes p (notes_in cs bs)) ≤ length cs + box_count bs
  notes-few [] [] f b = omega arith
  notes-few [] (x ∷ bs) f b = absurd b
  notes-few (c ∷ cs) [] f b = absurd b
  notes-few (c ∷ cs) (x ∷ bs) f b =
      let first : box_content (x ∷ bs) c.number ≡ x.content = ap (λ t. if t then x.content else box_content bs c.number) (ap (λ n. n == c.number) b.0 ∙ same-number c.number) in
      let past : notes_in cs (x ∷ bs) ≡ notes_in cs bs = notes-past cs x.number x.content bs (ap (has_class cs) b.0 ∙ f.0) in
      let whole : notes_in (c ∷ cs) (x ∷ bs) ≡ with_notes c x.content (notes_in cs bs) = (λ i. with_notes c (first i) (past i)) in
      let few = notes-few cs bs f.3 b.1 in
      let one = count-with c x.content (notes_in cs bs) in
      let e = ap (λ ns. node_count (notes_nodes p ns)) whole in
      omega (arith, few, one, e)

-- ---- how many classes

classes-up : (k : ℕ) (cs : List Class) → AreClassesFrom k cs → ClassesFit cs → k ≤ 256 → k + length cs ≤ 256
classes-up k [] a f h = omega (arith, h)
classes-up k (c ∷ cs) a f h =
    let low = a.0 in
    let high = f.1 in
    let rest = classes-up (suc c.number) cs a.2 f.3 (omega (arith, high)) in
    omega (arith, low, rest)

pub classes-few : (cs : List Class) → AreClassesFrom 0 cs → ClassesFit cs → length cs ≤ 256
classes-few cs a f = let h = classes-up 0 cs a f (omega arith) in omega (arith, h)

-- ---- emptied boxes

pub emptied-sized : (bs : List Boxed) → AllByRecursion IsSizedBox (emptied_boxes bs)
emptied-sized [] = tt
emptied-sized (b ∷ bs) = (All-from_recursion IsSizedLeaf [] tt, emptied-sized bs)

pub emptied-count : (bs : List Boxed) → box_count (emptied_boxes bs) ≡ 0
emptied-count [] = refl
emptied-count (b ∷ bs) = let e = emptied-count bs in omega (arith, e)
