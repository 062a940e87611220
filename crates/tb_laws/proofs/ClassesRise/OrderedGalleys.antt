-- The floats of a valid galley keep the order of their class, but for those that a break carried.
use Rattle.std.proofs.Common.{◌≡◌, refl, sym, ◌∙◌, ap, subst, ℕ, ◌<◌, ◌≢◌, ◌==◌, ◌⊎◌, inl, inr, ◌||◌, Bool, true, false, List, [], ◌∷◌, ◌++◌, append_assoc, arith}
use Rattle.std.specs.Prelude.{IsTrue, not, map, if◌then◌else◌}
use Rattle.std.specs.Bool.{beq}
use Rattle.std.specs.List.{AllByRecursion}
use Rattle.std.proofs.lemmas.Bool.{and_parts, eqb-true, or_left, or_right}
use Rattle.std.proofs.lemmas.List.Sorted.{All-permutation}
use Rattle.std.proofs.lemmas.List.Elements.{All-from_recursion, recursion_from_All}
use Rattle.tb_break.proofs.EachLemmas.{all-front, all-back, all-map}
use Rattle.tb_node.specs.declared.Float.{Float}
use Rattle.tb_galley.specs.declared.Galley.{Galley}
use Rattle.tb_galley.specs.declared.Item.{Item}
use Rattle.tb_param.specs.Release.{has_second}
use Rattle.tb_galley.specs.GalleyNodes.{two_after, expanded}
use Rattle.tb_galley.specs.Valid.{IsValid}
use Rattle.tb_column.specs.Column.{PlainColumn}
use Rattle.tb_sheet.specs.Sheet.{PlainSheet, one, wide, two, warned, shipped}
use Rattle.tb_output.specs.State.{Recorded, placed, output, emptied}
use Rattle.tb_laws.proofs.ClassesRise.RisingLists.{among-back, all-among, all-at, IsAmong, IsMissing, rises-known}
use Rattle.tb_laws.proofs.ClassesRise.ClassLines.{FloatKind, Side, alike, narrow, wider, is_new, is_of, line_if, IsReleased, class_lines, float_lines, sheet_lines, lines-append}
use Rattle.tb_laws.proofs.ClassesRise.RecordLines.{record_lines, records-append, IsCarried}
use Rattle.tb_report.specs.RunTotals.{sheet_nodes}
use Rattle.tb_steps.specs.Run.{Run, run_of}
use Rattle.tb_steps.proofs.RunTree.{galley-is}
use Rattle.tb_items.specs.RunEvents.{RunEvent, offered, sent}
use Rattle.tb_laws.specs.Laws.{is_in, float_of, as_taken, taken_floats, same_kind, galley_floats, float_lines as all_lines, shipped_nodes, float_lines_of, node_lines, shipped_floats, holds_float, is_past, is_carried_from, is_carried, comes_before, IsFirstOf, KeepsClassOrder, IsEmptied, EndsDone}
use Rattle.tb_laws.proofs.NothingLost.StartLemmas.{start-kept}
use Rattle.tb_laws.proofs.ClassesRise.PageLines.{deeds}
use Rattle.tb_laws.proofs.ClassesRise.OutOrder.{IsOnSide, Suits}
use Rattle.tb_laws.proofs.NothingLost.ClosingStarts.{start-closing}
use Rattle.tb_laws.proofs.NothingLost.ShippedRuns.{lists-emptied}
use Rattle.tb_laws.proofs.OnceEach.ShippedOnce.{ships-once}
use Rattle.tb_laws.proofs.NothingLost.ClassLemmas.{valid-differ, valid-fit}
use Rattle.tb_laws.proofs.ClassesRise.OrderedRuns.{RunOrder, run-order}
use Rattle.tb_laws.proofs.ClassesRise.FloatlessNodes.{events_lines}
use Rattle.tb_laws.proofs.ClassesRise.GalleyLines.{of_kind, galley-suits, LinesRise, galley-rise, later-above, IsOfClass, start-order, one-class, floats-among}
use Rattle.tb_laws.proofs.ClassesRise.OrderTests.{some-class, StandsBefore, any-class, class-before, among-in, in-among, before-comes, rises-before, outputs, HoldsNot, past-front, late-carried}

-- ---- two floats of a class

shipped-lines : (k : FloatKind) (es : List RunEvent) → events_lines k es ≡ class_lines k (shipped_nodes es)
shipped-lines k [] = refl
shipped-lines k (offered t ∷ es) = shipped-lines k es
shipped-lines k (sent (warned w) ∷ es) = shipped-lines k es
shipped-lines k (sent (shipped page sheet) ∷ es) = ap (λ l. sheet_lines k sheet ++ l) (shipped-lines k es) ∙ ap (λ l. l ++ class_lines k (shipped_nodes es)) (by_sheet sheet) ∙ sym (lines-append k (sheet_nodes sheet) (shipped_nodes es))
  where
    by_sheet : (s : PlainSheet) → sheet_lines k s ≡ class_lines k (sheet_nodes s)
    by_sheet (one c) = refl
    by_sheet (wide c) = refl
    by_sheet (two tops at left right) =
        sym (append_assoc (class_lines k tops) (class_lines k left.nodes) (class_lines k right.nodes)) ∙ ap (λ l. l ++ class_lines k right.nodes) (sym (lines-append k tops left.nodes)) ∙ sym (lines-append k (tops ++ left.nodes) right.nodes)

-- floats of the same classes and lines
Like : List Float → List Float → Type 0
Like [] [] = Unit {0}
Like [] (y ∷ ys) = ⊥
Like (x ∷ xs) [] = ⊥
Like (x ∷ xs) (y ∷ ys) = (x.class ≡ y.class) × (x.line ≡ y.line) × Like xs ys

like-rise : (n : ℕ) (xs ys : List Float) → Like xs ys → LinesRise n ys → LinesRise n xs
unfolding Like
like-rise n [] ys e h = tt
like-rise n (x ∷ xs) [] e h = absurd e
like-rise n (x ∷ xs) (y ∷ ys) e h = (subst (λ m. n < m) (sym e.1) h.0, like-rise x.line xs ys e.2 (subst (λ m. LinesRise m ys) (sym e.1) h.1))

like-all : (P : ℕ → ℕ → Type 0) (xs ys : List Float) → Like xs ys → AllByRecursion (λ f. P f.class f.line) ys → AllByRecursion (λ f. P f.class f.line) xs
unfolding Like
like-all P [] ys e h = tt
like-all P (x ∷ xs) [] e h = absurd e
like-all P (x ∷ xs) (y ∷ ys) e h = (subst (λ c. P c x.line) (sym e.0) (subst (P y.class) (sym e.1) h.0), like-all P xs ys e.2 h.1)

-- floats as they are taken have the classes and lines of the galley's
taken-like : (t : Bool) (ns : List Item) → Like (taken_floats t ns) (galley_floats ns)
unfolding Like
taken-like t [] = tt
taken-like t (n ∷ ns) = more (float_of n.kind) (taken_floats (two_after t n.kind) ns) (galley_floats ns) (taken-like (two_after t n.kind) ns)
  where
    more : (fs xs ys : List Float) → Like xs ys → Like (map (as_taken t) fs ++ xs) (fs ++ ys)
    more [] xs ys h = h
    more (f ∷ fs) xs ys h = (refl, refl, more fs xs ys h)

module _ (g : Galley) (valid : IsValid g) (r : Run) (has : ℕ → Bool) (d : Side) (ordered : (k : ℕ) → RunOrder (of_kind has d k) (IsOfClass g (of_kind has d k)) (events_lines (of_kind has d k) r.events) r.records) where
  whole : List Float
  whole = galley_floats g.items

  rising : LinesRise 0 (galley_floats g.items)
  rising = galley-rise g valid

  -- a line that is known in one class and is in another is of that class
  class-is : (k c n : ℕ) → IsOfClass g (of_kind has d k) n → IsOfClass g (of_kind has d c) n → c ≡ k
  class-is k c n i j = one-class has d 0 n c k (galley_floats g.items) rising j i

  -- what ships of a class ships among its lines
  shipped-class : (k n : ℕ) → has n ≡ true → IsOfClass g (of_kind has d k) n → IsAmong n (shipped_floats r) → IsAmong n (events_lines (of_kind has d k) r.events)
  shipped-class k n t i s =
      let x = some-class has d n t (shipped_nodes r.events) s in
      let there : IsAmong n (events_lines (of_kind has d x.0) r.events) = subst (IsAmong n) (sym (shipped-lines (of_kind has d x.0) r.events)) x.1 in
      subst (λ c. IsAmong n (events_lines (of_kind has d c) r.events)) (class-is k x.0 n i (all-at (IsOfClass g (of_kind has d x.0)) n (events_lines (of_kind has d x.0) r.events) there (rises-known (IsOfClass g (of_kind has d x.0)) _ (events_lines (of_kind has d x.0) r.events) (ordered x.0).order))) there

  -- a column without the float of its class is without it
  column-lacks : (k n : ℕ) → has n ≡ true → IsOfClass g (of_kind has d k) n → (c : PlainColumn) → ((j : ℕ) → AllByRecursion (IsOfClass g (of_kind has d j)) (class_lines (of_kind has d j) c.nodes)) → IsMissing n (class_lines (of_kind has d k) c.nodes) → holds_float n c ≡ false
  column-lacks k n t i c known missing = by_test (holds_float n c) refl
    where
      never : IsAmong n (node_lines float_lines_of c.nodes) → ⊥
      never s =
          let x = some-class has d n t c.nodes s in
          let there : IsAmong n (class_lines (of_kind has d k) c.nodes) = subst (λ j. IsAmong n (class_lines (of_kind has d j) c.nodes)) (class-is k x.0 n i (all-at (IsOfClass g (of_kind has d x.0)) n (class_lines (of_kind has d x.0) c.nodes) x.1 (known x.0))) x.1 in
          all-at (λ y. y ≢ n) n (class_lines (of_kind has d k) c.nodes) there missing refl

      by_test : (u : Bool) → holds_float n c ≡ u → holds_float n c ≡ false
      by_test true e = absurd (never (in-among n (node_lines float_lines_of c.nodes) e))
      by_test false e = e

  front-lacks : (k n : ℕ) → has n ≡ true → IsOfClass g (of_kind has d k) n → (rs : List Recorded) → ((j : ℕ) → AllByRecursion (IsOfClass g (of_kind has d j)) (record_lines (of_kind has d j) rs)) → IsMissing n (record_lines (of_kind has d k) rs) → AllByRecursion (HoldsNot n) rs
  front-lacks k n t i [] known missing = tt
  front-lacks k n t i (placed p f place l height ∷ rs) known missing = (tt, front-lacks k n t i rs known missing)
  front-lacks k n t i (emptied l ∷ rs) known missing = (tt, front-lacks k n t i rs known missing)
  front-lacks k n t i (output c ∷ rs) known missing = (
    column-lacks k n t i c (λ j. all-front (IsOfClass g (of_kind has d j)) (class_lines (of_kind has d j) c.nodes) (record_lines (of_kind has d j) rs) (known j)) (all-front (λ y. y ≢ n) (class_lines (of_kind has d k) c.nodes) (record_lines (of_kind has d k) rs) missing),
    front-lacks k n t i rs (λ j. all-back (IsOfClass g (of_kind has d j)) (class_lines (of_kind has d j) c.nodes) (record_lines (of_kind has d j) rs) (known j)) (all-back (λ y. y ≢ n) (class_lines (of_kind has d k) c.nodes) (record_lines (of_kind has d k) rs) missing),
  )

  carried-is : (k n : ℕ) → has n ≡ true → IsOfClass g (of_kind has d k) n → IsCarried (of_kind has d k) n r.records → IsTrue (is_carried r n)
  carried-is k n t i c = subst (λ rs. IsTrue (is_carried_from n 0 rs rs)) (sym c.whole) (late-carried (of_kind has d k) n 0 (outputs c.front) (c.front ++ output c.column ∷ c.back) c.front (output c.column ∷ c.back) (omega arith) past c.late)
    where
      known : (j : ℕ) → AllByRecursion (IsOfClass g (of_kind has d j)) (record_lines (of_kind has d j) c.front)
      known j = all-front (IsOfClass g (of_kind has d j)) (record_lines (of_kind has d j) c.front) (record_lines (of_kind has d j) (output c.column ∷ c.back)) (subst (AllByRecursion (IsOfClass g (of_kind has d j))) (ap (record_lines (of_kind has d j)) c.whole ∙ records-append (of_kind has d j) c.front (output c.column ∷ c.back)) (ordered j).known)

      past : (m : ℕ) → m < outputs c.front → IsTrue (is_past n m 0 (c.front ++ output c.column ∷ c.back))
      past m l = past-front n m 0 c.front c.column c.back (front-lacks k n t i c.front known c.missing) (among-in n (node_lines float_lines_of c.column.nodes) (any-class (of_kind has d k) n c.column.nodes c.there)) (omega (arith, l))

  -- two floats of one class, the first of which comes before the other
  pub pair-order : (f h : Float) → f.line < h.line → has f.line ≡ true → has h.line ≡ true → IsAmong f.line (float_lines (of_kind has d f.class) (galley_floats g.items)) → IsAmong h.line (float_lines (of_kind has d h.class) (galley_floats g.items)) → IsAmong f.line (shipped_floats r) → IsAmong h.line (shipped_floats r)
      → f.class ≡ h.class → IsTrue (comes_before f.line h.line (shipped_floats r) || is_carried r f.line)
  pair-order f h l t u fi hi fs hs same =
      either (rises-before (IsOfClass g (of_kind has d f.class)) (λ n. IsCarried (of_kind has d f.class) n r.records) f.line h.line (events_lines (of_kind has d f.class) r.events) l (ordered f.class).order
      (shipped-class f.class f.line t fi fs)
      (shipped-class f.class h.line u (subst (λ c. IsAmong h.line (float_lines (of_kind has d c) (galley_floats g.items))) (sym same) hi) hs))
    where
      either : StandsBefore f.line h.line (events_lines (of_kind has d f.class) r.events) ⊎ IsCarried (of_kind has d f.class) f.line r.records → IsTrue (comes_before f.line h.line (shipped_floats r) || is_carried r f.line)
      either (inl b) = or_left (comes_before f.line h.line (shipped_floats r)) (is_carried r f.line) (before-comes f.line h.line (shipped_floats r) (class-before (of_kind has d f.class) f.line h.line (shipped_nodes r.events) (subst (StandsBefore f.line h.line) (shipped-lines (of_kind has d f.class) r.events) b)))
      either (inr c) = or_right (comes_before f.line h.line (shipped_floats r)) (is_carried r f.line) (carried-is f.class f.line t fi c)

-- ---- the kinds of a release

-- the lines of the floats so wide
abbrev width_lines : Bool → List Float → List ℕ
width_lines v [] = []
width_lines v (f ∷ fs) = line_if (beq f.wide v) f.line ++ width_lines v fs

-- of a line: in release 2014 its float is so wide
abbrev has_width : Bool → Bool → List Float → ℕ → Bool
has_width r v fs n = if r then is_in (width_lines v fs) n else true

abbrev side_of : Bool → Bool → Side
side_of r v = if r then (if v then wider else narrow) else alike

side-new : (r v : Bool) → r ≡ is_new (side_of r v)
side-new true true = refl
side-new true false = refl
side-new false v = refl

beq-same : (v : Bool) → beq v v ≡ true
beq-same true = refl
beq-same false = refl

beq-is : (a b : Bool) → beq a b ≡ true → a ≡ b
beq-is true true e = refl
beq-is true false e = cc
beq-is false true e = cc
beq-is false false e = refl

-- each float has its own width
own-width : (fs : List Float) → AllByRecursion (λ f. IsAmong f.line (width_lines f.wide fs)) fs
own-width [] = tt
own-width (f ∷ fs) = (
  subst (λ t. IsAmong f.line (line_if t f.line ++ width_lines f.wide fs)) (sym (beq-same f.wide)) (inl refl),
  all-map (λ (x : Float). IsAmong x.line (width_lines x.wide fs)) (λ (x : Float). IsAmong x.line (width_lines x.wide (f ∷ fs))) (λ x i. among-back x.line (line_if (beq f.wide x.wide) f.line) (width_lines x.wide fs) i) fs (own-width fs),
)

width-above : (v : Bool) (n : ℕ) (fs : List Float) → AllByRecursion (λ f. n < f.line) fs → AllByRecursion (λ x. n < x) (width_lines v fs)
width-above v n [] h = tt
width-above v n (f ∷ fs) h = by_width (beq f.wide v) (width-above v n fs h.1)
  where
    by_width : (t : Bool) → AllByRecursion (λ x. n < x) (width_lines v fs) → AllByRecursion (λ x. n < x) (line_if t f.line ++ width_lines v fs)
    by_width true m = (h.0, m)
    by_width false m = m

-- and no other, if lines rise
one-width : (m : ℕ) (fs : List Float) → LinesRise m fs → (v : Bool) → AllByRecursion (λ f. IsAmong f.line (width_lines v fs) → f.wide ≡ v) fs
one-width m [] h v = tt
one-width m (f ∷ fs) h v = (
  λ i. head (beq f.wide v) refl i,
  all-both-to fs (later-above f.line fs h.1) (one-width f.line fs h.1 v),
)
  where
    head : (t : Bool) → beq f.wide v ≡ t → IsAmong f.line (line_if t f.line ++ width_lines v fs) → f.wide ≡ v
    head true e i = beq-is f.wide v e
    head false e i = let l : f.line < f.line = all-at (λ x. f.line < x) f.line (width_lines v fs) i (width-above v f.line fs (later-above f.line fs h.1)) in let never : ⊥ = omega (arith, l) in absurd never

    past : (n : ℕ) → f.line < n → (t : Bool) → IsAmong n (line_if t f.line ++ width_lines v fs) → IsAmong n (width_lines v fs)
    past n l true (inl e) = let never : ⊥ = omega (arith, l, e) in absurd never
    past n l true (inr i) = i
    past n l false i = i

    all-both-to : (gs : List Float) → AllByRecursion (λ x. f.line < x.line) gs → AllByRecursion (λ x. IsAmong x.line (width_lines v fs) → x.wide ≡ v) gs → AllByRecursion (λ x. IsAmong x.line (width_lines v (f ∷ fs)) → x.wide ≡ v) gs
    all-both-to [] a b = tt
    all-both-to (x ∷ gs) a b = (λ i. b.0 (past x.line a.0 (beq f.wide v) i), all-both-to gs a.1 b.1)

module _ (g : Galley) (r : Run) (IsIn : Float → Type 0) (pair : (f h : Float) → f.line < h.line → IsIn f → IsIn h → IsTrue (same_kind g.params f h) → IsTrue (comes_before f.line h.line (shipped_floats r) || is_carried r f.line)) where
  first-order : (f : Float) (later : List Float) → IsIn f → AllByRecursion (λ h. f.line < h.line) later → AllByRecursion IsIn later → IsFirstOf g.params r f later
  first-order f [] i l hs = tt
  first-order f (h ∷ later) i l hs = (pair f h l.0 i hs.0, first-order f later i l.1 hs.1)

  rest-order : (n : ℕ) (fs : List Float) → LinesRise n fs → AllByRecursion IsIn fs → KeepsClassOrder g.params r fs
  rest-order n [] l i = tt
  rest-order n (f ∷ fs) l i = (first-order f fs i.0 (later-above f.line fs l.1) i.1, rest-order f.line fs l.1 i.1)

-- ---- whole runs

-- a run that is done and records empty lists alone has shipped each class in order
galley-order : (g : Galley) → IsValid g → (k : FloatKind) → IsReleased k g.params → Suits k false (deeds (expanded g)) → EndsDone (run_of g).end → AllByRecursion IsEmptied (run_of g).records → RunOrder k (IsOfClass g k) (events_lines k (run_of g).events) (run_of g).records
galley-order g valid k released suits =
    run-order k (IsOfClass g k) [] [] (galley-is g) (start-kept g valid.params (valid-differ g valid) (valid-fit g valid)) (start-closing g valid.order (valid-fit g valid)) released (start-order g k valid suits)

-- the kind of a class and a width of a galley
abbrev galley_kind : Galley → Bool → ℕ → FloatKind
galley_kind g v c = of_kind (has_width (has_second g.params) v (taken_floats false g.items)) (side_of (has_second g.params) v) c

-- what a float of the galley is
record IsIn (g : Galley) (r : Run) (f : Float) : Type 0 where
  ships : IsAmong f.line (shipped_floats r)
  known : (v : Bool) → has_width (has_second g.params) v (taken_floats false g.items) f.line ≡ true → IsAmong f.line (float_lines (galley_kind g v f.class) (galley_floats g.items))
  width : has_width (has_second g.params) f.wide (taken_floats false g.items) f.line ≡ true

to-width : (t v : Bool) (fs : List Float) (n : ℕ) → IsAmong n (width_lines v fs) → has_width t v fs n ≡ true
to-width true v fs n i = among-in n (width_lines v fs) i
to-width false v fs n i = refl

kind-suits : (g : Galley) → IsValid g → (v : Bool) (c : ℕ) → Suits (galley_kind g v c) false (deeds (expanded g))
kind-suits g valid v c =
    galley-suits g (galley_kind g v c) valid
    (all-map (λ (f : Float). IsAmong f.line (width_lines v (taken_floats false g.items)) → f.wide ≡ v) (λ (f : Float). is_of (galley_kind g v c) f.class f.line ≡ true → IsOnSide (side_of (has_second g.params) v) f.wide)
    (λ f w e. by_release (has_second g.params) v f.wide f.line (and_parts (f.class == c) (has_width (has_second g.params) v (taken_floats false g.items) f.line) e).1 w) (taken_floats false g.items)
    (one-width 0 (taken_floats false g.items) (like-rise 0 (taken_floats false g.items) (galley_floats g.items) (taken-like false g.items) (galley-rise g valid)) v))
  where
    by_release : (t v w : Bool) (n : ℕ) → has_width t v (taken_floats false g.items) n ≡ true → (IsAmong n (width_lines v (taken_floats false g.items)) → w ≡ v) → IsOnSide (side_of t v) w
    by_release true true w n e h = h (in-among n (width_lines true (taken_floats false g.items)) e)
    by_release true false w n e h = h (in-among n (width_lines false (taken_floats false g.items)) e)
    by_release false v w n e h = tt

-- the floats of a valid galley keep the order of their kind in a run that is done
pub classes-keep-order : (g : Galley) → IsValid g → EndsDone (run_of g).end → KeepsClassOrder g.params (run_of g) (taken_floats false g.items)
classes-keep-order g valid done =
    rest-order g (run_of g) (IsIn g (run_of g)) pair 0 (taken_floats false g.items) rising (all-in (taken_floats false g.items) shipped known-at (own-width (taken_floats false g.items)))
  where
    rising : LinesRise 0 (taken_floats false g.items)
    rising = like-rise 0 (taken_floats false g.items) (galley_floats g.items) (taken-like false g.items) (galley-rise g valid)

    by-floats : (xs : List ℕ) (fs : List Float) → AllByRecursion (λ n. IsAmong n xs) (all_lines fs) → AllByRecursion (λ f. IsAmong f.line xs) fs
    by-floats xs [] h = tt
    by-floats xs (f ∷ fs) h = (h.0, by-floats xs fs h.1)

    shipped : AllByRecursion (λ f. IsAmong f.line (shipped_floats (run_of g))) (taken_floats false g.items)
    shipped = like-all (λ c n. IsAmong n (shipped_floats (run_of g))) (taken_floats false g.items) (galley_floats g.items) (taken-like false g.items)
        (by-floats (shipped_floats (run_of g)) (galley_floats g.items) (recursion_from_All (λ n. IsAmong n (shipped_floats (run_of g))) (all_lines (galley_floats g.items))
        (All-permutation (λ n. IsAmong n (shipped_floats (run_of g))) (shipped_floats (run_of g)) (all_lines (galley_floats g.items)) (ships-once g valid done).floats (All-from_recursion (λ n. IsAmong n (shipped_floats (run_of g))) (shipped_floats (run_of g)) (all-among (shipped_floats (run_of g)))))))

    known-at : (v : Bool) → AllByRecursion (λ f. has_width (has_second g.params) v (taken_floats false g.items) f.line ≡ true → IsAmong f.line (float_lines (galley_kind g v f.class) (galley_floats g.items))) (taken_floats false g.items)
    known-at v = like-all (λ c n. has_width (has_second g.params) v (taken_floats false g.items) n ≡ true → IsAmong n (float_lines (galley_kind g v c) (galley_floats g.items))) (taken_floats false g.items) (galley_floats g.items) (taken-like false g.items) (floats-among (has_width (has_second g.params) v (taken_floats false g.items)) (side_of (has_second g.params) v) (galley_floats g.items))

    all-in : (fs : List Float) → AllByRecursion (λ f. IsAmong f.line (shipped_floats (run_of g))) fs → ((v : Bool) → AllByRecursion (λ f. has_width (has_second g.params) v (taken_floats false g.items) f.line ≡ true → IsAmong f.line (float_lines (galley_kind g v f.class) (galley_floats g.items))) fs)
        → AllByRecursion (λ f. IsAmong f.line (width_lines f.wide (taken_floats false g.items))) fs → AllByRecursion (IsIn g (run_of g)) fs
    all-in [] a b c = tt
    all-in (f ∷ fs) a b c = (record { ships = a.0; known = λ v. (b v).0; width = to-width (has_second g.params) f.wide (taken_floats false g.items) f.line c.0 }, all-in fs a.1 (λ v. (b v).1) c.1)

    same-width : (t : Bool) (f h : Float) → (not t || beq f.wide h.wide) ≡ true → has_width t h.wide (taken_floats false g.items) h.line ≡ true → has_width t f.wide (taken_floats false g.items) h.line ≡ true
    same-width true f h e w = subst (λ v. is_in (width_lines v (taken_floats false g.items)) h.line ≡ true) (sym (beq-is f.wide h.wide e)) w
    same-width false f h e w = refl

    pair : (f h : Float) → f.line < h.line → IsIn g (run_of g) f → IsIn g (run_of g) h → IsTrue (same_kind g.params f h) → IsTrue (comes_before f.line h.line (shipped_floats (run_of g)) || is_carried (run_of g) f.line)
    pair f h l a b e =
        let both = and_parts (f.class == h.class) (not (has_second g.params) || beq f.wide h.wide) e in
        let u = same-width (has_second g.params) f h both.1 b.width in
        pair-order g valid (run_of g) (has_width (has_second g.params) f.wide (taken_floats false g.items)) (side_of (has_second g.params) f.wide)
        (λ k. galley-order g valid (galley_kind g f.wide k) (side-new (has_second g.params) f.wide) (kind-suits g valid f.wide k) done (lists-emptied g valid))
        f h l a.width u (a.known f.wide a.width) (b.known f.wide u) a.ships b.ships (eqb-true f.class h.class both.0)
