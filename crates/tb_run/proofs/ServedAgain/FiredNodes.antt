-- The nodes of a page that fires, by what the output routine asks of them.
use Rattle.std.proofs.Common.{◌≡◌, refl, ap, ℕ, zero, suc, ◌+◌, ◌≤◌, ℤ, ◌≤ℤ◌, true, false, List, [], ◌∷◌, ◌++◌, take, drop, arith}
use Rattle.std.specs.Prelude.{All}
use Rattle.std.specs.List.{AllByRecursion}
use Rattle.std.proofs.lemmas.Int.{ints}
use Rattle.std.proofs.lemmas.Bool.{true≢false}
use Rattle.std.proofs.lemmas.List.Elements.{All-from_recursion, recursion_from_All}
use Rattle.tb_break.proofs.EachLemmas.{all-join, all-map}
use Rattle.tb_node.specs.PlainNodes.{hbox, rule, pen, mark, note, whatsit, Leaf, Inserted, PlainKind, plain, ins, act, PlainNode, is_act_kind, without_insertions, on_line}
use Rattle.tb_break.specs.PageTop.{pruned_nodes}
use Rattle.tb_insert.specs.declared.Class.{Class}
use Rattle.tb_insert.specs.Account.{Frozen, Label, whole, split, late, Labelled, labelled_with, labelled_from, labelled}
use Rattle.tb_builder.specs.FiredPages.{spent_kind, with_spent_break, penalty_at, held_of, unless_empty, held_insertions}
use Rattle.tb_builder.specs.Ownership.{has_class}
use Rattle.tb_builder.specs.Pageable.{IsSizedOnPage}
use Rattle.tb_builder.specs.LegalPlaces.{NoActs}
use Rattle.tb_sheet.specs.Asked.{hold_penalty}
use Rattle.tb_items.specs.GalleyNodes.{IsServable, IsGalleyNode}
use Rattle.tb_run.specs.ServedStates.{kind_notes, notes_waiting, IsTextKind}

-- ---- no acts

pub no_acts-take : (k : ℕ) (ns : List PlainNode) → NoActs ns → NoActs (take k ns)
no_acts-take zero ns h = tt
no_acts-take (suc k) [] h = tt
no_acts-take (suc k) (n ∷ ns) h = (h.0, no_acts-take k ns h.1)

-- ---- the notes among nodes

pub notes-append : (ns ms : List PlainNode) → notes_waiting (ns ++ ms) ≡ notes_waiting ns + notes_waiting ms
notes-append [] ms = omega arith
notes-append (n ∷ ns) ms = let e = notes-append ns ms in omega (arith, e)

pub notes-drop : (k : ℕ) (ns : List PlainNode) → notes_waiting (drop k ns) ≤ notes_waiting ns
notes-drop zero ns = omega arith
notes-drop (suc k) [] = omega arith
notes-drop (suc k) (n ∷ ns) = let h = notes-drop k ns in omega (arith, h)

notes-spent_kind : (k : PlainKind) → kind_notes (spent_kind k) ≡ kind_notes k
notes-spent_kind (plain (hbox w a d)) = refl
notes-spent_kind k = refl

pub notes-spent : (ns : List PlainNode) → notes_waiting (with_spent_break ns) ≡ notes_waiting ns
notes-spent [] = refl
notes-spent (n ∷ ns) = ap (λ k. k + notes_waiting ns) (notes-spent_kind n.kind)

notes-held_of : (line : ℕ) (lab : Label) (i : Inserted) → notes_waiting (on_line line (held_of lab i)) ≡ 0
notes-held_of line whole i = refl
notes-held_of line (split f) i = unless _
  where
    unless : (ns : List Leaf) → notes_waiting (on_line line (unless_empty i ns)) ≡ 0
    unless [] = refl
    unless (n ∷ ns) = refl
notes-held_of line late i = refl

pub notes-held : (ls : List Labelled) → notes_waiting (held_insertions ls) ≡ 0
notes-held [] = refl
notes-held (l ∷ ls) =
    let a = notes-append (on_line l.line (held_of l.label l.inserted)) (held_insertions ls) in
    let b = notes-held_of l.line l.label l.inserted in
    let c = notes-held ls in
    omega (arith, a, b, c)

pub notes-pruned : (t : ℤ) (ns : List PlainNode) → notes_waiting (pruned_nodes t ns) ≡ notes_waiting ns
notes-pruned t [] = refl
notes-pruned t (n ∷ ns) = by_kind n.line n.kind (notes-pruned t ns)
  where
    by_kind : (l : ℕ) (k : PlainKind) → notes_waiting (pruned_nodes t ns) ≡ notes_waiting ns → notes_waiting (pruned_nodes t (record { line = l; kind = k } ∷ ns)) ≡ kind_notes k + notes_waiting ns
    by_kind l (plain (hbox w a d)) h = omega arith
    by_kind l (plain (rule name a d)) h = omega arith
    by_kind l k h = omega (arith, h)

-- ---- nodes that can be served

module _ (cs : List Class) where
  abbrev Serves : PlainNode → Type 0
  Serves n = IsServable cs n.kind

  pub served-pruned : (t : ℤ) (ns : List PlainNode) → AllByRecursion Serves ns → AllByRecursion Serves (pruned_nodes t ns)
  served-pruned t [] h = tt
  served-pruned t (n ∷ ns) h = by_kind n.line n.kind h.0 (served-pruned t ns h.1)
    where
      by_kind : (l : ℕ) (k : PlainKind) → IsServable cs k → AllByRecursion Serves (pruned_nodes t ns) → AllByRecursion Serves (pruned_nodes t (record { line = l; kind = k } ∷ ns))
      by_kind l (plain (hbox w a d)) s r = (tt, (tt, h.1))
      by_kind l (plain (rule name a d)) s r = (tt, (tt, h.1))
      by_kind l (plain (mark name)) s r = (tt, r)
      by_kind l (plain (note name)) s r = (tt, r)
      by_kind l (plain whatsit) s r = (tt, r)
      by_kind l (ins i) s r = (s, r)
      by_kind l (act a) s r = (s, r)
      by_kind l k s r = r

  -- neither insertions nor acts are left of a page
  pub text-body : (ns : List PlainNode) → NoActs ns → AllByRecursion Serves ns → AllByRecursion (λ n. IsTextKind n.kind) (without_insertions ns)
  text-body [] a h = tt
  text-body (n ∷ ns) a h = by_kind n.kind a.0 h.0 (text-body ns a.1 h.1)
    where
      by_kind : (k : PlainKind) → is_act_kind k ≡ false → IsServable cs k → AllByRecursion (λ n. IsTextKind n.kind) (without_insertions ns) → AllByRecursion (λ n. IsTextKind n.kind) (without_insertions (record { line = n.line; kind = k } ∷ ns))
      by_kind (plain m) e s r = (s, r)
      by_kind (ins i) e s r = r
      by_kind (act a) e s r = absurd (true≢false e)

  pub served-spent : (ns : List PlainNode) → AllByRecursion Serves ns → AllByRecursion Serves (with_spent_break ns)
  served-spent [] h = tt
  served-spent (n ∷ ns) h = (by_kind n.kind h.0, h.1)
    where
      by_kind : (k : PlainKind) → IsServable cs k → IsServable cs (spent_kind k)
      by_kind (plain (pen q)) s = omega (arith, ints)
      by_kind (ins i) s = s
      by_kind (act a) s = s
      by_kind k s = tt

  -- the penalty of the break
  pub mild-break : (ns : List PlainNode) → AllByRecursion Serves ns → hold_penalty ≤ℤ penalty_at ns
  mild-break [] h = omega (arith, ints)
  mild-break (n ∷ ns) h = by_kind n.kind h.0
    where
      by_kind : (k : PlainKind) → IsServable cs k → hold_penalty ≤ℤ penalty_at (record { line = n.line; kind = k } ∷ ns)
      by_kind (plain (pen q)) s = s
      by_kind k s = omega (arith, ints)

  -- ---- insertions

  abbrev Knows : Labelled → Type 0
  Knows l = has_class cs l.inserted.class ≡ true

  known-from : (z : Frozen) (ls : List Labelled) (before ns : List PlainNode) → AllByRecursion Knows ls → AllByRecursion Serves ns → AllByRecursion Knows (labelled_from z ls before ns)
  known-from z ls before [] k h = k
  known-from z ls before (n ∷ ns) k h = known-from z (labelled_with z ls before n.line n.kind) (before ++ n ∷ []) ns (by_kind n.kind h.0) h.1
    where
      by_kind : (x : PlainKind) → IsServable cs x → AllByRecursion Knows (labelled_with z ls before n.line x)
      by_kind (plain m) s = k
      by_kind (ins i) s = all-join Knows ls _ k (s, tt)
      by_kind (act a) s = k

  -- the insertions of a page are of known classes
  pub known-labels : (z : Frozen) (ns : List PlainNode) → AllByRecursion Serves ns → AllByRecursion Knows (labelled z ns)
  known-labels z ns h = known-from z [] [] ns tt h

  held-known_of : (line : ℕ) (lab : Label) (i : Inserted) → has_class cs i.class ≡ true → AllByRecursion Serves (on_line line (held_of lab i))
  held-known_of line whole i k = tt
  held-known_of line (split f) i k = unless _
    where
      unless : (ns : List Leaf) → AllByRecursion Serves (on_line line (unless_empty i ns))
      unless [] = tt
      unless (n ∷ ns) = (k, tt)
  held-known_of line late i k = (k, tt)

  -- so are those that are held
  pub held-known : (ls : List Labelled) → AllByRecursion Knows ls → AllByRecursion Serves (held_insertions ls)
  held-known [] k = tt
  held-known (l ∷ ls) k = all-join Serves (on_line l.line (held_of l.label l.inserted)) (held_insertions ls) (held-known_of l.line l.label l.inserted k.0) (held-known ls k.1)

  -- ---- together with their amounts

  nodes-by : (ns : List PlainNode) → AllByRecursion IsSizedOnPage ns → AllByRecursion Serves ns → AllByRecursion (IsGalleyNode cs) ns
  nodes-by [] a b = tt
  nodes-by (n ∷ ns) a b = (record { sized = a.0; servable = b.0 }, nodes-by ns a.1 b.1)

  pub nodes-both : (ns : List PlainNode) → All IsSizedOnPage ns → AllByRecursion Serves ns → All (IsGalleyNode cs) ns
  nodes-both ns a b = All-from_recursion (IsGalleyNode cs) ns (nodes-by ns (recursion_from_All IsSizedOnPage ns a) b)

  pub nodes-sized : (ns : List PlainNode) → All (IsGalleyNode cs) ns → All IsSizedOnPage ns
  nodes-sized ns h = All-from_recursion IsSizedOnPage ns (all-map (IsGalleyNode cs) IsSizedOnPage (λ n k. k.sized) ns (recursion_from_All (IsGalleyNode cs) ns h))

  pub nodes-served : (ns : List PlainNode) → All (IsGalleyNode cs) ns → AllByRecursion Serves ns
  nodes-served ns h = all-map (IsGalleyNode cs) Serves (λ n k. k.servable) ns (recursion_from_All (IsGalleyNode cs) ns h)
