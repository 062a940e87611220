-- At the start of the run of a valid galley each float is in one place, since the lines of its items rise.
use Rattle.std.proofs.Common.{◌≡◌, refl, sym, subst, ℕ, ◌+◌, ◌≤◌, ◌<◌, Bool, true, false, List, [], ◌∷◌, ◌++◌, append_assoc, arith}
use Rattle.std.specs.Prelude.{◌==◌, IsTrue, if◌then◌else◌}
use Rattle.std.specs.List.{list_all}
use Rattle.std.proofs.lemmas.Bool.{and_parts, eqb-true}
use Rattle.tb_break.proofs.EachLemmas.{all-front, all-back}
use Rattle.tb_galley.specs.declared.Leaf.{Leaf}
use Rattle.tb_galley.specs.declared.LeafKind.{LeafKind}
use Rattle.tb_galley.specs.declared.LeafKind.TheVariants as leaves
use Rattle.tb_galley.specs.declared.Item.{Item}
use Rattle.tb_galley.specs.declared.ItemKind.{ItemKind}
use Rattle.tb_galley.specs.declared.ItemKind.TheVariants as items
use Rattle.tb_galley.specs.declared.Galley.{Galley}
use Rattle.tb_galley.specs.GalleyNodes.{expanded}
use Rattle.tb_galley.specs.Valid.{IsValid, is_item, is_float, lines_of_item, named_lines, rise_from, is_head}
use Rattle.tb_items.specs.Classes.{classes_of}
use Rattle.tb_output.specs.State.{first_state}
use Rattle.tb_laws.proofs.ClassesRise.NamedLines.{AllAbove, rise-first, rise-above, rise-behind}
use Rattle.tb_laws.proofs.NothingLost.StateWeights.{state_weight}
use Rattle.tb_laws.proofs.NothingLost.StartLemmas.{leaf_line, foot_weight, item_weight, items_weight, start-weight}
use Rattle.tb_why_laws.proofs.OnePlace.Once.{of_line}

-- a foot has no float
no-leaf : (m n : ℕ) (k : LeafKind) → leaf_line (of_line m) n k ≡ 0
no-leaf m n (leaves.Hbox name h d) = refl
no-leaf m n (leaves.Rule name h d) = refl
no-leaf m n k = refl

no-foot : (m : ℕ) (ls : List Leaf) → foot_weight (of_line m) ls ≡ 0
no-foot m [] = refl
no-foot m (l ∷ ls) =
    let a : leaf_line (of_line m) l.line l.kind ≡ 0 = no-leaf m l.line l.kind in
    let b : foot_weight (of_line m) ls ≡ 0 = no-foot m ls in
    omega arith

-- all items of a list are on their lines
abbrev Valid : List Item → Type 0
Valid ns = IsTrue (list_all (λ n. is_item n.line n.kind) ns)

-- behind a line there is no float of it
later : (m k : ℕ) → m ≤ k → (ns : List Item) → AllAbove k (named_lines ns) → Valid ns → items_weight (of_line m) ns ≡ 0
later m k l [] a v = refl
later m k l (n ∷ ns) a v =
    let parts = and_parts (is_item n.line n.kind) (list_all (λ n. is_item n.line n.kind) ns) v in
    by_kind n.line n.kind (all-front (λ x. k < x) (lines_of_item n.line n.kind) (named_lines ns) a) parts.0 (later m k l ns (all-back (λ x. k < x) (lines_of_item n.line n.kind) (named_lines ns) a) parts.1)
  where
    nothing : (x : ℕ) → x ≡ 0 → 0 + x ≡ 0
    nothing x h = omega arith

    other : (i n : ℕ) → k < n → IsTrue (i == n) → (of_line m).float i ≡ 0
    other i n a e = by_test (i == m) refl
      where
        d : i ≡ n
        d = eqb-true i n e

        by_test : (t : Bool) → (i == m) ≡ t → ◌≡◌ {A = ℕ} (if t then 1 else 0) 0
        by_test true c = let b : i ≡ m = eqb-true i m c in let no : ⊥ = omega (arith, a, b, d, l) in absurd no
        by_test false c = refl

    by_kind : (n : ℕ) (x : ItemKind) → AllAbove k (lines_of_item n x) → IsTrue (is_item n x) → items_weight (of_line m) ns ≡ 0 → item_weight (of_line m) n x + items_weight (of_line m) ns ≡ 0
    by_kind n (items.Float f vert) a v h = let e : (of_line m).float f.line ≡ 0 = other f.line n a.0 (and_parts (f.line == n) (is_float f) v).0 in omega arith
    by_kind n (items.Head f) a v h = let e : (of_line m).float f.line ≡ 0 = other f.line n a.0 (and_parts (f.line == n) (is_head f) v).0 in omega arith
    by_kind n (items.Foot class ls) a v h = let e : foot_weight (of_line m) ls ≡ 0 = no-foot m ls in omega arith
    by_kind n x a v h = nothing (items_weight (of_line m) ns) h

-- if the lines rise each float comes once
once : (m k : ℕ) (ns : List Item) (last : List ℕ) → IsTrue (rise_from k (named_lines ns ++ last)) → Valid ns → items_weight (of_line m) ns ≤ 1
once m k [] last r v = omega arith
once m k (n ∷ ns) last r v =
    let q : IsTrue (rise_from k (lines_of_item n.line n.kind ++ (named_lines ns ++ last))) = subst (λ l. IsTrue (rise_from k l)) (append_assoc (lines_of_item n.line n.kind) (named_lines ns) last) r in
    let j = rise-behind k (lines_of_item n.line n.kind) (named_lines ns ++ last) q in
    let parts = and_parts (is_item n.line n.kind) (list_all (λ n. is_item n.line n.kind) ns) v in
    by_kind n.line n.kind q parts.0 parts.1 (once m j.0 ns last j.1.1 parts.1)
  where
    by_line : (i n : ℕ) → IsTrue (i == n) → (rest : ℕ) → rest ≤ 1 → (m ≤ n → rest ≡ 0) → (if i == m then 1 else 0) + rest ≤ 1
    by_line i n e rest l h = by_test (i == m) refl
      where
        d : i ≡ n
        d = eqb-true i n e

        by_test : (t : Bool) → (i == m) ≡ t → (if t then 1 else 0) + rest ≤ 1
        by_test true c = let b : i ≡ m = eqb-true i m c in let z : rest ≡ 0 = h (omega (arith, b, d)) in omega arith
        by_test false c = omega (arith, l)

    nothing-more : (x : ℕ) → x ≤ 1 → 0 + x ≤ 1
    nothing-more x h = omega arith

    by_kind : (n : ℕ) (x : ItemKind) → IsTrue (rise_from k (lines_of_item n x ++ (named_lines ns ++ last))) → IsTrue (is_item n x) → Valid ns → items_weight (of_line m) ns ≤ 1 → item_weight (of_line m) n x + items_weight (of_line m) ns ≤ 1
    by_kind n (items.Float f vert) q v w h =
        by_line f.line n (and_parts (f.line == n) (is_float f) v).0 (items_weight (of_line m) ns) h
        (λ l. later m n l ns (all-front (λ x. n < x) (named_lines ns) last (rise-above n (named_lines ns ++ last) (rise-first k n (named_lines ns ++ last) q).1)) w)
    by_kind n (items.Head f) q v w h =
        by_line f.line n (and_parts (f.line == n) (is_head f) v).0 (items_weight (of_line m) ns) h
        (λ l. later m n l ns (all-front (λ x. n < x) (named_lines ns) last (rise-above n (named_lines ns ++ last) (rise-first k n (named_lines ns ++ last) q).1)) w)
    by_kind n (items.Foot class ls) q v w h = let e : foot_weight (of_line m) ls ≡ 0 = no-foot m ls in omega arith
    by_kind n x q v w h = nothing-more (items_weight (of_line m) ns) h

-- the first state of a run
pub start-times : (g : Galley) → IsValid g → (n : ℕ) → state_weight (of_line n) (first_state g.params (classes_of g) (expanded g)) ≤ 1
start-times g v n = subst (λ x. x ≤ 1) (sym (start-weight (of_line n) g)) (once n 0 g.items (g.end_line ∷ []) v.lines v.items)
