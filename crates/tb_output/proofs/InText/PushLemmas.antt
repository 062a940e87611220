-- Nodes that are put at the end of a list, one after another.
use Rattle.std.proofs.Common.{◌≡◌, refl, sym, subst, ◌∙◌, ap, ℕ, List, [], ◌∷◌, ◌++◌, append-nil, length, map, suc, ◌-◌, ◌<◌, Bool, true, false, Option, Some, None, arith}
use Rattle.std.specs.FinMap.{get, insert}
use Rattle.tb_pool.specs.Lists.{Lists, list_at, with_list}
use Rattle.tb_pool.proofs.MapLemmas.{get-insert_same, get-insert_other}
use Rattle.tb_scaled.specs.Scaled.{is_zero}
use Rattle.tb_node.specs.declared.Node.{Node}
use Rattle.tb_node.specs.declared.Kind.{Kind}
use Rattle.tb_node.specs.declared.Kind.TheVariants as kinds
use Rattle.tb_node.specs.PlainNodes.{shape_of_kind}
use Rattle.tb_node.specs.Fit.{IsSized, IsSizedNode}
use Rattle.tb_column.specs.Ranges.{IsSizedGlue}
use Rattle.std.specs.Prelude.{All, if◌then◌else◌}
use Rattle.std.proofs.lemmas.List.Elements.{All-head, All-tail}
use Rattle.std.specs.FinMap.{FinMap, remove}
use Rattle.std.specs.Ordering.{nat_cmp}
use Rattle.std.specs.List.{slice_get}
use Rattle.std.proofs.lemmas.Option.{slice_get-get_or}
use Rattle.tb_pool.proofs.MapLemmas.{remove_from_get, get-remove_same, get-remove_other}
use Rattle.tb_scaled.specs.declared.Glue.{Glue}
use Rattle.tb_break.specs.Places.{last_or}
use Rattle.tb_output.specs.BackList.{last_glue, glue_of_kind}
use Rattle.tb_output.specs.MachineFrame.{HasGrown}

module _ {T : Type 0} where
  -- the first nodes, after room was made
  pub pushed-first : (a b c : Lists T) (l : ℕ) (xs : List T) → b.lists ≡ a.lists → c.lists ≡ with_list b l (list_at b l ++ xs) → c.lists ≡ with_list a l (list_at a l ++ xs)
  pushed-first a b c l xs same e = e ∙ (λ i. insert (same i) l (at_same i ++ xs))
    where
      at_same : list_at b l ≡ list_at a l
      at_same = rw same refl

-- room was made
pub list-reserved : (a b : Lists Node) (l : ℕ) → b.lists ≡ a.lists → list_at b l ≡ list_at a l
list-reserved a b l same = rw same refl

-- the list has grown, and no other changed
pub grown-of : (store new : Lists Node) (l : ℕ) (ns : List Node) (args : List ℕ) → new.lists ≡ with_list store l (list_at store l ++ ns) → HasGrown l ns args store new
grown-of store new l ns args e = record {
  list = ap (λ x. get x l) e ∙ get-insert_same store.lists l (list_at store l ++ ns);
  others = λ q ne none. ap (λ x. get x q) e ∙ get-insert_other store.lists l (list_at store l ++ ns) q ne;
}

-- nothing was put there
pub grown-none : (store new : Lists Node) (l : ℕ) (args : List ℕ) → get store.lists l ≡ Some (list_at store l) → new.lists ≡ store.lists → HasGrown l [] args store new
grown-none store new l args live e = record {
  list = ap (λ x. get x l) e ∙ live ∙ ap (λ ns. Some ns) (sym (append-nil (list_at store l)));
  others = λ q ne none. ap (λ x. get x q) e;
}

module _ {T : Type 0} where
  -- a list that was changed is closed
  pub remove-inserted : (m : FinMap nat_cmp (List T)) (l : ℕ) (xs : List T) → remove (insert m l xs) l ≡ remove m l
  remove-inserted m l xs = remove_from_get m (remove (insert m l xs) l) l (get-remove_same (insert m l xs) l) (λ q ne. get-remove_other (insert m l xs) l q ne ∙ get-insert_other m l xs q ne)

-- the glue of the last node of a list
last-at : (o : Option Glue) (ns : List Node) (n : Node) → slice_get ns (length ns - 1) ≡ Some n → last_or o (map (λ (x : Node). glue_of_kind x.kind) ns) ≡ glue_of_kind n.kind
last-at o [] n e = let none : None ≡ Some n = e in cc
last-at o (m ∷ []) n e = let here : Some m ≡ Some n = e in let same : m ≡ n = cc in ap (λ (x : Node). glue_of_kind x.kind) same
last-at o (m ∷ k ∷ ns) n e =
    let less : length (m ∷ k ∷ ns) - 1 ≡ suc (length (k ∷ ns) - 1) = omega arith in
    let there : slice_get (k ∷ ns) (length (k ∷ ns) - 1) ≡ Some n = sym (ap (slice_get (m ∷ k ∷ ns)) less) ∙ e in
    last-at (glue_of_kind m.kind) (k ∷ ns) n there

pub last-glue_is : (ns : List Node) (n : Node) → slice_get ns (length ns - 1) ≡ Some n → last_glue ns ≡ glue_of_kind n.kind
last-glue_is ns n e = last-at None ns n e

-- a list that is not empty has a last node
pub last-there : (ns : List Node) → (length ns ≡ 0 → ⊥) → None ≡ slice_get ns (length ns - 1) → last_glue ns ≡ None
last-there [] some e = absurd (some refl)
last-there (x ∷ xs) some e =
    let within : length (x ∷ xs) - 1 < length (x ∷ xs) = omega arith in
    let there = slice_get-get_or (x ∷ xs) (length (x ∷ xs) - 1) x within in
    cc

-- the glue of a sized node is small
glue-small : (k : Kind) (g : Glue) → IsSized (shape_of_kind k) → glue_of_kind k ≡ Some g → IsSizedGlue g
glue-small (kinds.Skip x) g sized e = by_width (is_zero x.width) e
  where
    by_width : (t : Bool) → (if t then None else Some x) ≡ Some g → IsSizedGlue g
    by_width true e = let none : None ≡ Some g = e in cc
    by_width false e = let some : Some x ≡ Some g = e in let same : x ≡ g = cc in subst IsSizedGlue same (record { width = sized.0; stretch = sized.1; shrink = sized.2 })
glue-small k g sized e = cc

last-small : (o : Option Glue) (ns : List Node) (g : Glue) → (o ≡ Some g → IsSizedGlue g) → All IsSizedNode ns → last_or o (map (λ (x : Node). glue_of_kind x.kind) ns) ≡ Some g → IsSizedGlue g
last-small o [] g first sized e = first e
last-small o (n ∷ ns) g first sized e = last-small (glue_of_kind n.kind) ns g (glue-small n.kind g (All-head IsSizedNode n ns sized)) (All-tail IsSizedNode n ns sized) e

-- the glue at the end of a list of sized nodes is small
pub last-sized : (ns : List Node) (g : Glue) → All IsSizedNode ns → last_glue ns ≡ Some g → IsSizedGlue g
last-sized ns g sized e = last-small None ns g (λ h. let none : None ≡ Some g = h in cc) sized e
