-- The walk that finds the first floats of their class in a list.
use Rattle.std.proofs.Common.{◌≡◌, ℕ, suc, Bool, true, false, List, [], ◌∷◌, ◌++◌, length, take, drop, Some, slice_get, refl, sym, ap, ◌∙◌, subst, arith}
use Rattle.std.specs.Prelude.{if◌then◌else◌}
use Rattle.std.proofs.lemmas.List.{append-nil, append_assoc, length-take-le}
use Rattle.std.proofs.lemmas.Option.{slice_get_within}
use Rattle.tb_node.specs.declared.Float.{Float}
use Rattle.tb_float.specs.declared.firsts.First.{First}
use Rattle.tb_float.specs.declared.classes.ClassSet.{ClassSet}
use Rattle.tb_float.specs.Lists.{has_class}
use Rattle.tb_float.specs.Classes.{AreClassesOf, AreOfClasses, HasLeft}
use Rattle.tb_float.specs.Firsts.{firsts_from, firsts_of}
use Rattle.tb_float.proofs.ListLemmas.{slice_get-drop, take-at, take-drop}
use Rattle.tb_float.proofs.HasLemmas.{has-drop, has-first, has-later, has-more}
use Rattle.tb_float.proofs.FirstLemmas.{one-of}

-- those before a place are found, and their classes are in the set
pub record AreFound (all : List Float) (place : ℕ) (items : List First) (s : ClassSet) : Type 0 where
  pub items_are : items ++ firsts_from (take place all) (drop place all) ≡ firsts_of all
  pub classes : AreClassesOf s (take place all)
  pub left : HasLeft s all

-- all of them are found
pub record AllFound (all : List Float) (items : List First) (s : ClassSet) : Type 0 where
  pub items_are : items ≡ firsts_of all
  pub classes : AreClassesOf s all

-- the set holds the same classes if a float brings no new one
same-classes : (s : ClassSet) (fs gs : List Float) → AreOfClasses fs gs → AreOfClasses gs fs → AreClassesOf s fs → AreClassesOf s gs
same-classes s fs gs more less are = λ k low. are k low ∙ ap Some (by_tests k (has_class k fs) (has_class k gs) refl refl)
  where
    by_tests : (k : ℕ) (t u : Bool) → has_class k fs ≡ t → has_class k gs ≡ u → has_class k fs ≡ has_class k gs
    by_tests k true u e d = e ∙ sym (less k e)
    by_tests k false true e d = more k d ∙ sym d
    by_tests k false false e d = e ∙ sym d

module _ (all : List Float) (place : ℕ) (items : List First) (s : ClassSet) (f : Float) (got : slice_get all place ≡ Some f) (found : AreFound all place items s) where
  -- what is left from the place on
  from-there : firsts_from (take place all) (drop place all) ≡ (if has_class f.class (take place all) then firsts_from (take (suc place) all) (drop (suc place) all) else record { place = place; float = f } ∷ firsts_from (take (suc place) all) (drop (suc place) all))
  from-there =
      let many = length-take-le place all (omega (arith, slice_get_within all place f got)) in
      ap (firsts_from (take place all)) (slice_get-drop place all f got)
      ∙ (λ i. if has_class f.class (take place all) then firsts_from (sym (take-at all place f got) i) (drop (suc place) all) else record { place = many i; float = f } ∷ firsts_from (sym (take-at all place f got) i) (drop (suc place) all))

  pub passed-one : has_class f.class (take place all) ≡ true → AreFound all (suc place) items s
  passed-one has =
      let taken = take-at all place f got in
      let rest = firsts_from (take (suc place) all) (drop (suc place) all) in
      record {
        items_are = sym (ap (λ xs. items ++ xs) (from-there ∙ ap (λ t. if t then rest else record { place = place; float = f } ∷ rest) has)) ∙ found.items_are;
        classes = subst (AreClassesOf s) (sym taken) (same-classes s (take place all) (take place all ++ f ∷ []) (one-of (take place all) f has) (λ k h. has-more k (take place all) (f ∷ []) h) found.classes);
        left = found.left;
      }

  pub found-one : (t : ClassSet) → has_class f.class (take place all) ≡ false → AreClassesOf t (take place all ++ f ∷ []) → HasLeft t all → AreFound all (suc place) (items ++ record { place = place; float = f } ∷ []) t
  found-one t new are left =
      let rest = firsts_from (take (suc place) all) (drop (suc place) all) in
      record {
        items_are = append_assoc items (record { place = place; float = f } ∷ []) rest ∙ sym (ap (λ xs. items ++ xs) (from-there ∙ ap (λ t. if t then rest else record { place = place; float = f } ∷ rest) new)) ∙ found.items_are;
        classes = subst (AreClassesOf t) (sym (take-at all place f got)) are;
        left = left;
      }

-- ---- the end

none-left : (before fs : List Float) → AreOfClasses before fs → firsts_from before fs ≡ []
none-left before [] are = refl
none-left before (f ∷ fs) are =
    let rest = none-left (before ++ f ∷ []) fs (λ k h. has-more k before (f ∷ []) (are k (has-later k f fs h))) in
    ap (λ t. if t then firsts_from (before ++ f ∷ []) fs else record { place = length before; float = f } ∷ firsts_from (before ++ f ∷ []) fs) (are f.class (has-first f fs)) ∙ rest

-- no class is left
pub found-all : (all : List Float) (place : ℕ) (items : List First) (s : ClassSet) → AreFound all place items s → AreOfClasses (take place all) all → AllFound all items s
found-all all place items s found full = record {
  items_are = sym (append-nil items) ∙ sym (ap (λ xs. items ++ xs) (none-left (take place all) (drop place all) (λ k h. full k (has-drop k place all h)))) ∙ found.items_are;
  classes = same-classes s (take place all) all full (λ k h. subst (λ fs. has_class k fs ≡ true) (take-drop place all) (has-more k (take place all) (drop place all) h)) found.classes;
}

pub found-same : (all : List Float) (place : ℕ) (xs ys : List First) (s t : ClassSet) → xs ≡ ys → s ≡ t → AreFound all place ys t → AreFound all place xs s
found-same all place xs ys s t items classes found = subst (λ zs. AreFound all place zs s) (sym items) (subst (AreFound all place ys) (sym classes) found)
