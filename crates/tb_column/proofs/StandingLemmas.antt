-- Two lists of insertions join a text one after the other.
use Rattle.std.proofs.Common.{◌≡◌, ◌≢◌, refl, sym, ap, ◌∙◌, ℕ, ℤ, ◌+◌, ◌≤◌, List, [], ◌∷◌, ◌++◌, append_assoc, Option, Some, arith}
use Rattle.std.specs.List.{AllByRecursion}
use Rattle.std.specs.FinMap.{get}
use Rattle.tb_pool.specs.Lists.{Lists, IsLive, list_at}
use Rattle.tb_pool.specs.Frame.{IsNoneOf}
use Rattle.tb_node.specs.declared.Node.{Node}
use Rattle.tb_param.specs.declared.Params.{Params}
use Rattle.tb_column.specs.declared.NoteBox.{NoteBox}
use Rattle.tb_column.specs.Notes.{note_lists, AreDistinct, AreApart}
use Rattle.tb_column.specs.ColumnChanges.{AreJoined}
use Rattle.tb_column.specs.TextColumns.{class_above, notes_list}
use Rattle.tb_column.proofs.NoteLemmas.{none-done, all-front, all-back, all-joined}
use Rattle.tb_column.proofs.GatherLemmas.{notes-same, lists-live}

none-rest : (q : ℕ) (xs ys : List NoteBox) → IsNoneOf q (note_lists (xs ++ ys)) → IsNoneOf q (note_lists ys)
none-rest q [] ys h = h
none-rest q (x ∷ xs) ys h = none-rest q xs ys h.1

distinct-front : (xs ys : List NoteBox) → AreDistinct (note_lists (xs ++ ys)) → AreDistinct (note_lists xs)
distinct-front [] ys h = tt
distinct-front (x ∷ xs) ys h = (none-done x.list xs ys h.0, distinct-front xs ys h.1)

distinct-rest : (xs ys : List NoteBox) → AreDistinct (note_lists (xs ++ ys)) → AreDistinct (note_lists ys)
distinct-rest [] ys h = h
distinct-rest (x ∷ xs) ys h = distinct-rest xs ys h.1

apart-rest : (xs ys : List NoteBox) → AreDistinct (note_lists (xs ++ ys)) → AllByRecursion (λ k. IsNoneOf k.list (note_lists ys)) xs
apart-rest [] ys h = tt
apart-rest (x ∷ xs) ys h = (none-rest x.list xs ys h.0, apart-rest xs ys h.1)

-- each of these is another list than one more
add-front : (x : NoteBox) (ls : List ℕ) (ys : List NoteBox) → IsNoneOf x.list (note_lists ys) → AllByRecursion (λ k. IsNoneOf k.list ls) ys → AllByRecursion (λ k. IsNoneOf k.list (x.list ∷ ls)) ys
add-front x ls [] none h = tt
add-front x ls (y ∷ ys) none h = (((λ e. none.0 (sym e)), h.0), add-front x ls ys none.1 h.1)

all-of-none : (ys : List NoteBox) → AllByRecursion (λ (k : NoteBox). IsNoneOf k.list []) ys
all-of-none [] = tt
all-of-none (y ∷ ys) = (tt, all-of-none ys)

apart-front : (xs ys : List NoteBox) → AreDistinct (note_lists (xs ++ ys)) → AllByRecursion (λ k. IsNoneOf k.list (note_lists xs)) ys
apart-front [] ys h = all-of-none ys
apart-front (x ∷ xs) ys h = add-front x (note_lists xs) ys (none-rest x.list xs ys h.0) (apart-front xs ys h.1)

pub notes_list-joined : (p : Params) (kern : Option ℤ) (store : Lists Node) (xs ys : List NoteBox) → notes_list p kern store (xs ++ ys) ≡ notes_list p kern store xs ++ notes_list p kern store ys
notes_list-joined p kern store [] ys = refl
notes_list-joined p kern store (x ∷ xs) ys =
    ap (λ (ns : List Node). (class_above p kern x ++ list_at store x.list) ++ ns) (notes_list-joined p kern store xs ys)
    ∙ sym (append_assoc (class_above p kern x ++ list_at store x.list) (notes_list p kern store xs) (notes_list p kern store ys))

module _ (body : ℕ) (xs ys : List NoteBox) (a : Lists Node) (can : AreApart a body (xs ++ ys)) where
  -- the first ones may join the text
  pub first-apart : AreApart a body xs
  first-apart = record { apart = (none-done body xs ys can.apart.0, distinct-front xs ys can.apart.1); live = all-front (λ n. IsLive a n.list) xs ys can.live }

  module _ (b : Lists Node) (f : AreJoined body xs a b) where
    unjoined : (ks : List NoteBox) → IsNoneOf body (note_lists ks) → AllByRecursion (λ k. IsNoneOf k.list (note_lists xs)) ks → AllByRecursion (λ n. get b.lists n.list ≡ get a.lists n.list) ks
    unjoined [] none apart = tt
    unjoined (k ∷ ks) none apart = (f.others k.list ((λ e. none.0 (sym e)), apart.0), unjoined ks none.1 apart.1)

    -- the lists of the others are as they were
    rest-same : AllByRecursion (λ n. get b.lists n.list ≡ get a.lists n.list) ys
    rest-same = unjoined ys (none-rest body xs ys can.apart.0) (apart-front xs ys can.apart.1)

    -- the others may join it then
    pub second-apart : AreApart b body ys
    second-apart = record { apart = (none-rest body xs ys can.apart.0, distinct-rest xs ys can.apart.1); live = lists-live a b ys rest-same (all-back (λ n. IsLive a n.list) xs ys can.live) }

    module _ (c : Lists Node) where
      pub second-text : (p : Params) (kern : Option ℤ) → list_at b body ≡ list_at a body ++ notes_list p kern a xs → list_at c body ≡ list_at b body ++ notes_list p kern b ys
          → list_at c body ≡ list_at a body ++ notes_list p kern a (xs ++ ys)
      second-text p kern first then_text =
          then_text
          ∙ (λ i. first i ++ notes-same a b p kern ys rest-same i)
          ∙ append_assoc (list_at a body) (notes_list p kern a xs) (notes_list p kern a ys)
          ∙ ap (λ (ns : List Node). list_at a body ++ ns) (sym (notes_list-joined p kern a xs ys))

      pub second-joined : AreJoined body ys b c → AreJoined body (xs ++ ys) a c
      second-joined t = record {
        emptied = all-joined (λ n. get c.lists n.list ≡ Some []) xs ys (still xs (none-done body xs ys can.apart.0) (apart-rest xs ys can.apart.1) f.emptied) t.emptied;
        others = λ q none. t.others q (none.0, none-rest q xs ys none.1) ∙ f.others q (none.0, none-done q xs ys none.1);
      }
        where
          still : (ks : List NoteBox) → IsNoneOf body (note_lists ks) → AllByRecursion (λ k. IsNoneOf k.list (note_lists ys)) ks → AllByRecursion (λ k. get b.lists k.list ≡ Some []) ks → AllByRecursion (λ k. get c.lists k.list ≡ Some []) ks
          still [] none apart h = tt
          still (k ∷ ks) none apart h = (t.others k.list ((λ e. none.0 (sym e)), apart.0) ∙ h.0, still ks none.1 apart.1 h.1)
