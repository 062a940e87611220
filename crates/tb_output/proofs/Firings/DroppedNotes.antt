-- The lists of insertions are dropped, one after another.
use Rattle.std.proofs.Common.{◌≡◌, refl, sym, subst, ◌∙◌, ap, ℕ, zero, suc, ◌+◌, ◌<◌, List, [], ◌∷◌, length, drop, get_or, drop-cons, add-one, Option, IsSome}
use Rattle.std.specs.FinMap.{get, remove}
use Rattle.std.specs.List.{AllByRecursion}
use Rattle.tb_pool.specs.Lists.{Lists, IsLive}
use Rattle.tb_pool.specs.Frame.{IsNoneOf}
use Rattle.tb_pool.proofs.MapLemmas.{get-remove_other}
use Rattle.tb_node.specs.declared.Node.{Node}
use Rattle.tb_column.specs.declared.NoteBox.{NoteBox}
use Rattle.tb_column.specs.Notes.{AreDistinct, note_lists}

abbrev pub IsLiveNote : Lists Node → NoteBox → Type 0
IsLiveNote store n = IsLive store n.list

-- so many were dropped: the others are live still, and no other list changed
pub record DroppedSoFar (notes : List NoteBox) (k : ℕ) (store now : Lists Node) : Type 0 where
  pub rest : AllByRecursion (IsLiveNote now) (drop k notes)
  pub apart : AreDistinct (note_lists (drop k notes))
  pub others : (q : ℕ) → IsNoneOf q (note_lists notes) → get now.lists q ≡ get store.lists q

pub dropped-begin : (notes : List NoteBox) (store : Lists Node) → AllByRecursion (IsLiveNote store) notes → AreDistinct (note_lists notes) → DroppedSoFar notes 0 store store
dropped-begin notes store live apart = record { rest = live; apart = apart; others = λ q none. refl }

-- those after it stay live
still-live : (ns : List NoteBox) (l : ℕ) (now new : Lists Node) → new.lists ≡ remove now.lists l → IsNoneOf l (note_lists ns) → AllByRecursion (IsLiveNote now) ns → AllByRecursion (IsLiveNote new) ns
still-live [] l now new e none h = tt
still-live (n ∷ ns) l now new e none h =
    (subst (λ (o : Option (List Node)). IsSome o) (sym (ap (λ m. get m n.list) e ∙ get-remove_other now.lists l n.list none.0)) h.0, still-live ns l now new e none.1 h.1)

none-drop : (q k : ℕ) (ns : List NoteBox) → IsNoneOf q (note_lists ns) → IsNoneOf q (note_lists (drop k ns))
none-drop q zero ns h = h
none-drop q (suc k) [] h = tt
none-drop q (suc k) (n ∷ ns) h = none-drop q k ns h.1

module _ (notes : List NoteBox) (k : ℕ) (n : NoteBox) (store now : Lists Node) (lt : k < length notes) (is : n ≡ get_or notes k n) (h : DroppedSoFar notes k store now) where
  from : drop k notes ≡ n ∷ drop (suc k) notes
  from = drop-cons notes k n lt ∙ ap (λ (x : NoteBox). x ∷ drop (suc k) notes) (sym is)

  rest : AllByRecursion (IsLiveNote now) (n ∷ drop (suc k) notes)
  rest = subst (AllByRecursion (IsLiveNote now)) from h.rest

  apart : AreDistinct (note_lists (n ∷ drop (suc k) notes))
  apart = subst (λ ns. AreDistinct (note_lists ns)) from h.apart

  pub dropped-live : IsLive now n.list
  dropped-live = rest.0

  pub dropped-next : (new : Lists Node) → new.lists ≡ remove now.lists n.list → DroppedSoFar notes (k + 1) store new
  dropped-next new e = subst (λ j. DroppedSoFar notes j store new) (sym (add-one k)) (record {
    rest = still-live (drop (suc k) notes) n.list now new e apart.0 rest.1;
    apart = apart.1;
    others = λ q none.
        let here : IsNoneOf q (note_lists (n ∷ drop (suc k) notes)) = subst (λ ns. IsNoneOf q (note_lists ns)) from (none-drop q k notes none) in
        ap (λ m. get m q) e ∙ get-remove_other now.lists n.list q (λ s. here.0 (sym s)) ∙ h.others q none;
  })
