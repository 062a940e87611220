-- The shelves of a store: opened, and changed one at a time.
use Rattle.std.proofs.Common.{◌≡◌, ◌≢◌, inl, inr, ℕ, zero, suc, List, [], ◌∷◌, ◌++◌, Some, None, slice_get, is_some, unwrap_or, refl, sym, ap, ◌∙◌, subst, arith}
use Rattle.std.proofs.lemmas.Option.{same_Some}
use Rattle.std.specs.FinMap.{get}
use Rattle.tb_pool.specs.Lists.{Lists, IsLive, list_at, with_list}
use Rattle.tb_pool.proofs.MapLemmas.{get-insert_same, get-insert_other, list_steps}
use Rattle.tb_float.specs.declared.Part.{Part}
use Rattle.tb_float.specs.declared.shelves.Shelves.{Shelves}
use Rattle.tb_float.specs.Slots.{SlotView}
use Rattle.tb_float.specs.Shelves.{shelf_of, slots_of, AreShelves}
use Rattle.tb_float.proofs.PartLemmas.{part_index, part_index-apart, part_cases, part_values, value-at, put, put-same, put-other}

-- ---- opening

abbrev pub IsOpen : Lists SlotView → ℕ → Type 0
IsOpen s l = get s.lists l ≡ Some []

abbrev pub AllOpen : Lists SlotView → List ℕ → Type 0
AllOpen s [] = Unit {0}
AllOpen s (l ∷ ls) = IsOpen s l × AllOpen s ls

-- each of these ids differs from the id
abbrev pub AllOthers : ℕ → List ℕ → Type 0
AllOthers l [] = Unit {0}
AllOthers l (m ∷ ms) = (m ≢ l) × AllOthers l ms

abbrev pub AllDiffer : List ℕ → Type 0
AllDiffer [] = Unit {0}
AllDiffer (l ∷ ls) = AllOthers l ls × AllDiffer ls

pub record Opened (s : Lists SlotView) (ids : List ℕ) : Type 0 where
  pub all_open : AllOpen s ids
  pub differ : AllDiffer ids

pub opened-none : (s : Lists SlotView) → Opened s []
opened-none s = record { all_open = tt; differ = tt }

-- those that are open differ from a new id
open-new : (s : Lists SlotView) (l m : ℕ) → IsOpen s m → get s.lists l ≡ None → m ≢ l
open-new s l m is new e = let clash = sym is ∙ ap (get s.lists) e ∙ new in cc

all-stay : (s t : Lists SlotView) (l : ℕ) (ids : List ℕ) → AllOpen s ids → get s.lists l ≡ None → t.lists ≡ with_list s l [] → AllOpen t (ids ++ l ∷ [])
all-stay s t l [] o new e = (ap (λ w. get w l) e ∙ get-insert_same s.lists l [], tt)
all-stay s t l (m ∷ ms) o new e =
    (ap (λ w. get w m) e ∙ get-insert_other s.lists l [] m (open-new s l m o.0 new) ∙ o.0, all-stay s t l ms o.1 new e)

others-more : (m : ℕ) (ids : List ℕ) (l : ℕ) → AllOthers m ids → l ≢ m → AllOthers m (ids ++ l ∷ [])
others-more m [] l o ne = (ne, tt)
others-more m (x ∷ xs) l o ne = (o.0, others-more m xs l o.1 ne)

differ-more : (s : Lists SlotView) (ids : List ℕ) (l : ℕ) → AllDiffer ids → AllOpen s ids → get s.lists l ≡ None → AllDiffer (ids ++ l ∷ [])
differ-more s [] l d o new = (tt, tt)
differ-more s (m ∷ ms) l d o new = (others-more m ms l d.0 (λ e. open-new s l m o.0 new (sym e)), differ-more s ms l d.1 o.1 new)

-- one more list is opened
pub opened-one : (s t : Lists SlotView) (l : ℕ) (ids : List ℕ) → Opened s ids → get s.lists l ≡ None → t.lists ≡ with_list s l [] → Opened t (ids ++ l ∷ [])
opened-one s t l ids k new e = record { all_open = all-stay s t l ids k.all_open new e; differ = differ-more s ids l k.differ k.all_open new }

-- an id among those that are open is open
open-at : (s : Lists SlotView) (ids : List ℕ) (k l : ℕ) → AllOpen s ids → slice_get ids k ≡ Some l → IsOpen s l
open-at s [] k l o e = absurd cc
open-at s (m ∷ ms) zero l o e = subst (IsOpen s) (same_Some m l e) o.0
open-at s (m ∷ ms) (suc k) l o e = open-at s ms k l o.1 e

others-at : (l : ℕ) (ids : List ℕ) (k m : ℕ) → AllOthers l ids → slice_get ids k ≡ Some m → m ≢ l
others-at l [] k m o e = absurd cc
others-at l (x ∷ xs) zero m o e = λ q. o.0 (same_Some x m e ∙ q)
others-at l (x ∷ xs) (suc k) m o e = others-at l xs k m o.1 e

-- two ids at two places differ
differ-at : (ids : List ℕ) (j k l m : ℕ) → AllDiffer ids → slice_get ids j ≡ Some l → slice_get ids k ≡ Some m → j ≢ k → l ≢ m
differ-at [] j k l m d e f ne = absurd cc
differ-at (x ∷ xs) zero zero l m d e f ne = absurd (ne refl)
differ-at (x ∷ xs) zero (suc k) l m d e f ne = λ q. others-at x xs k m d.0 f (sym q ∙ sym (same_Some x l e))
differ-at (x ∷ xs) (suc j) zero l m d e f ne = λ q. others-at x xs j l d.0 e (q ∙ sym (same_Some x m f))
differ-at (x ∷ xs) (suc j) (suc k) l m d e f ne = differ-at xs j k l m d.1 e f (λ q. ne (ap suc q))

abbrev pub shelf_ids : Shelves → List ℕ
shelf_ids s = s.one ∷ s.rest ∷ part_values s.lists

pub shelves-opened : (t : Lists SlotView) (s : Shelves) → Opened t (shelf_ids s) → AreShelves t s
shelves-opened t s k =
    let ids = part_values s.lists in
    let o = k.all_open in
    let d = k.differ in
    record {
      live = λ p. ap is_some (open-at t ids (part_index p) (shelf_of s p) o.1.1 (value-at p s.lists));
      one_live = ap is_some (o.0);
      rest_live = ap is_some (o.1.0);
      apart = λ p q ne. differ-at ids (part_index p) (part_index q) (shelf_of s p) (shelf_of s q) d.1.1 (value-at p s.lists) (value-at q s.lists) (part_index-apart p q ne);
      one_apart = λ p. others-at s.one ids (part_index p) (shelf_of s p) d.0.1 (value-at p s.lists);
      rest_apart = λ p. others-at s.rest ids (part_index p) (shelf_of s p) d.1.0 (value-at p s.lists);
      helpers_apart = λ e. d.0.0 (sym e);
      one_empty = ap (λ w. unwrap_or w []) (o.0);
      rest_empty = ap (λ w. unwrap_or w []) (o.1.0);
    }

pub shelves-empty : (t : Lists SlotView) (s : Shelves) → Opened t (shelf_ids s) → (p : Part) → slots_of t s p ≡ []
shelves-empty t s k p = let o = k.all_open in ap (λ w. unwrap_or w []) (open-at t (part_values s.lists) (part_index p) (shelf_of s p) o.1.1 (value-at p s.lists))

-- ---- one list changes

-- the lists of the parts after one of them was written
pub slots-put : (s t : Lists SlotView) (sh : Shelves) (p : Part) (xs : List SlotView) → AreShelves s sh → t.lists ≡ with_list s (shelf_of sh p) xs → slots_of t sh ≡ put p xs (slots_of s sh)
slots-put s t sh p xs k e = λ i q. at q i
  where
    at : (q : Part) → slots_of t sh q ≡ put p xs (slots_of s sh) q
    at q = elim (part_cases q p) [
      | inl same ↦ ap (slots_of t sh) same ∙ ap (λ m. unwrap_or (get m (shelf_of sh p)) []) e ∙ ap (λ o. unwrap_or o []) (get-insert_same s.lists (shelf_of sh p) xs) ∙ sym (ap (put p xs (slots_of s sh)) same ∙ put-same p xs (slots_of s sh))
      | inr ne ↦ ap (λ m. unwrap_or (get m (shelf_of sh q)) []) e ∙ ap (λ o. unwrap_or o []) (get-insert_other s.lists (shelf_of sh p) xs (shelf_of sh q) (k.apart q p ne)) ∙ sym (put-other p q xs (slots_of s sh) ne)
    ]

written-live : (s t : Lists SlotView) (l q : ℕ) (xs : List SlotView) → t.lists ≡ with_list s l xs → IsLive s q → IsLive t q
written-live s t l q xs e is = grind (arith, list_steps)

written-other : (s t : Lists SlotView) (l q : ℕ) (xs : List SlotView) → t.lists ≡ with_list s l xs → q ≢ l → list_at t q ≡ list_at s q
written-other s t l q xs e ne = ap (λ m. unwrap_or (get m q) []) e ∙ ap (λ o. unwrap_or o []) (get-insert_other s.lists l xs q ne)

pub shelves-put : (s t : Lists SlotView) (sh : Shelves) (p : Part) (xs : List SlotView) → AreShelves s sh → t.lists ≡ with_list s (shelf_of sh p) xs → AreShelves t sh
shelves-put s t sh p xs k e = record {
  live = λ q. written-live s t (shelf_of sh p) (shelf_of sh q) xs e (k.live q);
  one_live = written-live s t (shelf_of sh p) sh.one xs e k.one_live;
  rest_live = written-live s t (shelf_of sh p) sh.rest xs e k.rest_live;
  apart = k.apart;
  one_apart = k.one_apart;
  rest_apart = k.rest_apart;
  helpers_apart = k.helpers_apart;
  one_empty = written-other s t (shelf_of sh p) sh.one xs e (λ q. k.one_apart p (sym q)) ∙ k.one_empty;
  rest_empty = written-other s t (shelf_of sh p) sh.rest xs e (λ q. k.rest_apart p (sym q)) ∙ k.rest_empty;
}
