-- The floats of a list leave the pool, one after another, and what a walk over the floats of an area tells of them.
use Rattle.std.proofs.Common.{◌≡◌, suc, List, [], ◌∷◌, ◌++◌, length, Some, slice_get, append_assoc, append-nil, refl, sym, ap, ◌∙◌}
use Rattle.std.proofs.lemmas.List.{nil_from_length}
use Rattle.tb_node.specs.declared.Float.{Float}
use Rattle.tb_node.specs.declared.Where.{Where}
use Rattle.tb_float.specs.declared.Entry.{Entry}
use Rattle.tb_float.specs.declared.Entry.TheVariants as entries
use Rattle.tb_float.specs.declared.Part.{Part}
use Rattle.tb_float.specs.declared.Part.TheVariants as parts
use Rattle.tb_float.specs.Lists.{FloatLists, without_place, float_entries, floats_of, entries_of, entry_count, with_floats_of}
use Rattle.tb_float.specs.Pool.{FloatPool, without_entry}
use Rattle.tb_float.specs.Rooms.{IsArea}
use Rattle.tb_told.specs.declared.Piece.{Piece}
use Rattle.tb_told.specs.declared.Piece.TheVariants.{Says}
use Rattle.tb_told.specs.declared.Tale.TheVariants.{Back}
use Rattle.tb_told.specs.Tales.{tales, back_tales}
use Rattle.tb_why.specs.SeenSteps.{IsLeavable}

-- ---- the first float leaves

fewer : (fs : List Float) (e : Entry) → Some e ≡ slice_get (float_entries fs) 0 → suc (length (without_place 0 fs)) ≡ length fs
fewer [] e is = cc
fewer (f ∷ fs) e is = refl

-- its list has one float less
pub retired-fewer : (part : Part) → IsLeavable part → (v w : FloatPool) (e : Entry) → Some e ≡ slice_get (entries_of part v.lists) 0 → w ≡ without_entry part 0 v →
    suc (length (floats_of part w.lists)) ≡ length (floats_of part v.lists)
retired-fewer parts.Current q v w e is gone = absurd q
retired-fewer parts.Here q v w e is gone = ap (λ (x : FloatPool). suc (length x.lists.here)) gone ∙ fewer v.lists.here e is
retired-fewer parts.Top q v w e is gone = ap (λ (x : FloatPool). suc (length x.lists.top)) gone ∙ fewer v.lists.top e is
retired-fewer parts.Bottom q v w e is gone = ap (λ (x : FloatPool). suc (length x.lists.bottom)) gone ∙ fewer v.lists.bottom e is
retired-fewer parts.Deferred q v w e is gone = absurd q
retired-fewer parts.Double q v w e is gone = ap (λ (x : FloatPool). suc (length x.lists.double)) gone ∙ fewer v.lists.double e is
retired-fewer parts.Second q v w e is gone = absurd q

-- the other lists are as before
pub retired-lists : (part : Part) → IsLeavable part → (v w : FloatPool) → w ≡ without_entry part 0 v → with_floats_of part [] w.lists ≡ with_floats_of part [] v.lists
retired-lists parts.Current q v w gone = absurd q
retired-lists parts.Here q v w gone = ap (λ (x : FloatPool). with_floats_of parts.Here [] x.lists) gone
retired-lists parts.Top q v w gone = ap (λ (x : FloatPool). with_floats_of parts.Top [] x.lists) gone
retired-lists parts.Bottom q v w gone = ap (λ (x : FloatPool). with_floats_of parts.Bottom [] x.lists) gone
retired-lists parts.Deferred q v w gone = absurd q
retired-lists parts.Double q v w gone = ap (λ (x : FloatPool). with_floats_of parts.Double [] x.lists) gone
retired-lists parts.Second q v w gone = absurd q

same-with : (part : Part) → IsLeavable part → (l : FloatLists) → with_floats_of part (floats_of part l) l ≡ l
same-with parts.Current q l = absurd q
same-with part q l = refl

count-of : (part : Part) → IsLeavable part → (l : FloatLists) → entry_count part l ≡ length (floats_of part l)
count-of parts.Current q l = absurd q
count-of part q l = refl

-- an empty list stays as it is
pub left-none : (part : Part) → IsLeavable part → (l : FloatLists) → entry_count part l ≡ 0 → l ≡ with_floats_of part [] l
left-none part q l none =
    sym (same-with part q l) ∙ ap (λ fs. with_floats_of part fs l) (nil_from_length (floats_of part l) (sym (count-of part q l) ∙ none))

-- ---- the entries of an area

-- they are its floats
pub area-entries : (part : Part) → IsArea part → (l : FloatLists) → entries_of part l ≡ float_entries (floats_of part l)
area-entries parts.Current q l = absurd q
area-entries part q l = refl

-- the next entry is the next float, and the others come behind it
pub next-float : (e : Entry) (es : List Entry) (fs : List Float) (f : Float) → e ∷ es ≡ float_entries fs → e ≡ entries.Float f → (gs : List Float) × (fs ≡ f ∷ gs) × (es ≡ float_entries gs)
next-float e es [] f is it = cc
next-float e es (g ∷ gs) f is it = (gs, cc, cc)

-- one more is told to be taken back, and the later ones are still to come
pub back-more : (old new all : List Piece) (place : Where) (f : Float) (fs gs : List Float) → fs ≡ f ∷ gs → new ≡ old ++ Says (Back f place) ∷ [] → old ++ tales (back_tales place fs) ≡ all →
    new ++ tales (back_tales place gs) ≡ all
back-more old new all place f fs gs next one is =
    ap (λ x. x ++ tales (back_tales place gs)) one ∙ append_assoc old (Says (Back f place) ∷ []) (tales (back_tales place gs))
    ∙ ap (λ x. old ++ tales (back_tales place x)) (sym next) ∙ is

-- no further one comes
pub back-last : (old all : List Piece) (place : Where) (es : List Entry) (fs : List Float) → es ≡ [] → es ≡ float_entries fs → old ++ tales (back_tales place fs) ≡ all → old ≡ all
back-last old all place es [] none is told = sym (append-nil old) ∙ told
back-last old all place es (f ∷ fs) none is told = cc
