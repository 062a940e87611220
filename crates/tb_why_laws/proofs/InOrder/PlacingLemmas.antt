-- The lines of the floats that wait, and of those of the areas, when a float leaves one list for another.
use Rattle.std.proofs.Common.{◌≡◌, refl, sym, ap, subst, inl, inr, ◌⊎◌, ℕ, Bool, true, false, List, [], ◌∷◌, ◌++◌, if◌then◌else◌}
use Rattle.std.specs.Prelude.{◌&&◌}
use Rattle.std.specs.List.{AllByRecursion}
use Rattle.tb_node.specs.declared.Float.{Float}
use Rattle.tb_node.specs.declared.Where.{Where}
use Rattle.tb_node.specs.declared.Where.TheVariants as places
use Rattle.tb_float.specs.declared.Part.{Part}
use Rattle.tb_float.specs.declared.Part.TheVariants as parts
use Rattle.tb_float.specs.Lists.{FloatLists, IsWaiting, floats_of, with_floats_of}
use Rattle.tb_output.specs.State.{State}
use Rattle.tb_output.specs.FloatMoves.{joined_to}
use Rattle.tb_laws.specs.Laws.{float_lines}
use Rattle.tb_laws.proofs.ClassesRise.RisingLists.{IsAmong, among-front, among-back}
use Rattle.tb_why_laws.proofs.OnePlace.WaitingLines.{waiting_lines}
use Rattle.tb_why_laws.proofs.OnePlace.OnceLists.{among-parts}

-- the lines of the floats that were placed for the column or page that is being made
abbrev pub area_lines : State → List ℕ
area_lines s = float_lines s.floats.top ++ (float_lines s.floats.bottom ++ (if s.two_columns && s.first_column then float_lines s.floats.double else []))

pub lines-append : (xs ys : List Float) → float_lines (xs ++ ys) ≡ float_lines xs ++ float_lines ys
lines-append [] ys = refl
lines-append (x ∷ xs) ys = ap (λ l. x.line ∷ l) (lines-append xs ys)

-- a line of two lists is of one of them
pub either-list : (n : ℕ) (xs ys : List Float) → IsAmong n (float_lines (xs ++ ys)) → IsAmong n (float_lines xs) ⊎ IsAmong n (float_lines ys)
either-list n xs ys i = among-parts n (float_lines xs) (float_lines ys) (subst (IsAmong n) (lines-append xs ys) i)

pub in-first : (n : ℕ) (xs ys : List Float) → IsAmong n (float_lines xs) → IsAmong n (float_lines (xs ++ ys))
in-first n xs ys i = subst (IsAmong n) (sym (lines-append xs ys)) (among-front n (float_lines xs) (float_lines ys) i)

pub in-second : (n : ℕ) (xs ys : List Float) → IsAmong n (float_lines ys) → IsAmong n (float_lines (xs ++ ys))
in-second n xs ys i = subst (IsAmong n) (sym (lines-append xs ys)) (among-back n (float_lines xs) (float_lines ys) i)

-- each float of a list is of its lines
pub all-lines : (fs : List Float) → AllByRecursion (λ (f : Float). IsAmong f.line (float_lines fs)) fs
all-lines [] = tt
all-lines (f ∷ fs) = (inl refl, later fs (all-lines fs))
  where
    later : (gs : List Float) → AllByRecursion (λ (g : Float). IsAmong g.line (float_lines fs)) gs → AllByRecursion (λ (g : Float). IsAmong g.line (float_lines (f ∷ fs))) gs
    later [] h = tt
    later (g ∷ gs) h = (inr h.0, later gs h.1)

-- ---- the lists in which floats wait

-- the other list in which floats wait
abbrev pub others : Part → FloatLists → List ℕ
others parts.Deferred l = float_lines l.second
others parts.Second l = float_lines l.deferred
others from l = []

-- with these floats in a list, a line that waits is theirs or of the other list
pub waits-there : (from : Part) → IsWaiting from → (gs : List Float) (l : FloatLists) (n : ℕ) → IsAmong n (waiting_lines (with_floats_of from gs l)) → IsAmong n (float_lines gs) ⊎ IsAmong n (others from l)
waits-there parts.Deferred w gs l n i = among-parts n (float_lines gs) (float_lines l.second) i
waits-there parts.Second w gs l n i = swapped (among-parts n (float_lines l.deferred) (float_lines gs) i)
  where
    swapped : IsAmong n (float_lines l.deferred) ⊎ IsAmong n (float_lines gs) → IsAmong n (float_lines gs) ⊎ IsAmong n (float_lines l.deferred)
    swapped (inl a) = inr a
    swapped (inr b) = inl b
waits-there from w gs l n i = absurd w

pub waits-so : (from : Part) → IsWaiting from → (gs : List Float) (l : FloatLists) (n : ℕ) → IsAmong n (float_lines gs) ⊎ IsAmong n (others from l) → IsAmong n (waiting_lines (with_floats_of from gs l))
waits-so parts.Deferred w gs l n (inl i) = among-front n (float_lines gs) (float_lines l.second) i
waits-so parts.Deferred w gs l n (inr i) = among-back n (float_lines gs) (float_lines l.second) i
waits-so parts.Second w gs l n (inl i) = among-back n (float_lines l.deferred) (float_lines gs) i
waits-so parts.Second w gs l n (inr i) = among-front n (float_lines l.deferred) (float_lines gs) i
waits-so from w gs l n i = absurd w

-- the same of the lists as they are
pub waits-in : (from : Part) → IsWaiting from → (l : FloatLists) (n : ℕ) → IsAmong n (waiting_lines l) → IsAmong n (float_lines (floats_of from l)) ⊎ IsAmong n (others from l)
waits-in parts.Deferred w l n i = waits-there parts.Deferred w l.deferred l n i
waits-in parts.Second w l n i = waits-there parts.Second w l.second l n i
waits-in from w l n i = absurd w

pub waits-of : (from : Part) → IsWaiting from → (l : FloatLists) (n : ℕ) → IsAmong n (float_lines (floats_of from l)) ⊎ IsAmong n (others from l) → IsAmong n (waiting_lines l)
waits-of parts.Deferred w l n i = waits-so parts.Deferred w l.deferred l n i
waits-of parts.Second w l n i = waits-so parts.Second w l.second l n i
waits-of from w l n i = absurd w

-- ---- a float leaves its list

module _ (from : Part) (w : IsWaiting from) (before rest : List Float) (f : Float) (l : FloatLists) (e : floats_of from l ≡ before ++ f ∷ rest) where
  -- it waited
  pub waited : IsAmong f.line (waiting_lines l)
  waited = waits-of from w l f.line (inl (subst (λ fs. IsAmong f.line (float_lines fs)) (sym e) (in-second f.line before (f ∷ rest) (inl refl))))

  -- what waits without it waited before
  pub waited-too : (n : ℕ) → IsAmong n (waiting_lines (with_floats_of from (before ++ rest) l)) → IsAmong n (waiting_lines l)
  waited-too n i = waits-of from w l n (by_list (waits-there from w (before ++ rest) l n i))
    where
      within : IsAmong n (float_lines before) ⊎ IsAmong n (float_lines rest) → IsAmong n (float_lines (before ++ f ∷ rest))
      within (inl a) = in-first n before (f ∷ rest) a
      within (inr b) = in-second n before (f ∷ rest) (inr b)

      by_list : IsAmong n (float_lines (before ++ rest)) ⊎ IsAmong n (others from l) → IsAmong n (float_lines (floats_of from l)) ⊎ IsAmong n (others from l)
      by_list (inl a) = inl (subst (λ fs. IsAmong n (float_lines fs)) (sym e) (within (either-list n before rest a)))
      by_list (inr b) = inr b

  -- what waited before waits without it, or is it
  pub waits-still : (n : ℕ) → IsAmong n (waiting_lines l) → IsAmong n (waiting_lines (with_floats_of from (before ++ rest) l)) ⊎ (n ≡ f.line)
  waits-still n i = by_list (waits-in from w l n i)
    where
      kept : IsAmong n (float_lines before) ⊎ IsAmong n (float_lines rest) → IsAmong n (waiting_lines (with_floats_of from (before ++ rest) l))
      kept (inl a) = waits-so from w (before ++ rest) l n (inl (in-first n before rest a))
      kept (inr b) = waits-so from w (before ++ rest) l n (inl (in-second n before rest b))

      by_front : IsAmong n (float_lines before) ⊎ IsAmong n (float_lines (f ∷ rest)) → IsAmong n (waiting_lines (with_floats_of from (before ++ rest) l)) ⊎ (n ≡ f.line)
      by_front (inl a) = inl (kept (inl a))
      by_front (inr (inl b)) = inr (sym b)
      by_front (inr (inr c)) = inl (kept (inr c))

      by_list : IsAmong n (float_lines (floats_of from l)) ⊎ IsAmong n (others from l) → IsAmong n (waiting_lines (with_floats_of from (before ++ rest) l)) ⊎ (n ≡ f.line)
      by_list (inl a) = by_front (either-list n before (f ∷ rest) (subst (λ fs. IsAmong n (float_lines fs)) e a))
      by_list (inr b) = inl (waits-so from w (before ++ rest) l n (inr b))

-- the areas stay when a list changes in which floats wait
pub same-areas : (from : Part) → IsWaiting from → (gs : List Float) (s : State) → area_lines (record s { floats = with_floats_of from gs s.floats }) ≡ area_lines s
same-areas parts.Deferred w gs s = refl
same-areas parts.Second w gs s = refl
same-areas from w gs s = absurd w

-- a float that joins an area is the only new one there
pub joins-area : (place : Where) (f : Float) (s : State) (n : ℕ) → IsAmong n (area_lines (record s { floats = joined_to place f s.floats })) → IsAmong n (area_lines s) ⊎ (n ≡ f.line)
joins-area places.Top f s n i = by_area (among-parts n (float_lines (s.floats.top ++ f ∷ [])) below i)
  where
    below : List ℕ
    below = float_lines s.floats.bottom ++ (if s.two_columns && s.first_column then float_lines s.floats.double else [])

    by_top : IsAmong n (float_lines s.floats.top) ⊎ IsAmong n (float_lines (f ∷ [])) → IsAmong n (area_lines s) ⊎ (n ≡ f.line)
    by_top (inl a) = inl (among-front n (float_lines s.floats.top) below a)
    by_top (inr (inl b)) = inr (sym b)
    by_top (inr (inr c)) = absurd c

    by_area : IsAmong n (float_lines (s.floats.top ++ f ∷ [])) ⊎ IsAmong n below → IsAmong n (area_lines s) ⊎ (n ≡ f.line)
    by_area (inl a) = by_top (either-list n s.floats.top (f ∷ []) a)
    by_area (inr b) = inl (among-back n (float_lines s.floats.top) below b)
joins-area places.Bottom f s n i = by_area (among-parts n (float_lines s.floats.top) (float_lines (s.floats.bottom ++ f ∷ []) ++ above) i)
  where
    above : List ℕ
    above = if s.two_columns && s.first_column then float_lines s.floats.double else []

    by_bottom : IsAmong n (float_lines s.floats.bottom) ⊎ IsAmong n (float_lines (f ∷ [])) → IsAmong n (area_lines s) ⊎ (n ≡ f.line)
    by_bottom (inl a) = inl (among-back n (float_lines s.floats.top) (float_lines s.floats.bottom ++ above) (among-front n (float_lines s.floats.bottom) above a))
    by_bottom (inr (inl b)) = inr (sym b)
    by_bottom (inr (inr c)) = absurd c

    by_rest : IsAmong n (float_lines (s.floats.bottom ++ f ∷ [])) ⊎ IsAmong n above → IsAmong n (area_lines s) ⊎ (n ≡ f.line)
    by_rest (inl a) = by_bottom (either-list n s.floats.bottom (f ∷ []) a)
    by_rest (inr b) = inl (among-back n (float_lines s.floats.top) (float_lines s.floats.bottom ++ above) (among-back n (float_lines s.floats.bottom) above b))

    by_area : IsAmong n (float_lines s.floats.top) ⊎ IsAmong n (float_lines (s.floats.bottom ++ f ∷ []) ++ above) → IsAmong n (area_lines s) ⊎ (n ≡ f.line)
    by_area (inl a) = inl (among-front n (float_lines s.floats.top) (float_lines s.floats.bottom ++ above) a)
    by_area (inr b) = by_rest (among-parts n (float_lines (s.floats.bottom ++ f ∷ [])) above b)
joins-area places.Double f s n i = by_area (among-parts n (float_lines s.floats.top) (float_lines s.floats.bottom ++ (if s.two_columns && s.first_column then float_lines (s.floats.double ++ f ∷ []) else [])) i)
  where
    above : List ℕ
    above = if s.two_columns && s.first_column then float_lines s.floats.double else []

    in-above : IsAmong n above → IsAmong n (area_lines s)
    in-above i = among-back n (float_lines s.floats.top) (float_lines s.floats.bottom ++ above) (among-back n (float_lines s.floats.bottom) above i)

    by_double : IsAmong n (float_lines s.floats.double) ⊎ IsAmong n (float_lines (f ∷ [])) → IsAmong n (float_lines s.floats.double) ⊎ (n ≡ f.line)
    by_double (inl a) = inl a
    by_double (inr (inl b)) = inr (sym b)
    by_double (inr (inr c)) = absurd c

    by_first : (b : Bool) → (IsAmong n (if b then float_lines s.floats.double else []) → IsAmong n (area_lines s)) → IsAmong n (if b then float_lines (s.floats.double ++ f ∷ []) else []) → IsAmong n (area_lines s) ⊎ (n ≡ f.line)
    by_first true h i = or_so (by_double (either-list n s.floats.double (f ∷ []) i))
      where
        or_so : IsAmong n (float_lines s.floats.double) ⊎ (n ≡ f.line) → IsAmong n (area_lines s) ⊎ (n ≡ f.line)
        or_so (inl a) = inl (h a)
        or_so (inr b) = inr b
    by_first false h i = absurd i

    by_rest : IsAmong n (float_lines s.floats.bottom) ⊎ IsAmong n (if s.two_columns && s.first_column then float_lines (s.floats.double ++ f ∷ []) else []) → IsAmong n (area_lines s) ⊎ (n ≡ f.line)
    by_rest (inl a) = inl (among-back n (float_lines s.floats.top) (float_lines s.floats.bottom ++ above) (among-front n (float_lines s.floats.bottom) above a))
    by_rest (inr b) = by_first (s.two_columns && s.first_column) in-above b

    by_area : IsAmong n (float_lines s.floats.top) ⊎ IsAmong n (float_lines s.floats.bottom ++ (if s.two_columns && s.first_column then float_lines (s.floats.double ++ f ∷ []) else [])) → IsAmong n (area_lines s) ⊎ (n ≡ f.line)
    by_area (inl a) = inl (among-front n (float_lines s.floats.top) (float_lines s.floats.bottom ++ above) a)
    by_area (inr b) = by_rest (among-parts n (float_lines s.floats.bottom) (if s.two_columns && s.first_column then float_lines (s.floats.double ++ f ∷ []) else []) b)
joins-area places.Here f s n i = inl i
joins-area places.Page f s n i = inl i
joins-area places.Deferred f s n i = inl i
