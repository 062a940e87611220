-- What the acts of a page do to the floats: each that is taken costs what it was to cost, and a change of columns comes when no float is left, as does a measure that is set.
use Rattle.std.proofs.Common.{◌≡◌, refl, sym, ◌∙◌, subst, ℕ, zero, suc, ℤ, ◌+◌, ◌*◌, ◌≤◌, inl, inr, ◌⊎◌, Bool, true, false, List, [], ◌∷◌, ◌++◌, length, Option, None, arith}
use Rattle.std.specs.Prelude.{int_le, ◌&&◌, if◌then◌else◌}
use Rattle.std.specs.List.{AllByRecursion}
use Rattle.std.proofs.lemmas.Int.{ints}
use Rattle.std.proofs.lemmas.Bool.{and_right, and_parts, and_left, both_ways}
use Rattle.tb_break.proofs.EachLemmas.{all-push}
use Rattle.tb_scaled.specs.Scaled.{min_ℤ}
use Rattle.tb_node.specs.declared.Act.{Act}
use Rattle.tb_node.specs.declared.Act.TheVariants as acts
use Rattle.tb_node.specs.declared.Float.{Float}
use Rattle.tb_node.specs.declared.Margin.{Margin}
use Rattle.tb_node.specs.declared.What.{What}
use Rattle.tb_node.specs.declared.What.TheVariants as what
use Rattle.tb_node.specs.PlainNodes.{hbox, rule, pen, PlainKind, plain, act, PlainNode}
use Rattle.tb_param.specs.declared.Params.{Params}
use Rattle.tb_param.specs.declared.Field.{Field}
use Rattle.tb_param.specs.declared.Field.TheVariants as fields
use Rattle.tb_param.specs.declared.Value.{Value}
use Rattle.tb_param.specs.declared.Change.{Change}
use Rattle.tb_param.specs.declared.SetPlace.{SetPlace}
use Rattle.tb_param.specs.declared.SetPlace.TheVariants as set_places
use Rattle.tb_param.specs.Fields.{with_value}
use Rattle.tb_param.specs.Changes.{set_place, is_in_range, with_whole, changed}
use Rattle.tb_float.specs.declared.Entry.{Entry}
use Rattle.tb_float.specs.declared.Entry.TheVariants as entries
use Rattle.tb_param.specs.Release.{has_second}
use Rattle.tb_float.specs.declared.Suppress.{Suppress}
use Rattle.tb_float.specs.declared.Part.{Part}
use Rattle.tb_float.specs.declared.Part.TheVariants as parts
use Rattle.tb_float.specs.Lists.{FloatLists, wide_part}
use Rattle.tb_sheet.specs.declared.Warn.{Warn}
use Rattle.tb_column.specs.Column.{PlainColumn}
use Rattle.tb_output.specs.State.{State, Recorded, no_suppress}
use Rattle.tb_output.specs.Act.{taken_float, with_taken, with_current, has_head_room, taken_head, lists_with_head, with_head, with_params}
use Rattle.tb_laws.proofs.Closed.Sorts.{Sort, light, blank, pause, clear, pen_sort, box_sort, kind_sort, sorts}
use Rattle.tb_laws.proofs.DeadCycles.AgainLemmas.{Again}
use Rattle.tb_laws.proofs.DeadCycles.WaitCosts.{sort_cost, kind_cost, wait_cost, act_cost}
use Rattle.tb_output.proofs.StepLaws.FollowLemmas.{waiting_floats, AllWait}
use Rattle.tb_laws.proofs.DeadCycles.ClearOutcomes.{NoneWait, Fits, Single, Wide}
use Rattle.tb_laws.proofs.StepLaws.SideLemmas.{Sides}
use Rattle.tb_laws.proofs.DeadCycles.ServeOutcomes.{current_floats, AllCurrent, way_floats}
use Rattle.tb_laws.proofs.DeadCycles.CycleStates.{IsSecond, FloatsFit}
use Rattle.tb_laws.proofs.DeadCycles.CycleBreaks.{none-left}
use Rattle.tb_output.proofs.Acts.HeadLemmas.{head-room}
use Rattle.tb_steps.proofs.RunTree.{ActMove, takes_float, takes_note, sets_flag, changes_columns, sets_number, takes_title, sets_parameter}

-- the entries of the current list change
current-sides : (from : Part) (es : List Entry) (l : FloatLists) → Sides from l → Sides from (record l { current = es })
current-sides parts.Deferred es l h = h
current-sides parts.Second es l h = (record { top = h.0.top; bottom = h.0.bottom; deferred = h.0.deferred }, h.1)
current-sides from es l h = tt

-- ---- an act

-- no float is on the way when the columns change, nor when a measure is set
abbrev pub EmptyAt : State → Act → Type 0
EmptyAt s (acts.Take f) = Unit {0}
EmptyAt s (acts.TakeMargin m) = Unit {0}
EmptyAt s (acts.Suppress area) = Unit {0}
EmptyAt s (acts.Page n) = Unit {0}
EmptyAt s (acts.Head f) = Unit {0}
EmptyAt s (acts.Columns two) = way_floats s.floats ≡ 0
EmptyAt s (acts.Set c) = set_place c.field ≡ set_places.AfterClear → way_floats s.floats ≡ 0

-- the state after acts that cost so much
pub record Acts (n : ℕ) (s t : State) : Type 0 where
  pub waiting : t.waiting ≡ s.waiting
  pub held : t.held_page ≡ s.held_page
  pub boxes : t.boxes ≡ s.boxes
  pub classes : t.classes ≡ s.classes
  pub cycles : t.dead_cycles ≡ s.dead_cycles
  pub floats : FloatsFit s.params s → FloatsFit t.params t
  pub way : 2 * way_floats t.floats ≤ 2 * way_floats s.floats + n
  pub second : IsSecond s → IsSecond t ⊎ (2 * way_floats t.floats + 1 ≤ 2 * way_floats s.floats + n)

pub no-acts : (s : State) → Acts 0 s s
no-acts s = record { waiting = refl; held = refl; boxes = refl; classes = refl; cycles = refl; floats = λ h. h; way = omega arith; second = λ h. inl h }

-- an act changes the parameters, the floats, the goal, the columns, what is suppressed and the page number, and nothing beside
acts-of : {q : Params} {fl : FloatLists} {goal : ℤ} {two first : Bool} {left : Option PlainColumn} {x : Suppress} {number : ℕ} (n : ℕ) (s : State)
    → (let t : State = record s { params = q; floats = fl; goal = goal; two_columns = two; first_column = first; left_column = left; suppress = x; number = number } in (FloatsFit s.params s → FloatsFit q t) → 2 * way_floats fl ≤ 2 * way_floats s.floats + n → (IsSecond s → IsSecond t ⊎ (2 * way_floats fl + 1 ≤ 2 * way_floats s.floats + n)) → Acts n s t)
acts-of n s floats way second = record { waiting = refl; held = refl; boxes = refl; classes = refl; cycles = refl; floats = floats; way = way; second = second }

pub acts-then : (i j : ℕ) (s t u : State) → Acts i s t → Acts j t u → Acts (i + j) s u
acts-then i j s t u x y = record {
  waiting = y.waiting ∙ x.waiting;
  held = y.held ∙ x.held;
  boxes = y.boxes ∙ x.boxes;
  classes = y.classes ∙ x.classes;
  cycles = y.cycles ∙ x.cycles;
  floats = λ h. y.floats (x.floats h);
  way = sums (way_floats s.floats) (way_floats t.floats) (way_floats u.floats) x.way y.way;
  second = λ h. by_first (x.second h);
}
  where
    sums : (a b c : ℕ) → 2 * b ≤ 2 * a + i → 2 * c ≤ 2 * b + j → 2 * c ≤ 2 * a + (i + j)
    sums a b c h k = omega arith

    early : (a b c : ℕ) → 2 * b + 1 ≤ 2 * a + i → 2 * c ≤ 2 * b + j → 2 * c + 1 ≤ 2 * a + (i + j)
    early a b c h k = omega arith

    late : (a b c : ℕ) → 2 * b ≤ 2 * a + i → 2 * c + 1 ≤ 2 * b + j → 2 * c + 1 ≤ 2 * a + (i + j)
    late a b c h k = omega arith

    by_second : IsSecond u ⊎ (2 * way_floats u.floats + 1 ≤ 2 * way_floats t.floats + j) → IsSecond u ⊎ (2 * way_floats u.floats + 1 ≤ 2 * way_floats s.floats + (i + j))
    by_second (inl h) = inl h
    by_second (inr h) = inr (late (way_floats s.floats) (way_floats t.floats) (way_floats u.floats) x.way h)

    by_first : IsSecond t ⊎ (2 * way_floats t.floats + 1 ≤ 2 * way_floats s.floats + i) → IsSecond u ⊎ (2 * way_floats u.floats + 1 ≤ 2 * way_floats s.floats + (i + j))
    by_first (inl h) = by_second (y.second h)
    by_first (inr h) = inr (early (way_floats s.floats) (way_floats t.floats) (way_floats u.floats) h y.way)

current-append : (xs ys : List Entry) → current_floats (xs ++ ys) ≡ current_floats xs + current_floats ys
current-append [] ys = omega arith
current-append (entries.Float f ∷ xs) ys = let h : current_floats (xs ++ ys) ≡ current_floats xs + current_floats ys = current-append xs ys in omega arith
current-append (entries.Left m ∷ xs) ys = current-append xs ys
current-append (entries.Right m ∷ xs) ys = current-append xs ys

all-append : (P : Float → Type 0) (xs ys : List Entry) → AllCurrent P xs → AllCurrent P ys → AllCurrent P (xs ++ ys)
all-append P [] ys a b = b
all-append P (entries.Float f ∷ xs) ys a b = (a.0, all-append P xs ys a.1 b)
all-append P (entries.Left m ∷ xs) ys a b = all-append P xs ys a b
all-append P (entries.Right m ∷ xs) ys a b = all-append P xs ys a b

none-current : (P : Float → Type 0) (es : List Entry) → current_floats es ≡ 0 → AllCurrent P es
none-current P [] e = tt
none-current P (entries.Float f ∷ es) e = absurd (no (current_floats es) e)
  where
    no : (x : ℕ) → 1 + x ≡ 0 → ⊥
    no x h = omega arith
none-current P (entries.Left m ∷ es) e = none-current P es e
none-current P (entries.Right m ∷ es) e = none-current P es e

low : (h t : ℤ) → int_le (min_ℤ h t) t ≡ true
low h t = grind (arith, ints)

none-fits : (P : Float → Type 0) (l : FloatLists) → NoneWait l → AllWait P l
none-fits P l none = record { top = subst (AllByRecursion P) (sym none.top) tt; bottom = subst (AllByRecursion P) (sym none.bottom) tt; deferred = subst (AllByRecursion P) (sym none.deferred) tt; double = subst (AllByRecursion P) (sym none.double) tt; second = subst (AllByRecursion P) (sym none.second) tt }

-- no float waits, and none is current
none-way : (l : FloatLists) → way_floats l ≡ 0 → NoneWait l × (current_floats l.current ≡ 0)
none-way l h = (none-left l (waits (waiting_floats l) (current_floats l.current) h), currents (waiting_floats l) (current_floats l.current) h)
  where
    waits : (x y : ℕ) → x + y ≡ 0 → x ≤ 0
    waits x y h = omega arith

    currents : (x y : ℕ) → x + y ≡ 0 → y ≡ 0
    currents x y h = omega arith

takes : (s : State) (f : Float) → Acts 2 s (with_taken s.params s (taken_float s.params s f))
takes s f = taken (has_second s.params && t.wide) refl
  where
    t : Float
    t = taken_float s.params s f

    es : List Entry
    es = entries.Float (taken_float s.params s f) ∷ []

    waits-long : (fs : List Float) → length (fs ++ taken_float s.params s f ∷ []) ≡ length fs + 1
    waits-long [] = refl
    waits-long (g ∷ fs) = let h : length (fs ++ taken_float s.params s f ∷ []) ≡ length fs + 1 = waits-long fs in omega arith

    not-wide : (a b : Bool) → (a && b) ≡ false → a ≡ true → b ≡ false
    not-wide a b h k = grind (arith, h, k)

    has-both : (a b : Bool) → (a && b) ≡ true → a ≡ false → ⊥
    has-both a b h k = let no : true ≡ false = sym h ∙ and_left a b k in cc

    second-sides : (has_second s.params && t.wide) ≡ true → Sides (wide_part s.params) s.floats → Sides (wide_part s.params) (record s.floats { second = s.floats.second ++ t ∷ [] })
    second-sides e x = by_release (has_second s.params) refl x
      where
        by_release : (u : Bool) → has_second s.params ≡ u → Sides (if u then parts.Second else parts.Deferred) s.floats → Sides (if u then parts.Second else parts.Deferred) (record s.floats { second = s.floats.second ++ t ∷ [] })
        by_release true r x = (record { top = x.0.top; bottom = x.0.bottom; deferred = x.0.deferred }, all-push Wide s.floats.second (taken_float s.params s f) x.1 (and_parts (has_second s.params) t.wide e).1)
        by_release false r x = absurd (has-both (has_second s.params) t.wide e r)

    taken : (u : Bool) → (has_second s.params && t.wide) ≡ u → Acts 2 s (record s { floats = if u then record s.floats { second = s.floats.second ++ t ∷ [] } else record s.floats { current = s.floats.current ++ entries.Float t ∷ [] } })
    taken false e =
        let k : current_floats (s.floats.current ++ entries.Float (taken_float s.params s f) ∷ []) ≡ current_floats s.floats.current + 1 = current-append s.floats.current es in
        acts-of 2 s (λ x. record {
          fit = record { top = x.fit.top; bottom = x.fit.bottom; deferred = x.fit.deferred; double = x.fit.double; second = x.fit.second };
          current = all-append (Fits s.params) s.floats.current es x.current (low f.height s.params.textheight, tt);
          single = λ c. let y = x.single c in (record { top = y.0.top; bottom = y.0.bottom; deferred = y.0.deferred; double = y.0.double; second = y.0.second }, all-append Single s.floats.current es y.1 (and_right f.wide s.two_columns c, tt));
          double = record { wide = x.double.wide; none = x.double.none };
          sides = current-sides (wide_part s.params) (s.floats.current ++ es) s.floats x.sides;
          narrow = λ r. all-append Single s.floats.current es (x.narrow r) (not-wide (has_second s.params) t.wide e r, tt);
        }) (omega arith) (λ x. inl (record { columns = x.columns; first = x.first }))
    taken true e =
        let k : length (s.floats.second ++ taken_float s.params s f ∷ []) ≡ length s.floats.second + 1 = waits-long s.floats.second in
        acts-of 2 s (λ x. record {
          fit = record { top = x.fit.top; bottom = x.fit.bottom; deferred = x.fit.deferred; double = x.fit.double; second = all-push (Fits s.params) s.floats.second (taken_float s.params s f) x.fit.second (low f.height s.params.textheight) };
          current = x.current;
          single = λ c. absurd (both_ways t.wide (and_right f.wide s.two_columns c) (and_parts (has_second s.params) t.wide e).1);
          double = record { wide = x.double.wide; none = x.double.none };
          sides = second-sides e x.sides;
          narrow = x.narrow;
        }) (omega arith) (λ x. inl (record { columns = x.columns; first = x.first }))

notes : (s : State) (m : Margin) → Acts 0 s (with_current s (entries.Left m ∷ entries.Right m ∷ []))
notes s m =
    let es = entries.Left m ∷ entries.Right m ∷ [] in
    let k : current_floats (s.floats.current ++ entries.Left m ∷ entries.Right m ∷ []) ≡ current_floats s.floats.current + 0 = current-append s.floats.current es in
    acts-of 0 s (λ x. record {
      fit = record { top = x.fit.top; bottom = x.fit.bottom; deferred = x.fit.deferred; double = x.fit.double; second = x.fit.second };
      current = all-append (Fits s.params) s.floats.current es x.current tt;
      sides = current-sides (wide_part s.params) (s.floats.current ++ es) s.floats x.sides;
      narrow = λ r. all-append Single s.floats.current es (x.narrow r) tt;
      single = λ t. let y = x.single t in (record { top = y.0.top; bottom = y.0.bottom; deferred = y.0.deferred; double = y.0.double; second = y.0.second }, all-append Single s.floats.current es y.1 tt);
      double = record { wide = x.double.wide; none = x.double.none };
    }) (omega arith) (λ x. inl (record { columns = x.columns; first = x.first }))

heads : (s : State) (f : Float) → has_head_room s.params s ≡ true → Acts 2 s (with_head s.params s (taken_head s.params f))
heads s f e =
    let k : length (s.floats.double ++ taken_head s.params f ∷ []) ≡ length s.floats.double + 1 = more-long s.floats.double in
    acts-of 2 s (λ x. record {
      fit = record { top = x.fit.top; bottom = x.fit.bottom; deferred = x.fit.deferred; double = all-push (Fits s.params) s.floats.double (taken_head s.params f) x.fit.double (low f.height s.params.textheight); second = x.fit.second };
      current = x.current;
      single = λ c. absurd (two-true c);
      double = record { wide = all-push Wide s.floats.double (taken_head s.params f) x.double.wide refl; none = λ c. absurd (two-true c) };
      sides = head-sides (wide_part s.params) x.sides;
      narrow = x.narrow;
    }) (omega arith) (λ x. inl (record { columns = x.columns; first = x.first }))
  where
    more-long : (fs : List Float) → length (fs ++ taken_head s.params f ∷ []) ≡ length fs + 1
    more-long [] = refl
    more-long (g ∷ fs) = let h : length (fs ++ taken_head s.params f ∷ []) ≡ length fs + 1 = more-long fs in omega arith

    head-sides : (from : Part) → Sides from s.floats → Sides from (lists_with_head (taken_head s.params f) s.floats)
    head-sides parts.Deferred x = x
    head-sides parts.Second x = (record { top = x.0.top; bottom = x.0.bottom; deferred = x.0.deferred }, x.1)
    head-sides from x = tt

    two-true : s.two_columns ≡ false → ⊥
    two-true c = both_ways s.two_columns c (head-room s.params s e).two

changes : (s : State) (two : Bool) → way_floats s.floats ≡ 0 → Acts 1 s (record s { two_columns = two; first_column = true; left_column = None; suppress = no_suppress })
changes s two h =
    let none = none-way s.floats h in
    acts-of 1 s (λ x. record {
      fit = x.fit;
      current = x.current;
      single = λ t. (none-fits Single s.floats none.0, none-current Single s.floats.current none.1);
      double = record { wide = x.double.wide; none = λ t. none.0.double };
      sides = x.sides;
      narrow = x.narrow;
    }) (omega arith) (λ x. inr (omega arith))

-- ---- a parameter is set

-- a parameter that is no measure leaves pages as high as they are
height-kept : (f : Field) (v : Value) (p : Params) → (set_place f ≡ set_places.AfterClear → ⊥) → (with_value f v p).textheight ≡ p.textheight
height-kept fields.Textheight v p n = absurd (n refl)
height-kept f v p n = refl

same-height : (p : Params) (c : Change) → (set_place c.field ≡ set_places.AfterClear → ⊥) → (changed p c).textheight ≡ p.textheight
same-height p c n = by_range (is_in_range c)
  where
    by_range : (t : Bool) → (with_whole p (if t then with_value c.field c.value p else p)).textheight ≡ p.textheight
    by_range true = height-kept c.field c.value p n
    by_range false = refl

-- all floats of these lists are no higher than a page
abbrev AllFit : Params → FloatLists → Type 0
AllFit p l = AllWait (Fits p) l × AllCurrent (Fits p) l.current

-- so they are with a parameter that is set, if no float is on the way or pages are as high as they were
set-fits : (p : Params) (c : Change) (l : FloatLists) → (set_place c.field ≡ set_places.AfterClear → way_floats l ≡ 0) → AllFit p l → AllFit (changed p c) l
set-fits p c l h x = by_place (set_place c.field) refl
  where
    by_place : (y : SetPlace) → set_place c.field ≡ y → AllFit (changed p c) l
    by_place set_places.AfterClear e = let none = none-way l (h e) in (none-fits (Fits (changed p c)) l none.0, none-current (Fits (changed p c)) l.current none.1)
    by_place y e = subst (λ (z : ℤ). AllWait (λ f. int_le f.height z ≡ true) l × AllCurrent (λ f. int_le f.height z ≡ true) l.current) (sym (same-height p c (λ k. let no : y ≡ set_places.AfterClear = sym e ∙ k in cc))) x

sets : (s : State) (c : Change) → (set_place c.field ≡ set_places.AfterClear → way_floats s.floats ≡ 0) → Acts 0 s (with_params (changed s.params c) s)
sets s c h = acts-of 0 s (λ x. let y = set-fits s.params c s.floats h (x.fit, x.current) in record { fit = y.0; current = y.1; single = x.single; double = record { wide = x.double.wide; none = x.double.none }; sides = x.sides; narrow = x.narrow }) (omega arith) (λ x. inl (record { columns = x.columns; first = x.first }))

-- ---- any act

pub act-acts : {s t : State} {a : Act} {ws : List Warn} {rs : List Recorded} → ActMove s.params s a t ws rs → EmptyAt s a → Acts (act_cost a) s t
act-acts (takes_float {s = s} f r) h = takes s f
act-acts (takes_note {s = s} m r) h = notes s m
act-acts (sets_flag {s = s} area) h = acts-of 0 s (λ x. record { fit = x.fit; current = x.current; single = x.single; double = record { wide = x.double.wide; none = x.double.none }; sides = x.sides; narrow = x.narrow }) (omega arith) (λ x. inl (record { columns = x.columns; first = x.first }))
act-acts (changes_columns {s = s} two) h = changes s two h
act-acts (sets_number {s = s} n) h = acts-of 0 s (λ x. record { fit = x.fit; current = x.current; single = x.single; double = record { wide = x.double.wide; none = x.double.none }; sides = x.sides; narrow = x.narrow }) (omega arith) (λ x. inl (record { columns = x.columns; first = x.first }))
act-acts (takes_title {s = s} f r) h = heads s f r
act-acts (sets_parameter {s = s} c) h = sets s c h

-- ---- the clears of the routine that wait cost three each

pub again-cost : (n : ℕ) (ns : List PlainNode) → Again n (sorts ns) → 3 * n ≤ wait_cost ns
again-cost zero ns a = omega arith
again-cost (suc n) [] a = absurd a
again-cost (suc n) (m ∷ ns) a = at m.kind a (λ k h. again-cost k ns h)
  where
    kind-at : (x : Sort) → Again (suc n) (x ∷ sorts ns) → ((k : ℕ) → Again k (sorts ns) → 3 * k ≤ wait_cost ns) → 3 * suc n ≤ sort_cost x + wait_cost ns
    kind-at light a h = let k : 3 * suc n ≤ wait_cost ns = h (suc n) a.1 in omega arith
    kind-at blank a h = let k : 3 * suc n ≤ wait_cost ns = h (suc n) a.1 in omega arith
    kind-at pause a h = let k : 3 * suc n ≤ wait_cost ns = h (suc n) a.1 in omega arith
    kind-at clear a h = let k : 3 * n ≤ wait_cost ns = h n a.1 in omega arith
    kind-at x a h = absurd a.0

    box-at : (w : What) → Again (suc n) (box_sort w ∷ sorts ns) → ((k : ℕ) → Again k (sorts ns) → 3 * k ≤ wait_cost ns) → 3 * suc n ≤ 0 + wait_cost ns
    box-at what.Blank a h = kind-at blank a h
    box-at w a h = absurd a.0

    at : (k : PlainKind) → Again (suc n) (kind_sort k ∷ sorts ns) → ((k : ℕ) → Again k (sorts ns) → 3 * k ≤ wait_cost ns) → 3 * suc n ≤ kind_cost k + wait_cost ns
    at (plain (hbox w x d)) a h = box-at w a h
    at (plain (rule name x d)) a h = absurd a.0
    at (plain (pen p)) a h = kind-at (pen_sort p) a h
    at (act x) a h = absurd a.0
    at k a h = kind-at light a h
