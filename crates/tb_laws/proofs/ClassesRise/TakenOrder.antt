-- The float that was taken last goes to the top, to the bottom, into the text, or to the deferred floats; the class stays in order.
use Rattle.std.proofs.Common.{◌≡◌, refl, sym, ◌∙◌, ap, subst, ℕ, ◌<◌, ◌≢◌, ◌⊎◌, inl, inr, ℤ, Bool, true, false, List, [], ◌∷◌, ◌++◌, Option, append_assoc, append-nil, arith}
use Rattle.std.specs.List.{AllByRecursion}
use Rattle.tb_break.proofs.EachLemmas.{all-front, all-back, all-join, all-map, all-both}
use Rattle.tb_node.specs.declared.Float.{Float}
use Rattle.tb_param.specs.declared.Params.{Params}
use Rattle.tb_node.specs.declared.Where.TheVariants as places
use Rattle.tb_float.specs.declared.Entry.{Entry}
use Rattle.tb_float.specs.declared.Entry.TheVariants as entries
use Rattle.tb_float.specs.Lists.{FloatLists, floats_among, has_class}
use Rattle.tb_area.specs.Laws.{HasNone}
use Rattle.tb_column.specs.Column.{PlainColumn}
use Rattle.tb_output.specs.State.{Recorded, placed}
use Rattle.tb_laws.proofs.ClassesRise.RisingLists.{IsAmong, among-front, among-back, IsMissing, IsAbove, above-missing, Rises, rises-back, rises-across, rises-join, rises-known, rises-without, rises-more, across-unexcused, above-across}
use Rattle.tb_laws.proofs.ClassesRise.ClassLines.{FloatKind, Side, alike, narrow, wider, waits, PartedBy, is_of, line_if, float_lines, left_lines, floats-append}
use Rattle.tb_laws.proofs.ClassesRise.RecordLines.{record_lines, records-more, IsPlacing, WasPlaced, placed-more, placed-last, placed-before, IsLate, late-more, IsCarried, carried-more}
use Rattle.tb_laws.proofs.StepLaws.QuietLemmas.{AreQuiet, quiet-lines}
use Rattle.tb_laws.proofs.ClassesRise.PageLines.{append-none, none-front}
use Rattle.tb_laws.proofs.ClassesRise.SpreadLemmas.{later_lines, IsBehind, IsUnseen, unseen-unexcused, unseen-quiet, paired}
use Rattle.tb_laws.proofs.ClassesRise.ClassOrder.{with-second, lines-behind, IsInText, AreInText, ahead_lines, order_lines, Order, areas-lines, past-two, past-one, kind-class, class-none, passes, none-behind}

pub first-of : (P : ℕ → Type 0) (t : Bool) (n : ℕ) (ys : List ℕ) → AllByRecursion P (line_if t n ++ ys) → t ≡ true → P n
first-of P true n ys h e = h.0
first-of P false n ys h e = cc

alone-of : (P : ℕ → Type 0) (t : Bool) (n : ℕ) → AllByRecursion P (line_if t n) → t ≡ true → P n
alone-of P true n h e = h.0
alone-of P false n h e = cc

-- the text's floats when a float goes to the top: either none of its class is in the here list, or the lines of the top are as before
top_text : (k : FloatKind) (rs : List Recorded) (before : List ℕ) (l : FloatLists) (column : Option PlainColumn) (f : Float) → HasNone f l.here → (text : List ℕ) → IsBehind k text f → AreInText k rs before l column text
    → AllByRecursion (IsInText k rs (float_lines k l.top ++ line_if (is_of k f.class f.line) f.line) (float_lines k l.here) (before ++ (float_lines k l.double ++ (left_lines k column ++ (float_lines k l.top ++ line_if (is_of k f.class f.line) f.line))))) text
top_text k rs before l column f none text behind h = by_class (is_of k f.class f.line) refl
  where
    differs : (n m : ℕ) → n < m → m ≢ n
    differs n m a e = let never : ⊥ = omega (arith, a, e) in never

    late_only : (ahead also : List ℕ) (n : ℕ) → (IsAmong n (float_lines k l.here) → ⊥) → IsLate k n rs ⊎ (IsAmong n (float_lines k l.here) × IsAbove ahead n) → IsLate k n rs ⊎ (IsAmong n (float_lines k l.here) × IsAbove also n)
    late_only ahead also n gone (inl late) = inl late
    late_only ahead also n gone (inr fresh) = absurd (gone fresh.0)

    by_class : (t : Bool) → (is_of k f.class f.line) ≡ t → AllByRecursion (IsInText k rs (float_lines k l.top ++ line_if t f.line) (float_lines k l.here) (before ++ (float_lines k l.double ++ (left_lines k column ++ (float_lines k l.top ++ line_if t f.line))))) text
    by_class false e = subst (λ y. AllByRecursion (IsInText k rs y (float_lines k l.here) (before ++ (float_lines k l.double ++ (left_lines k column ++ y)))) text) (sym (append-nil (float_lines k l.top))) h
    by_class true e =
        all-map (λ n. IsInText k rs (float_lines k l.top) (float_lines k l.here) (ahead_lines k before l column) n × (n < f.line)) (IsInText k rs (float_lines k l.top ++ f.line ∷ []) (float_lines k l.here) (before ++ (float_lines k l.double ++ (left_lines k column ++ (float_lines k l.top ++ f.line ∷ [])))))
        (λ n x. record {
          placed = x.0.placed;
          missing = x.0.missing;
          apart = all-join (λ y. y ≢ n) (float_lines k l.top) (f.line ∷ []) x.0.apart (differs n f.line x.1, tt);
          held = late_only (ahead_lines k before l column) (before ++ (float_lines k l.double ++ (left_lines k column ++ (float_lines k l.top ++ f.line ∷ [])))) n (λ i. subst (IsAmong n) (class-none k f l.here none e) i) x.0.held;
        }) text
        (all-both (IsInText k rs (float_lines k l.top) (float_lines k l.here) (ahead_lines k before l column)) (λ n. n < f.line) text h (behind e))

module _ (k : FloatKind) (Known : ℕ → Type 0) (text takes before : List ℕ) (rs : List Recorded) (l : FloatLists) (two first : Bool) (column : Option PlainColumn) (f : Float) (es : List Entry) (current : l.current ≡ entries.Float f ∷ es) (h : Order k Known text takes before rs l two first column) where
  abbrev this : List ℕ
  this = line_if (is_of k f.class f.line) f.line

  abbrev others : List ℕ
  others = float_lines k (floats_among es) ++ takes

  abbrev areas : List ℕ
  areas = float_lines k (l.top ++ l.bottom ++ waits l)

  -- those of the areas and the deferred ones
  abbrev firsts : List ℕ
  firsts = float_lines k (l.top ++ l.bottom ++ l.deferred)

  later_is : later_lines k takes l ≡ this ++ others
  later_is = ap (λ c. float_lines k (floats_among c) ++ takes) current ∙ append_assoc this (float_lines k (floats_among es)) takes

  this_later : AllByRecursion (IsAbove text) (this ++ others)
  this_later = subst (AllByRecursion (IsAbove text)) later_is h.later

  this_unseen : AllByRecursion (IsUnseen k rs) (this ++ others)
  this_unseen = subst (AllByRecursion (IsUnseen k rs)) later_is h.unseen

  this_behind : IsBehind k text f
  this_behind e = first-of (IsAbove text) (is_of k f.class f.line) f.line others this_later e

  all_order : Rises Known (λ n. IsCarried k n rs) (before ++ (float_lines k l.double ++ (left_lines k column ++ (areas ++ (this ++ others)))))
  all_order = subst (λ y. Rises Known (λ n. IsCarried k n rs) (before ++ (float_lines k l.double ++ (left_lines k column ++ (areas ++ y))))) later_is h.order

  -- a kind of which nothing was taken last does not have it
  current_lines : float_lines k (floats_among l.current) ≡ this ++ float_lines k (floats_among es)
  current_lines = ap (λ c. float_lines k (floats_among c)) current

  this_none : float_lines k (floats_among l.current) ≡ [] → this ≡ []
  this_none e = none-front this (float_lines k (floats_among es)) (sym current_lines ∙ e)

  rest_none : float_lines k (floats_among l.current) ≡ [] → float_lines k (floats_among es) ≡ []
  rest_none e = append-none this (float_lines k (floats_among es)) (sym current_lines ∙ e)

  -- it passes the second list
  past_second : (d : Side) → PartedBy d k l → this ++ float_lines k l.second ≡ float_lines k l.second ++ this
  past_second alike x = ap (λ y. this ++ y) (ap (float_lines k) x) ∙ append-nil this ∙ ap (λ y. y ++ this) (sym (ap (float_lines k) x))
  past_second narrow x = ap (λ y. this ++ y) x.1 ∙ append-nil this ∙ ap (λ y. y ++ this) (sym x.1)
  past_second wider x = ap (λ y. y ++ float_lines k l.second) (this_none x.0) ∙ sym (append-nil (float_lines k l.second)) ∙ ap (λ y. float_lines k l.second ++ y) (sym (this_none x.0))

  -- where it has gone, with these lists
  taken_parted : (m : FloatLists) → m.current ≡ es → m.double ≡ l.double → m.second ≡ l.second → (this ≡ [] → firsts ≡ [] → float_lines k (m.top ++ m.bottom ++ m.deferred) ≡ []) → (d : Side) → PartedBy d k l → PartedBy d k m
  taken_parted m cur dbl sec e alike x = sec ∙ x
  taken_parted m cur dbl sec e narrow x = (ap (float_lines k) dbl ∙ x.0, ap (float_lines k) sec ∙ x.1)
  taken_parted m cur dbl sec e wider x = (ap (λ c. float_lines k (floats_among c)) cur ∙ rest_none x.0, e (this_none x.0) x.1)

  behind_second : AllByRecursion (IsBehind k text) l.second
  behind_second = all-back (IsBehind k text) l.deferred l.second h.deferred

  behind_deferred : AllByRecursion (IsBehind k text) l.deferred
  behind_deferred = all-front (IsBehind k text) l.deferred l.second h.deferred

  -- it goes after the areas' floats of its class, with quiet records
  goes_behind : (m : FloatLists) (more : List Recorded) → AreQuiet more → m.current ≡ es → m.double ≡ l.double → m.second ≡ l.second → float_lines k (m.top ++ m.bottom ++ m.deferred) ≡ firsts ++ this
      → AreInText k (rs ++ more) before m column text → AllByRecursion (IsBehind k text) m.bottom → AllByRecursion (IsBehind k text) m.deferred → Order k Known text takes before (rs ++ more) m two first column
  goes_behind m more q cur dbl sec e held bottom deferred = record {
    order = rises-more Known (λ n. IsCarried k n rs) (λ n. IsCarried k n (rs ++ more)) (λ n x. carried-more k n rs more x) (order_lines k takes before m column)
        (subst (Rises Known (λ n. IsCarried k n rs))
        (ap (λ y. before ++ (float_lines k l.double ++ (left_lines k column ++ y))) (sym (append_assoc areas this others) ∙ ap (λ y. y ++ others) (sym all_lines))
        ∙ ap (λ d. before ++ (float_lines k d ++ (left_lines k column ++ (float_lines k (m.top ++ m.bottom ++ waits m) ++ others)))) (sym dbl)
        ∙ ap (λ c. before ++ (float_lines k m.double ++ (left_lines k column ++ (float_lines k (m.top ++ m.bottom ++ waits m) ++ (float_lines k (floats_among c) ++ takes))))) (sym cur)) all_order);
    rising = h.rising;
    held = held;
    bottom = bottom;
    deferred = all-join (IsBehind k text) m.deferred m.second deferred (subst (AllByRecursion (IsBehind k text)) (sym sec) behind_second);
    parted = taken_parted m cur dbl sec (λ a b. e ∙ (λ i. b i ++ a i)) k.side h.parted;
    later = subst (λ c. AllByRecursion (IsAbove text) (float_lines k (floats_among c) ++ takes)) (sym cur) (all-back (IsAbove text) this others this_later);
    unseen = subst (λ c. AllByRecursion (IsUnseen k (rs ++ more)) (float_lines k (floats_among c) ++ takes)) (sym cur) (unseen-quiet k rs more q others (all-back (IsUnseen k rs) this others this_unseen));
    known = subst (AllByRecursion Known) (sym (quiet-lines k rs more q)) h.known;
    columns = h.columns;
    single = λ t. dbl ∙ h.single t;
  }
    where
      all_lines : float_lines k (m.top ++ m.bottom ++ waits m) ≡ areas ++ this
      all_lines =
          with-second k m ∙ (λ i. e i ++ float_lines k (sec i)) ∙ append_assoc firsts this (float_lines k l.second) ∙ ap (λ y. firsts ++ y) (past_second k.side h.parted)
          ∙ sym (append_assoc firsts (float_lines k l.second) this) ∙ ap (λ y. y ++ this) (sym (with-second k l))

  -- the text's floats if only quiet records are added
  text_quiet : (more : List Recorded) → AreQuiet more → AreInText k (rs ++ more) before l column text
  text_quiet more q = all-map (IsInText k rs (float_lines k l.top) (float_lines k l.here) (ahead_lines k before l column)) (IsInText k (rs ++ more) (float_lines k l.top) (float_lines k l.here) (ahead_lines k before l column)) (λ n x. record {
    placed = placed-more k n rs more x.placed;
    missing = subst (IsMissing n) (sym (quiet-lines k rs more q)) x.missing;
    apart = x.apart;
    held = held_more n x.held;
  }) text h.held
    where
      held_more : (n : ℕ) → IsLate k n rs ⊎ (IsAmong n (float_lines k l.here) × IsAbove (ahead_lines k before l column) n) → IsLate k n (rs ++ more) ⊎ (IsAmong n (float_lines k l.here) × IsAbove (ahead_lines k before l column) n)
      held_more n (inl late) = inl (late-more k n rs more late)
      held_more n (inr fresh) = inr fresh

  pub to_bottom : (p : Params) (height : ℤ) (seen : FloatLists) → HasNone f l.deferred → Order k Known text takes before (rs ++ placed p f places.Bottom seen height ∷ []) (record l { current = es; bottom = l.bottom ++ f ∷ [] }) two first column
  to_bottom p height seen none =
      goes_behind (record l { current = es; bottom = l.bottom ++ f ∷ [] }) (placed p f places.Bottom seen height ∷ []) (tt, tt) refl refl refl
      (areas-lines k l.top (l.bottom ++ f ∷ []) l.deferred
      ∙ ap (λ y. (float_lines k l.top ++ y) ++ float_lines k l.deferred) (floats-append k l.bottom (f ∷ []) ∙ ap (λ y. float_lines k l.bottom ++ y) (append-nil this))
      ∙ past-one (float_lines k l.top) (float_lines k l.bottom) (float_lines k l.deferred) this (passes k f l.deferred none)
      ∙ ap (λ y. y ++ this) (sym (areas-lines k l.top l.bottom l.deferred)))
      (text_quiet (placed p f places.Bottom seen height ∷ []) (tt, tt)) (all-join (IsBehind k text) l.bottom (f ∷ []) h.bottom (this_behind, tt)) behind_deferred

  pub to_deferred : (g : Float) → g.class ≡ f.class → g.line ≡ f.line → Order k Known text takes before rs (record l { current = es; deferred = l.deferred ++ g ∷ [] }) two first column
  to_deferred g c n =
      let same_kind : is_of k g.class g.line ≡ is_of k f.class f.line = (λ i. is_of k (c i) (n i)) in
      let same : line_if (is_of k g.class g.line) g.line ≡ this = (λ i. line_if (is_of k (c i) (n i)) (n i)) in
      subst (λ x. Order k Known text takes before x (record l { current = es; deferred = l.deferred ++ g ∷ [] }) two first column) (append-nil rs)
      (goes_behind (record l { current = es; deferred = l.deferred ++ g ∷ [] }) [] tt refl refl refl
      (areas-lines k l.top l.bottom (l.deferred ++ g ∷ [])
      ∙ ap (λ y. (float_lines k l.top ++ float_lines k l.bottom) ++ y) (floats-append k l.deferred (g ∷ []) ∙ ap (λ y. float_lines k l.deferred ++ y) (append-nil (line_if (is_of k g.class g.line) g.line) ∙ same))
      ∙ sym (append_assoc (float_lines k l.top ++ float_lines k l.bottom) (float_lines k l.deferred) this)
      ∙ ap (λ y. y ++ this) (sym (areas-lines k l.top l.bottom l.deferred)))
      (text_quiet [] tt) h.bottom (all-join (IsBehind k text) l.deferred (g ∷ []) behind_deferred ((λ e. subst (IsAbove text) (sym n) (this_behind (sym same_kind ∙ e))), tt)))

  pub to_top : (p : Params) (height : ℤ) (seen : FloatLists) → HasNone f l.deferred → HasNone f l.here → HasNone f l.bottom → Order k Known text takes before (rs ++ placed p f places.Top seen height ∷ []) (record l { current = es; top = l.top ++ f ∷ [] }) two first column
  to_top p height seen none_deferred none_here none_bottom =
      goes_behind (record l { current = es; top = l.top ++ f ∷ [] }) more (tt, tt) refl refl refl
      (areas-lines k (l.top ++ f ∷ []) l.bottom l.deferred
      ∙ ap (λ y. (y ++ float_lines k l.bottom) ++ float_lines k l.deferred) top_lines
      ∙ past-two (float_lines k l.top) (float_lines k l.bottom) (float_lines k l.deferred) this (passes k f l.bottom none_bottom) (passes k f l.deferred none_deferred)
      ∙ ap (λ y. y ++ this) (sym (areas-lines k l.top l.bottom l.deferred)))
      (subst (λ y. AllByRecursion (IsInText k (rs ++ more) y (float_lines k l.here) (before ++ (float_lines k l.double ++ (left_lines k column ++ y)))) text) (sym top_lines)
      (top_text k (rs ++ more) before l column f none_here text this_behind (text_quiet more (tt, tt)))) h.bottom behind_deferred
    where
      more : List Recorded
      more = placed p f places.Top seen height ∷ []

      top_lines : float_lines k (l.top ++ f ∷ []) ≡ float_lines k l.top ++ line_if (is_of k f.class f.line) f.line
      top_lines = floats-append k l.top (f ∷ []) ∙ ap (λ y. float_lines k l.top ++ y) (append-nil (line_if (is_of k f.class f.line) f.line))

  -- ---- into the text

  abbrev ahead_of : List ℕ
  ahead_of = before ++ (float_lines k l.double ++ (left_lines k column ++ areas))

  grouped : Rises Known (λ n. IsCarried k n rs) (ahead_of ++ (this ++ others))
  grouped = subst (Rises Known (λ n. IsCarried k n rs)) (paired before (float_lines k l.double) (left_lines k column) areas (this ++ others)) all_order

  last : Rises Known (λ n. IsCarried k n rs) (this ++ others)
  last = rises-back Known (λ n. IsCarried k n rs) ahead_of (this ++ others) grouped

  above_all : AllByRecursion (IsAbove ahead_of) (this ++ others)
  above_all = across-unexcused (λ n. IsCarried k n rs) ahead_of (this ++ others) (rises-across Known (λ n. IsCarried k n rs) ahead_of (this ++ others) grouped) (unseen-unexcused k rs (this ++ others) this_unseen)

  above_this : AllByRecursion (IsAbove this) others
  above_this = across-unexcused (λ n. IsCarried k n rs) this others (rises-across Known (λ n. IsCarried k n rs) this others last) (unseen-unexcused k rs others (all-back (IsUnseen k rs) this others this_unseen))

  above_tops : (n : ℕ) → IsAbove ahead_of n → IsAbove (ahead_lines k before l column) n × IsAbove (float_lines k l.top) n
  above_tops n a =
      let d = all-back (λ x. x < n) before (float_lines k l.double ++ (left_lines k column ++ areas)) a in
      let e = all-back (λ x. x < n) (float_lines k l.double) (left_lines k column ++ areas) d in
      let r = all-back (λ x. x < n) (left_lines k column) areas e in
      let t = all-front (λ x. x < n) (float_lines k l.top) (float_lines k l.bottom) (all-front (λ x. x < n) (float_lines k l.top ++ float_lines k l.bottom) (float_lines k (waits l)) (subst (AllByRecursion (λ x. x < n)) (areas-lines k l.top l.bottom (waits l)) r)) in (
        all-join (λ x. x < n) before (float_lines k l.double ++ (left_lines k column ++ float_lines k l.top)) (all-front (λ x. x < n) before (float_lines k l.double ++ (left_lines k column ++ areas)) a)
            (all-join (λ x. x < n) (float_lines k l.double) (left_lines k column ++ float_lines k l.top) (all-front (λ x. x < n) (float_lines k l.double) (left_lines k column ++ areas) d)
            (all-join (λ x. x < n) (left_lines k column) (float_lines k l.top) (all-front (λ x. x < n) (left_lines k column) areas e) t)),
        t,
      )

  module _ (p : Params) (height : ℤ) (seen : FloatLists) (none_deferred : HasNone f l.deferred) (none_bottom : HasNone f l.bottom) where
    abbrev placing : Recorded
    placing = placed p f places.Here seen height

    abbrev with_this : List Recorded
    with_this = rs ++ placing ∷ []

    same_columns : record_lines k with_this ≡ record_lines k rs
    same_columns = records-more k rs placing ∙ append-nil (record_lines k rs)

    here_lines : float_lines k (l.here ++ f ∷ []) ≡ float_lines k l.here ++ this
    here_lines = floats-append k l.here (f ∷ []) ∙ ap (λ y. float_lines k l.here ++ y) (append-nil this)

    rises_this : (t : Bool) → (is_of k f.class f.line) ≡ t → (t ≡ true → IsAbove text f.line) → AllByRecursion Known (line_if t f.line ++ others) → Rises Known (λ n. ⊥) (text ++ line_if t f.line)
    rises_this true e b n = rises-join Known (λ n. ⊥) text (f.line ∷ []) h.rising (n.0, tt, tt) (above-across (λ n. ⊥) text (f.line ∷ []) (b refl, tt))
    rises_this false e b n = subst (Rises Known (λ n. ⊥)) (sym (append-nil text)) h.rising

    held_text : AllByRecursion (IsInText k with_this (float_lines k l.top) (float_lines k l.here ++ this) (ahead_lines k before l column)) text
    held_text = all-map (IsInText k rs (float_lines k l.top) (float_lines k l.here) (ahead_lines k before l column)) (IsInText k with_this (float_lines k l.top) (float_lines k l.here ++ this) (ahead_lines k before l column)) (λ n x. record {
      placed = placed-more k n rs (placing ∷ []) x.placed;
      missing = subst (IsMissing n) (sym same_columns) x.missing;
      apart = x.apart;
      held = still n x.held;
    }) text h.held
      where
        still : (n : ℕ) → IsLate k n rs ⊎ (IsAmong n (float_lines k l.here) × IsAbove (ahead_lines k before l column) n) → IsLate k n with_this ⊎ (IsAmong n (float_lines k l.here ++ this) × IsAbove (ahead_lines k before l column) n)
        still n (inl late) = inl (late-more k n rs (placing ∷ []) late)
        still n (inr fresh) = inr (among-front n (float_lines k l.here) this fresh.0, fresh.1)

    held_this : (t : Bool) → (is_of k f.class f.line) ≡ t → AllByRecursion (IsAbove ahead_of) (line_if t f.line ++ others) → AllByRecursion (IsUnseen k rs) (line_if t f.line ++ others)
        → AllByRecursion (IsInText k with_this (float_lines k l.top) (float_lines k l.here ++ line_if t f.line) (ahead_lines k before l column)) (line_if t f.line)
    held_this true e a u =
        let b = above_tops f.line a.0 in (
          record {
            placed = placed-last k f.line rs placing (e, refl);
            missing = subst (IsMissing f.line) (sym same_columns) u.0.missing;
            apart = above-missing (float_lines k l.top) f.line b.1;
            held = inr (among-back f.line (float_lines k l.here) (f.line ∷ []) (inl refl), b.0);
          },
          tt,
        )
    held_this false e a u = tt

    behind_this : (fs : List Float) → HasNone f fs → AllByRecursion (IsBehind k text) fs → (t : Bool) → (is_of k f.class f.line) ≡ t → AllByRecursion (IsBehind k (text ++ line_if t f.line)) fs
    behind_this fs none b true e = none-behind k (text ++ f.line ∷ []) fs (ap (λ c. has_class c fs) (sym (kind-class k f.class f.line e)) ∙ none)
    behind_this fs none b false e = subst (λ y. AllByRecursion (IsBehind k y) fs) (sym (append-nil text)) b

    unseen_others : (ns : List ℕ) → AllByRecursion (IsUnseen k rs) ns → AllByRecursion (IsAbove this) ns → AllByRecursion (IsUnseen k with_this) ns
    unseen_others [] u a = tt
    unseen_others (n ∷ ns) u a = (record { placed = λ w. either (placed-before k n rs placing w); missing = subst (IsMissing n) (sym same_columns) u.0.missing }, unseen_others ns u.1 a.1)
      where
        either : WasPlaced k n rs ⊎ IsPlacing k n placing → ⊥
        either (inl w) = u.0.placed w
        either (inr w) = let l : f.line < n = alone-of (λ x. x < n) (is_of k f.class f.line) f.line a.0 w.0 in let never : ⊥ = omega (arith, l, w.1) in never

    second_this : (d : Side) → PartedBy d k l → AllByRecursion (IsBehind k (text ++ this)) l.second
    second_this alike x = lines-behind k (text ++ this) l.second (ap (float_lines k) x)
    second_this narrow x = lines-behind k (text ++ this) l.second x.1
    second_this wider x = subst (λ y. AllByRecursion (IsBehind k y) l.second) (sym (ap (λ y. text ++ y) (this_none x.0) ∙ append-nil text)) behind_second

    pub to_here : Order k Known (text ++ this) takes before with_this (record l { current = es; here = l.here ++ f ∷ [] }) two first column
    to_here = record {
      order = rises-more Known (λ n. IsCarried k n rs) (λ n. IsCarried k n with_this) (λ n x. carried-more k n rs (placing ∷ []) x) (before ++ (float_lines k l.double ++ (left_lines k column ++ (areas ++ others))))
          (subst (Rises Known (λ n. IsCarried k n rs)) (sym (paired before (float_lines k l.double) (left_lines k column) areas others)) (rises-without Known (λ n. IsCarried k n rs) ahead_of this others grouped));
      rising = rises_this (is_of k f.class f.line) refl this_behind (rises-known Known (λ n. IsCarried k n rs) (this ++ others) last);
      held = subst (λ y. AllByRecursion (IsInText k with_this (float_lines k l.top) y (ahead_lines k before l column)) (text ++ this)) (sym here_lines)
          (all-join (IsInText k with_this (float_lines k l.top) (float_lines k l.here ++ this) (ahead_lines k before l column)) text this held_text (held_this (is_of k f.class f.line) refl above_all this_unseen));
      bottom = behind_this l.bottom none_bottom h.bottom (is_of k f.class f.line) refl;
      deferred = all-join (IsBehind k (text ++ this)) l.deferred l.second (behind_this l.deferred none_deferred behind_deferred (is_of k f.class f.line) refl) (second_this k.side h.parted);
      parted = taken_parted (record l { current = es; here = l.here ++ f ∷ [] }) refl refl refl (λ a b. b) k.side h.parted;
      later = all-map (λ n. IsAbove text n × IsAbove this n) (IsAbove (text ++ this)) (λ n a. all-join (λ x. x < n) text this a.0 a.1) others (all-both (IsAbove text) (IsAbove this) others (all-back (IsAbove text) this others this_later) above_this);
      unseen = unseen_others others (all-back (IsUnseen k rs) this others this_unseen) above_this;
      known = subst (AllByRecursion Known) (sym same_columns) h.known;
      columns = h.columns;
      single = h.single;
    }
