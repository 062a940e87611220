-- A text column takes its floats with it, and leaves the others behind; the class stays in order.
use Rattle.std.proofs.Common.{◌≡◌, refl, sym, ◌∙◌, ap, subst, ℕ, ◌<◌, ◌≢◌, ◌⊎◌, inl, inr, Bool, List, [], ◌∷◌, ◌++◌, Option, append_assoc, arith}
use Rattle.std.specs.List.{AllByRecursion}
use Rattle.tb_break.proofs.EachLemmas.{all-front, all-back, all-join, all-map, all-of, all-both}
use Rattle.tb_float.specs.Lists.{FloatLists, floats_among}
use Rattle.tb_column.specs.Column.{PlainColumn}
use Rattle.tb_output.specs.State.{Recorded, output}
use Rattle.tb_output.specs.Clear
use Rattle.tb_laws.proofs.ClassesRise.RisingLists.{all-among, IsAmong, among-front, among-back, IsMissing, IsAbove, above-missing, MayPrecede, Across, Rises, rises-front, rises-back, rises-across, rises-known, rises-insert, rises-without, rises-more, across-back, across-unexcused, across-by, above-across}
use Rattle.tb_laws.proofs.ClassesRise.ClassLines.{FloatKind, Side, alike, narrow, wider, waits, PartedBy, class_lines, float_lines, left_lines}
use Rattle.tb_laws.proofs.ClassesRise.RecordLines.{record_lines, records-more, IsPlacing, WasPlaced, placed-before, IsLate, placed-late, late-placed, IsCarried, carried-more, carried-now, carried-placed}
use Rattle.tb_laws.proofs.StepLaws.QuietLemmas.{AllAreas, SameApart}
use Rattle.tb_laws.proofs.ClassesRise.SpreadLemmas.{deferred-none, later_lines, IsBehind, IsLeft, IsUnseen, spread_lines, Spread, behind-missing, unseen-column, paired}
use Rattle.tb_laws.proofs.ClassesRise.ClassOrder.{with-second, IsInText, AreInText, ahead_lines, order_lines, Order, areas-lines, behind-lines}

-- ---- parts of a text

module _ (P : ℕ → Type 0) (xs ys zs : List ℕ) (h : AllByRecursion P (xs ++ (ys ++ zs))) where
  -- without the middle part
  outer : AllByRecursion P (xs ++ zs)
  outer = all-join P xs zs (all-front P xs (ys ++ zs) h) (all-back P ys zs (all-back P xs (ys ++ zs) h))

  middle : AllByRecursion P ys
  middle = all-front P ys zs (all-back P xs (ys ++ zs) h)

outer-missing : (Known : ℕ → Type 0) (xs ys zs : List ℕ) → Rises Known (λ n. ⊥) (xs ++ (ys ++ zs)) → AllByRecursion (λ n. IsMissing n ys) (xs ++ zs)
outer-missing Known xs ys zs h = all-join (λ n. IsMissing n ys) xs zs (firsts xs (rises-across Known (λ n. ⊥) xs (ys ++ zs) h)) lasts
  where
    differs : (x y : ℕ) → MayPrecede (λ n. ⊥) x y → y ≢ x
    differs x y (inl l) = λ e. let never : ⊥ = omega (arith, l, e) in never
    differs x y (inr n) = absurd n

    firsts : (xs : List ℕ) → Across (λ n. ⊥) xs (ys ++ zs) → AllByRecursion (λ n. IsMissing n ys) xs
    firsts [] a = tt
    firsts (x ∷ xs) a = (all-map (MayPrecede (λ n. ⊥) x) (λ y. y ≢ x) (λ y m. differs x y m) ys (all-front (MayPrecede (λ n. ⊥) x) ys zs a.0), firsts xs a.1)

    lasts : AllByRecursion (λ n. IsMissing n ys) zs
    lasts =
        all-map (IsAbove ys) (λ n. IsMissing n ys) (λ n a. above-missing ys n a) zs
        (across-unexcused (λ n. ⊥) ys zs (rises-across Known (λ n. ⊥) ys zs (rises-back Known (λ n. ⊥) xs (ys ++ zs) h)) (all-of (λ n. ⊥ → ⊥) (λ n x. x) zs))

-- what is parted when a text column takes its floats
text-parted : (k : FloatKind) (l : FloatLists) (d : Side) → PartedBy d k l → PartedBy d k (record l { here = []; top = []; bottom = [] })
text-parted k l alike x = x
text-parted k l narrow x = x
text-parted k l wider x = (x.0, deferred-none k l x.1)

-- a text column is in hand and recorded; the text that it leaves is left behind
module _ (k : FloatKind) (Known : ℕ → Type 0) (takes before : List ℕ) (rs : List Recorded) (l : FloatLists) (two first : Bool) (column : Option PlainColumn) (held body rest : List ℕ) (c : PlainColumn) (lines : class_lines k c.nodes ≡ float_lines k l.top ++ (body ++ float_lines k l.bottom))
    (h : Order k Known (held ++ (body ++ rest)) takes before rs l two first column) where
  abbrev now : List Recorded
  now = rs ++ output c ∷ []

  abbrev Excused : ℕ → Type 0
  Excused n = IsCarried k n now

  abbrev ahead : List ℕ
  ahead = ahead_lines k before l column

  abbrev bottoms : List ℕ
  bottoms = float_lines k l.bottom

  abbrev waiting : List ℕ
  waiting = float_lines k (waits l) ++ later_lines k takes l

  regrouped : order_lines k takes before l column ≡ ahead ++ (bottoms ++ waiting)
  regrouped =
      ap (λ y. before ++ (float_lines k l.double ++ (left_lines k column ++ (y ++ later_lines k takes l)))) (areas-lines k l.top l.bottom (waits l))
      ∙ ap (λ y. before ++ (float_lines k l.double ++ (left_lines k column ++ y))) (append_assoc (float_lines k l.top ++ bottoms) (float_lines k (waits l)) (later_lines k takes l) ∙ append_assoc (float_lines k l.top) bottoms waiting)
      ∙ paired before (float_lines k l.double) (left_lines k column) (float_lines k l.top) (bottoms ++ waiting)

  around : Rises Known Excused (ahead ++ (bottoms ++ waiting))
  around = subst (Rises Known Excused) regrouped (rises-more Known (λ n. IsCarried k n rs) Excused (λ n x. carried-more k n rs (output c ∷ []) x) (order_lines k takes before l column) h.order)

  body_rises : Rises Known Excused body
  body_rises = rises-more Known (λ n. ⊥) Excused (λ n x. absurd x) body (rises-front Known (λ n. ⊥) body rest (rises-back Known (λ n. ⊥) held (body ++ rest) h.rising))

  excuse : (n : ℕ) → IsInText k rs (float_lines k l.top) (float_lines k l.here) ahead n × IsAmong n body → Excused n ⊎ IsAbove ahead n
  excuse n x = by_held x.0.held
    where
      by_held : IsLate k n rs ⊎ (IsAmong n (float_lines k l.here) × IsAbove ahead n) → Excused n ⊎ IsAbove ahead n
      by_held (inl late) = inl (carried-now k n rs c late x.0.missing (subst (IsAmong n) (sym lines) (among-back n (float_lines k l.top) (body ++ bottoms) (among-front n body bottoms x.1))))
      by_held (inr fresh) = inr fresh.1

  before_body : Across Excused ahead body
  before_body = across-by Excused ahead body (all-map (λ n. IsInText k rs (float_lines k l.top) (float_lines k l.here) ahead n × IsAmong n body) (λ n. Excused n ⊎ IsAbove ahead n) excuse body (all-both (IsInText k rs (float_lines k l.top) (float_lines k l.here) ahead) (λ n. IsAmong n body) body (middle (IsInText k rs (float_lines k l.top) (float_lines k l.here) ahead) held body rest h.held) (all-among body)))

  above_text : AllByRecursion (IsAbove (held ++ (body ++ rest))) (bottoms ++ waiting)
  above_text =
      all-join (IsAbove (held ++ (body ++ rest))) bottoms waiting (behind-lines k (held ++ (body ++ rest)) l.bottom h.bottom)
      (all-join (IsAbove (held ++ (body ++ rest))) (float_lines k (waits l)) (later_lines k takes l) (behind-lines k (held ++ (body ++ rest)) (waits l) h.deferred) h.later)

  after_body : Across Excused body (bottoms ++ waiting)
  after_body = above-across Excused body (bottoms ++ waiting) (all-map (IsAbove (held ++ (body ++ rest))) (IsAbove body) (λ y a. middle (λ x. x < y) held body rest a) (bottoms ++ waiting) above_text)

  inserted : Rises Known Excused (spread_lines k takes before (class_lines k c.nodes) (record l { here = []; top = []; bottom = [] }) column)
  inserted =
      subst (Rises Known Excused)
      (sym (paired before (float_lines k l.double) (left_lines k column) (float_lines k l.top) (body ++ (bottoms ++ waiting)))
      ∙ ap (λ y. before ++ (float_lines k l.double ++ (left_lines k column ++ y))) (ap (λ y. float_lines k l.top ++ y) (sym (append_assoc body bottoms waiting)) ∙ sym (append_assoc (float_lines k l.top) (body ++ bottoms) waiting) ∙ ap (λ y. y ++ waiting) (sym lines)))
      (rises-insert Known Excused ahead body (bottoms ++ waiting) around body_rises before_body after_body)

  in_hand : Rises Known Excused (class_lines k c.nodes ++ waiting)
  in_hand =
      rises-back Known Excused (left_lines k column) (class_lines k c.nodes ++ waiting)
      (rises-back Known Excused (float_lines k l.double) (left_lines k column ++ (class_lines k c.nodes ++ waiting))
      (rises-back Known Excused before (float_lines k l.double ++ (left_lines k column ++ (class_lines k c.nodes ++ waiting))) inserted))

  unexcused : AllByRecursion (λ n. Excused n → ⊥) (later_lines k takes l)
  unexcused = all-map (IsUnseen k rs) (λ n. Excused n → ⊥) (λ n u x. either n u (placed-before k n rs (output c) (carried-placed k n now x))) (later_lines k takes l) h.unseen
    where
      either : (n : ℕ) → IsUnseen k rs n → WasPlaced k n rs ⊎ IsPlacing k n (output c) → ⊥
      either n u (inl w) = u.placed w
      either n u (inr w) = w

  above_hand : AllByRecursion (IsAbove (class_lines k c.nodes)) (later_lines k takes l)
  above_hand =
      across-unexcused Excused (class_lines k c.nodes) (later_lines k takes l)
      (across-back Excused (class_lines k c.nodes) (float_lines k (waits l)) (later_lines k takes l) (rises-across Known Excused (class_lines k c.nodes) waiting in_hand)) unexcused

  left_missing : AllByRecursion (λ n. IsMissing n (class_lines k c.nodes)) (held ++ rest)
  left_missing =
      subst (λ ys. AllByRecursion (λ n. IsMissing n ys) (held ++ rest)) (sym lines)
      (all-map (λ n. IsMissing n (float_lines k l.top) × (IsMissing n body × IsMissing n bottoms)) (λ n. IsMissing n (float_lines k l.top ++ (body ++ bottoms)))
      (λ n x. all-join (λ y. y ≢ n) (float_lines k l.top) (body ++ bottoms) x.0 (all-join (λ y. y ≢ n) body bottoms x.1.0 x.1.1)) (held ++ rest)
      (all-both (λ n. IsMissing n (float_lines k l.top)) (λ n. IsMissing n body × IsMissing n bottoms) (held ++ rest)
      (all-map (IsInText k rs (float_lines k l.top) (float_lines k l.here) ahead) (λ n. IsMissing n (float_lines k l.top)) (λ n x. x.apart) (held ++ rest) (outer (IsInText k rs (float_lines k l.top) (float_lines k l.here) ahead) held body rest h.held))
      (all-both (λ n. IsMissing n body) (λ n. IsMissing n bottoms) (held ++ rest) (outer-missing Known held body rest h.rising)
      (outer (λ n. IsMissing n bottoms) held body rest (behind-missing k (held ++ (body ++ rest)) l.bottom h.bottom)))))

  lefts_of : (ns : List ℕ) → AllByRecursion (IsInText k rs (float_lines k l.top) (float_lines k l.here) ahead) ns → AllByRecursion (λ n. IsMissing n (class_lines k c.nodes)) ns → AllByRecursion (IsLeft k now) ns
  lefts_of [] x m = tt
  lefts_of (n ∷ ns) x m = (
    record {
      late = placed-late k n rs c x.0.placed;
      missing = subst (IsMissing n) (sym (records-more k rs (output c))) (all-join (λ y. y ≢ n) (record_lines k rs) (class_lines k c.nodes) x.0.missing m.0);
    },
    lefts_of ns x.1 m.1,
  )

  pub text_hand : Spread k Known (held ++ rest) takes before now (class_lines k c.nodes) (record l { here = []; top = []; bottom = [] }) two first column
  text_hand = record {
    order = inserted;
    left = lefts_of (held ++ rest) (outer (IsInText k rs (float_lines k l.top) (float_lines k l.here) ahead) held body rest h.held) left_missing;
    behind = all-map (IsBehind k (held ++ (body ++ rest))) (IsBehind k (held ++ rest)) (λ f x e. outer (λ n. n < f.line) held body rest (x e)) (waits l) h.deferred;
    parted = text-parted k l k.side h.parted;
    later = all-map (IsAbove (held ++ (body ++ rest))) (IsAbove (held ++ rest)) (λ y a. outer (λ n. n < y) held body rest a) (later_lines k takes l) h.later;
    unseen = unseen-column k rs c (later_lines k takes l) h.unseen above_hand;
    known = subst (AllByRecursion Known) (sym (records-more k rs (output c))) (all-join Known (record_lines k rs) (class_lines k c.nodes) h.known (rises-known Known Excused (class_lines k c.nodes) (rises-front Known Excused (class_lines k c.nodes) waiting in_hand)));
    columns = h.columns;
    single = h.single;
    top = refl;
    bottom = refl;
  }

-- the rest of the text rises
pub outer-rises : (Known : ℕ → Type 0) (held body rest : List ℕ) → Rises Known (λ n. ⊥) (held ++ (body ++ rest)) → Rises Known (λ n. ⊥) (held ++ rest)
outer-rises Known held body rest h = rises-without Known (λ n. ⊥) held body rest h

-- ---- no column is in hand

module _ (k : FloatKind) (Known : ℕ → Type 0) (text takes before : List ℕ) (rs : List Recorded) (l : FloatLists) (two first : Bool) (column : Option PlainColumn) where
  no-areas : l.top ≡ [] → l.bottom ≡ [] → float_lines k (l.top ++ l.bottom ++ waits l) ≡ float_lines k (waits l)
  no-areas t b = ap (λ x. float_lines k (x ++ l.bottom ++ waits l)) t ∙ ap (λ x. float_lines k (x ++ waits l)) b

  -- the deferred floats may have gone to the areas
  pub settled : (m : FloatLists) → Spread k Known text takes before rs [] l two first column → Rises Known (λ n. ⊥) text → float_lines k (m.top ++ m.bottom ++ m.deferred) ≡ float_lines k (l.top ++ l.bottom ++ l.deferred)
      → SameApart l m → AllAreas (IsBehind k text) m → Order k Known text takes before rs m two first column
  settled m h rises e same areas = record {
    order = subst (Rises Known (λ n. IsCarried k n rs))
        (ap (λ y. before ++ (float_lines k l.double ++ (left_lines k column ++ (y ++ later_lines k takes l)))) (sym (no-areas h.top h.bottom) ∙ sym all_lines)
        ∙ ap (λ d. before ++ (float_lines k d ++ (left_lines k column ++ (float_lines k (m.top ++ m.bottom ++ waits m) ++ later_lines k takes l)))) (sym same.double)
        ∙ ap (λ c. before ++ (float_lines k m.double ++ (left_lines k column ++ (float_lines k (m.top ++ m.bottom ++ waits m) ++ (float_lines k (floats_among c) ++ takes))))) (sym same.current)) h.order;
    rising = rises;
    held = in_text text h.left (behind-missing k text m.top areas.top);
    bottom = areas.bottom;
    deferred = all-join (IsBehind k text) m.deferred m.second areas.deferred (subst (AllByRecursion (IsBehind k text)) (sym same.second) (all-back (IsBehind k text) l.deferred l.second h.behind));
    parted = settled_parted k.side h.parted;
    later = subst (λ c. AllByRecursion (IsAbove text) (float_lines k (floats_among c) ++ takes)) (sym same.current) h.later;
    unseen = subst (λ c. AllByRecursion (IsUnseen k rs) (float_lines k (floats_among c) ++ takes)) (sym same.current) h.unseen;
    known = h.known;
    columns = h.columns;
    single = λ t. same.double ∙ h.single t;
  }
    where
      all_lines : float_lines k (m.top ++ m.bottom ++ waits m) ≡ float_lines k (l.top ++ l.bottom ++ waits l)
      all_lines = with-second k m ∙ (λ i. e i ++ float_lines k (same.second i)) ∙ sym (with-second k l)

      settled_parted : (d : Side) → PartedBy d k l → PartedBy d k m
      settled_parted alike x = same.second ∙ x
      settled_parted narrow x = (ap (float_lines k) same.double ∙ x.0, ap (float_lines k) same.second ∙ x.1)
      settled_parted wider x = (ap (λ c. float_lines k (floats_among c)) same.current ∙ x.0, e ∙ x.1)

      in_text : (ns : List ℕ) → AllByRecursion (IsLeft k rs) ns → AllByRecursion (λ n. IsMissing n (float_lines k m.top)) ns → AreInText k rs before m column ns
      in_text [] x a = tt
      in_text (n ∷ ns) x a = (record { placed = late-placed k n rs x.0.late; missing = x.0.missing; apart = a.0; held = inl x.0.late }, in_text ns x.1 a.1)

-- without floats in the text, the areas join the deferred floats
pub cleared : (k : FloatKind) (Known : ℕ → Type 0) (takes before : List ℕ) (rs : List Recorded) (l : FloatLists) (two first : Bool) (column : Option PlainColumn) → Order k Known [] takes before rs l two first column → Spread k Known [] takes before rs [] (Clear.deferred_again l) two first column
cleared k Known takes before rs l two first column h = record {
  order = subst (λ fs. Rises Known (λ n. IsCarried k n rs) (before ++ (float_lines k l.double ++ (left_lines k column ++ (float_lines k fs ++ later_lines k takes l))))) (sym (append_assoc (l.top ++ l.bottom) l.deferred l.second)) h.order;
  left = tt;
  behind = all-of (IsBehind k []) (λ f e. tt) ((l.top ++ l.bottom ++ l.deferred) ++ l.second);
  parted = cleared-parted k.side h.parted;
  later = h.later;
  unseen = h.unseen;
  known = h.known;
  columns = h.columns;
  single = h.single;
  top = refl;
  bottom = refl;
}
  where
    cleared-parted : (d : Side) → PartedBy d k l → PartedBy d k (Clear.deferred_again l)
    cleared-parted alike x = x
    cleared-parted d x = x
