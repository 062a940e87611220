-- The best place is the last of least cost, by places.
use Rattle.std.proofs.Common.{◌≡◌, refl, sym, subst, ◌∙◌, ap, ◌⊎◌, inl, inr, ℕ, suc, ◌<◌, ◌≤◌, ℤ, pos, Bool, true, false, List, [], ◌∷◌, ◌++◌, length, take, drop, filter, cond, Option, None, Some, append_assoc, length-append, arith}
use Rattle.std.specs.Prelude.{int_le, int_lt, nat_le, ◌+ℤ◌, ◌≤ℤ◌, ◌<ℤ◌, MatchOption, if◌then◌else◌}
use Rattle.std.specs.List.{AllByRecursion}
use Rattle.std.proofs.lemmas.Int.{ints}
use Rattle.std.proofs.lemmas.Bool.{cases_eq, true≢false}
use Rattle.std.proofs.lemmas.List.Elements.{All-from_recursion}
use Rattle.tb_break.proofs.EachLemmas.{all-front, all-map}
use Rattle.tb_scaled.specs.Scaled.{min_ℤ, awful_bad, eject_penalty}
use Rattle.tb_node.specs.Shape.{Shape, box, glue, kern, penalty, other}
use Rattle.tb_node.specs.Sums.{sums_of}
use Rattle.tb_break.specs.declared.Best.{Best}
use Rattle.tb_break.specs.Places.{last_or, ends_lasting, begins_with_glue, split_penalty, legal_at}
use Rattle.tb_break.specs.Cost.{page_badness}
use Rattle.tb_break.specs.Best.{Breakpoint, best_or, least_cost, up_to_stop, is_stop}
use Rattle.tb_break.specs.Split.{breakpoint_at, split_places, with_place, end_place, found_at, split_of}
use Rattle.tb_break.specs.Scan.{Offered, best_of, least_so_far}
use Rattle.tb_break.specs.LastLeast.{IsLastLeast, IsLastOfLeast}
use Rattle.tb_break.proofs.ScanLemmas.{cost_at_most}
use Rattle.tb_break.proofs.LegalLemmas.{le_true}
use Rattle.tb_break.proofs.FindLemmas.{forced}

-- ---- the last of least cost in any list of places

-- the places of at most this cost
abbrev at_most : ℤ → List Breakpoint → List Breakpoint
at_most c bs = filter (λ b. int_le b.cost c) bs

-- x is the last place of at most this cost
pub record LastIn (c : ℤ) (bs : List Breakpoint) (x : Breakpoint) : Type 0 where
  pub before : List Breakpoint
  pub after : List Breakpoint
  pub whole : bs ≡ before ++ x ∷ after
  pub low : int_le x.cost c ≡ true
  pub above : AllByRecursion (λ b. int_le b.cost c ≡ false) after

abbrev NoneOrLast : ℤ → Breakpoint → List Breakpoint → Breakpoint → Type 0
NoneOrLast c d bs x = (AllByRecursion (λ b. int_le b.cost c ≡ false) bs × (x ≡ d)) ⊎ LastIn c bs x

further : (c : ℤ) (b x : Breakpoint) (bs : List Breakpoint) → LastIn c bs x → LastIn c (b ∷ bs) x
further c b x bs l = record { before = b ∷ l.before; after = l.after; whole = ap (λ xs. b ∷ xs) l.whole; low = l.low; above = l.above }

last-tested : (t : Bool) (c : ℤ) (d b : Breakpoint) (bs : List Breakpoint) → int_le b.cost c ≡ t
    → ((e : Breakpoint) → NoneOrLast c e bs (last_or e (at_most c bs))) → NoneOrLast c d (b ∷ bs) (last_or d (cond t (b ∷ at_most c bs) (at_most c bs)))
last-tested true c d b bs e later = elim (later b) [
  | inl none ↦ inr (record { before = []; after = bs; whole = ap (λ y. y ∷ bs) (sym none.1); low = ap (λ y. int_le y.cost c) none.1 ∙ e; above = none.0 })
  | inr l ↦ inr (further c b (last_or b (at_most c bs)) bs l)
]
last-tested false c d b bs e later = elim (later d) [
  | inl none ↦ inl ((e, none.0), none.1)
  | inr l ↦ inr (further c b (last_or d (at_most c bs)) bs l)
]

last-at_most : (c : ℤ) (d : Breakpoint) (bs : List Breakpoint) → NoneOrLast c d bs (last_or d (at_most c bs))
last-at_most c d [] = inl (tt, refl)
last-at_most c d (b ∷ bs) = last-tested (int_le b.cost c) c d b bs refl (λ e. last-at_most c e bs)

weaker : (m n : ℤ) (bs : List Breakpoint) → n ≤ℤ m → AllByRecursion (λ b. m ≤ℤ b.cost) bs → AllByRecursion (λ b. n ≤ℤ b.cost) bs
weaker m n [] le h = tt
weaker m n (b ∷ bs) le h = (omega (arith, ints, le, h.0), weaker m n bs le h.1)

-- no place costs less than the least
least-le : (bs : List Breakpoint) → AllByRecursion (λ b. least_cost bs ≤ℤ b.cost) bs
least-le [] = tt
least-le (b ∷ bs) = (grind (arith, ints), weaker (least_cost bs) (min_ℤ b.cost (least_cost bs)) bs (grind (arith, ints)) (least-le bs))

above_least : (m : ℤ) (bs : List Breakpoint) → m <ℤ awful_bad → AllByRecursion (λ b. int_le b.cost m ≡ false) bs → m <ℤ least_cost bs
above_least m [] lt h = lt
above_least m (b ∷ bs) lt h = let later : m <ℤ least_cost bs = above_least m bs lt h.1 in let here : int_le b.cost m ≡ false = h.0 in grind (arith, ints)

-- some place has the least cost, if none costs more than an overfull one
attained : (b : Breakpoint) (bs : List Breakpoint) → b.cost ≤ℤ awful_bad → AllByRecursion (λ x. int_le x.cost (least_cost (b ∷ bs)) ≡ false) (b ∷ bs) → ⊥
attained b bs le h = below (least_cost (b ∷ bs)) b.cost le h.0 (λ lt. above_least (least_cost (b ∷ bs)) (b ∷ bs) lt h)
  where
    below : (m c : ℤ) → c ≤ℤ awful_bad → int_le c m ≡ false → (m <ℤ awful_bad → m <ℤ m) → ⊥
    below m c le e f = let lt : m <ℤ awful_bad = grind (arith, ints) in let none : m <ℤ m = f lt in omega (arith, ints)

-- the best of places that cost at most what an overfull one does
pub best_or-last : (d b : Breakpoint) (bs : List Breakpoint) → b.cost ≤ℤ awful_bad → LastIn (least_cost (b ∷ bs)) (b ∷ bs) (best_or d (b ∷ bs))
best_or-last d b bs le = elim (last-at_most (least_cost (b ∷ bs)) d (b ∷ bs)) [
  | inl none ↦ absurd (attained b bs le none.0)
  | inr l ↦ l
]

offered-last : (b : Breakpoint) (bs : List Breakpoint) → (best_or b (b ∷ bs)).cost ≡ least_cost (b ∷ bs) → LastIn (least_cost (b ∷ bs)) (b ∷ bs) (best_or b (b ∷ bs))
offered-last b bs e = elim (last-at_most (least_cost (b ∷ bs)) b (b ∷ bs)) [
  | inl none ↦ absurd (itself b.cost (least_cost (b ∷ bs)) (ap (λ (x : Breakpoint). x.cost) (sym none.1) ∙ e) none.0.0)
  | inr l ↦ l
]
  where
    itself : (c m : ℤ) → c ≡ m → int_le c m ≡ false → ⊥
    itself c m e f = grind (arith, ints)

at_least : (x : Breakpoint) (m : ℤ) → int_le x.cost m ≡ true → (b : Breakpoint) → m ≤ℤ b.cost → x.cost ≤ℤ b.cost
at_least x m low b le = grind (arith, ints)

dearer : (x : Breakpoint) (m : ℤ) → int_le x.cost m ≡ true → (b : Breakpoint) → int_le b.cost m ≡ false → x.cost <ℤ b.cost
dearer x m low b above = grind (arith, ints)

-- what was kept of the places that were offered is the last of least cost
pub offered-last_of_least : (o : Option Best) (bs : List Breakpoint) (b : Best) → Offered o bs → o ≡ Some b → IsLastOfLeast bs b
offered-last_of_least o [] b h e = absurd (none (sym h.best ∙ e))
  where
    none : None ≡ Some b → ⊥
    none e = cc
offered-last_of_least o (c ∷ cs) b h e =
    let x = best_or c (c ∷ cs) in
    let kept : Some b ≡ Some (best_of x) = sym e ∙ h.best in
    let l = offered-last c cs (ap least_so_far (sym h.best) ∙ h.least) in
    let le = all-front (λ y. least_cost (c ∷ cs) ≤ℤ y.cost) l.before (x ∷ l.after) (subst (AllByRecursion (λ y. least_cost (c ∷ cs) ≤ℤ y.cost)) l.whole (least-le (c ∷ cs))) in
    record {
      before = l.before;
      place = x;
      after = l.after;
      offered = l.whole;
      kept = cc;
      least = All-from_recursion (λ y. x.cost ≤ℤ y.cost) l.before (all-map _ _ (at_least x (least_cost (c ∷ cs)) l.low) l.before le);
      last = All-from_recursion (λ y. x.cost <ℤ y.cost) l.after (all-map _ _ (dearer x (least_cost (c ∷ cs)) l.low) l.after l.above);
    }

pub none-offered : (o : Option Best) (bs : List Breakpoint) → Offered o bs → o ≡ None → bs ≡ []
none-offered o [] h e = refl
none-offered o (c ∷ cs) h e = absurd (some (sym e ∙ h.best))
  where
    some : None ≡ Some (best_of (best_or c (c ∷ cs))) → ⊥
    some e = cc

pub last_of_best : (o : Option Best) (bs : List Breakpoint) → Offered o bs → MatchOption o (bs ≡ []) (IsLastOfLeast bs)
last_of_best None bs h = none-offered None bs h refl
last_of_best (Some b) bs h = offered-last_of_least (Some b) bs b h refl

-- ---- the legal places of a split, by their number

abbrev In : Breakpoint → List Breakpoint → Type 0
In x [] = ⊥
In x (y ∷ ys) = (x ≡ y) ⊎ In x ys

in_each : (P : Breakpoint → Type 0) (xs : List Breakpoint) (x : Breakpoint) → AllByRecursion P xs → In x xs → P x
in_each P [] x h i = elim i [ ]
in_each P (y ∷ ys) x h (inl e) = subst P (sym e) h.0
in_each P (y ∷ ys) x h (inr i) = in_each P ys x h.1 i

-- the places rise, from m on
abbrev Rising : ℕ → List Breakpoint → Type 0
Rising m [] = Unit {0}
Rising m (b ∷ bs) = (m ≤ b.place) × Rising (suc b.place) bs

rising-weaker : (m : ℕ) (bs : List Breakpoint) → Rising (suc m) bs → Rising m bs
rising-weaker m [] h = tt
rising-weaker m (b ∷ bs) h = (omega (arith, h.0), h.1)

rising-le : (m : ℕ) (bs : List Breakpoint) (x : Breakpoint) → Rising m bs → In x bs → m ≤ x.place
rising-le m [] x h i = elim i [ ]
rising-le m (b ∷ bs) x h (inl e) = omega (arith, h.0, ap (λ (y : Breakpoint). y.place) e)
rising-le m (b ∷ bs) x h (inr i) = omega (arith, h.0, rising-le (suc b.place) bs x h.1 i)

in_middle : (xs : List Breakpoint) (y : Breakpoint) (ys : List Breakpoint) → In y (xs ++ y ∷ ys)
in_middle [] y ys = inl refl
in_middle (x ∷ xs) y ys = inr (in_middle xs y ys)

-- a place in the list that is further on than another comes after it
after_middle : (m : ℕ) (xs : List Breakpoint) (y : Breakpoint) (ys : List Breakpoint) (x : Breakpoint) → Rising m (xs ++ y ∷ ys) → In x (xs ++ y ∷ ys) → y.place < x.place → In x ys
after_middle m [] y ys x h (inl e) lt = absurd (omega (arith, lt, ap (λ (z : Breakpoint). z.place) e))
after_middle m [] y ys x h (inr i) lt = i
after_middle m (z ∷ zs) y ys x h (inl e) lt = absurd (omega (arith, lt, ap (λ (z : Breakpoint). z.place) e, rising-le (suc z.place) (zs ++ y ∷ ys) y h.1 (in_middle zs y ys)))
after_middle m (z ∷ zs) y ys x h (inr i) lt = after_middle (suc z.place) zs y ys x h.1 i lt

if_some : (t : Bool) (x p : ℤ) → (if t then Some x else None) ≡ Some p → (t ≡ true) × (x ≡ p)
if_some true x p e = (refl, cc)
if_some false x p e = cc

same_some : (p q : ℤ) → Some p ≡ Some q → p ≡ q
same_some p q e = cc

no_some : (p : ℤ) → None ≡ Some p → ⊥
no_some p e = cc

split_penalty-below : (before rest : List Shape) (p : ℤ) → split_penalty before rest ≡ Some p → p <ℤ pos 10000
split_penalty-below before [] p e = subst (λ z. z <ℤ pos 10000) (same_some eject_penalty p e) (grind (arith, ints))
split_penalty-below before (box h d ∷ rest) p e = absurd (no_some p e)
split_penalty-below before (glue g ∷ rest) p e = subst (λ z. z <ℤ pos 10000) (if_some (ends_lasting before) (pos 0) p e).1 (grind (arith, ints))
split_penalty-below before (kern w ∷ rest) p e = subst (λ z. z <ℤ pos 10000) (if_some (begins_with_glue rest) (pos 0) p e).1 (grind (arith, ints))
split_penalty-below before (penalty q ∷ rest) p e =
    let is = if_some (int_lt q (pos 10000)) q p e in
    subst (λ z. z <ℤ pos 10000) is.1 (below q is.0)
  where
    below : (q : ℤ) → int_lt q (pos 10000) ≡ true → q <ℤ pos 10000
    below q e = grind (arith, ints)
split_penalty-below before (other ∷ rest) p e = absurd (no_some p e)

legal_at-below : (ns : List Shape) (k : ℕ) (p : ℤ) → legal_at ns k ≡ Some p → p <ℤ pos 10000
legal_at-below ns k p e = tested (nat_le k (length ns)) e
  where
    tested : (t : Bool) → (if t then split_penalty (take k ns) (drop k ns) else None) ≡ Some p → p <ℤ pos 10000
    tested true e = split_penalty-below (take k ns) (drop k ns) p e
    tested false e = absurd (no_some p e)

taken : (before rest : List Shape) → take (length before) (before ++ rest) ≡ before
taken [] rest = refl
taken (n ∷ before) rest = ap (λ ns. n ∷ ns) (taken before rest)

dropped : (before rest : List Shape) → drop (length before) (before ++ rest) ≡ rest
dropped [] rest = refl
dropped (n ∷ before) rest = dropped before rest

within : (before rest : List Shape) → nat_le (length before) (length (before ++ rest)) ≡ true
within before rest = le_true (length before) (length (before ++ rest)) (omega (arith, length-append before rest))

-- the place at a cut of the list
legal-cut : (ns before rest : List Shape) → before ++ rest ≡ ns → legal_at ns (length before) ≡ split_penalty before rest
legal-cut ns before rest e =
    ap (λ xs. legal_at xs (length before)) (sym e)
    ∙ ap (λ t. if t then split_penalty (take (length before) (before ++ rest)) (drop (length before) (before ++ rest)) else None) (within before rest)
    ∙ (λ i. split_penalty (taken before rest i) (dropped before rest i))

module _ (h d : ℤ) (ns : List Shape) where
  abbrev place : ℕ → ℤ → Breakpoint
  place k p = breakpoint_at k (sums_of d (take k ns)) h p (pos 0)

  place-cut : (before rest : List Shape) → before ++ rest ≡ ns → (p : ℤ) → breakpoint_at (length before) (sums_of d before) h p (pos 0) ≡ place (length before) p
  place-cut before rest e p = ap (λ b. breakpoint_at (length before) (sums_of d b) h p (pos 0)) (sym (taken before rest) ∙ ap (take (length before)) e)

  -- no place from m on and before k is a stop
  abbrev GoesOn : ℕ → ℕ → Type 0
  GoesOn m k = (j : ℕ) (p : ℤ) → m ≤ j → j < k → legal_at ns j ≡ Some p → is_stop (place j p) ≡ false

  record Sound (m : ℕ) (b : Breakpoint) : Type 0 where
    pub from : m ≤ b.place
    pub legal : legal_at ns b.place ≡ Some b.penalty
    pub is : b ≡ place b.place b.penalty
    pub reached : GoesOn m b.place

  -- these are the legal places from m on up to the first stop
  record Covers (m : ℕ) (bs : List Breakpoint) : Type 0 where
    pub sound : (b : Breakpoint) → In b bs → Sound m b
    pub whole : (k : ℕ) (p : ℤ) → m ≤ k → legal_at ns k ≡ Some p → GoesOn m k → In (place k p) bs
    pub rising : Rising m bs

  -- one place earlier
  earlier : (m k : ℕ) → ((p : ℤ) → legal_at ns m ≡ Some p → is_stop (place m p) ≡ false) → GoesOn (suc m) k → GoesOn m k
  earlier m k here later j p le lt leg = elim (cases_eq j m) [
    | inl e ↦ ap (λ i. is_stop (place i p)) e ∙ here p (ap (legal_at ns) (sym e) ∙ leg)
    | inr ne ↦ later j p (omega (arith, ne, le)) lt leg
  ]

  covers-none : (m : ℕ) (bs : List Breakpoint) → legal_at ns m ≡ None → Covers (suc m) bs → Covers m bs
  covers-none m bs none c = record {
    sound = λ b i. let s = c.sound b i in record { from = omega (arith, s.from); legal = s.legal; is = s.is; reached = earlier m b.place (λ p e. absurd (no_some p (sym none ∙ e))) s.reached };
    whole = λ k p le leg go. elim (cases_eq k m) [
      | inl e ↦ absurd (no_some p (sym none ∙ ap (legal_at ns) (sym e) ∙ leg))
      | inr ne ↦ c.whole k p (omega (arith, ne, le)) leg (λ j q a b l. go j q (omega (arith, a)) b l)
    ];
    rising = rising-weaker m bs c.rising;
  }

  first_sound : (m : ℕ) (p : ℤ) → legal_at ns m ≡ Some p → Sound m (place m p)
  first_sound m p leg = record { from = omega arith; legal = leg; is = refl; reached = λ j q le lt l. absurd (omega (arith, le, lt)) }

  covers-stop : (m : ℕ) (p : ℤ) → legal_at ns m ≡ Some p → is_stop (place m p) ≡ true → Covers m (place m p ∷ [])
  covers-stop m p leg stop = record {
    sound = λ b i. elim i [
      | inl e ↦ subst (Sound m) (sym e) (first_sound m p leg)
      | inr none ↦ absurd none
    ];
    whole = λ k q le l go. elim (cases_eq k m) [
      | inl e ↦ inl (λ i. place (e i) (same_some q p (sym l ∙ ap (legal_at ns) e ∙ leg) i))
      | inr ne ↦ absurd (true≢false (sym stop ∙ go m p (omega arith) (omega (arith, ne, le)) leg))
    ];
    rising = (omega arith, tt);
  }

  covers-go : (m : ℕ) (p : ℤ) (bs : List Breakpoint) → legal_at ns m ≡ Some p → is_stop (place m p) ≡ false → Covers (suc m) bs → Covers m (place m p ∷ bs)
  covers-go m p bs leg stop c = record {
    sound = λ b i. elim i [
      | inl e ↦ subst (Sound m) (sym e) (first_sound m p leg)
      | inr later ↦ let s = c.sound b later in record { from = omega (arith, s.from); legal = s.legal; is = s.is; reached = earlier m b.place (λ q e. ap (λ z. is_stop (place m z)) (same_some q p (sym e ∙ leg)) ∙ stop) s.reached }
    ];
    whole = λ k q le l go. elim (cases_eq k m) [
      | inl e ↦ inl (λ i. place (e i) (same_some q p (sym l ∙ ap (legal_at ns) e ∙ leg) i))
      | inr ne ↦ inr (c.whole k q (omega (arith, ne, le)) l (λ j r a b x. go j r (omega (arith, a)) b x))
    ];
    rising = (omega arith, c.rising);
  }

  stop-tested : (m : ℕ) (p : ℤ) (t : Bool) (later : List Breakpoint) → legal_at ns m ≡ Some p → is_stop (place m p) ≡ t → (t ≡ false → Covers (suc m) (up_to_stop later)) → Covers m (cond t (place m p ∷ []) (place m p ∷ up_to_stop later))
  stop-tested m p true later leg stop c = covers-stop m p leg stop
  stop-tested m p false later leg stop c = covers-go m p (up_to_stop later) leg stop (c refl)

  place-tested : (m : ℕ) (o : Option ℤ) (at : ℤ → Breakpoint) (later : List Breakpoint) → legal_at ns m ≡ o → ((p : ℤ) → at p ≡ place m p) → Covers (suc m) (up_to_stop later) → Covers m (up_to_stop (with_place o at later))
  place-tested m None at later leg is c = covers-none m (up_to_stop later) leg c
  place-tested m (Some p) at later leg is c =
      subst (λ b. Covers m (up_to_stop (b ∷ later))) (sym (is p)) (stop-tested m p (is_stop (place m p)) later leg refl (λ _. c))

  longer : (before : List Shape) (n : Shape) → length (before ++ n ∷ []) ≡ suc (length before)
  longer before n = omega (arith, length-append before (n ∷ []))

  -- the places of a split are its legal places up to the first stop
  places-cover : (before rest : List Shape) → before ++ rest ≡ ns → Covers (length before) (up_to_stop (split_places h d before rest))
  places-cover before [] e =
      subst (λ b. Covers (length before) (up_to_stop (b ∷ []))) (sym (place-cut before [] e eject_penalty))
      (stop-tested (length before) eject_penalty (is_stop (place (length before) eject_penalty)) [] (legal-cut ns before [] e) refl (λ go. absurd (true≢false (sym (forced (place (length before) eject_penalty).cost) ∙ go))))
  places-cover before (n ∷ rest) e =
      place-tested (length before) (split_penalty before (n ∷ rest)) _ (split_places h d (before ++ n ∷ []) rest) (legal-cut ns before (n ∷ rest) e) (place-cut before (n ∷ rest) e)
      (subst (λ m. Covers m (up_to_stop (split_places h d (before ++ n ∷ []) rest))) (longer before n) (places-cover (before ++ n ∷ []) rest (append_assoc before (n ∷ []) rest ∙ e)))

abbrev IsFilled : List Breakpoint → Type 0
IsFilled [] = ⊥
IsFilled (b ∷ bs) = Unit {0}

filled-with_place : (o : Option ℤ) (at : ℤ → Breakpoint) (later : List Breakpoint) → IsFilled later → IsFilled (with_place o at later)
filled-with_place None at later h = h
filled-with_place (Some p) at later h = tt

filled-places : (h d : ℤ) (before rest : List Shape) → IsFilled (split_places h d before rest)
filled-places h d before [] = tt
filled-places h d before (n ∷ rest) = filled-with_place (split_penalty before (n ∷ rest)) _ _ (filled-places h d (before ++ n ∷ []) rest)

filled-up_to_stop : (bs : List Breakpoint) → IsFilled bs → IsFilled (up_to_stop bs)
filled-up_to_stop [] h = elim h [ ]
filled-up_to_stop (b ∷ bs) h = tested (is_stop b)
  where
    tested : (t : Bool) → IsFilled (cond t (b ∷ []) (b ∷ up_to_stop bs))
    tested true = tt
    tested false = tt

cover-last : (h d : ℤ) (ns : List Shape) (e : Breakpoint) (bs : List Breakpoint) → IsFilled bs → Covers h d ns 0 bs → IsLastLeast h d ns (found_at ns (best_or e bs))
cover-last h d ns e [] filled c = elim filled [ ]
cover-last h d ns e (b ∷ bs) filled c =
    let x = best_or e (b ∷ bs) in
    let first = c.sound b (inl refl) in
    let cheap : b.cost ≤ℤ awful_bad = subst (λ (y : Breakpoint). y.cost ≤ℤ awful_bad) (sym first.is) (cost_at_most (page_badness (sums_of d (take b.place ns)) h) b.penalty (pos 0) (legal_at-below ns b.place b.penalty first.legal)) in
    let l = best_or-last e b bs cheap in
    let s = c.sound x (subst (In x) (sym l.whole) (in_middle l.before x l.after)) in
    record {
      legal = s.legal;
      reached = record { no_stop = λ j p lt leg. s.reached j p (omega arith) lt leg };
      cost_is = ap (λ (y : Breakpoint). y.cost) s.is;
      least = λ k p leg go. at_least x (least_cost (b ∷ bs)) l.low (place h d ns k p) (in_each (λ y. least_cost (b ∷ bs) ≤ℤ y.cost) (b ∷ bs) (place h d ns k p) (least-le (b ∷ bs)) (c.whole k p (omega arith) leg (λ j q a lt i. go.no_stop j q lt i)));
      greatest = λ k p leg go lt. dearer x (least_cost (b ∷ bs)) l.low (place h d ns k p) (in_each (λ y. int_le y.cost (least_cost (b ∷ bs)) ≡ false) l.after (place h d ns k p) l.above
          (after_middle 0 l.before x l.after (place h d ns k p) (subst (Rising 0) l.whole c.rising) (subst (In (place h d ns k p)) l.whole (c.whole k p (omega arith) leg (λ j q a lt i. go.no_stop j q lt i))) lt));
      size_is = ap (λ (y : Breakpoint). y.sums.total +ℤ y.sums.depth) s.is;
      kind_is = refl;
    }

-- a list is split at the last legal place of least cost up to the stop
pub split-last_least : (h d : ℤ) (ns : List Shape) → IsLastLeast h d ns (split_of h d ns)
split-last_least h d ns = cover-last h d ns (end_place h d ns) (up_to_stop (split_places h d [] ns)) (filled-up_to_stop (split_places h d [] ns) (filled-places h d [] ns)) (places-cover h d ns [] ns refl)
