-- The ways of the definition are all solutions, in their order, and the first of least total is the least solution.
use Rattle.std.proofs.Common.{◌≡◌, refl, sym, ◌∙◌, ap, subst, ◌⊎◌, inl, inr, ℕ, zero, suc, ◌<◌, ◌≤◌, ℤ, Bool, true, false, List, [], ◌∷◌, ◌++◌, map, Option, None, Some, arith}
use Rattle.std.specs.Ordering.{int_eq}
use Rattle.std.specs.Prelude.{pos, negsuc, slice_get, ◌≤ℤ◌, int_le, MatchOption, if◌then◌else◌}
use Rattle.std.specs.List.{AllByRecursion}
use Rattle.std.proofs.lemmas.Int.{ints}
use Rattle.std.proofs.lemmas.Bool.{true≢false, cases_eq}
use Rattle.tb_lines.specs.declared.entries.Entry.{Entry}
use Rattle.tb_lines.specs.declared.text.LineParams.{LineParams}
use Rattle.tb_lines.specs.declared.text.Item.TheVariants.{Word as word, Space as space, Penalty as penalty}
use Rattle.tb_lines.specs.declared.entries.Entry.TheVariants.{Item as item, Fill as fill}
use Rattle.tb_lines.specs.Entries.{passes, after_word, is_legal_entry, is_legal, entry_penalty, penalty_in, is_forced}
use Rattle.tb_lines.specs.LeastSolution.{IsAfter, IsFalling, IsAmong, total_demerits, is_greater}
use Rattle.tb_lines.specs.Galley.{ways_before, chosen, first_least}
use Rattle.tb_lines.proofs.BestWays.{greater_fails}
use Rattle.tb_lines.proofs.Solutions.{among_le}

-- one of these ways
abbrev pub IsIn : List ℕ → List (List ℕ) → Type 0
IsIn x [] = ⊥
IsIn x (y ∷ ys) = (x ≡ y) ⊎ IsIn x ys

in_left : (x : List ℕ) (ys zs : List (List ℕ)) → IsIn x ys → IsIn x (ys ++ zs)
in_left x [] zs h = absurd h
in_left x (y ∷ ys) zs (inl e) = inl e
in_left x (y ∷ ys) zs (inr h) = inr (in_left x ys zs h)

in_right : (x : List ℕ) (ys zs : List (List ℕ)) → IsIn x zs → IsIn x (ys ++ zs)
in_right x [] zs h = h
in_right x (y ∷ ys) zs h = inr (in_right x ys zs h)

in_either : (x : List ℕ) (ys zs : List (List ℕ)) → IsIn x (ys ++ zs) → IsIn x ys ⊎ IsIn x zs
in_either x [] zs h = inr h
in_either x (y ∷ ys) zs (inl e) = inl (inl e)
in_either x (y ∷ ys) zs (inr h) = elim (in_either x ys zs h) [ inl a ↦ inl (inr a) | inr b ↦ inr b ]

in_map : (n : ℕ) (x : List ℕ) (ys : List (List ℕ)) → IsIn x ys → IsIn (n ∷ x) (map (λ js. n ∷ js) ys)
in_map n x [] h = absurd h
in_map n x (y ∷ ys) (inl e) = inl (ap (λ js. n ∷ js) e)
in_map n x (y ∷ ys) (inr h) = inr (in_map n x ys h)

of_map : (n : ℕ) (x : List ℕ) (ys : List (List ℕ)) → IsIn x (map (λ js. n ∷ js) ys) → (js : List ℕ) × (x ≡ n ∷ js) × IsIn js ys
of_map n x [] h = absurd h
of_map n x (y ∷ ys) (inl e) = (y, e, inl refl)
of_map n x (y ∷ ys) (inr h) = let r = of_map n x ys h in (r.0, r.1, inr r.2)

-- ---- the ways before a place

-- breaks before place n, as in a solution
pub record IsWay (es : List Entry) (n : ℕ) (js : List ℕ) : Type 0 where
  pub after : IsAfter n js
  pub falling : IsFalling js
  pub legal : AllByRecursion (λ j. is_legal es j ≡ true) js
  pub forced : (k : ℕ) → k < n → is_forced es k ≡ true → IsAmong k js

after_more : (n : ℕ) (js : List ℕ) → IsAfter n js → IsAfter (suc n) js
after_more n [] a = tt
after_more n (j ∷ js) a = omega arith

way_taken : (es : List Entry) (n : ℕ) (js : List ℕ) → is_legal es n ≡ true → IsWay es n js → IsWay es (suc n) (n ∷ js)
way_taken es n js legal w = record {
  after = omega arith;
  falling = (w.after, w.falling);
  legal = (legal, w.legal);
  forced = λ k lt f. elim (cases_eq k n) [ inl e ↦ inl e | inr ne ↦ inr (w.forced k (omega arith) f) ];
}

way_passed : (es : List Entry) (n : ℕ) (js : List ℕ) → is_forced es n ≡ false → IsWay es n js → IsWay es (suc n) js
way_passed es n js free w = record {
  after = after_more n js w.after;
  falling = w.falling;
  legal = w.legal;
  forced = λ k lt f. elim (cases_eq k n) [
    | inl e ↦ absurd (true≢false (sym f ∙ ap (is_forced es) e ∙ free))
    | inr ne ↦ w.forced k (omega arith) f
  ];
}

free_entry : (behind : Bool) (e : Entry) → is_legal_entry behind e ≡ false → int_eq (entry_penalty e) (negsuc 9999) ≡ false
free_entry behind (item (word w h d)) e = refl
free_entry behind (item (space w st sh)) e = refl
free_entry behind (item (penalty (pos n))) e = refl
free_entry behind (item (penalty (negsuc n))) e = absurd (true≢false e)
free_entry behind fill e = refl

free_place : (behind : Bool) (o : Option Entry) → passes (is_legal_entry behind) o ≡ false → int_eq (penalty_in o) (negsuc 9999) ≡ false
free_place behind None h = refl
free_place behind (Some e) h = free_entry behind e h

-- no line must end at a place at which none may
forced_legal : (es : List Entry) (n : ℕ) → is_legal es n ≡ false → is_forced es n ≡ false
forced_legal es n h = free_place (after_word es n) (slice_get es n) h

-- each of the ways is one
pub ways_are : (es : List Entry) (n : ℕ) (js : List ℕ) → IsIn js (ways_before es n) → IsWay es n js
ways_are es zero js (inl e) = subst (λ x. IsWay es 0 x) (sym e) (record { after = tt; falling = tt; legal = tt; forced = λ k lt f. absurd (omega arith) })
ways_are es zero js (inr h) = absurd h
ways_are es (suc n) js h = by_legal (λ x. ways_are es n x) (is_legal es n) refl (is_forced es n) refl h
  where
    by_legal : ((x : List ℕ) → IsIn x (ways_before es n) → IsWay es n x) → (t : Bool) → is_legal es n ≡ t → (u : Bool) → is_forced es n ≡ u
        → IsIn js (if t then map (λ x. n ∷ x) (ways_before es n) ++ (if u then [] else ways_before es n) else ways_before es n) → IsWay es (suc n) js
    by_legal before false e u f h = way_passed es n js (forced_legal es n e) (before js h)
    by_legal before true e u f h = elim (in_either js (map (λ x. n ∷ x) (ways_before es n)) (if u then [] else ways_before es n) h) [
      | inl a ↦ let r = of_map n js (ways_before es n) a in subst (λ x. IsWay es (suc n) x) (sym r.1) (way_taken es n r.0 e (before r.0 r.2))
      | inr b ↦ passed u f b
    ]
      where
        passed : (u : Bool) → is_forced es n ≡ u → IsIn js (if u then [] else ways_before es n) → IsWay es (suc n) js
        passed true f b = absurd b
        passed false f b = way_passed es n js f (before js b)

-- no way to place n takes n unless it begins with it
not_first : (es : List Entry) (n : ℕ) (js : List ℕ) → IsWay es (suc n) js → ((os : List ℕ) → js ≡ n ∷ os → ⊥) → IsAfter n js
not_first es n [] w ne = tt
not_first es n (j ∷ js) w ne = elim (cases_eq j n) [
  | inl e ↦ absurd (ne js (ap (λ x. x ∷ js) e))
  | inr d ↦ let lt : j < suc n = w.after in omega arith
]

not_among : (k : ℕ) (js : List ℕ) → IsAfter k js → IsFalling js → IsAmong k js → ⊥
not_among k [] a f h = h
not_among k (j ∷ js) a f h = let le : k ≤ j = among_le k j js f h in let lt : j < k = a in omega arith

-- a way that begins with n, or one that does not
data Start (n : ℕ) (js : List ℕ) : Type 0 where
  starts_with : (os : List ℕ) → js ≡ n ∷ os → Start n js
  starts_without : ((os : List ℕ) → js ≡ n ∷ os → ⊥) → Start n js

start_of : (n : ℕ) (js : List ℕ) → Start n js
start_of n [] = starts_without (λ os e. cc)
start_of n (j ∷ js) = elim (cases_eq j n) [
  | inl e ↦ starts_with js (ap (λ x. x ∷ js) e)
  | inr ne ↦ starts_without (λ os e. ne (cc))
]

tail_way : (es : List Entry) (n : ℕ) (js : List ℕ) → IsWay es (suc n) (n ∷ js) → IsWay es n js
tail_way es n js w = record {
  after = w.falling.0;
  falling = w.falling.1;
  legal = w.legal.1;
  forced = λ k lt f. elim (w.forced k (omega arith) f) [ inl e ↦ absurd (omega arith) | inr a ↦ a ];
}

same_way : (es : List Entry) (n : ℕ) (js : List ℕ) → IsWay es (suc n) js → ((os : List ℕ) → js ≡ n ∷ os → ⊥) → IsWay es n js
same_way es n js w ne = record { after = not_first es n js w ne; falling = w.falling; legal = w.legal; forced = λ k lt f. w.forced k (omega arith) f }

no_ways_after : (es : List Entry) (js : List ℕ) → IsWay es 0 js → js ≡ []
no_ways_after es [] w = refl
no_ways_after es (j ∷ js) w = absurd (let lt : j < 0 = w.after in omega arith)

-- each way is among them
pub ways_all : (es : List Entry) (n : ℕ) (js : List ℕ) → IsWay es n js → IsIn js (ways_before es n)
ways_all es zero js w = inl (no_ways_after es js w)
ways_all es (suc n) js w = by_start (λ x. ways_all es n x) (start_of n js) (is_legal es n) refl (is_forced es n) refl
  where
    by_start : ((x : List ℕ) → IsWay es n x → IsIn x (ways_before es n)) → Start n js → (t : Bool) → is_legal es n ≡ t → (u : Bool) → is_forced es n ≡ u
        → IsIn js (if t then map (λ x. n ∷ x) (ways_before es n) ++ (if u then [] else ways_before es n) else ways_before es n)
    by_start before (starts_with os e) true l u f =
        let v : IsWay es (suc n) (n ∷ os) = subst (λ x. IsWay es (suc n) x) e w in
        subst (λ x. IsIn x (map (λ y. n ∷ y) (ways_before es n) ++ (if u then [] else ways_before es n))) (sym e)
        (in_left (n ∷ os) (map (λ y. n ∷ y) (ways_before es n)) (if u then [] else ways_before es n) (in_map n os (ways_before es n) (before os (tail_way es n os v))))
    by_start before (starts_with os e) false l u f =
        let v : IsWay es (suc n) (n ∷ os) = subst (λ x. IsWay es (suc n) x) e w in
        absurd (true≢false (sym v.legal.0 ∙ l))
    by_start before (starts_without ne) false l u f = before js (same_way es n js w ne)
    by_start before (starts_without ne) true l false f = in_right js (map (λ y. n ∷ y) (ways_before es n)) (ways_before es n) (before js (same_way es n js w ne))
    by_start before (starts_without ne) true l true f = absurd (not_among n js (not_first es n js w ne) w.falling (w.forced n (omega arith) f))

-- ---- their order

-- none of these is greater than a way
abbrev pub NoneGreater : List ℕ → List (List ℕ) → Type 0
NoneGreater x [] = Unit {0}
NoneGreater x (y ∷ ys) = (is_greater y x ≡ false) × NoneGreater x ys

abbrev pub Descend : List (List ℕ) → Type 0
Descend [] = Unit {0}
Descend (x ∷ xs) = NoneGreater x xs × Descend xs

none_in : (x y : List ℕ) (ys : List (List ℕ)) → NoneGreater x ys → IsIn y ys → is_greater y x ≡ false
none_in x y [] g h = absurd h
none_in x y (z ∷ ys) g (inl e) = ap (λ w. is_greater w x) e ∙ g.0
none_in x y (z ∷ ys) g (inr h) = none_in x y ys g.1 h

none_of : (x : List ℕ) (ys : List (List ℕ)) → ((y : List ℕ) → IsIn y ys → is_greater y x ≡ false) → NoneGreater x ys
none_of x [] h = tt
none_of x (y ∷ ys) h = (h y (inl refl), none_of x ys (λ z i. h z (inr i)))

descend_both : (xs ys : List (List ℕ)) → Descend xs → Descend ys → ((x y : List ℕ) → IsIn x xs → IsIn y ys → is_greater y x ≡ false) → Descend (xs ++ ys)
descend_both [] ys d e h = e
descend_both (x ∷ xs) ys d e h = (
  none_of x (xs ++ ys) (λ z i. elim (in_either z xs ys i) [ inl a ↦ none_in x z xs d.0 a | inr b ↦ h x z (inl refl) b ]),
  descend_both xs ys d.1 e (λ a b i j. h a b (inr i) j),
)

none_with : (n : ℕ) (x : List ℕ) (ys : List (List ℕ)) → NoneGreater x ys → NoneGreater (n ∷ x) (map (λ js. n ∷ js) ys)
none_with n x [] g = tt
none_with n x (y ∷ ys) g = (greater_fails n n (is_greater y x) (omega arith) (λ e. g.0), none_with n x ys g.1)

descend_with : (n : ℕ) (xs : List (List ℕ)) → Descend xs → Descend (map (λ js. n ∷ js) xs)
descend_with n [] d = tt
descend_with n (x ∷ xs) d = (none_with n x xs d.0, descend_with n xs d.1)

earlier_fails : (n : ℕ) (x y : List ℕ) → IsAfter n y → is_greater y (n ∷ x) ≡ false
earlier_fails n x [] a = refl
earlier_fails n x (j ∷ y) a = greater_fails n j (is_greater y x) (omega arith) (λ e. absurd (let lt : j < n = a in omega arith))

pub ways_descend : (es : List Entry) (n : ℕ) → Descend (ways_before es n)
ways_descend es zero = (tt, tt)
ways_descend es (suc n) = by_legal (ways_descend es n) (is_legal es n) (is_forced es n)
  where
    taken_first : (x y : List ℕ) → IsIn x (map (λ js. n ∷ js) (ways_before es n)) → IsIn y (ways_before es n) → is_greater y x ≡ false
    taken_first x y i j =
        let r = of_map n x (ways_before es n) i in
        ap (is_greater y) r.1 ∙ earlier_fails n r.0 y (ways_are es n y j).after

    by_legal : Descend (ways_before es n) → (t u : Bool) → Descend (if t then map (λ js. n ∷ js) (ways_before es n) ++ (if u then [] else ways_before es n) else ways_before es n)
    by_legal d false u = d
    by_legal d true true = descend_both (map (λ js. n ∷ js) (ways_before es n)) [] (descend_with n (ways_before es n) d) tt (λ x y i j. absurd j)
    by_legal d true false = descend_both (map (λ js. n ∷ js) (ways_before es n)) (ways_before es n) (descend_with n (ways_before es n) d) d taken_first

-- ---- the first of least total

-- this way has the least total of these, and of those with this total none is greater
pub record IsFirst (ps : LineParams) (es : List Entry) (ways : List (List ℕ)) (w : List ℕ × ℤ) : Type 0 where
  pub is_in : IsIn w.0 ways
  pub total : total_demerits ps es w.0 ≡ Some w.1
  pub least : (js : List ℕ) (d : ℤ) → IsIn js ways → total_demerits ps es js ≡ Some d → w.1 ≤ℤ d
  pub greatest : (js : List ℕ) → IsIn js ways → total_demerits ps es js ≡ Some w.1 → is_greater js w.0 ≡ false

abbrev pub HasNoTotal : LineParams → List Entry → List (List ℕ) → Type 0
HasNoTotal ps es ways = (js : List ℕ) (d : ℤ) → IsIn js ways → total_demerits ps es js ≡ Some d → ⊥

abbrev pub FirstOf : LineParams → List Entry → List (List ℕ) → Option (List ℕ × ℤ) → Type 0
FirstOf ps es ways o = MatchOption o (HasNoTotal ps es ways) (IsFirst ps es ways)

same_is_not_greater : (js : List ℕ) → is_greater js js ≡ false
same_is_not_greater [] = refl
same_is_not_greater (j ∷ js) = greater_fails j j (is_greater js js) (omega arith) (λ e. same_is_not_greater js)

at_least : (a b d : ℤ) → int_le a b ≡ true → b ≤ℤ d → a ≤ℤ d
at_least a b d h k = grind (arith, ints)

no_less : (d : ℤ) → d ≤ℤ d
no_less d = omega (arith, ints)

not_same : (a b : ℤ) → int_le a b ≡ false → a ≡ b → ⊥
not_same a b h e = grind (arith, ints)

above : (a b : ℤ) → int_le a b ≡ false → b ≤ℤ a
above a b h = grind (arith, ints)

more_none : (ps : LineParams) (es : List Entry) (x : List ℕ) (ways : List (List ℕ)) (o : Option (List ℕ × ℤ)) → total_demerits ps es x ≡ None → FirstOf ps es ways o → FirstOf ps es (x ∷ ways) o
more_none ps es x ways None e f = λ js d i h. elim i [ inl s ↦ absurd (let k : None ≡ Some d = sym e ∙ ap (total_demerits ps es) (sym s) ∙ h in cc) | inr j ↦ f js d j h ]
more_none ps es x ways (Some w) e f = record {
  is_in = inr f.is_in;
  total = f.total;
  least = λ js d i h. elim i [ inl s ↦ absurd (let k : None ≡ Some d = sym e ∙ ap (total_demerits ps es) (sym s) ∙ h in cc) | inr j ↦ f.least js d j h ];
  greatest = λ js i h. elim i [ inl s ↦ absurd (let k : None ≡ Some w.1 = sym e ∙ ap (total_demerits ps es) (sym s) ∙ h in cc) | inr j ↦ f.greatest js j h ];
}

same_total : (ps : LineParams) (es : List Entry) (x js : List ℕ) (t d : ℤ) → total_demerits ps es x ≡ Some t → js ≡ x → total_demerits ps es js ≡ Some d → t ≡ d
same_total ps es x js t d e s h = let k : Some t ≡ Some d = sym e ∙ ap (total_demerits ps es) (sym s) ∙ h in cc

-- this way comes first
taken : (ps : LineParams) (es : List Entry) (x : List ℕ) (ways : List (List ℕ)) (t : ℤ) → total_demerits ps es x ≡ Some t → NoneGreater x ways
    → ((js : List ℕ) (d : ℤ) → IsIn js ways → total_demerits ps es js ≡ Some d → t ≤ℤ d) → IsFirst ps es (x ∷ ways) (x, t)
taken ps es x ways t e g least = record {
  is_in = inl refl;
  total = e;
  least = λ js d i h. elim i [ inl s ↦ subst (λ z. t ≤ℤ z) (same_total ps es x js t d e s h) (no_less t) | inr j ↦ least js d j h ];
  greatest = λ js i h. elim i [ inl s ↦ ap (λ z. is_greater z x) s ∙ same_is_not_greater x | inr j ↦ none_in x js ways g j ];
}

more_some : (ps : LineParams) (es : List Entry) (x : List ℕ) (ways : List (List ℕ)) (t : ℤ) (o : Option (List ℕ × ℤ)) → total_demerits ps es x ≡ Some t → NoneGreater x ways → FirstOf ps es ways o
    → FirstOf ps es (x ∷ ways) (chosen x (Some t) o)
more_some ps es x ways t None e g f = taken ps es x ways t e g (λ js d i h. absurd (f js d i h))
more_some ps es x ways t (Some w) e g f = by_test (int_le t w.1) refl
  where
    by_test : (u : Bool) → int_le t w.1 ≡ u → FirstOf ps es (x ∷ ways) (if u then Some (x, t) else Some w)
    by_test true le = taken ps es x ways t e g (λ js d i h. at_least t w.1 d le (f.least js d i h))
    by_test false gt = record {
      is_in = inr f.is_in;
      total = f.total;
      least = λ js d i h. elim i [ inl s ↦ subst (λ z. w.1 ≤ℤ z) (same_total ps es x js t d e s h) (above t w.1 gt) | inr j ↦ f.least js d j h ];
      greatest = λ js i h. elim i [ inl s ↦ absurd (not_same t w.1 gt (same_total ps es x js t w.1 e s h)) | inr j ↦ f.greatest js j h ];
    }

pub first_is : (ps : LineParams) (es : List Entry) (ways : List (List ℕ)) → Descend ways → FirstOf ps es ways (first_least ps es ways)
first_is ps es [] d = λ js t i h. i
first_is ps es (x ∷ ways) d = by_total (first_is ps es ways d.1) (total_demerits ps es x) refl
  where
    by_total : FirstOf ps es ways (first_least ps es ways) → (t : Option ℤ) → total_demerits ps es x ≡ t → FirstOf ps es (x ∷ ways) (chosen x t (first_least ps es ways))
    by_total f None e = more_none ps es x ways (first_least ps es ways) e f
    by_total f (Some t) e = more_some ps es x ways t (first_least ps es ways) e d.0 f
