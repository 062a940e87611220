-- The floats of a company are marked along a walk: its head, and then those that join.
use Rattle.std.proofs.Common.{◌≡◌, ℕ, zero, suc, ◌+◌, ◌-◌, ◌≤◌, Bool, true, false, ◌||◌, List, [], ◌∷◌, ◌++◌, length, map, take, drop, Some, refl, sym, ap, ◌∙◌, arith}
use Rattle.std.proofs.Math.Bool.{or-false}
use Rattle.std.proofs.lemmas.List.{append-nil, append_assoc, map-append, length-append}
use Rattle.tb_node.specs.declared.Float.{Float}
use Rattle.tb_float.specs.Pool.{flagged, marked_among}
use Rattle.tb_fpage.specs.declared.Wanted.{Wanted}
use Rattle.tb_fpage.specs.declared.walk.Walk.{Walk}
use Rattle.tb_fpage.specs.Company.{Choice, choices_from, company, joins}
use Rattle.tb_fpage.specs.Walk.{IsWalkOf, has_chosen, CompanyEndsBy, IsAfterHead, IsMarking, head_choices, company_of_place, marks_by}
use Rattle.tb_fpage.proofs.WalkLemmas.{on-way-ends, on-way-end}

-- ---- marks

-- no float was marked before
unmarked-first : (m : Bool) (ms : List Bool) (f : Float) (fs : List Float) → marked_among (m ∷ ms) (f ∷ fs) ≡ [] → (m ≡ false) × (marked_among ms fs ≡ [])
unmarked-first true ms f fs none = cc
unmarked-first false ms f fs none = (refl, none)

pub unmarked-are : (ms : List Bool) (fs : List Float) → length ms ≡ length fs → marked_among ms fs ≡ [] → ms ≡ map (λ f. false) fs
unmarked-are [] [] many none = refl
unmarked-are [] (f ∷ fs) many none = absurd (omega (arith, many))
unmarked-are (m ∷ ms) [] many none = absurd (omega (arith, many))
unmarked-are (m ∷ ms) (f ∷ fs) many none =
    let first = unmarked-first m ms f fs none in
    ap (λ b. b ∷ ms) first.0 ∙ ap (λ bs. false ∷ bs) (unmarked-are ms fs (omega (arith, many)) first.1)

-- the head is marked
head-marked : (fs : List Float) (f : Float) → map (λ c. c.chosen) (head_choices fs f) ≡ map (λ g. false) fs ++ true ∷ []
head-marked [] f = refl
head-marked (g ∷ fs) f = ap (λ bs. false ∷ bs) (head-marked fs f)

flagged-first : (bs : List Bool) (fs : List Float) → length bs ≤ length fs → flagged bs (map (λ f. false) fs) ≡ bs ++ map (λ f. false) (drop (length bs) fs)
flagged-first [] fs le = refl
flagged-first (b ∷ bs) [] le = absurd (omega (arith, le))
flagged-first (b ∷ bs) (f ∷ fs) le = (λ i. or-false b i ∷ flagged-first bs fs (omega (arith, le)) i)

-- flags are set where no float was marked
pub flagged-none : (head end : ℕ) (bs : List Bool) (fs : List Float) → end ≡ head + length bs → end ≤ length fs → take head (map (λ f. false) fs) ++ flagged bs (drop head (map (λ f. false) fs)) ≡ map (λ f. false) (take head fs) ++ bs ++ map (λ f. false) (drop end fs)
flagged-none zero end bs fs at le =
    let same : length bs ≡ end = omega (arith, at) in
    flagged-first bs fs (omega (arith, at, le)) ∙ ap (λ n. bs ++ map (λ f. false) (drop n fs)) same
flagged-none (suc head) zero bs fs at le = absurd (omega (arith, at))
flagged-none (suc head) (suc end) bs [] at le = absurd (omega (arith, le))
flagged-none (suc head) (suc end) bs (f ∷ fs) at le = ap (λ cs. false ∷ cs) (flagged-none head end bs fs (omega (arith, at)) (omega (arith, le)))

-- ---- the walk

pub marking-start : (z : Wanted) (w : Walk) (all : List Float) → IsAfterHead w z all → IsMarking w z all (w.seen - 1) (true ∷ [])
marking-start z w all h =
    let at : w.seen ≡ suc h.place = omega (arith, h.seen) in
    let place : h.place ≡ w.seen - 1 = omega (arith, h.seen) in
    record {
      choices = company_of_place z h.place all h.head;
      made = h.made;
      way = record {
        before = head_choices (take h.place all) h.head;
        stands = h.stands;
        ends = ap (λ n. choices_from z (head_choices (take h.place all) h.head) (drop n all)) at;
      };
      passed = omega (arith, h.seen);
      marked = head-marked (take h.place all) h.head ∙ ap (λ n. map (λ f. false) (take n all) ++ true ∷ []) place;
    }

pub marking-next : (z : Wanted) (w v : Walk) (all rest : List Float) (f : Float) (b : Bool) (head : ℕ) (flags : List Bool) → v.seen ≡ w.seen + 1 → f ∷ rest ≡ drop w.seen all → ((before : List Choice) → IsWalkOf w z.sep before → b ≡ joins z before f) → ((before : List Choice) → IsWalkOf w z.sep before → IsWalkOf v z.sep (before ++ record { float = f; chosen = b } ∷ [])) → IsMarking w z all head flags → IsMarking v z all head (flags ++ b ∷ [])
marking-next z w v all rest f b head flags further left decided stands m =
    let before = m.way.before in
    record {
      choices = m.choices;
      made = m.made;
      way = record {
        before = before ++ record { float = f; chosen = b } ∷ [];
        stands = stands before m.way.stands;
        ends = on-way-ends z w v all rest f b m.choices further left m.way (decided before m.way.stands);
      };
      passed = omega (arith, further, m.passed, length-append flags (b ∷ []));
      marked =
          map-append (λ c. c.chosen) before (record { float = f; chosen = b } ∷ []) ∙ ap (λ bs. bs ++ b ∷ []) m.marked
          ∙ append_assoc (map (λ g. false) (take head all)) flags (b ∷ []);
    }

-- the marks by the flags, if the choices are those so far and others that choose no float
by-flags : (w : Walk) (all : List Float) (head : ℕ) (flags marks : List Bool) → w.seen ≡ head + length flags → marks ≡ map (λ f. false) (take head all) ++ flags → marks ++ map (λ f. false) (drop w.seen all) ≡ marks_by head flags all
by-flags w all head flags marks passed are =
    λ i. are i ++ map (λ f. false) (drop (passed i) all)

-- if none is left, the marks are those of the company
pub marking-over : (z : Wanted) (w : Walk) (all : List Float) (head : ℕ) (flags : List Bool) → [] ≡ drop w.seen all → IsMarking w z all head flags → (choices : List Choice) × (company z all ≡ Some choices) × (map (λ c. c.chosen) choices ≡ marks_by head flags all)
marking-over z w all head flags none m =
    let marks = map (λ (c : Choice). c.chosen) m.way.before in (
      m.choices,
      m.made,
      ap (map (λ (c : Choice). c.chosen)) (sym (on-way-end z w all m.choices none m.way)) ∙ sym (append-nil marks)
          ∙ ap (λ (fs : List Float). marks ++ map (λ f. false) fs) none ∙ by-flags w all head flags marks m.passed m.marked,
    )

-- the choices on the floats that are left come behind those so far
left-choices : (z : Wanted) (before : List Choice) (fs : List Float) → (cs : List Choice) × (choices_from z before fs ≡ before ++ cs) × (length cs ≡ length fs)
left-choices z before [] = ([], sym (append-nil before), refl)
left-choices z before (f ∷ fs) =
    let c : Choice = record { float = f; chosen = joins z before f } in
    let more = left-choices z (before ++ c ∷ []) fs in
    (c ∷ more.0, more.1 ∙ append_assoc before (c ∷ []) more.0, ap suc more.2)

unchosen-first : (b : Bool) (cs : List Choice) → (b || has_chosen cs) ≡ false → (b ≡ false) × (has_chosen cs ≡ false)
unchosen-first true cs h = cc
unchosen-first false cs h = (refl, h)

unchosen-marks : (cs : List Choice) (fs : List Float) → length cs ≡ length fs → has_chosen cs ≡ false → map (λ f. false) fs ≡ map (λ c. c.chosen) cs
unchosen-marks [] [] many none = refl
unchosen-marks [] (f ∷ fs) many none = absurd (omega (arith, many))
unchosen-marks (c ∷ cs) [] many none = absurd (omega (arith, many))
unchosen-marks (c ∷ cs) (f ∷ fs) many none =
    let first = unchosen-first c.chosen cs none in
    ap (λ b. b ∷ map (λ g. false) fs) (sym first.0) ∙ ap (λ bs. c.chosen ∷ bs) (unchosen-marks cs fs (omega (arith, many)) first.1)

drop-first : (before cs : List Choice) → drop (length before) (before ++ cs) ≡ cs
drop-first [] cs = refl
drop-first (b ∷ before) cs = drop-first before cs

unchosen-behind : (k n : ℕ) (cs : List Choice) → k ≤ n → has_chosen (drop k cs) ≡ false → has_chosen (drop n cs) ≡ false
unchosen-behind zero zero cs le none = none
unchosen-behind zero (suc n) [] le none = refl
unchosen-behind zero (suc n) (c ∷ cs) le none = unchosen-behind zero n cs (omega arith) (unchosen-first c.chosen cs none).1
unchosen-behind (suc k) zero cs le none = absurd (omega (arith, le))
unchosen-behind (suc k) (suc n) [] le none = refl
unchosen-behind (suc k) (suc n) (c ∷ cs) le none = unchosen-behind k n cs (omega (arith, le)) none

-- if the last of the company was passed, the marks are those of the company
pub marking-full : (z : Wanted) (w : Walk) (all : List Float) (head : ℕ) (flags : List Bool) (last : ℕ) → last ≤ w.seen → CompanyEndsBy last z all → IsMarking w z all head flags → (choices : List Choice) × (company z all ≡ Some choices) × (map (λ c. c.chosen) choices ≡ marks_by head flags all)
marking-full z w all head flags last at ends m =
    let before = m.way.before in
    let marks = map (λ (c : Choice). c.chosen) before in
    let more = left-choices z before (drop w.seen all) in
    let are : before ++ more.0 ≡ m.choices = sym more.1 ∙ m.way.ends in
    let behind : drop w.seen m.choices ≡ more.0 = ap (λ n. drop n m.choices) m.way.stands.seen ∙ ap (drop (length before)) (sym are) ∙ drop-first before more.0 in
    let none : has_chosen more.0 ≡ false = ap has_chosen (sym behind) ∙ unchosen-behind last w.seen m.choices at (ends m.choices m.made) in (
      m.choices,
      m.made,
      ap (map (λ (c : Choice). c.chosen)) (sym are) ∙ map-append (λ (c : Choice). c.chosen) before more.0 ∙ ap (λ bs. marks ++ bs) (sym (unchosen-marks more.0 (drop w.seen all) more.2 none))
          ∙ by-flags w all head flags marks m.passed m.marked,
    )
