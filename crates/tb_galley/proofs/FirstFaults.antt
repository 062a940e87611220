-- The least of all faults is the first one that is listed, since they are listed in order.
use Rattle.std.proofs.Common.{◌≡◌, ◌<◌, ℕ, ◌+◌, Bool, true, false, not, nat_lt, List, [], ◌∷◌, ◌++◌, Option, Some, None, if◌then◌else◌, refl, ap, ◌∙◌, arith}
use Rattle.std.specs.List.{list_all}
use Rattle.std.proofs.lemmas.List.Folds.{list_all-append}
use Rattle.std.proofs.lemmas.Bool.Decides.{nat_tests}
use Rattle.std.proofs.lemmas.Bool.{and_parts, and_from}
use Rattle.tb_galley.specs.declared.Cause.{Cause}
use Rattle.tb_galley.specs.declared.Fault.{Fault}
use Rattle.tb_galley.specs.Faults.{fault, cause_rank, is_before, earlier, first_fault, field_faults, faults_in_line, faults_in_lines}
use Rattle.tb_galley.specs.GalleyReader.{first_cause}

abbrev pub Holds : (Fault → Bool) → Option Fault → Type 0
Holds P None = Unit {0}
Holds P (Some f) = P f ≡ true

chosen : (P : Fault → Bool) (x b : Fault) (t : Bool) → P x ≡ true → P b ≡ true → P (if t then b else x) ≡ true
chosen P x b true h k = k
chosen P x b false h k = h

earlier_kept : (P : Fault → Bool) (x : Fault) (o : Option Fault) → P x ≡ true → Holds P o → P (earlier x o) ≡ true
earlier_kept P x None h k = h
earlier_kept P x (Some b) h k = chosen P x b (is_before b x) h k

kept : (P : Fault → Bool) (fs : List Fault) → list_all P fs ≡ true → Holds P (first_fault fs)
kept P [] h = tt
kept P (x ∷ xs) h =
    let parts = and_parts (P x) (list_all P xs) h in
    earlier_kept P x (first_fault xs) parts.0 (kept P xs parts.1)

stays_by : (f b : Fault) (t : Bool) → not t ≡ true → (if t then b else f) ≡ f
stays_by f b true h = cc
stays_by f b false h = refl

stays : (f : Fault) (o : Option Fault) → Holds (λ g. not (is_before g f)) o → earlier f o ≡ f
stays f None h = refl
stays f (Some b) h = stays_by f b (is_before b f) h

-- the first of a list is its least if none of the others goes before it
leads : (f : Fault) (fs : List Fault) → list_all (λ g. not (is_before g f)) fs ≡ true → first_fault (f ∷ fs) ≡ Some f
leads f fs h = ap (λ g. Some g) (stays f (first_fault fs) (kept (λ g. not (is_before g f)) fs h))

-- ---- what goes after a fault

abbrev pub is_after : Fault → Fault → Bool
is_after f g = not (is_before g f)

later_line : (n k m j : ℕ) (c d : Cause) → n < m → is_after (fault n k c) (fault m j d) ≡ true
later_line n k m j c d h = grind (arith, nat_tests)

later_field : (n k j : ℕ) (c d : Cause) → k < j → is_after (fault n k c) (fault n j d) ≡ true
later_field n k j c d h = grind (arith, nat_tests)

later_rank : (n k : ℕ) (c d : Cause) → not (nat_lt (cause_rank d) (cause_rank c)) ≡ true → is_after (fault n k c) (fault n k d) ≡ true
later_rank n k c d h = grind (arith, nat_tests)

-- a field's causes are listed in their order in the table, so far as the first goes
abbrev pub is_led : List Cause → Bool
is_led [] = true
is_led (c ∷ cs) = list_all (λ d. not (nat_lt (cause_rank d) (cause_rank c))) cs

after_ranks : (n k : ℕ) (c : Cause) (cs : List Cause) → list_all (λ d. not (nat_lt (cause_rank d) (cause_rank c))) cs ≡ true → list_all (is_after (fault n k c)) (field_faults n k cs) ≡ true
after_ranks n k c [] h = refl
after_ranks n k c (d ∷ cs) h =
    let parts = and_parts (not (nat_lt (cause_rank d) (cause_rank c))) (list_all (λ d. not (nat_lt (cause_rank d) (cause_rank c))) cs) h in
    and_from (is_after (fault n k c) (fault n k d)) (list_all (is_after (fault n k c)) (field_faults n k cs)) (later_rank n k c d parts.0) (after_ranks n k c cs parts.1)

after_cell : (n k m j : ℕ) (c : Cause) (cs : List Cause) → ((d : Cause) → is_after (fault n k c) (fault m j d) ≡ true) → list_all (is_after (fault n k c)) (field_faults m j cs) ≡ true
after_cell n k m j c [] h = refl
after_cell n k m j c (d ∷ cs) h = and_from (is_after (fault n k c) (fault m j d)) (list_all (is_after (fault n k c)) (field_faults m j cs)) (h d) (after_cell n k m j c cs h)

joined : (f : Fault) (xs ys : List Fault) → list_all (is_after f) xs ≡ true → list_all (is_after f) ys ≡ true → list_all (is_after f) (xs ++ ys) ≡ true
joined f xs ys h k = list_all-append (is_after f) xs ys ∙ and_from (list_all (is_after f) xs) (list_all (is_after f) ys) h k

after_fields : (n k j : ℕ) (c : Cause) (fields : List (List Cause)) → k < j → list_all (is_after (fault n k c)) (faults_in_line n j fields) ≡ true
after_fields n k j c [] h = refl
after_fields n k j c (cs ∷ fields) h =
    joined (fault n k c) (field_faults n j cs) (faults_in_line n (j + 1) fields)
    (after_cell n k n j c cs (λ d. later_field n k j c d h)) (after_fields n k (j + 1) c fields (omega arith))

after_line : (n k m j : ℕ) (c : Cause) (fields : List (List Cause)) → n < m → list_all (is_after (fault n k c)) (faults_in_line m j fields) ≡ true
after_line n k m j c [] h = refl
after_line n k m j c (cs ∷ fields) h =
    joined (fault n k c) (field_faults m j cs) (faults_in_line m (j + 1) fields)
    (after_cell n k m j c cs (λ d. later_line n k m j c d h)) (after_line n k m (j + 1) c fields h)

after_lines : (n k m : ℕ) (c : Cause) (lines : List (List (List Cause))) → n < m → list_all (is_after (fault n k c)) (faults_in_lines m lines) ≡ true
after_lines n k m c [] h = refl
after_lines n k m c (fields ∷ lines) h =
    joined (fault n k c) (faults_in_line m 0 fields) (faults_in_lines (m + 1) lines) (after_line n k m 0 c fields h) (after_lines n k (m + 1) c lines (omega arith))

-- ---- the first fault

abbrev pub or_first : Option Fault → Option Fault → Option Fault
or_first None o = o
or_first (Some f) o = Some f

-- the first cause of the first line that has one
abbrev pub first_among : ℕ → List (List (List Cause)) → Option Fault
first_among n [] = None
first_among n (fields ∷ lines) = or_first (first_cause n 0 fields) (first_among (n + 1) lines)

in_line : (n k : ℕ) (fields : List (List Cause)) (lines : List (List (List Cause))) → list_all is_led fields ≡ true
    → first_fault (faults_in_line n k fields ++ faults_in_lines (n + 1) lines) ≡ or_first (first_cause n k fields) (first_fault (faults_in_lines (n + 1) lines))
in_line n k [] lines h = refl
in_line n k ([] ∷ fields) lines h = in_line n (k + 1) fields lines h
in_line n k ((c ∷ cs) ∷ fields) lines h =
    let parts = and_parts (is_led (c ∷ cs)) (list_all is_led fields) h in
    leads (fault n k c) ((field_faults n k cs ++ faults_in_line n (k + 1) fields) ++ faults_in_lines (n + 1) lines)
    (joined (fault n k c) (field_faults n k cs ++ faults_in_line n (k + 1) fields) (faults_in_lines (n + 1) lines)
    (joined (fault n k c) (field_faults n k cs) (faults_in_line n (k + 1) fields) (after_ranks n k c cs parts.0) (after_fields n k (k + 1) c fields (omega arith)))
    (after_lines n k (n + 1) c lines (omega arith)))

pub least_first : (n : ℕ) (lines : List (List (List Cause))) → list_all (list_all is_led) lines ≡ true → first_fault (faults_in_lines n lines) ≡ first_among n lines
least_first n [] h = refl
least_first n (fields ∷ lines) h =
    let parts = and_parts (list_all is_led fields) (list_all (list_all is_led) lines) h in
    in_line n 0 fields lines parts.0 ∙ ap (λ o. or_first (first_cause n 0 fields) o) (least_first (n + 1) lines parts.1)
