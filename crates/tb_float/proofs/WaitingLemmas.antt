-- The lists by what they hold: notes, floats, and floats that wait and bear marks.
use Rattle.std.proofs.Common.{◌≡◌, ◌≢◌, ◌⊎◌, inl, inr, Bool, true, false, List, [], length, refl, ap, ◌∙◌}
use Rattle.std.specs.Prelude.{ℕ, if◌then◌else◌}
use Rattle.tb_node.specs.declared.Float.{Float}
use Rattle.tb_param.specs.declared.Params.{Params}
use Rattle.tb_param.specs.Release.{has_second}
use Rattle.tb_float.specs.declared.Entry.{Entry}
use Rattle.tb_float.specs.declared.Part.{Part}
use Rattle.tb_float.specs.declared.Part.TheVariants as parts
use Rattle.tb_float.specs.Pool.{FloatPool, HasNoMarks, pool_with, marks_of, with_marks_of, with_contents, marked_among, marked_floats}
use Rattle.tb_float.specs.Lists.{FloatLists, floats_of, entries_of, entry_count, float_entries, with_floats_of, IsWaiting, wide_part, holds_notes, holds_marks}

-- the floats of a list into which they were put
pub floats-with : (from : Part) → IsWaiting from → (fs : List Float) (l : FloatLists) → floats_of from (with_floats_of from fs l) ≡ fs
floats-with parts.Current w fs l = absurd w
floats-with from w fs l = refl

pub with-floats-same : (from : Part) → IsWaiting from → (l : FloatLists) → with_floats_of from (floats_of from l) l ≡ l
with-floats-same parts.Current w l = absurd w
with-floats-same from w l = refl

-- floats alone wait
pub waiting-floats : (p : Part) → IsWaiting p → holds_notes p ≡ false
waiting-floats parts.Current is = absurd is
waiting-floats p is = refl

-- the entries of such a list are floats
pub waiting-entries : (from : Part) → IsWaiting from → (l : FloatLists) → entries_of from l ≡ float_entries (floats_of from l)
waiting-entries parts.Current w l = absurd w
waiting-entries from w l = refl

-- and there are as many of them
pub waiting-count : (from : Part) → IsWaiting from → (l : FloatLists) → entry_count from l ≡ length (floats_of from l)
waiting-count parts.Current w l = absurd w
waiting-count from w l = refl

by_release : (b : Bool) → IsWaiting (if b then parts.Second else parts.Deferred)
by_release true = tt
by_release false = tt

-- wide floats wait in one of them
pub wide-waits : (p : Params) → IsWaiting (wide_part p)
wide-waits p = by_release (has_second p)

-- ---- their marks

-- floats wait in the lists that hold marks
pub waiting_cases : (p : Part) → IsWaiting p ⊎ (holds_marks p ≡ false)
waiting_cases parts.Deferred = inl tt
waiting_cases parts.Second = inl tt
waiting_cases p = inr refl

pub waiting-marks : (p : Part) → IsWaiting p → holds_marks p ≡ true
waiting-marks parts.Deferred w = refl
waiting-marks parts.Second w = refl
waiting-marks p w = absurd w

pub marks-with : (from : Part) → IsWaiting from → (ms : List Bool) (v : FloatPool) → marks_of from (with_marks_of from ms v) ≡ ms
marks-with parts.Deferred w ms v = refl
marks-with parts.Second w ms v = refl
marks-with from w ms v = absurd w

-- the marks of such a list among those of all lists
pub marks-given : (p : Part) → IsWaiting p → (l : FloatLists) (ms : Part → List Bool) (n : ℕ) → marks_of p (pool_with l ms n) ≡ ms p
marks-given parts.Deferred w l ms n = refl
marks-given parts.Second w l ms n = refl
marks-given p w l ms n = absurd w

pub with-marks-same : (from : Part) (v : FloatPool) → with_marks_of from (marks_of from v) v ≡ v
with-marks-same parts.Current v = refl
with-marks-same from v = refl

-- each float that waits has its mark
pub record HasAllMarks (v : FloatPool) : Type 0 where
  pub deferred : length v.marks ≡ length v.lists.deferred
  pub second : length v.second_marks ≡ length v.lists.second

pub marks-count : (from : Part) → IsWaiting from → (v : FloatPool) → length v.marks ≡ length v.lists.deferred → length v.second_marks ≡ length v.lists.second → length (marks_of from v) ≡ length (floats_of from v.lists)
marks-count parts.Deferred w v e f = e
marks-count parts.Second w v e f = f
marks-count from w v e f = absurd w

pub all-marked : (v : FloatPool) → ((p : Part) → IsWaiting p → length (marks_of p v) ≡ length (floats_of p v.lists)) → HasAllMarks v
all-marked v h = record { deferred = h parts.Deferred tt; second = h parts.Second tt }

-- none of its floats is chosen if none is at all
pub none-chosen : (p : Part) → IsWaiting p → (v : FloatPool) → HasNoMarks v → marked_floats p v ≡ []
none-chosen parts.Deferred w v e = e.deferred
none-chosen parts.Second w v e = e.second
none-chosen p w v e = absurd w

-- what else the pool holds stays as it is
pub lists-marked : (from : Part) (ms : List Bool) (v : FloatPool) → (with_marks_of from ms v).lists ≡ v.lists
lists-marked parts.Current ms v = refl
lists-marked from ms v = refl

pub size-marked : (from : Part) (ms : List Bool) (v : FloatPool) → (with_marks_of from ms v).size ≡ v.size
size-marked parts.Current ms v = refl
size-marked from ms v = refl

pub other-marks : (p from : Part) → p ≢ from → (ms : List Bool) (v : FloatPool) → marks_of p (with_marks_of from ms v) ≡ marks_of p v
other-marks parts.Deferred parts.Deferred ne ms v = absurd (ne refl)
other-marks parts.Deferred from ne ms v = refl
other-marks parts.Second parts.Second ne ms v = absurd (ne refl)
other-marks p from ne ms v = refl

-- ---- what one list holds is written

-- of entries, floats and marks those matter that the list holds
pub contents-same : (p : Part) (es es_ : List Entry) (fs fs_ : List Float) (ms ms_ : List Bool) (v : FloatPool)
    → (p ≡ parts.Current → es ≡ es_) → (holds_notes p ≡ false → fs ≡ fs_) → (IsWaiting p → ms ≡ ms_) → with_contents p es fs ms v ≡ with_contents p es_ fs_ ms_ v
contents-same parts.Current es es_ fs fs_ ms ms_ v e f m = ap (λ xs. with_contents parts.Current xs fs ms v) (e refl)
contents-same parts.Deferred es es_ fs fs_ ms ms_ v e f m = λ i. with_contents parts.Deferred es (f refl i) (m tt i) v
contents-same parts.Second es es_ fs fs_ ms ms_ v e f m = λ i. with_contents parts.Second es (f refl i) (m tt i) v
contents-same p es es_ fs fs_ ms ms_ v e f m = ap (λ xs. with_contents p es xs ms v) (f refl)

pub contents-again : (p : Part) (es es_ : List Entry) (fs fs_ : List Float) (ms ms_ : List Bool) (v : FloatPool) → with_contents p es fs ms (with_contents p es_ fs_ ms_ v) ≡ with_contents p es fs ms v
contents-again parts.Current es es_ fs fs_ ms ms_ v = refl
contents-again p es es_ fs fs_ ms ms_ v = refl

-- a list in which floats wait holds floats and marks
pub contents-waiting : (p : Part) → IsWaiting p → (es : List Entry) (fs : List Float) (ms : List Bool) (v : FloatPool) → with_contents p es fs ms v ≡ with_marks_of p ms (record v { lists = with_floats_of p fs v.lists })
contents-waiting parts.Current w es fs ms v = absurd w
contents-waiting p w es fs ms v = refl

-- its marks alone are written
pub contents-marks : (p : Part) → IsWaiting p → (es : List Entry) (fs : List Float) (ms : List Bool) (v : FloatPool) → fs ≡ floats_of p v.lists → with_contents p es fs ms v ≡ with_marks_of p ms v
contents-marks p w es fs ms v e =
    contents-waiting p w es fs ms v ∙ ap (λ l. with_marks_of p ms (record v { lists = l })) (ap (λ gs. with_floats_of p gs v.lists) e ∙ with-floats-same p w v.lists)

pub floats-contents : (p : Part) → IsWaiting p → (es : List Entry) (fs : List Float) (ms : List Bool) (v : FloatPool) → floats_of p (with_contents p es fs ms v).lists ≡ fs
floats-contents parts.Current w es fs ms v = absurd w
floats-contents p w es fs ms v = refl

pub marks-contents : (p : Part) → IsWaiting p → (es : List Entry) (fs : List Float) (ms : List Bool) (v : FloatPool) → marks_of p (with_contents p es fs ms v) ≡ ms
marks-contents p w es fs ms v = ap (marks_of p) (contents-waiting p w es fs ms v) ∙ marks-with p w ms (record v { lists = with_floats_of p fs v.lists })

-- no float is chosen if none of what was written is
pub contents-unmarked : (p : Part) (es : List Entry) (fs : List Float) (ms : List Bool) (v : FloatPool) → HasNoMarks v → (IsWaiting p → marked_among ms fs ≡ []) → HasNoMarks (with_contents p es fs ms v)
contents-unmarked parts.Deferred es fs ms v e none = record { deferred = none tt; second = e.second }
contents-unmarked parts.Second es fs ms v e none = record { deferred = e.deferred; second = none tt }
contents-unmarked p es fs ms v e none = record { deferred = e.deferred; second = e.second }

-- each float has its mark if each that was written has
pub contents-marked : (p : Part) (es : List Entry) (fs : List Float) (ms : List Bool) (v : FloatPool) → HasAllMarks v → (IsWaiting p → length ms ≡ length fs) → HasAllMarks (with_contents p es fs ms v)
contents-marked parts.Deferred es fs ms v e same = record { deferred = same tt; second = e.second }
contents-marked parts.Second es fs ms v e same = record { deferred = e.deferred; second = same tt }
contents-marked p es fs ms v e same = record { deferred = e.deferred; second = e.second }
