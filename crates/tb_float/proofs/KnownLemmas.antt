-- What is known of the first floats of a list, through changes of the lists.
use Rattle.std.proofs.Common.{◌≡◌, ◌≢◌, inl, inr, ℕ, ◌==◌, Bool, true, false, List, [], ◌∷◌, ◌++◌, length, replicate, Option, Some, refl, sym, ap, ◌∙◌, subst}
use Rattle.std.specs.Prelude.{if◌then◌else◌, slice_set}
use Rattle.std.proofs.lemmas.Bool.{true≢false, eqb-true}
use Rattle.std.proofs.lemmas.List.{append-nil, append_assoc}
use Rattle.tb_node.specs.declared.Float.{Float}
use Rattle.tb_float.specs.declared.Entry.{Entry}
use Rattle.tb_float.specs.declared.Entry.TheVariants as entries
use Rattle.tb_float.specs.declared.Part.{Part}
use Rattle.tb_float.specs.declared.Part.TheVariants as parts
use Rattle.tb_float.specs.declared.firsts.Firsts.{Firsts}
use Rattle.tb_float.specs.declared.classes.ClassSet.{ClassSet}
use Rattle.tb_float.specs.Lists.{FloatLists, float_entries, has_class, floats_of, IsWaiting, without_place}
use Rattle.tb_float.specs.Pool.{FloatPool, marks_of, with_contents, with_current, with_float_at, with_floats_after, with_floats_before, with_marks_of, without_entries, without_entry}
use Rattle.tb_float.specs.Classes.{AreClassesOf}
use Rattle.tb_float.specs.Firsts.{ChangesOnly, IsFirstsOf, KnowsFirsts, firsts_from, is_of}
use Rattle.tb_float.proofs.PartLemmas.{part_cases}
use Rattle.tb_float.proofs.ClassLemmas.{has-same, has-other}
use Rattle.tb_float.proofs.WaitingLemmas.{lists-marked}

-- ---- one list changes

pub contents-only : (p : Part) (es : List Entry) (fs : List Float) (ms : List Bool) (v : FloatPool) → ChangesOnly p v.lists (with_contents p es fs ms v).lists
contents-only parts.Current es fs ms v parts.Current ne = absurd (ne refl)
contents-only parts.Current es fs ms v q ne = refl
contents-only parts.Here es fs ms v parts.Here ne = absurd (ne refl)
contents-only parts.Top es fs ms v parts.Top ne = absurd (ne refl)
contents-only parts.Bottom es fs ms v parts.Bottom ne = absurd (ne refl)
contents-only parts.Deferred es fs ms v parts.Deferred ne = absurd (ne refl)
contents-only parts.Double es fs ms v parts.Double ne = absurd (ne refl)
contents-only parts.Second es fs ms v parts.Second ne = absurd (ne refl)
contents-only p es fs ms v q ne = refl

-- what is known of no list that changed is still known
pub still-known : (k : Firsts) (p : Part) (l m : FloatLists) → ChangesOnly p l m → (IsWaiting p → k.of ≢ Some p) → KnowsFirsts k l → KnowsFirsts k m
still-known k p l m only other knows = λ q e.
    let known = knows q e in
    elim (part_cases q p) [
      | inl same ↦ absurd (other (subst IsWaiting same known.1) (e ∙ ap Some same))
      | inr ne ↦ (subst (IsFirstsOf k) (sym (only q ne)) known.0, known.1)
    ]

pub is_of-waiting : (o : Option Part) (p : Part) → IsWaiting p → o ≡ Some p → is_of o p ≡ true
is_of-waiting o p waits e = ap (λ r. is_of r p) e ∙ by_part p waits
  where
    by_part : (q : Part) → IsWaiting q → is_of (Some q) q ≡ true
    by_part parts.Deferred w = refl
    by_part parts.Second w = refl
    by_part q w = absurd w

pub known-of-others : (k : Firsts) (p : Part) (l m : FloatLists) → ChangesOnly p l m → is_of k.of p ≡ false → KnowsFirsts k l → KnowsFirsts k m
known-of-others k p l m only other knows =
    still-known k p l m only (λ waits e. true≢false (sym (is_of-waiting k.of p waits e) ∙ other)) knows

-- ---- a list gains a float

firsts-more : (before fs : List Float) (f : Float) → has_class f.class (before ++ fs) ≡ true → firsts_from before (fs ++ f ∷ []) ≡ firsts_from before fs
firsts-more before [] f has = ap (λ b. if b then [] else record { place = length before; float = f } ∷ []) (ap (has_class f.class) (sym (append-nil before)) ∙ has)
firsts-more before (g ∷ fs) f has =
    let rest = firsts-more (before ++ g ∷ []) fs f (ap (has_class f.class) (append_assoc before (g ∷ []) fs) ∙ has) in
    ap (λ xs. if has_class g.class before then xs else record { place = length before; float = g } ∷ xs) rest

classes-more : (s : ClassSet) (fs : List Float) (f : Float) → has_class f.class fs ≡ true → AreClassesOf s fs → AreClassesOf s (fs ++ f ∷ [])
classes-more s fs f has are = λ k low. are k low ∙ ap Some (sym (by_class k (f.class == k) refl))
  where
    by_class : (k : ℕ) (t : Bool) → (f.class == k) ≡ t → has_class k (fs ++ f ∷ []) ≡ has_class k fs
    by_class k true e = has-same fs f k e ∙ sym (subst (λ j. has_class j fs ≡ true) (eqb-true f.class k e) has)
    by_class k false e = has-other fs f k e

-- a float whose class comes before is no first one
pub known-with-more : (k : Firsts) (p : Part) (l m : FloatLists) (f : Float) → ChangesOnly p l m → (IsWaiting p → floats_of p m ≡ floats_of p l ++ f ∷ []) → ((fs : List Float) → AreClassesOf k.classes fs → has_class f.class fs ≡ true) → KnowsFirsts k l → KnowsFirsts k m
known-with-more k p l m f only more has knows = λ q e.
    let known = knows q e in
    elim (part_cases q p) [
      | inl same ↦ (subst (λ r. IsFirstsOf k (floats_of r m)) (sym same) (subst (IsFirstsOf k) (sym (more (subst IsWaiting same known.1))) (one_more (floats_of p l) (subst (λ r. IsFirstsOf k (floats_of r l)) same known.0))), known.1)
      | inr ne ↦ (subst (IsFirstsOf k) (sym (only q ne)) known.0, known.1)
    ]
  where
    one_more : (fs : List Float) → IsFirstsOf k fs → IsFirstsOf k (fs ++ f ∷ [])
    one_more fs is = record {
      items = is.items ∙ sym (firsts-more [] fs f (has fs is.classes));
      classes = classes-more k.classes fs f (has fs is.classes) is.classes;
    }

pub after-floats : (p : Part) (fs : List Float) (v : FloatPool) → IsWaiting p → floats_of p (with_floats_after p fs v).lists ≡ floats_of p v.lists ++ fs
after-floats parts.Deferred fs v waits = refl
after-floats parts.Second fs v waits = refl
after-floats p fs v waits = absurd waits

-- ---- the calls of the pool

pub known-put : (k : Firsts) (e : Entry) (v : FloatPool) → KnowsFirsts k v.lists → KnowsFirsts k (with_current (e ∷ []) v).lists
known-put k e v knows = still-known k parts.Current v.lists (with_current (e ∷ []) v).lists (contents-only parts.Current (v.lists.current ++ e ∷ []) [] [] v) (λ waits e. absurd waits) knows

pub known-marked : (k : Firsts) (p : Part) (ms : List Bool) (v : FloatPool) → KnowsFirsts k v.lists → KnowsFirsts k (with_marks_of p ms v).lists
known-marked k p ms v knows = subst (KnowsFirsts k) (sym (lists-marked p ms v)) knows

pub without-only : (p : Part) (k : ℕ) (v : FloatPool) → ChangesOnly p v.lists (without_entry p k v).lists
without-only p k v = contents-only p (without_place k v.lists.current) (without_place k (floats_of p v.lists)) (without_place k (marks_of p v)) v

pub emptied-only : (p : Part) (v : FloatPool) → ChangesOnly p v.lists (without_entries p v).lists
emptied-only p v = contents-only p [] [] [] v

pub before-only : (p : Part) (fs : List Float) (v : FloatPool) → ChangesOnly p v.lists (with_floats_before p fs v).lists
before-only p fs v = contents-only p (float_entries fs ++ v.lists.current) (fs ++ floats_of p v.lists) (replicate (length fs) false ++ marks_of p v) v

pub after-only : (p : Part) (fs : List Float) (v : FloatPool) → ChangesOnly p v.lists (with_floats_after p fs v).lists
after-only p fs v = contents-only p (v.lists.current ++ float_entries fs) (floats_of p v.lists ++ fs) (marks_of p v ++ replicate (length fs) false) v

pub set-only : (p : Part) (k : ℕ) (f : Float) (v : FloatPool) → ChangesOnly p v.lists (with_float_at p k f v).lists
set-only p k f v = contents-only p (slice_set v.lists.current k (entries.Float f)) (slice_set (floats_of p v.lists) k f) (marks_of p v) v
