-- The floats' lines of a class in the nodes that wait, when a page fires.
use Rattle.std.proofs.Common.{◌≡◌, refl, sym, ◌∙◌, ap, ℕ, zero, suc, ℤ, Bool, true, false, List, [], ◌∷◌, ◌++◌, take, drop, append_assoc, arith}
use Rattle.std.specs.Prelude.{int_lt}
use Rattle.std.specs.List.{AllByRecursion}
use Rattle.std.proofs.lemmas.Int.{ints}
use Rattle.std.proofs.lemmas.Bool.{both_ways}
use Rattle.tb_break.proofs.EachLemmas.{all-join}
use Rattle.tb_scaled.specs.Scaled.{eject_penalty}
use Rattle.tb_node.specs.declared.Act.{Act}
use Rattle.tb_node.specs.declared.Act.TheVariants as acts
use Rattle.tb_node.specs.PlainNodes.{hbox, rule, skip, kerned, pen, PlainKind, plain, ins, act, PlainNode, without_acts, without_insertions}
use Rattle.tb_break.specs.PageTop.{pruned_nodes}
use Rattle.tb_builder.specs.FiredPages.{penalty_at, spent_kind, with_spent_break}
use Rattle.tb_builder.proofs.Cutting.CutLemmas.{Calm, AllCalm, acts_of, IsIns, AllIns}
use Rattle.tb_laws.proofs.ClassesRise.ClassLines.{FloatKind, is_of, line_if, kind_lines, class_lines}

-- ---- the floats that are still to be taken

abbrev pub act_lines : FloatKind → Act → List ℕ
act_lines k (acts.Take f) = line_if (is_of k f.class f.line) f.line
act_lines k (acts.TakeMargin m) = []
act_lines k (acts.Suppress area) = []
act_lines k (acts.Page n) = []
act_lines k (acts.Head f) = line_if (is_of k f.class f.line) f.line
act_lines k (acts.Columns two) = []
act_lines k (acts.Set c) = []

abbrev pub acts_lines : FloatKind → List Act → List ℕ
acts_lines k [] = []
acts_lines k (a ∷ ds) = act_lines k a ++ acts_lines k ds

abbrev pub kind_takes : FloatKind → PlainKind → List ℕ
kind_takes k (plain m) = []
kind_takes k (ins i) = []
kind_takes k (act a) = act_lines k a

abbrev pub kind_deeds : PlainKind → List Act
kind_deeds (plain m) = []
kind_deeds (ins i) = []
kind_deeds (act a) = (a ∷ [])

abbrev pub take_lines : FloatKind → List PlainNode → List ℕ
take_lines k [] = []
take_lines k (n ∷ ns) = kind_takes k n.kind ++ take_lines k ns

abbrev pub deeds : List PlainNode → List Act
deeds [] = []
deeds (n ∷ ns) = kind_deeds n.kind ++ deeds ns

pub takes-append : (k : FloatKind) (xs ys : List PlainNode) → take_lines k (xs ++ ys) ≡ take_lines k xs ++ take_lines k ys
takes-append k [] ys = refl
takes-append k (x ∷ xs) ys = ap (λ l. kind_takes k x.kind ++ l) (takes-append k xs ys) ∙ sym (append_assoc (kind_takes k x.kind) (take_lines k xs) (take_lines k ys))

pub deeds-append : (xs ys : List PlainNode) → deeds (xs ++ ys) ≡ deeds xs ++ deeds ys
deeds-append [] ys = refl
deeds-append (x ∷ xs) ys = ap (λ l. kind_deeds x.kind ++ l) (deeds-append xs ys) ∙ sym (append_assoc (kind_deeds x.kind) (deeds xs) (deeds ys))

-- ---- the top of a page, and the break

node-pruned : (k : FloatKind) (t : ℤ) (ns : List PlainNode) → class_lines k (pruned_nodes t ns) ≡ class_lines k ns → (n : ℕ) (d : PlainKind) → class_lines k (pruned_nodes t (record { line = n; kind = d } ∷ ns)) ≡ kind_lines k d ++ class_lines k ns
node-pruned k t ns h n (plain (hbox w a d)) = refl
node-pruned k t ns h n (plain (rule name a d)) = refl
node-pruned k t ns h n d = h

pub pruned-lines : (k : FloatKind) (t : ℤ) (ns : List PlainNode) → class_lines k (pruned_nodes t ns) ≡ class_lines k ns
pruned-lines k t [] = refl
pruned-lines k t (n ∷ ns) = node-pruned k t ns (pruned-lines k t ns) n.line n.kind

take-pruned : (k : FloatKind) (t : ℤ) (ns : List PlainNode) → take_lines k (pruned_nodes t ns) ≡ take_lines k ns → (n : ℕ) (d : PlainKind) → take_lines k (pruned_nodes t (record { line = n; kind = d } ∷ ns)) ≡ kind_takes k d ++ take_lines k ns
take-pruned k t ns h n (plain (hbox w a d)) = refl
take-pruned k t ns h n (plain (rule name a d)) = refl
take-pruned k t ns h n (act a) = ap (λ l. act_lines k a ++ l) h
take-pruned k t ns h n d = h

deed-pruned : (t : ℤ) (ns : List PlainNode) → deeds (pruned_nodes t ns) ≡ deeds ns → (n : ℕ) (d : PlainKind) → deeds (pruned_nodes t (record { line = n; kind = d } ∷ ns)) ≡ kind_deeds d ++ deeds ns
deed-pruned t ns h n (plain (hbox w a d)) = refl
deed-pruned t ns h n (plain (rule name a d)) = refl
deed-pruned t ns h n (act a) = ap (λ l. (a ∷ []) ++ l) h
deed-pruned t ns h n d = h

pub pruned-takes : (k : FloatKind) (t : ℤ) (ns : List PlainNode) → take_lines k (pruned_nodes t ns) ≡ take_lines k ns
pruned-takes k t [] = refl
pruned-takes k t (n ∷ ns) = take-pruned k t ns (pruned-takes k t ns) n.line n.kind

pub pruned-deeds : (t : ℤ) (ns : List PlainNode) → deeds (pruned_nodes t ns) ≡ deeds ns
pruned-deeds t [] = refl
pruned-deeds t (n ∷ ns) = deed-pruned t ns (pruned-deeds t ns) n.line n.kind

-- a break that is spent changes a penalty alone
spent-cases : (P : PlainKind → PlainKind → Type 0) → ((p : ℤ) → P (spent_kind (plain (pen p))) (plain (pen p))) → ((d : PlainKind) → P d d) → (d : PlainKind) → P (spent_kind d) d
spent-cases P spent same (plain (pen p)) = spent p
spent-cases P spent same d = same d

-- so a list by kinds is the same, if it is the same for all penalties
spent-same : {X : Type 0} (f : PlainKind → List X) → ((p : ℤ) → f (spent_kind (plain (pen p))) ≡ f (plain (pen p))) → (ls : List X) (d : PlainKind) → f (spent_kind d) ++ ls ≡ f d ++ ls
spent-same f spent ls = spent-cases (λ a b. f a ++ ls ≡ f b ++ ls) (λ p. ap (λ l. l ++ ls) (spent p)) (λ d. refl)

pub spent-lines : (k : FloatKind) (ns : List PlainNode) → class_lines k (with_spent_break ns) ≡ class_lines k ns
spent-lines k [] = refl
spent-lines k (n ∷ ns) = spent-same (kind_lines k) (λ p. refl) (class_lines k ns) n.kind

pub spent-takes : (k : FloatKind) (ns : List PlainNode) → take_lines k (with_spent_break ns) ≡ take_lines k ns
spent-takes k [] = refl
spent-takes k (n ∷ ns) = spent-same (kind_takes k) (λ p. refl) (take_lines k ns) n.kind

pub spent-deeds : (ns : List PlainNode) → deeds (with_spent_break ns) ≡ deeds ns
spent-deeds [] = refl
spent-deeds (n ∷ ns) = spent-same kind_deeds (λ p. refl) (deeds ns) n.kind

-- ---- parts of a list

pub lines-split : (k : FloatKind) (i : ℕ) (ns : List PlainNode) → class_lines k (take i ns) ++ class_lines k (drop i ns) ≡ class_lines k ns
lines-split k zero ns = refl
lines-split k (suc i) [] = refl
lines-split k (suc i) (n ∷ ns) = append_assoc (kind_lines k n.kind) (class_lines k (take i ns)) (class_lines k (drop i ns)) ∙ ap (λ l. kind_lines k n.kind ++ l) (lines-split k i ns)

pub takes-split : (k : FloatKind) (i : ℕ) (ns : List PlainNode) → take_lines k (take i ns) ++ take_lines k (drop i ns) ≡ take_lines k ns
takes-split k zero ns = refl
takes-split k (suc i) [] = refl
takes-split k (suc i) (n ∷ ns) = append_assoc (kind_takes k n.kind) (take_lines k (take i ns)) (take_lines k (drop i ns)) ∙ ap (λ l. kind_takes k n.kind ++ l) (takes-split k i ns)

pub deeds-split : (i : ℕ) (ns : List PlainNode) → deeds (take i ns) ++ deeds (drop i ns) ≡ deeds ns
deeds-split zero ns = refl
deeds-split (suc i) [] = refl
deeds-split (suc i) (n ∷ ns) = append_assoc (kind_deeds n.kind) (deeds (take i ns)) (deeds (drop i ns)) ∙ ap (λ l. kind_deeds n.kind ++ l) (deeds-split i ns)

acts-lines-more : (k : FloatKind) (ns : List PlainNode) → class_lines k (without_acts ns) ≡ class_lines k ns → (l : ℕ) (d : PlainKind) → class_lines k (without_acts (record { line = l; kind = d } ∷ ns)) ≡ kind_lines k d ++ class_lines k ns
acts-lines-more k ns h l (plain m) = ap (λ x. kind_lines k (plain m) ++ x) h
acts-lines-more k ns h l (ins i) = h
acts-lines-more k ns h l (act a) = h

pub without-acts-lines : (k : FloatKind) (ns : List PlainNode) → class_lines k (without_acts ns) ≡ class_lines k ns
without-acts-lines k [] = refl
without-acts-lines k (n ∷ ns) = acts-lines-more k ns (without-acts-lines k ns) n.line n.kind

acts-takes-more : (k : FloatKind) (ns : List PlainNode) → take_lines k (without_acts ns) ≡ [] → (l : ℕ) (d : PlainKind) → take_lines k (without_acts (record { line = l; kind = d } ∷ ns)) ≡ []
acts-takes-more k ns h l (plain m) = h
acts-takes-more k ns h l d = h

acts-deeds-more : (ns : List PlainNode) → deeds (without_acts ns) ≡ [] → (l : ℕ) (d : PlainKind) → deeds (without_acts (record { line = l; kind = d } ∷ ns)) ≡ []
acts-deeds-more ns h l (plain m) = h
acts-deeds-more ns h l d = h

pub without-acts-takes : (k : FloatKind) (ns : List PlainNode) → take_lines k (without_acts ns) ≡ []
without-acts-takes k [] = refl
without-acts-takes k (n ∷ ns) = acts-takes-more k ns (without-acts-takes k ns) n.line n.kind

pub without-acts-deeds : (ns : List PlainNode) → deeds (without_acts ns) ≡ []
without-acts-deeds [] = refl
without-acts-deeds (n ∷ ns) = acts-deeds-more ns (without-acts-deeds ns) n.line n.kind

acts-of-more : (k : FloatKind) (ns : List PlainNode) → take_lines k ns ≡ acts_lines k (acts_of ns) → (l : ℕ) (d : PlainKind) → kind_takes k d ++ take_lines k ns ≡ acts_lines k (acts_of (record { line = l; kind = d } ∷ ns))
acts-of-more k ns h l (plain m) = h
acts-of-more k ns h l (ins i) = h
acts-of-more k ns h l (act a) = ap (λ x. act_lines k a ++ x) h

deeds-of-more : (ns : List PlainNode) → deeds ns ≡ (acts_of ns) → (l : ℕ) (d : PlainKind) → kind_deeds d ++ deeds ns ≡ (acts_of (record { line = l; kind = d } ∷ ns))
deeds-of-more ns h l (plain m) = h
deeds-of-more ns h l (ins i) = h
deeds-of-more ns h l (act a) = ap (λ x. (a ∷ []) ++ x) h

pub acts-of-lines : (k : FloatKind) (ns : List PlainNode) → take_lines k ns ≡ acts_lines k (acts_of ns)
acts-of-lines k [] = refl
acts-of-lines k (n ∷ ns) = acts-of-more k ns (acts-of-lines k ns) n.line n.kind

pub deeds-of : (ns : List PlainNode) → deeds ns ≡ (acts_of ns)
deeds-of [] = refl
deeds-of (n ∷ ns) = deeds-of-more ns (deeds-of ns) n.line n.kind

insertions-lines-more : (k : FloatKind) (ns : List PlainNode) → class_lines k (without_insertions ns) ≡ class_lines k ns → (l : ℕ) (d : PlainKind) → class_lines k (without_insertions (record { line = l; kind = d } ∷ ns)) ≡ kind_lines k d ++ class_lines k ns
insertions-lines-more k ns h l (plain m) = ap (λ x. kind_lines k (plain m) ++ x) h
insertions-lines-more k ns h l (ins i) = h
insertions-lines-more k ns h l (act a) = h

pub without-insertions-lines : (k : FloatKind) (ns : List PlainNode) → class_lines k (without_insertions ns) ≡ class_lines k ns
without-insertions-lines k [] = refl
without-insertions-lines k (n ∷ ns) = insertions-lines-more k ns (without-insertions-lines k ns) n.line n.kind

takes-insertions-more : (k : FloatKind) (ns : List PlainNode) → take_lines k (without_insertions ns) ≡ take_lines k ns → (l : ℕ) (d : PlainKind) → take_lines k (without_insertions (record { line = l; kind = d } ∷ ns)) ≡ kind_takes k d ++ take_lines k ns
takes-insertions-more k ns h l (plain m) = h
takes-insertions-more k ns h l (ins i) = h
takes-insertions-more k ns h l (act a) = ap (λ x. act_lines k a ++ x) h

deeds-insertions-more : (ns : List PlainNode) → deeds (without_insertions ns) ≡ deeds ns → (l : ℕ) (d : PlainKind) → deeds (without_insertions (record { line = l; kind = d } ∷ ns)) ≡ kind_deeds d ++ deeds ns
deeds-insertions-more ns h l (plain m) = h
deeds-insertions-more ns h l (ins i) = h
deeds-insertions-more ns h l (act a) = ap (λ x. (a ∷ []) ++ x) h

pub without-insertions-takes : (k : FloatKind) (ns : List PlainNode) → take_lines k (without_insertions ns) ≡ take_lines k ns
without-insertions-takes k [] = refl
without-insertions-takes k (n ∷ ns) = takes-insertions-more k ns (without-insertions-takes k ns) n.line n.kind

pub without-insertions-deeds : (ns : List PlainNode) → deeds (without_insertions ns) ≡ deeds ns
without-insertions-deeds [] = refl
without-insertions-deeds (n ∷ ns) = deeds-insertions-more ns (without-insertions-deeds ns) n.line n.kind

-- what is held are insertions, which have no float's box and no act
pub ins-lines : (k : FloatKind) (c : List ℕ) (ns : List PlainNode) → AllIns c ns → class_lines k ns ≡ []
ins-lines k c [] h = refl
ins-lines k c (n ∷ ns) h = ap (λ l. l ++ class_lines k ns) (by_kind n.kind h.0) ∙ ins-lines k c ns h.1
  where
    by_kind : (d : PlainKind) → IsIns c d → kind_lines k d ≡ []
    by_kind (plain m) i = absurd i
    by_kind (ins x) i = refl
    by_kind (act a) i = absurd i

pub ins-takes : (k : FloatKind) (c : List ℕ) (ns : List PlainNode) → AllIns c ns → take_lines k ns ≡ []
ins-takes k c [] h = refl
ins-takes k c (n ∷ ns) h = ap (λ l. l ++ take_lines k ns) (by_kind n.kind h.0) ∙ ins-takes k c ns h.1
  where
    by_kind : (d : PlainKind) → IsIns c d → kind_takes k d ≡ []
    by_kind (plain m) i = absurd i
    by_kind (ins x) i = refl
    by_kind (act a) i = absurd i

pub ins-deeds : (c : List ℕ) (ns : List PlainNode) → AllIns c ns → deeds ns ≡ []
ins-deeds c [] h = refl
ins-deeds c (n ∷ ns) h = ap (λ l. l ++ deeds ns) (by_kind n.kind h.0) ∙ ins-deeds c ns h.1
  where
    by_kind : (d : PlainKind) → IsIns c d → kind_deeds d ≡ []
    by_kind (plain m) i = absurd i
    by_kind (ins x) i = refl
    by_kind (act a) i = absurd i

-- ---- floats after the ends of pages at which floats are served or cleared

-- a penalty below that of a page's end
abbrev pub is_ending : PlainKind → Bool
is_ending (plain (pen q)) = int_lt q eject_penalty
is_ending _ = false

-- after such a penalty there is no float's box of the class
abbrev pub AreEarly : FloatKind → List PlainNode → Type 0
AreEarly k [] = Unit {0}
AreEarly k (n ∷ ns) = (is_ending n.kind ≡ true → class_lines k ns ≡ []) × AreEarly k ns

-- no node is such a penalty
abbrev pub AreEndless : List PlainNode → Type 0
AreEndless = AllByRecursion (λ n. is_ending n.kind ≡ false)

pub append-none : {X : Type 0} (xs ys : List X) → xs ++ ys ≡ [] → ys ≡ []
append-none [] ys e = e
append-none (x ∷ xs) ys e = cc

pub none-front : {X : Type 0} (xs ys : List X) → xs ++ ys ≡ [] → xs ≡ []
none-front [] ys e = refl
none-front (x ∷ xs) ys e = cc

pub early-none : (k : FloatKind) (ns : List PlainNode) → class_lines k ns ≡ [] → AreEarly k ns
early-none k [] e = tt
early-none k (n ∷ ns) e = let h = append-none (kind_lines k n.kind) (class_lines k ns) e in (λ x. h, early-none k ns h)

pub early-back : (k : FloatKind) (xs ys : List PlainNode) → AreEarly k (xs ++ ys) → AreEarly k ys
early-back k [] ys h = h
early-back k (x ∷ xs) ys h = early-back k xs ys h.1

pub early-join : (k : FloatKind) (xs ys : List PlainNode) → AreEndless xs → AreEarly k ys → AreEarly k (xs ++ ys)
early-join k [] ys e h = h
early-join k (x ∷ xs) ys e h = (λ t. absurd (both_ways (is_ending x.kind) e.0 t), early-join k xs ys e.1 h)

early-pruned-more : (k : FloatKind) (t : ℤ) (ns : List PlainNode) → AreEarly k ns → AreEarly k (pruned_nodes t ns) → (l : ℕ) (d : PlainKind) → (is_ending d ≡ true → class_lines k ns ≡ []) → AreEarly k (pruned_nodes t (record { line = l; kind = d } ∷ ns))
early-pruned-more k t ns e h l (plain (hbox w a d)) i = (λ x. absurd (both_ways false refl x), (λ x. absurd (both_ways false refl x), e))
early-pruned-more k t ns e h l (plain (rule w a d)) i = (λ x. absurd (both_ways false refl x), (λ x. absurd (both_ways false refl x), e))
early-pruned-more k t ns e h l (plain (skip g)) i = h
early-pruned-more k t ns e h l (plain (kerned g)) i = h
early-pruned-more k t ns e h l (plain (pen g)) i = h
early-pruned-more k t ns e h l d i = (λ x. absurd (both_ways false refl x), h)

pub early-pruned : (k : FloatKind) (t : ℤ) (ns : List PlainNode) → AreEarly k ns → AreEarly k (pruned_nodes t ns)
early-pruned k t [] h = tt
early-pruned k t (n ∷ ns) h = early-pruned-more k t ns h.1 (early-pruned k t ns h.1) n.line n.kind h.0

-- if the break is such a penalty, no float's box of the class is left
pub ended-lines : (k : FloatKind) (ns : List PlainNode) → AreEarly k ns → int_lt (penalty_at ns) eject_penalty ≡ true → class_lines k (with_spent_break ns) ≡ []
ended-lines k [] h e = refl
ended-lines k (n ∷ ns) h e = by_kind n.line n.kind h.0 e
  where
    by_kind : (l : ℕ) (d : PlainKind) → (is_ending d ≡ true → class_lines k ns ≡ []) → int_lt (penalty_at (record { line = l; kind = d } ∷ ns)) eject_penalty ≡ true → class_lines k (with_spent_break (record { line = l; kind = d } ∷ ns)) ≡ []
    by_kind l (plain (pen p)) h e = h e
    by_kind l d h e = absurd (both_ways false refl e)

pub early-spent : (k : FloatKind) (ns : List PlainNode) → AreEarly k ns → AreEarly k (with_spent_break ns)
early-spent k [] h = tt
early-spent k (n ∷ ns) h = (spent-cases (λ a b. (is_ending b ≡ true → class_lines k ns ≡ []) → is_ending a ≡ true → class_lines k ns ≡ []) (λ p g e. absurd (both_ways false refl e)) (λ d g. g) n.kind h.0, h.1)

acts-endless-more : (ns : List PlainNode) → AreEndless (without_acts ns) → (l : ℕ) (d : PlainKind) → Calm d → AreEndless (without_acts (record { line = l; kind = d } ∷ ns))
acts-endless-more ns h l (plain (pen p)) c = (grind (arith, ints, c), h)
acts-endless-more ns h l (act a) c = h
acts-endless-more ns h l d c = (refl, h)

-- a calm list has no such penalty
pub calm-endless : (ns : List PlainNode) → AllCalm ns → AreEndless (without_acts ns)
calm-endless [] h = tt
calm-endless (n ∷ ns) h = acts-endless-more ns (calm-endless ns h.1) n.line n.kind h.0

pub endless-take : (i : ℕ) (ns : List PlainNode) → AreEndless ns → AreEndless (take i ns)
endless-take zero ns h = tt
endless-take (suc i) [] h = tt
endless-take (suc i) (n ∷ ns) h = (h.0, endless-take i ns h.1)

pub endless-drop : (i : ℕ) (ns : List PlainNode) → AreEndless ns → AreEndless (drop i ns)
endless-drop zero ns h = h
endless-drop (suc i) [] h = tt
endless-drop (suc i) (n ∷ ns) h = endless-drop i ns h.1

endless-insertions-more : (ns : List PlainNode) → AreEndless (without_insertions ns) → (l : ℕ) (d : PlainKind) → is_ending d ≡ false → AreEndless (without_insertions (record { line = l; kind = d } ∷ ns))
endless-insertions-more ns h l (plain m) e = (e, h)
endless-insertions-more ns h l (ins i) e = h
endless-insertions-more ns h l (act a) e = (e, h)

pub endless-insertions : (ns : List PlainNode) → AreEndless ns → AreEndless (without_insertions ns)
endless-insertions [] h = tt
endless-insertions (n ∷ ns) h = endless-insertions-more ns (endless-insertions ns h.1) n.line n.kind h.0

pub endless-join : (xs ys : List PlainNode) → AreEndless xs → AreEndless ys → AreEndless (xs ++ ys)
endless-join xs ys h k = all-join (λ n. is_ending n.kind ≡ false) xs ys h k

pub ins-endless : (c : List ℕ) (ns : List PlainNode) → AllIns c ns → AreEndless ns
ins-endless c [] h = tt
ins-endless c (n ∷ ns) h = (by_kind n.kind h.0, ins-endless c ns h.1)
  where
    by_kind : (d : PlainKind) → IsIns c d → is_ending d ≡ false
    by_kind (plain m) i = absurd i
    by_kind (ins x) i = refl
    by_kind (act a) i = absurd i
