-- What is passed and what is left of a list; no penalty among what is passed forces a break.
use Rattle.std.proofs.Common.{◌≡◌, refl, sym, ◌∙◌, ap, subst, ℕ, zero, suc, ℤ, Bool, true, false, List, [], ◌∷◌, ◌++◌, take, drop, Option, Some, None, arith, append-nil}
use Rattle.std.specs.Prelude.{int_lt, int_le, if◌then◌else◌}
use Rattle.std.specs.List.{AllByRecursion}
use Rattle.std.proofs.lemmas.Int.{ints}
use Rattle.std.proofs.lemmas.Bool.{or_parts}
use Rattle.tb_scaled.specs.Scaled.{inf_penalty, eject_penalty, awful_bad}
use Rattle.tb_node.specs.declared.Act.{Act}
use Rattle.tb_node.specs.PlainNodes.{Matter, hbox, rule, skip, kerned, pen, mark, note, whatsit, Leaf, Inserted, PlainKind, plain, ins, act, PlainNode, without_acts, on_line}
use Rattle.tb_break.specs.Best.{Breakpoint, is_stop}
use Rattle.tb_break.specs.PageTop.{pruned_nodes, pruned_leaves}
use Rattle.tb_insert.specs.Terms.{Terms}
use Rattle.tb_insert.specs.Account.{Labelled, Label, whole, split, late}
use Rattle.tb_builder.specs.FiredPages.{spent_kind, with_spent_break, unless_empty, held_of, held_insertions}
use Rattle.tb_builder.proofs.FiredPages.PageWeights.{IsOnce, OfClass, AllOfClass, LabelsOfClass}
use Rattle.tb_builder.specs.Reach.{Reached, acted, tried, Reach, also_reached, page_place, stopped_at, reach_at_place, reach_at, reach_node, reach_from}

-- no forced break
abbrev pub Calm : PlainKind → Type 0
Calm (plain (hbox w h d)) = Unit {0}
Calm (plain (rule name h d)) = Unit {0}
Calm (plain (skip g)) = Unit {0}
Calm (plain (kerned w)) = Unit {0}
Calm (plain (pen p)) = int_le p eject_penalty ≡ false
Calm (plain (mark name)) = Unit {0}
Calm (plain (note name)) = Unit {0}
Calm (plain whatsit) = Unit {0}
Calm (ins i) = Unit {0}
Calm (act a) = Unit {0}

abbrev pub AllCalm : List PlainNode → Type 0
AllCalm = AllByRecursion (λ n. Calm n.kind)

-- the acts of a list, and those among what is reached
abbrev pub kind_acts : PlainKind → List Act
kind_acts (plain m) = []
kind_acts (ins i) = []
kind_acts (act a) = a ∷ []

abbrev pub acts_of : List PlainNode → List Act
acts_of [] = []
acts_of (n ∷ ns) = kind_acts n.kind ++ acts_of ns

abbrev pub acted_of : List Reached → List Act
acted_of [] = []
acted_of (acted a ∷ rs) = a ∷ acted_of rs
acted_of (tried line b ∷ rs) = acted_of rs

-- a node that is no act, and a list that does not begin with one
abbrev pub ActFree : PlainKind → Type 0
ActFree (plain m) = Unit {0}
ActFree (ins i) = Unit {0}
ActFree (act a) = ⊥

abbrev pub FirstFree : List PlainNode → Type 0
FirstFree [] = Unit {0}
FirstFree (n ∷ ns) = ActFree n.kind

abbrev pub AllFree : List PlainNode → Type 0
AllFree = AllByRecursion (λ n. ActFree n.kind)

more-free : (l : ℕ) (k : PlainKind) (ns : List PlainNode) → AllFree (without_acts ns) → AllFree (without_acts (record { line = l; kind = k } ∷ ns))
more-free l (plain m) ns h = (tt, h)
more-free l (ins i) ns h = (tt, h)
more-free l (act a) ns h = h

pub acts-free : (ns : List PlainNode) → AllFree (without_acts ns)
acts-free [] = tt
acts-free (n ∷ ns) = more-free n.line n.kind ns (acts-free ns)

-- the rest is a front, which is passed, and what is beyond it
pub record CutAt (before rest : List PlainNode) (w : Reach) : Type 0 where
  pub front : List PlainNode
  pub whole : rest ≡ front ++ w.beyond
  pub passed : w.passed ≡ before ++ without_acts front
  pub calm : AllCalm front
  pub acts : acted_of w.reached ≡ acts_of front
  pub ended : w.fires ≡ false → w.beyond ≡ []
  pub first : FirstFree w.beyond

append-assoc : {X : Type 0} (xs ys zs : List X) → (xs ++ ys) ++ zs ≡ xs ++ (ys ++ zs)
append-assoc [] ys zs = refl
append-assoc (x ∷ xs) ys zs = ap (λ l. x ∷ l) (append-assoc xs ys zs)

module _ (limit : ℤ) (terms : List PlainNode → Terms) where
  -- a node that is passed is the first of the front
  pass : (before : List PlainNode) (l : ℕ) (m : Matter) (rest : List PlainNode) (w : Reach) → Calm (plain m) → CutAt (before ++ record { line = l; kind = plain m } ∷ []) rest w → CutAt before (record { line = l; kind = plain m } ∷ rest) w
  pass before l m rest w c h = record {
    front = record { line = l; kind = plain m } ∷ h.front;
    whole = ap (λ ns. record { line = l; kind = plain m } ∷ ns) h.whole;
    passed = h.passed ∙ append-assoc before (record { line = l; kind = plain m } ∷ []) (without_acts h.front);
    calm = (c, h.calm);
    acts = h.acts;
    ended = h.ended;
    first = h.first;
  }

  place-cut : (before : List PlainNode) (l : ℕ) (m : Matter) (rest : List PlainNode) (w : Reach) (b : Breakpoint) → (is_stop b ≡ false → Calm (plain m)) → CutAt (before ++ record { line = l; kind = plain m } ∷ []) rest w → CutAt before (record { line = l; kind = plain m } ∷ rest) (reach_at_place before (record { line = l; kind = plain m }) rest w b)
  place-cut before l m rest w b c h = by_stop (is_stop b) refl
    where
      by_stop : (t : Bool) → is_stop b ≡ t → CutAt before (record { line = l; kind = plain m } ∷ rest) (if t then stopped_at before (record { line = l; kind = plain m }) rest b else also_reached (tried l b) w)
      by_stop true e = record { front = []; whole = refl; passed = sym (append-nil before); calm = tt; acts = refl; ended = λ k. let no : ⊥ = grind (arith, k) in absurd no; first = tt }
      by_stop false e = record {
        front = record { line = l; kind = plain m } ∷ h.front;
        whole = ap (λ ns. record { line = l; kind = plain m } ∷ ns) h.whole;
        passed = h.passed ∙ append-assoc before (record { line = l; kind = plain m } ∷ []) (without_acts h.front);
        calm = (c e, h.calm);
        acts = h.acts;
        ended = h.ended;
        first = h.first;
      }

  at-cut : (before : List PlainNode) (l : ℕ) (m : Matter) (rest : List PlainNode) (w : Reach) (o : Option ℤ) → Calm (plain m) → CutAt (before ++ record { line = l; kind = plain m } ∷ []) rest w → CutAt before (record { line = l; kind = plain m } ∷ rest) (reach_at limit terms before (record { line = l; kind = plain m }) rest w o)
  at-cut before l m rest w None c h = pass before l m rest w c h
  at-cut before l m rest w (Some p) c h = place-cut before l m rest w (page_place limit terms before p) (λ e. c) h

  pen-cut : (before : List PlainNode) (l : ℕ) (p : ℤ) (rest : List PlainNode) (w : Reach) (t : Bool) → int_lt p inf_penalty ≡ t → CutAt (before ++ record { line = l; kind = plain (pen p) } ∷ []) rest w → CutAt before (record { line = l; kind = plain (pen p) } ∷ rest) (reach_at limit terms before (record { line = l; kind = plain (pen p) }) rest w (if t then Some p else None))
  pen-cut before l p rest w true e h = place-cut before l (pen p) rest w (page_place limit terms before p) (λ k. (or_parts (int_le awful_bad (page_place limit terms before p).cost) (int_le p eject_penalty) k).1) h
  pen-cut before l p rest w false e h = pass before l (pen p) rest w (high p e) h
    where
      high : (p : ℤ) → int_lt p inf_penalty ≡ false → int_le p eject_penalty ≡ false
      high p e = grind (arith, ints, e)

  node-cut : (before : List PlainNode) (l : ℕ) (k : PlainKind) (rest : List PlainNode) (w : Reach) → CutAt (before ++ without_acts (record { line = l; kind = k } ∷ [])) rest w → CutAt before (record { line = l; kind = k } ∷ rest) (reach_node limit terms before (record { line = l; kind = k }) rest w k)
  node-cut before l (plain (skip g)) rest w h = at-cut before l (skip g) rest w _ tt h
  node-cut before l (plain (kerned g)) rest w h = at-cut before l (kerned g) rest w _ tt h
  node-cut before l (plain (pen p)) rest w h = pen-cut before l p rest w (int_lt p inf_penalty) refl h
  node-cut before l (plain k) rest w h = at-cut before l k rest w None tt h
  node-cut before l (ins i) rest w h = record {
    front = record { line = l; kind = ins i } ∷ h.front;
    whole = ap (λ ns. record { line = l; kind = ins i } ∷ ns) h.whole;
    passed = h.passed ∙ append-assoc before (record { line = l; kind = ins i } ∷ []) (without_acts h.front);
    calm = (tt, h.calm);
    acts = h.acts;
    ended = h.ended;
    first = h.first;
  }
  node-cut before l (act a) rest w h = record {
    front = record { line = l; kind = act a } ∷ h.front;
    whole = ap (λ ns. record { line = l; kind = act a } ∷ ns) h.whole;
    passed = h.passed ∙ ap (λ ns. ns ++ without_acts h.front) (append-nil before);
    calm = (tt, h.calm);
    acts = ap (λ l. a ∷ l) h.acts;
    ended = h.ended;
    first = h.first;
  }

  pub reach-cut : (before rest : List PlainNode) → CutAt before rest (reach_from limit terms before rest)
  reach-cut before [] = record { front = []; whole = refl; passed = sym (append-nil before); calm = tt; acts = refl; ended = λ k. refl; first = tt }
  reach-cut before (n ∷ rest) = node-cut before n.line n.kind rest (reach_from limit terms (before ++ without_acts (n ∷ [])) rest) (reach-cut (before ++ without_acts (n ∷ [])) rest)

-- ---- the classes of insertions, before and after a cut

pub class-left : (k : List ℕ) (xs ys : List PlainNode) → AllOfClass k (xs ++ ys) → AllOfClass k xs
class-left k [] ys h = tt
class-left k (x ∷ xs) ys h = (h.0, class-left k xs ys h.1)

pub class-right : (k : List ℕ) (xs ys : List PlainNode) → AllOfClass k (xs ++ ys) → AllOfClass k ys
class-right k [] ys h = h
class-right k (x ∷ xs) ys h = class-right k xs ys h.1

pub class-both : (k : List ℕ) (xs ys : List PlainNode) → AllOfClass k xs → AllOfClass k ys → AllOfClass k (xs ++ ys)
class-both k [] ys a b = b
class-both k (x ∷ xs) ys a b = (a.0, class-both k xs ys a.1 b)

pub class-take : (k : List ℕ) (i : ℕ) (xs : List PlainNode) → AllOfClass k xs → AllOfClass k (take i xs)
class-take k zero xs h = tt
class-take k (suc i) [] h = tt
class-take k (suc i) (x ∷ xs) h = (h.0, class-take k i xs h.1)

pub class-drop : (k : List ℕ) (i : ℕ) (xs : List PlainNode) → AllOfClass k xs → AllOfClass k (drop i xs)
class-drop k zero xs h = h
class-drop k (suc i) [] h = tt
class-drop k (suc i) (x ∷ xs) h = class-drop k i xs h.1

acts-more : (k : List ℕ) (l : ℕ) (n : PlainKind) (ns : List PlainNode) → OfClass k n → AllOfClass k (without_acts ns) → AllOfClass k (without_acts (record { line = l; kind = n } ∷ ns))
acts-more k l (plain m) ns c h = (c, h)
acts-more k l (ins i) ns c h = (c, h)
acts-more k l (act a) ns c h = h

class-acts : (k : List ℕ) (ns : List PlainNode) → AllOfClass k ns → AllOfClass k (without_acts ns)
class-acts k [] h = tt
class-acts k (n ∷ ns) h = acts-more k n.line n.kind ns h.0 (class-acts k ns h.1)

prune-more : (k : List ℕ) (l : ℕ) (t : ℤ) (n : PlainKind) (ns : List PlainNode) → OfClass k n → AllOfClass k ns → AllOfClass k (pruned_nodes t ns) → AllOfClass k (pruned_nodes t (record { line = l; kind = n } ∷ ns))
prune-more k l t (plain (hbox w a d)) ns c g h = (tt, (tt, g))
prune-more k l t (plain (rule w a d)) ns c g h = (tt, (tt, g))
prune-more k l t (plain (skip g)) ns c i h = h
prune-more k l t (plain (kerned g)) ns c i h = h
prune-more k l t (plain (pen g)) ns c i h = h
prune-more k l t (ins x) ns c i h = (c, h)
prune-more k l t n ns c g h = (tt, h)

pub class-pruned : (k : List ℕ) (t : ℤ) (ns : List PlainNode) → AllOfClass k ns → AllOfClass k (pruned_nodes t ns)
class-pruned k t [] h = tt
class-pruned k t (n ∷ ns) h = prune-more k n.line t n.kind ns h.0 h.1 (class-pruned k t ns h.1)

pub spent-class : (k : List ℕ) (ns : List PlainNode) → AllOfClass k ns → AllOfClass k (with_spent_break ns)
spent-class k [] h = tt
spent-class k (n ∷ ns) h = (by_kind n.kind h.0, h.1)
  where
    by_kind : (n : PlainKind) → OfClass k n → OfClass k (spent_kind n)
    by_kind (plain (hbox w a d)) h = tt
    by_kind (ins i) h = h
    by_kind n h = tt

-- if the insertions of a list are of these classes, so are those before a cut, and those of the rest
pub cut-class : (k : List ℕ) (i : ℕ) (ns : List PlainNode) (w : Reach) → CutAt [] ns w → AllOfClass k ns → AllOfClass k (take i w.passed) × AllOfClass k (with_spent_break (drop i w.passed ++ w.beyond))
cut-class k i ns w h a =
    let b : AllOfClass k (h.front ++ w.beyond) = subst (AllOfClass k) h.whole a in
    let c : AllOfClass k w.passed = subst (AllOfClass k) (sym h.passed) (class-acts k h.front (class-left k h.front w.beyond b)) in
    (class-take k i w.passed c, spent-class k (drop i w.passed ++ w.beyond) (class-both k (drop i w.passed) w.beyond (class-drop k i w.passed c) (class-right k h.front w.beyond b)))

-- so are those that are passed, and those beyond
pub class-passed : (k : List ℕ) (ns : List PlainNode) (w : Reach) → CutAt [] ns w → AllOfClass k ns → AllOfClass k w.passed × AllOfClass k w.beyond
class-passed k ns w h a =
    let b : AllOfClass k (h.front ++ w.beyond) = subst (AllOfClass k) h.whole a in
    (subst (AllOfClass k) (sym h.passed) (class-acts k h.front (class-left k h.front w.beyond b)), class-right k h.front w.beyond b)

-- all that is held is insertions of the classes
abbrev pub IsIns : List ℕ → PlainKind → Type 0
IsIns k (plain m) = ⊥
IsIns k (ins i) = IsOnce k i.class
IsIns k (act a) = ⊥

abbrev pub AllIns : List ℕ → List PlainNode → Type 0
AllIns k = AllByRecursion (λ n. IsIns k n.kind)

ins-both : (k : List ℕ) (xs ys : List PlainNode) → AllIns k xs → AllIns k ys → AllIns k (xs ++ ys)
ins-both k [] ys a b = b
ins-both k (x ∷ xs) ys a b = (a.0, ins-both k xs ys a.1 b)

unless_empty-ins : (k : List ℕ) (l : ℕ) (i : Inserted) (ns : List Leaf) → IsOnce k i.class → AllIns k (on_line l (unless_empty i ns))
unless_empty-ins k l i [] e = tt
unless_empty-ins k l i (n ∷ ns) e = (e, tt)

held_of-ins : (k : List ℕ) (l : ℕ) (t : Label) (i : Inserted) → IsOnce k i.class → AllIns k (on_line l (held_of t i))
held_of-ins k l whole i e = tt
held_of-ins k l (split f) i e = unless_empty-ins k l i (pruned_leaves i.split_top (drop f.index i.inner)) e
held_of-ins k l late i e = (e, tt)

pub held-ins : (k : List ℕ) (ls : List Labelled) → LabelsOfClass k ls → AllIns k (held_insertions ls)
held-ins k [] h = tt
held-ins k (l ∷ ls) h = ins-both k (on_line l.line (held_of l.label l.inserted)) (held_insertions ls) (held_of-ins k l.line l.label l.inserted h.0) (held-ins k ls h.1)

ins-class : (k : List ℕ) (n : PlainKind) → IsIns k n → OfClass k n
ins-class k (plain m) h = tt
ins-class k (ins i) h = h
ins-class k (act a) h = tt

pub inserted-class : (k : List ℕ) (ns : List PlainNode) → AllIns k ns → AllOfClass k ns
inserted-class k [] h = tt
inserted-class k (n ∷ ns) h = (ins-class k n.kind h.0, inserted-class k ns h.1)
