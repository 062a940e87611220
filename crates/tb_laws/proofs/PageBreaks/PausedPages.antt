-- If a box and a plain forced break wait before any other forced break, the next firing is an ordinary one.
use Rattle.std.proofs.Common.{◌≡◌, refl, sym, ◌∙◌, ap, subst, ℕ, zero, suc, ℤ, true, false, List, [], ◌∷◌, ◌++◌, drop, arith}
use Rattle.std.specs.Prelude.{int_le}
use Rattle.std.proofs.lemmas.Int.{ints}
use Rattle.std.proofs.lemmas.List.{append_assoc}
use Rattle.tb_scaled.specs.Scaled.{eject_penalty}
use Rattle.tb_node.specs.declared.What.{What}
use Rattle.tb_node.specs.PlainNodes.{hbox, rule, skip, pen, mark, note, whatsit, PlainKind, plain, ins, act, PlainNode, without_acts}
use Rattle.tb_break.specs.PageTop.{pruned_nodes, top_glue}
use Rattle.tb_builder.specs.Reach.{Reach}
use Rattle.tb_builder.specs.FiredPages.{penalty_at}
use Rattle.tb_builder.proofs.Cutting.CutLemmas.{Calm, AllCalm, CutAt}

-- calm nodes, a box, calm nodes and a plain forced break
pub record Paused (ns : List PlainNode) : Type 0 where
  pub front : List PlainNode
  pub box_line : ℕ
  pub what : What
  pub height : ℤ
  pub depth : ℤ
  pub behind : List PlainNode
  pub line : ℕ
  pub tail : List PlainNode
  pub whole : ns ≡ front ++ record { line = box_line; kind = plain (hbox what height depth) } ∷ behind ++ record { line = line; kind = plain (pen eject_penalty) } ∷ tail
  pub calm : AllCalm front
  pub calm_behind : AllCalm behind

-- ---- the top of the page

-- the list is calm up to a break before this tail
record CalmUpTo (rest ns : List PlainNode) : Type 0 where
  before : List PlainNode
  whole : ns ≡ before ++ rest
  calm : AllCalm before

calm-more : (rest ns : List PlainNode) (n : PlainNode) → Calm n.kind → CalmUpTo rest ns → CalmUpTo rest (n ∷ ns)
calm-more rest ns n c h = record { before = n ∷ h.before; whole = ap (λ xs. n ∷ xs) h.whole; calm = (c, h.calm) }

pruned-kind : (t : ℤ) (rest ns : List PlainNode) → CalmUpTo rest ns → CalmUpTo rest (pruned_nodes t ns) → (l : ℕ) (k : PlainKind) → Calm k → CalmUpTo rest (pruned_nodes t (record { line = l; kind = k } ∷ ns))
pruned-kind t rest ns u h l (plain (hbox w x d)) c = calm-more rest (record { line = l; kind = plain (hbox w x d) } ∷ ns) (record { line = l; kind = plain (skip (top_glue t x)) }) tt (calm-more rest ns (record { line = l; kind = plain (hbox w x d) }) tt u)
pruned-kind t rest ns u h l (plain (rule name x d)) c = calm-more rest (record { line = l; kind = plain (rule name x d) } ∷ ns) (record { line = l; kind = plain (skip (top_glue t x)) }) tt (calm-more rest ns (record { line = l; kind = plain (rule name x d) }) tt u)
pruned-kind t rest ns u h l (plain (mark name)) c = calm-more rest (pruned_nodes t ns) (record { line = l; kind = plain (mark name) }) tt h
pruned-kind t rest ns u h l (plain (note name)) c = calm-more rest (pruned_nodes t ns) (record { line = l; kind = plain (note name) }) tt h
pruned-kind t rest ns u h l (plain whatsit) c = calm-more rest (pruned_nodes t ns) (record { line = l; kind = plain whatsit }) tt h
pruned-kind t rest ns u h l (ins i) c = calm-more rest (pruned_nodes t ns) (record { line = l; kind = ins i }) tt h
pruned-kind t rest ns u h l (act a) c = calm-more rest (pruned_nodes t ns) (record { line = l; kind = act a }) tt h
pruned-kind t rest ns u h l k c = h

calm-whole : (xs rest : List PlainNode) → AllCalm xs → CalmUpTo rest (xs ++ rest)
calm-whole xs rest c = record { before = xs; whole = refl; calm = c }

pub calm-both : (xs ys : List PlainNode) → AllCalm xs → AllCalm ys → AllCalm (xs ++ ys)
calm-both [] ys a b = b
calm-both (x ∷ xs) ys a b = (a.0, calm-both xs ys a.1 b)

pruned-up-to : (t : ℤ) (rest front : List PlainNode) (n : PlainNode) (behind : List PlainNode) → CalmUpTo rest (pruned_nodes t (n ∷ behind ++ rest)) → Calm n.kind → AllCalm behind → AllCalm front → CalmUpTo rest (pruned_nodes t (front ++ (n ∷ behind ++ rest)))
pruned-up-to t rest [] n behind h a b c = h
pruned-up-to t rest (m ∷ front) n behind h a b c =
    pruned-kind t rest (front ++ (n ∷ behind ++ rest)) (subst (CalmUpTo rest) (append_assoc front (n ∷ behind) rest) (calm-whole (front ++ n ∷ behind) rest (calm-both front (n ∷ behind) c.1 (a, b)))) (pruned-up-to t rest front n behind h a b c.1) m.line m.kind c.0

-- ---- the break

-- the list begins with no forced break, or with a plain one
abbrev Begins : List PlainNode → Type 0
Begins ns = int_le eject_penalty (penalty_at ns) ≡ true

calm-pen : (p : ℤ) → int_le p eject_penalty ≡ false → int_le eject_penalty p ≡ true
calm-pen p h = grind (arith, ints, h)

calm-begins : (n : PlainNode) (ns : List PlainNode) → Calm n.kind → Begins (n ∷ ns)
calm-begins n ns c = at n.kind c
  where
    at : (k : PlainKind) → Calm k → Begins (record { line = n.line; kind = k } ∷ ns)
    at (plain (pen p)) c = calm-pen p c
    at k c = refl

abbrev head-of : PlainNode → List PlainNode → PlainNode
head-of d [] = d
head-of d (n ∷ ns) = n

abbrev tail-of : List PlainNode → List PlainNode
tail-of [] = []
tail-of (n ∷ ns) = ns

-- the list from the end of a calm front on begins so
beyond-begins : (ns front : List PlainNode) (line : ℕ) (tail beyond : List PlainNode) → ns ++ record { line = line; kind = plain (pen eject_penalty) } ∷ tail ≡ front ++ beyond → AllCalm ns → AllCalm front → Begins beyond
beyond-begins [] [] line tail beyond e c d = subst Begins e refl
beyond-begins (n ∷ ns) [] line tail beyond e c d = subst Begins e (calm-begins n (ns ++ record { line = line; kind = plain (pen eject_penalty) } ∷ tail) c.0)
beyond-begins [] (f ∷ front) line tail beyond e c d =
    let no : true ≡ false = subst (λ (m : PlainNode). Calm m.kind) (sym (ap (head-of f) e)) d.0 in cc
beyond-begins (n ∷ ns) (f ∷ front) line tail beyond e c d = beyond-begins ns front line tail beyond (ap tail-of e) c.1 d.1

front-begins : (k : ℕ) (xs ys : List PlainNode) → AllCalm xs → Begins ys → Begins (drop k xs ++ ys)
front-begins zero [] ys c b = b
front-begins zero (x ∷ xs) ys c b = calm-begins x (xs ++ ys) c.0
front-begins (suc k) [] ys c b = b
front-begins (suc k) (x ∷ xs) ys c b = front-begins k xs ys c.1 b

acts-kind : (l : ℕ) (k : PlainKind) (ns : List PlainNode) → Calm k → AllCalm (without_acts ns) → AllCalm (without_acts (record { line = l; kind = k } ∷ ns))
acts-kind l (plain m) ns c h = (c, h)
acts-kind l (ins i) ns c h = (c, h)
acts-kind l (act a) ns c h = h

pub calm-acts : (ns : List PlainNode) → AllCalm ns → AllCalm (without_acts ns)
calm-acts [] c = tt
calm-acts (n ∷ ns) c = acts-kind n.line n.kind ns c.0 (calm-acts ns c.1)

-- so at whatever place the page breaks, the penalty is that of an ordinary firing
pub paused-ordinary : (t : ℤ) (ns : List PlainNode) (w : Reach) (k : ℕ) → Paused ns → CutAt [] (pruned_nodes t ns) w → int_le eject_penalty (penalty_at (drop k w.passed ++ w.beyond)) ≡ true
paused-ordinary t ns w k h c = front-begins k w.passed w.beyond (subst AllCalm (sym c.passed) (calm-acts c.front c.calm)) (beyond-begins u.before c.front h.line h.tail w.beyond (sym u.whole ∙ c.whole) u.calm c.calm)
  where
    rest : List PlainNode
    rest = record { line = h.line; kind = plain (pen eject_penalty) } ∷ h.tail

    boxed : PlainNode
    boxed = record { line = h.box_line; kind = plain (hbox h.what h.height h.depth) }

    at_box : CalmUpTo rest (pruned_nodes t (boxed ∷ h.behind ++ rest))
    at_box = calm-more rest (boxed ∷ h.behind ++ rest) (record { line = h.box_line; kind = plain (skip (top_glue t h.height)) }) tt (calm-whole (boxed ∷ h.behind) rest (tt, h.calm_behind))

    u : CalmUpTo rest (pruned_nodes t ns)
    u = subst (λ (xs : List PlainNode). CalmUpTo rest (pruned_nodes t xs)) (sym (h.whole ∙ append_assoc h.front (boxed ∷ h.behind) rest)) (pruned-up-to t rest h.front boxed h.behind at_box tt h.calm_behind h.calm)
