-- The page of a clear is light but for one box of no size, so a blank column and a clear may come after its front.
use Rattle.std.proofs.Common.{◌≡◌, refl, sym, ◌∙◌, ap, subst, ℕ, zero, suc, ℤ, pos, inl, inr, ◌⊎◌, Bool, true, false, List, [], ◌∷◌, ◌++◌, take, map, arith}
use Rattle.std.specs.List.{AllByRecursion}
use Rattle.std.proofs.lemmas.Int.{ints}
use Rattle.std.proofs.lemmas.List.{append_assoc}
use Rattle.std.proofs.lemmas.Bool.{and_parts}
use Rattle.tb_break.proofs.EachLemmas.{all-take}
use Rattle.tb_scaled.specs.Scaled.{is_zero, eject_penalty}
use Rattle.tb_scaled.specs.Glue.{filling_glue}
use Rattle.tb_node.specs.declared.What.TheVariants as what
use Rattle.tb_node.specs.PlainNodes.{hbox, rule, skip, kerned, pen, mark, note, whatsit, PlainKind, plain, ins, act, PlainNode, node_shape, made, blank_box, without_insertions}
use Rattle.tb_break.specs.Split.{split_of}
use Rattle.tb_param.specs.declared.Params.{Params}
use Rattle.tb_builder.specs.FiredPages.{penalty_at}
use Rattle.tb_builder.proofs.Cutting.CutLemmas.{Calm, AllCalm, ActFree, AllFree}
use Rattle.tb_laws.proofs.PageBreaks.FittingFired.{Topmost, AllTopmost, flat_box, Fitted}
use Rattle.tb_laws.proofs.PageBreaks.PausedPages.{Paused, calm-both}
use Rattle.tb_output.specs.Clear
use Rattle.tb_output.specs.Output
use Rattle.tb_sheet.specs.Asked
use Rattle.tb_output.proofs.Firings.GoalLemmas.{zero-is}
use Rattle.tb_laws.proofs.Closed.Sorts.{kind_sort, sorts, sorts-calm, none, one, seen_all}
use Rattle.tb_laws.proofs.Closed.SortLemmas.{never-one, behind-one}
use Rattle.tb_laws.proofs.DeadCycles.AgainLemmas.{Idle}
use Rattle.tb_laws.proofs.DeadCycles.WaitCosts.{kind_cost, wait_cost}
use Rattle.tb_laws.proofs.DeadCycles.EndedLemmas.{is_flat, EndsAt, Ended, flat_last}

-- light nodes, and an empty box of no size
pub record OneFlat (ns : List PlainNode) : Type 0 where
  pub front : List PlainNode
  pub line : ℕ
  pub whole : ns ≡ front ++ flat_box line what.Blank ∷ []
  pub topmost : AllTopmost front
  pub calm : AllCalm front

one-more : (n : PlainNode) (ns : List PlainNode) → Topmost n.kind → Calm n.kind → OneFlat ns → OneFlat (n ∷ ns)
one-more n ns t c h = record { front = n ∷ h.front; line = h.line; whole = ap (λ xs. n ∷ xs) h.whole; topmost = (t, h.topmost); calm = (c, h.calm) }

flat-node : (l : ℕ) (h d : ℤ) (ns : List PlainNode) → ns ≡ [] → flat_last (is_flat (plain (hbox what.Blank h d))) ns ≡ true → OneFlat (record { line = l; kind = plain (hbox what.Blank h d) } ∷ without_insertions ns)
flat-node l h d [] e z =
    let a : h ≡ pos 0 = zero-is h (and_parts (is_zero h) (is_zero d) z).0 in
    let b : d ≡ pos 0 = zero-is d (and_parts (is_zero h) (is_zero d) z).1 in
    record { front = []; line = l; whole = ap (λ x. record { line = l; kind = plain (hbox what.Blank x d) } ∷ []) a ∙ ap (λ x. record { line = l; kind = plain (hbox what.Blank (pos 0) x) } ∷ []) b; topmost = tt; calm = tt }
flat-node l h d (n ∷ ns) e z = cc

one-kind : (l : ℕ) (k : PlainKind) (ns : List PlainNode) → AllCalm ns → AllFree ns → Calm k → ActFree k → seen_all none (kind_sort k ∷ sorts ns) ≡ one → flat_last (is_flat k) ns ≡ true → (seen_all none (sorts ns) ≡ one → flat_last false ns ≡ true → OneFlat (without_insertions ns)) → OneFlat (without_insertions (record { line = l; kind = k } ∷ ns))
one-kind l (plain (hbox (what.Text name) h d)) ns c f a g e z r = absurd (never-one (sorts ns) (sorts-calm ns c) e)
one-kind l (plain (hbox what.Blank h d)) ns c f a g e z r = flat-node l h d ns (behind-one ns c f e) z
one-kind l (plain (hbox (what.Float name class place item) h d)) ns c f a g e z r = absurd (never-one (sorts ns) (sorts-calm ns c) e)
one-kind l (plain (hbox (what.Margin name side item shift height depth) h d)) ns c f a g e z r = absurd (never-one (sorts ns) (sorts-calm ns c) e)
one-kind l (plain (rule name h d)) ns c f a g e z r = absurd (never-one (sorts ns) (sorts-calm ns c) e)
one-kind l (plain (skip w)) ns c f a g e z r = one-more (record { line = l; kind = plain (skip w) }) (without_insertions ns) tt tt (r e z)
one-kind l (plain (kerned w)) ns c f a g e z r = one-more (record { line = l; kind = plain (kerned w) }) (without_insertions ns) tt tt (r e z)
one-kind l (plain (pen p)) ns c f a g e z r = one-more (record { line = l; kind = plain (pen p) }) (without_insertions ns) tt a (r (rw a at e) z)
one-kind l (plain (mark name)) ns c f a g e z r = one-more (record { line = l; kind = plain (mark name) }) (without_insertions ns) tt tt (r e z)
one-kind l (plain (note name)) ns c f a g e z r = one-more (record { line = l; kind = plain (note name) }) (without_insertions ns) tt tt (r e z)
one-kind l (plain whatsit) ns c f a g e z r = one-more (record { line = l; kind = plain whatsit }) (without_insertions ns) tt tt (r e z)
one-kind l (ins i) ns c f a g e z r = r e z
one-kind l (act x) ns c f a g e z r = absurd g

-- a page whose one box is blank and comes last, and has no size
pub one-flat : (ns : List PlainNode) → AllCalm ns → AllFree ns → seen_all none (sorts ns) ≡ one → flat_last false ns ≡ true → OneFlat (without_insertions ns)
one-flat [] c f e z = let no : false ≡ true = z in cc
one-flat (n ∷ ns) c f e z = one-kind n.line n.kind ns c.1 f.1 c.0 f.0 e z (λ e z. one-flat ns c.1 f.1 e z)

-- a clear that the list begins with has a flat box before it
pub clear-ended : (b : Bool) (ns : List PlainNode) → Output.is_int (penalty_at ns) Asked.clear_penalty ≡ true → Ended b ns → b ≡ true
clear-ended b [] h e = let no : false ≡ true = h in cc
clear-ended b (n ∷ ns) h e = at n.kind h e.0
  where
    at : (k : PlainKind) → Output.is_int (penalty_at (record { line = n.line; kind = k } ∷ ns)) Asked.clear_penalty ≡ true → EndsAt b k → b ≡ true
    at (plain (pen p)) h e = e h
    at k h e = let no : false ≡ true = h in cc

-- ---- the front of such a page

abbrev no-nodes : List PlainNode
no-nodes = []

take-none : (i : ℕ) → take i no-nodes ≡ []
take-none zero = refl
take-none (suc i) = refl

take-last : (i : ℕ) (xs : List PlainNode) (n : PlainNode) → (take i (xs ++ n ∷ []) ≡ take i xs) ⊎ (take i (xs ++ n ∷ []) ≡ xs ++ n ∷ [])
take-last zero xs n = inl refl
take-last (suc i) [] n = inr (ap (λ ys. n ∷ ys) (take-none i))
take-last (suc i) (x ∷ xs) n = more (take-last i xs n)
  where
    more : (take i (xs ++ n ∷ []) ≡ take i xs) ⊎ (take i (xs ++ n ∷ []) ≡ xs ++ n ∷ []) → (x ∷ take i (xs ++ n ∷ []) ≡ x ∷ take i xs) ⊎ (x ∷ take i (xs ++ n ∷ []) ≡ x ∷ (xs ++ n ∷ []))
    more (inl h) = inl (ap (λ ys. x ∷ ys) h)
    more (inr h) = inr (ap (λ ys. x ∷ ys) h)

kind-idle : (k : PlainKind) → Topmost k → Calm k → Idle (kind_sort k) × (kind_cost k ≡ 0)
kind-idle (plain (hbox w h d)) t c = absurd t
kind-idle (plain (rule name h d)) t c = absurd t
kind-idle (plain (pen p)) t c = (rw c tt, rw c refl)
kind-idle (ins i) t c = absurd t
kind-idle (act a) t c = absurd t
kind-idle k t c = (tt, refl)

all-idle : (ns : List PlainNode) → AllTopmost ns → AllCalm ns → AllByRecursion Idle (sorts ns) × (wait_cost ns ≡ 0)
all-idle [] t c = (tt, refl)
all-idle (n ∷ ns) t c =
    let h : Idle (kind_sort n.kind) × (kind_cost n.kind ≡ 0) = kind-idle n.kind t.0 c.0 in
    let k : AllByRecursion Idle (sorts ns) × (wait_cost ns ≡ 0) = all-idle ns t.1 c.1 in
    let a : kind_cost n.kind ≡ 0 = h.1 in
    let b : wait_cost ns ≡ 0 = k.1 in
    ((h.0, k.0), omega arith)

flat-idle : (ns : List PlainNode) (l : ℕ) → AllTopmost ns → AllCalm ns → AllByRecursion Idle (sorts (ns ++ flat_box l what.Blank ∷ [])) × (wait_cost (ns ++ flat_box l what.Blank ∷ []) ≡ 0)
flat-idle [] l t c = ((tt, tt), refl)
flat-idle (n ∷ ns) l t c =
    let h : Idle (kind_sort n.kind) × (kind_cost n.kind ≡ 0) = kind-idle n.kind t.0 c.0 in
    let k : AllByRecursion Idle (sorts (ns ++ flat_box l what.Blank ∷ [])) × (wait_cost (ns ++ flat_box l what.Blank ∷ []) ≡ 0) = flat-idle ns l t.1 c.1 in
    let a : kind_cost n.kind ≡ 0 = h.1 in
    let b : wait_cost (ns ++ flat_box l what.Blank ∷ []) ≡ 0 = k.1 in
    ((h.0, k.0), omega arith)

-- the nodes of a clear, with what comes after them
abbrev behind_front : List PlainNode → List PlainNode
behind_front rest = made blank_box ∷ Clear.clear_again ++ rest

abbrev behind_break : List PlainNode → List PlainNode
behind_break rest = made whatsit ∷ made blank_box ∷ made (pen Asked.clear_penalty) ∷ rest

pub record FrontFits (front : List PlainNode) : Type 0 where
  pub fits : (rest : List PlainNode) → Fitted eject_penalty (made whatsit ∷ made blank_box ∷ made (pen Asked.clear_penalty) ∷ rest) (front ++ (made blank_box ∷ Clear.clear_again ++ rest)) × Paused (front ++ (made blank_box ∷ Clear.clear_again ++ rest))
  pub idle : AllByRecursion Idle (sorts front)
  pub cost : wait_cost front ≡ 0

front-paused : (front rest : List PlainNode) → AllCalm front → Paused (front ++ (made blank_box ∷ Clear.clear_again ++ rest))
front-paused front rest c = record { front = front; box_line = 0; what = what.Blank; height = pos 0; depth = pos 0; behind = made (skip filling_glue) ∷ []; line = 0; tail = behind_break rest; whole = sym (append_assoc front (made blank_box ∷ made (skip filling_glue) ∷ []) (made (pen eject_penalty) ∷ behind_break rest)); calm = c; calm_behind = (tt, tt) }

front-fitted : (front rest : List PlainNode) → AllTopmost front → Fitted eject_penalty (made whatsit ∷ made blank_box ∷ made (pen Asked.clear_penalty) ∷ rest) (front ++ (made blank_box ∷ Clear.clear_again ++ rest))
front-fitted front rest t = record { top = front; box_line = 0; what = what.Blank; behind = made (skip filling_glue) ∷ []; line = 0; whole = sym (append_assoc front (made blank_box ∷ made (skip filling_glue) ∷ []) (made (pen eject_penalty) ∷ behind_break rest)); vanish = t; slim = ((grind (arith, ints), refl, refl), tt); flat = refl }

flat-fitted : (front rest : List PlainNode) (l : ℕ) → AllTopmost front → Fitted eject_penalty (made whatsit ∷ made blank_box ∷ made (pen Asked.clear_penalty) ∷ rest) ((front ++ flat_box l what.Blank ∷ []) ++ (made blank_box ∷ Clear.clear_again ++ rest))
flat-fitted front rest l t = record { top = front; box_line = l; what = what.Blank; behind = made blank_box ∷ made (skip filling_glue) ∷ []; line = 0; whole = append_assoc front (flat_box l what.Blank ∷ []) (behind_front rest) ∙ sym (append_assoc front (flat_box l what.Blank ∷ made blank_box ∷ made (skip filling_glue) ∷ []) (made (pen eject_penalty) ∷ behind_break rest)); vanish = t; slim = ((refl, refl), ((grind (arith, ints), refl, refl), tt)); flat = refl }

pub front-fits : (p : Params) (body : List PlainNode) → OneFlat body → FrontFits (Clear.cleared_front p body)
front-fits p body h = by_take (take-last i h.front (flat_box h.line what.Blank))
  where
    i : ℕ
    i = (split_of (pos 0) p.splitmaxdepth (map node_shape body)).index

    same : take (split_of (pos 0) p.splitmaxdepth (map node_shape body)).index body ≡ take i (h.front ++ flat_box h.line what.Blank ∷ [])
    same = ap (take (split_of (pos 0) p.splitmaxdepth (map node_shape body)).index) h.whole

    by_take : (take i (h.front ++ flat_box h.line what.Blank ∷ []) ≡ take i h.front) ⊎ (take i (h.front ++ flat_box h.line what.Blank ∷ []) ≡ h.front ++ flat_box h.line what.Blank ∷ []) → FrontFits (take (split_of (pos 0) p.splitmaxdepth (map node_shape body)).index body)
    by_take (inl e) = subst FrontFits (sym (same ∙ e)) (record { fits = λ rest. (front-fitted (take i h.front) rest (all-take (λ (n : PlainNode). Topmost n.kind) i h.front h.topmost), front-paused (take i h.front) rest (all-take (λ (n : PlainNode). Calm n.kind) i h.front h.calm)); idle = (all-idle (take i h.front) (all-take (λ (n : PlainNode). Topmost n.kind) i h.front h.topmost) (all-take (λ (n : PlainNode). Calm n.kind) i h.front h.calm)).0; cost = (all-idle (take i h.front) (all-take (λ (n : PlainNode). Topmost n.kind) i h.front h.topmost) (all-take (λ (n : PlainNode). Calm n.kind) i h.front h.calm)).1 })
    by_take (inr e) = subst FrontFits (sym (same ∙ e)) (record { fits = λ rest. (flat-fitted h.front rest h.line h.topmost, front-paused (h.front ++ flat_box h.line what.Blank ∷ []) rest (calm-both h.front (flat_box h.line what.Blank ∷ []) h.calm (tt, tt))); idle = (flat-idle h.front h.line h.topmost h.calm).0; cost = (flat-idle h.front h.line h.topmost h.calm).1 })
