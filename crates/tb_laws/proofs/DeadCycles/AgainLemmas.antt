-- The clears that the routine put back come before all that is still to come: no box of the text, no act and no float's or item's penalty comes before the last of them.
use Rattle.std.proofs.Common.{◌≡◌, refl, ℕ, zero, suc, ℤ, Bool, true, false, List, [], ◌∷◌, ◌++◌}
use Rattle.std.specs.Prelude.{int_le}
use Rattle.std.specs.List.{AllByRecursion}
use Rattle.tb_scaled.specs.Scaled.{eject_penalty, inf_penalty}
use Rattle.tb_node.specs.declared.What.{What}
use Rattle.tb_node.specs.declared.What.TheVariants as what
use Rattle.tb_node.specs.PlainNodes.{hbox, rule, skip, kerned, pen, PlainKind, plain, ins, act, PlainNode, without_acts}
use Rattle.tb_break.specs.PageTop.{pruned_nodes}
use Rattle.tb_builder.specs.FiredPages.{with_spent_break, penalty_at}
use Rattle.tb_builder.proofs.Cutting.CutLemmas.{Calm, AllCalm, acts_of, kind_acts}
use Rattle.tb_output.specs.Clear
use Rattle.tb_laws.proofs.Closed.Sorts.{Sort, light, blank, real, silent, pause, hold, serve, clear, odd, pen_sort, box_sort, kind_sort, sorts, none, Stands, pen-sorts, CalmSort}

-- how many clears of the routine are still to come on a list with these sorts; before the last of them there is nothing else that acts
abbrev pub left_after : ℕ → Sort → ℕ
left_after zero x = zero
left_after (suc n) light = suc n
left_after (suc n) blank = suc n
left_after (suc n) real = suc n
left_after (suc n) silent = suc n
left_after (suc n) pause = suc n
left_after (suc n) hold = suc n
left_after (suc n) serve = suc n
left_after (suc n) clear = n
left_after (suc n) odd = suc n

abbrev pub Quiet : Sort → Type 0
Quiet light = Unit {0}
Quiet blank = Unit {0}
Quiet real = ⊥
Quiet silent = ⊥
Quiet pause = Unit {0}
Quiet hold = ⊥
Quiet serve = ⊥
Quiet clear = Unit {0}
Quiet odd = ⊥

abbrev pub Again : ℕ → List Sort → Type 0
Again zero xs = Unit {0}
Again (suc n) [] = ⊥
Again (suc n) (x ∷ xs) = Quiet x × Again (left_after (suc n) x) xs

-- ---- the top of a page

again-more : (n : ℕ) (x : Sort) (xs : List Sort) → Quiet x → Again (left_after n x) xs → Again n (x ∷ xs)
again-more zero x xs q h = tt
again-more (suc n) x xs q h = (q, h)

again-light : (n : ℕ) (xs : List Sort) → Again n (light ∷ xs) → Again n xs
again-light zero xs h = tt
again-light (suc n) xs h = h.1

again-pause : (n : ℕ) (xs : List Sort) → Again n (pause ∷ xs) → Again n xs
again-pause zero xs h = tt
again-pause (suc n) xs h = h.1

again-hold : (n : ℕ) (xs : List Sort) → Again n (hold ∷ xs) → Again n xs
again-hold zero xs h = tt
again-hold (suc n) xs h = absurd h.0

light-again : (n : ℕ) (xs : List Sort) → Again n xs → Again n (light ∷ xs)
light-again zero xs h = tt
light-again (suc n) xs h = (tt, h)

again-pen : (n : ℕ) (ns ms : List PlainNode) (p : ℤ) → ((b : Bool) → Stands none b (sorts ns) → Again n (sorts ns) → Again n (sorts ms)) → (b : Bool) → Stands none b (pen_sort p ∷ sorts ns) → Again n (pen_sort p ∷ sorts ns) → Again n (sorts ms)
again-pen n ns ms p h =
    pen-sorts (λ x. (b : Bool) → Stands none b (x ∷ sorts ns) → Again n (x ∷ sorts ns) → Again n (sorts ms))
    (λ b s a. h b s.1 (again-light n (sorts ns) a)) (λ b s a. h b s.1 (again-pause n (sorts ns) a)) at_hold (λ b s a. absurd s.0) (λ b s a. absurd s.0) (λ b s a. absurd s.0) p
  where
    at_hold : (b : Bool) → Stands none b (hold ∷ sorts ns) → Again n (hold ∷ sorts ns) → Again n (sorts ms)
    at_hold true s a = absurd s.0
    at_hold false s a = h true s.1 (again-hold n (sorts ns) a)

again-act : (n : ℕ) (xs ys : List Sort) → (Again n xs → Again n ys) → Again n (silent ∷ xs) → Again n (silent ∷ ys)
again-act zero xs ys h a = tt
again-act (suc n) xs ys h a = absurd a.0

again-node : (n : ℕ) (t : ℤ) (ns : List PlainNode) → ((b : Bool) → Stands none b (sorts ns) → Again n (sorts ns) → Again n (sorts (pruned_nodes t ns))) → (l : ℕ) (k : PlainKind) (b : Bool) → Stands none b (kind_sort k ∷ sorts ns) → Again n (kind_sort k ∷ sorts ns) → Again n (sorts (pruned_nodes t (record { line = l; kind = k } ∷ ns)))
again-node n t ns h l (plain (hbox w x d)) b s a = light-again n (kind_sort (plain (hbox w x d)) ∷ sorts ns) a
again-node n t ns h l (plain (rule name x d)) b s a = light-again n (real ∷ sorts ns) a
again-node n t ns h l (plain (skip g)) b s a = h b s.1 (again-light n (sorts ns) a)
again-node n t ns h l (plain (kerned w)) b s a = h b s.1 (again-light n (sorts ns) a)
again-node n t ns h l (plain (pen p)) b s a = again-pen n ns (pruned_nodes t ns) p h b s a
again-node n t ns h l (act x) true s a = absurd s.0
again-node n t ns h l (act x) false s a = again-act n (sorts ns) (sorts (pruned_nodes t ns)) (h false s.1) a
again-node n t ns h l k b s a = light-again n (sorts (pruned_nodes t ns)) (h b s.1 (again-light n (sorts ns) a))

-- what vanishes at the top of a page is no clear
pub again-pruned : (n : ℕ) (t : ℤ) (ns : List PlainNode) (b : Bool) → Stands none b (sorts ns) → Again n (sorts ns) → Again n (sorts (pruned_nodes t ns))
again-pruned n t [] b s a = a
again-pruned n t (m ∷ ns) b s a = again-node n t ns (λ b s a. again-pruned n t ns b s a) m.line m.kind b s a

-- ---- a front in which nothing is forced

pub again-behind : (n : ℕ) (xs ys : List Sort) → AllByRecursion CalmSort xs → Again n (xs ++ ys) → Again n ys
again-behind zero xs ys c a = tt
again-behind (suc n) [] ys c a = a
again-behind (suc n) (light ∷ xs) ys c a = again-behind (suc n) xs ys c.1 a.1
again-behind (suc n) (blank ∷ xs) ys c a = again-behind (suc n) xs ys c.1 a.1
again-behind (suc n) (real ∷ xs) ys c a = absurd a.0
again-behind (suc n) (silent ∷ xs) ys c a = absurd a.0
again-behind (suc n) (k ∷ xs) ys c a = absurd c.0

-- while clears of the routine are to come, no act is reached
pub no-acts : (n : ℕ) (ns : List PlainNode) (ys : List Sort) → AllCalm ns → Again (suc n) (sorts ns ++ ys) → acts_of ns ≡ []
no-acts n [] ys c a = refl
no-acts n (m ∷ ns) ys c a = at_kind m.kind c.0 a (λ b. no-acts n ns ys c.1 b)
  where
    at_pen : (q : ℤ) → int_le q eject_penalty ≡ false → Again (suc n) (pen_sort q ∷ sorts ns ++ ys) → Again (suc n) (sorts ns ++ ys)
    at_pen q e a = let h : Again (suc n) (light ∷ sorts ns ++ ys) = rw e at a in h.1

    at_box : (w : What) → Again (suc n) (box_sort w ∷ sorts ns ++ ys) → Again (suc n) (sorts ns ++ ys)
    at_box what.Blank a = a.1
    at_box w a = absurd a.0

    at_kind : (k : PlainKind) → Calm k → Again (suc n) (kind_sort k ∷ sorts ns ++ ys) → (Again (suc n) (sorts ns ++ ys) → acts_of ns ≡ []) → kind_acts k ++ acts_of ns ≡ []
    at_kind (plain (hbox w x d)) c a h = h (at_box w a)
    at_kind (plain (rule name x d)) c a h = absurd a.0
    at_kind (plain (pen q)) c a h = h (at_pen q c a)
    at_kind (act x) c a h = absurd a.0
    at_kind k c a h = h a.1

-- ---- the break

-- what is left to come after a break at a node of this sort
abbrev pub BreakAgain : ℕ → List PlainNode → Sort → Type 0
BreakAgain n rest light = Again n (sorts rest)
BreakAgain n rest blank = Again n (sorts rest)
BreakAgain n rest real = Again n (sorts rest)
BreakAgain n rest silent = Again n (sorts rest)
BreakAgain n rest pause = Again n (sorts rest)
BreakAgain n rest hold = n ≡ 0
BreakAgain n rest serve = n ≡ 0
BreakAgain n rest clear = Again (left_after n clear) (sorts rest)
BreakAgain n rest odd = n ≡ 0

spent-again : (n : ℕ) (l : ℕ) (ns : List PlainNode) (p : ℤ) → Again n (pen_sort p ∷ sorts ns) → BreakAgain n (record { line = l; kind = plain (pen inf_penalty) } ∷ ns) (pen_sort p)
spent-again n l ns p = pen-sorts (λ x. Again n (x ∷ sorts ns) → BreakAgain n (record { line = l; kind = plain (pen inf_penalty) } ∷ ns) x) (λ a. light-again n (sorts ns) (again-light n (sorts ns) a)) (λ a. light-again n (sorts ns) (again-pause n (sorts ns) a)) (at_hold n) (at_serve n) (at_clear n) (at_odd n) p
  where
    at_hold : (n : ℕ) → Again n (hold ∷ sorts ns) → n ≡ 0
    at_hold zero a = refl
    at_hold (suc n) a = absurd a.0

    at_serve : (n : ℕ) → Again n (serve ∷ sorts ns) → n ≡ 0
    at_serve zero a = refl
    at_serve (suc n) a = absurd a.0

    at_odd : (n : ℕ) → Again n (odd ∷ sorts ns) → n ≡ 0
    at_odd zero a = refl
    at_odd (suc n) a = absurd a.0

    at_clear : (n : ℕ) → Again n (clear ∷ sorts ns) → Again (left_after n clear) (light ∷ sorts ns)
    at_clear zero a = tt
    at_clear (suc n) a = light-again n (sorts ns) a.1

node-again : (n : ℕ) (l : ℕ) (k : PlainKind) (ns : List PlainNode) → Again n (kind_sort k ∷ sorts ns) → BreakAgain n (with_spent_break (record { line = l; kind = k } ∷ ns)) (pen_sort (penalty_at (record { line = l; kind = k } ∷ ns)))
node-again n l (plain (pen p)) ns a = spent-again n l ns p a
node-again n l k ns a = a

pub break-again : (n : ℕ) (ns : List PlainNode) → Again n (sorts ns) → BreakAgain n (with_spent_break ns) (pen_sort (penalty_at ns))
break-again n [] a = a
break-again n (m ∷ ns) a = node-again n m.line m.kind ns a

-- ---- what is put back

-- nodes after which a clear of the routine may come
abbrev pub Idle : Sort → Type 0
Idle light = Unit {0}
Idle blank = Unit {0}
Idle real = ⊥
Idle silent = ⊥
Idle pause = Unit {0}
Idle hold = ⊥
Idle serve = ⊥
Idle clear = ⊥
Idle odd = ⊥

pub again-idle : (n : ℕ) (xs ys : List Sort) → AllByRecursion Idle xs → Again n ys → Again n (xs ++ ys)
again-idle zero xs ys i a = tt
again-idle (suc n) [] ys i a = a
again-idle (suc n) (light ∷ xs) ys i a = (tt, again-idle (suc n) xs ys i.1 a)
again-idle (suc n) (blank ∷ xs) ys i a = (tt, again-idle (suc n) xs ys i.1 a)
again-idle (suc n) (pause ∷ xs) ys i a = (tt, again-idle (suc n) xs ys i.1 a)
again-idle (suc n) (k ∷ xs) ys i a = absurd i.0

-- a clear that is put back is one more
pub again-clear : (n : ℕ) (ys : List Sort) → Again n ys → Again (suc n) (sorts Clear.clear_again ++ ys)
again-clear n ys a = (tt, (tt, (tt, (tt, (tt, a)))))

-- ---- without its acts a front leaves the same after it

acts-left : (n : ℕ) (l : ℕ) (k : PlainKind) (ns : List PlainNode) (ys : List Sort) → ((m : ℕ) → Again m (sorts ns ++ ys) → Again m (sorts (without_acts ns) ++ ys)) → Again n (kind_sort k ∷ sorts ns ++ ys) → Again n (sorts (without_acts (record { line = l; kind = k } ∷ ns)) ++ ys)
acts-left zero l k ns ys h a = tt
acts-left (suc n) l (plain m) ns ys h a = (a.0, h (left_after (suc n) (kind_sort (plain m))) a.1)
acts-left (suc n) l (ins i) ns ys h a = (tt, h (suc n) a.1)
acts-left (suc n) l (act x) ns ys h a = absurd a.0

pub acts-again : (n : ℕ) (ns : List PlainNode) (ys : List Sort) → Again n (sorts ns ++ ys) → Again n (sorts (without_acts ns) ++ ys)
acts-again n [] ys a = a
acts-again n (m ∷ ns) ys a = acts-left n m.line m.kind ns ys (λ k b. acts-again k ns ys b) a
