-- How many firings without a page what waits can bring: one for each penalty of a float or note and of the page before it, three for a clear, one for a change of columns; a float that is still to be taken counts twice.
use Rattle.std.proofs.Common.{◌≡◌, refl, ap, ℕ, zero, suc, ℤ, ◌+◌, ◌≤◌, List, [], ◌∷◌, ◌++◌, drop, arith}
use Rattle.std.specs.List.{AllByRecursion}
use Rattle.tb_node.specs.declared.Act.{Act}
use Rattle.tb_node.specs.declared.Act.TheVariants as acts
use Rattle.tb_node.specs.PlainNodes.{hbox, rule, skip, kerned, pen, mark, note, whatsit, PlainKind, plain, ins, act, PlainNode, without_acts}
use Rattle.tb_break.specs.PageTop.{pruned_nodes}
use Rattle.tb_builder.specs.FiredPages.{with_spent_break, penalty_at}
use Rattle.tb_builder.specs.Reach.{Reach}
use Rattle.tb_builder.proofs.Cutting.CutLemmas.{acts_of, acted_of, CutAt, IsIns, AllIns}
use Rattle.tb_laws.proofs.Closed.Sorts.{Sort, light, blank, real, silent, pause, hold, serve, clear, odd, pen_sort, kind_sort, sorts, Steady, pen-sorts}

abbrev pub sort_cost : Sort → ℕ
sort_cost light = 0
sort_cost blank = 0
sort_cost real = 0
sort_cost silent = 0
sort_cost pause = 0
sort_cost hold = 1
sort_cost serve = 1
sort_cost clear = 3
sort_cost odd = 0

abbrev pub act_cost : Act → ℕ
act_cost (acts.Take f) = 2
act_cost (acts.TakeMargin m) = 0
act_cost (acts.Suppress area) = 0
act_cost (acts.Page n) = 0
act_cost (acts.Head f) = 2
act_cost (acts.Columns two) = 1
act_cost (acts.Set c) = 0

abbrev pub kind_cost : PlainKind → ℕ
kind_cost (plain (hbox w h d)) = 0
kind_cost (plain (rule name h d)) = 0
kind_cost (plain (skip g)) = 0
kind_cost (plain (kerned w)) = 0
kind_cost (plain (pen p)) = sort_cost (pen_sort p)
kind_cost (plain (mark name)) = 0
kind_cost (plain (note name)) = 0
kind_cost (plain whatsit) = 0
kind_cost (ins i) = 0
kind_cost (act a) = act_cost a

abbrev pub wait_cost : List PlainNode → ℕ
wait_cost [] = 0
wait_cost (n ∷ ns) = kind_cost n.kind + wait_cost ns

abbrev pub acts_cost : List Act → ℕ
acts_cost [] = 0
acts_cost (a ∷ rest) = act_cost a + acts_cost rest

pub cost-append : (xs ys : List PlainNode) → wait_cost (xs ++ ys) ≡ wait_cost xs + wait_cost ys
cost-append [] ys = omega arith
cost-append (x ∷ xs) ys = let h : wait_cost (xs ++ ys) ≡ wait_cost xs + wait_cost ys = cost-append xs ys in omega arith

-- ---- what costs nothing

pen-free : (p : ℤ) → Steady (pen_sort p) → sort_cost (pen_sort p) ≡ 0
pen-free p = pen-sorts (λ x. Steady x → sort_cost x ≡ 0) (λ s. refl) (λ s. refl) (λ s. absurd s) (λ s. absurd s) (λ s. absurd s) (λ s. refl) p

kind-free : (k : PlainKind) → Steady (kind_sort k) → kind_cost k ≡ 0
kind-free (plain (pen p)) s = pen-free p s
kind-free (act a) s = absurd s
kind-free k s = refl

pub steady-free : (ns : List PlainNode) → AllByRecursion Steady (sorts ns) → wait_cost ns ≡ 0
steady-free [] s = refl
steady-free (n ∷ ns) s =
    let h : kind_cost n.kind ≡ 0 = kind-free n.kind s.0 in
    let k : wait_cost ns ≡ 0 = steady-free ns s.1 in
    omega arith

-- all are insertions
abbrev pub IsInserted : PlainKind → Type 0
IsInserted (plain m) = ⊥
IsInserted (ins x) = Unit {0}
IsInserted (act a) = ⊥

abbrev pub AllInserted : List PlainNode → Type 0
AllInserted = AllByRecursion (λ n. IsInserted n.kind)

one-inserted : (cs : List ℕ) (k : PlainKind) → IsIns cs k → IsInserted k
one-inserted cs (plain m) i = absurd i
one-inserted cs (ins x) i = tt
one-inserted cs (act a) i = absurd i

pub all-inserted : (cs : List ℕ) (ns : List PlainNode) → AllIns cs ns → AllInserted ns
all-inserted cs [] i = tt
all-inserted cs (n ∷ ns) i = (one-inserted cs n.kind i.0, all-inserted cs ns i.1)

ins-kind : (k : PlainKind) → IsInserted k → kind_cost k ≡ 0
ins-kind (plain m) i = absurd i
ins-kind (ins x) i = refl
ins-kind (act a) i = absurd i

pub ins-free : (ns : List PlainNode) → AllInserted ns → wait_cost ns ≡ 0
ins-free [] i = refl
ins-free (n ∷ ns) i =
    let h : kind_cost n.kind ≡ 0 = ins-kind n.kind i.0 in
    let k : wait_cost ns ≡ 0 = ins-free ns i.1 in
    omega arith

-- ---- a page takes of it

prune-kind : (t : ℤ) (ns : List PlainNode) → wait_cost (pruned_nodes t ns) ≤ wait_cost ns → (l : ℕ) (k : PlainKind) → wait_cost (pruned_nodes t (record { line = l; kind = k } ∷ ns)) ≤ kind_cost k + wait_cost ns
prune-kind t ns h l (plain (hbox w a d)) = omega arith
prune-kind t ns h l k = omega arith

pub prune-cost : (t : ℤ) (ns : List PlainNode) → wait_cost (pruned_nodes t ns) ≤ wait_cost ns
prune-cost t [] = omega arith
prune-cost t (n ∷ ns) = prune-kind t ns (prune-cost t ns) n.line n.kind

acts-kind : (ns : List PlainNode) → wait_cost (without_acts ns) + acts_cost (acts_of ns) ≡ wait_cost ns → (l : ℕ) (k : PlainKind) → wait_cost (without_acts (record { line = l; kind = k } ∷ ns)) + acts_cost (acts_of (record { line = l; kind = k } ∷ ns)) ≡ kind_cost k + wait_cost ns
acts-kind ns h l (plain m) = omega arith
acts-kind ns h l k = omega arith

front-cost : (ns : List PlainNode) → wait_cost (without_acts ns) + acts_cost (acts_of ns) ≡ wait_cost ns
front-cost [] = refl
front-cost (n ∷ ns) = acts-kind ns (front-cost ns) n.line n.kind

drop-cost : (k : ℕ) (ns : List PlainNode) → wait_cost (drop k ns) ≤ wait_cost ns
drop-cost zero ns = omega arith
drop-cost (suc k) [] = omega arith
drop-cost (suc k) (n ∷ ns) = let h : wait_cost (drop k ns) ≤ wait_cost ns = drop-cost k ns in omega arith

spent-kind : (l : ℕ) (k : PlainKind) (ns : List PlainNode) → wait_cost (with_spent_break (record { line = l; kind = k } ∷ ns)) + sort_cost (pen_sort (penalty_at (record { line = l; kind = k } ∷ ns))) ≡ kind_cost k + wait_cost ns
spent-kind l (plain (hbox w h d)) ns = omega arith
spent-kind l k ns = omega arith

spent-cost : (ns : List PlainNode) → wait_cost (with_spent_break ns) + sort_cost (pen_sort (penalty_at ns)) ≡ wait_cost ns
spent-cost [] = refl
spent-cost (n ∷ ns) = spent-kind n.line n.kind ns

-- what is left after the break, the break itself and the acts that were reached cost no more than all that waited
pub page-cost : (t : ℤ) (ns : List PlainNode) (w : Reach) (k : ℕ) → CutAt [] (pruned_nodes t ns) w → wait_cost (with_spent_break (drop k w.passed ++ w.beyond)) + sort_cost (pen_sort (penalty_at (drop k w.passed ++ w.beyond))) + acts_cost (acted_of w.reached) ≤ wait_cost ns
page-cost t ns w k h =
    sums (wait_cost ns) (wait_cost (pruned_nodes t ns)) (wait_cost (h.front ++ w.beyond)) (wait_cost h.front) (wait_cost w.beyond) (wait_cost (without_acts h.front)) (wait_cost w.passed) (wait_cost (drop k w.passed)) (wait_cost (drop k w.passed ++ w.beyond)) (wait_cost (with_spent_break (drop k w.passed ++ w.beyond))) (sort_cost (pen_sort (penalty_at (drop k w.passed ++ w.beyond)))) (acts_cost (acts_of h.front)) (acts_cost (acted_of w.reached))
    (prune-cost t ns) (ap wait_cost h.whole) (cost-append h.front w.beyond) (front-cost h.front) (ap wait_cost h.passed) (drop-cost k w.passed) (cost-append (drop k w.passed) w.beyond) (spent-cost (drop k w.passed ++ w.beyond)) (ap acts_cost h.acts)
  where
    sums : (n p q f b f' d e g r s a a' : ℕ) → p ≤ n → p ≡ q → q ≡ f + b → f' + a ≡ f → d ≡ f' → e ≤ d → g ≡ e + b → r + s ≡ g → a' ≡ a → r + s + a' ≤ n
    sums n p q f b f' d e g r s a a' h1 h2 h3 h4 h5 h6 h7 h8 h9 = omega arith
