-- A box of the galley comes before the next forced break: so it is on the page that breaks there.
use Rattle.std.proofs.Common.{◌≡◌, ℕ, ℤ, List, [], ◌∷◌, ◌++◌}
use Rattle.std.specs.List.{AllByRecursion}
use Rattle.tb_node.specs.PlainNodes.{hbox, rule, pen, PlainKind, plain, ins, act, PlainNode, without_acts, without_insertions}
use Rattle.tb_break.specs.PageTop.{pruned_nodes}
use Rattle.tb_builder.specs.FiredPages.{penalty_at}
use Rattle.tb_builder.proofs.Cutting.CutLemmas.{ActFree, AllFree}
use Rattle.tb_laws.proofs.Closed.Sorts.{Sort, kind_sort, sorts, pen_sort, pen-sorts, CalmSort, Steady, seen_all, Seen, none, one, many, light, blank, real, silent, pause, hold, serve, clear, odd}
use Rattle.tb_laws.proofs.Closed.SortLemmas.{never-one}
use Rattle.tb_laws.proofs.Closed.Closings.{Quiet, tokens, sort_token}

-- ---- a box before the first forced break

abbrev pub RealFirst : List Sort → Type 0
RealFirst [] = ⊥
RealFirst (light ∷ xs) = RealFirst xs
RealFirst (blank ∷ xs) = RealFirst xs
RealFirst (real ∷ xs) = Unit {0}
RealFirst (silent ∷ xs) = RealFirst xs
RealFirst (pause ∷ xs) = ⊥
RealFirst (hold ∷ xs) = ⊥
RealFirst (serve ∷ xs) = ⊥
RealFirst (clear ∷ xs) = ⊥
RealFirst (odd ∷ xs) = ⊥

-- a box anywhere
abbrev pub HasReal : List Sort → Type 0
HasReal [] = ⊥
HasReal (light ∷ xs) = HasReal xs
HasReal (blank ∷ xs) = HasReal xs
HasReal (real ∷ xs) = Unit {0}
HasReal (silent ∷ xs) = HasReal xs
HasReal (pause ∷ xs) = HasReal xs
HasReal (hold ∷ xs) = HasReal xs
HasReal (serve ∷ xs) = HasReal xs
HasReal (clear ∷ xs) = HasReal xs
HasReal (odd ∷ xs) = HasReal xs

-- steady nodes force no break
pub steady-first : (xs ys : List Sort) → AllByRecursion Steady xs → HasReal xs → RealFirst (xs ++ ys)
steady-first [] ys s h = absurd h
steady-first (light ∷ xs) ys s h = steady-first xs ys s.1 h
steady-first (blank ∷ xs) ys s h = steady-first xs ys s.1 h
steady-first (real ∷ xs) ys s h = tt
steady-first (k ∷ xs) ys s h = absurd s.0

pub steady-then : (xs ys : List Sort) → AllByRecursion Steady xs → RealFirst ys → RealFirst (xs ++ ys)
steady-then [] ys s h = h
steady-then (light ∷ xs) ys s h = steady-then xs ys s.1 h
steady-then (blank ∷ xs) ys s h = steady-then xs ys s.1 h
steady-then (real ∷ xs) ys s h = tt
steady-then (k ∷ xs) ys s h = absurd s.0

pub real-left : (xs ys : List Sort) → HasReal xs → HasReal (xs ++ ys)
real-left [] ys h = absurd h
real-left (real ∷ xs) ys h = tt
real-left (k ∷ xs) ys h = real-left xs ys h

pub real-right : (xs ys : List Sort) → HasReal ys → HasReal (xs ++ ys)
real-right [] ys h = h
real-right (real ∷ xs) ys h = tt
real-right (k ∷ xs) ys h = real-right xs ys h

-- ---- a page

pen-first : (xs : List Sort) (p : ℤ) → RealFirst (pen_sort p ∷ xs) → RealFirst xs
pen-first xs p = pen-sorts (λ x. RealFirst (x ∷ xs) → RealFirst xs) (λ h. h) (λ h. absurd h) (λ h. absurd h) (λ h. absurd h) (λ h. absurd h) (λ h. absurd h) p

light-first : (s : Sort) (xs ys : List Sort) → (RealFirst xs → RealFirst ys) → RealFirst (s ∷ xs) → RealFirst (s ∷ ys)
light-first light xs ys f h = f h
light-first blank xs ys f h = f h
light-first real xs ys f h = tt
light-first silent xs ys f h = f h
light-first s xs ys f h = absurd h

node-first : (t : ℤ) (ns : List PlainNode) → (RealFirst (sorts ns) → RealFirst (sorts (pruned_nodes t ns))) → (l : ℕ) (k : PlainKind) → RealFirst (kind_sort k ∷ sorts ns) → RealFirst (sorts (pruned_nodes t (record { line = l; kind = k } ∷ ns)))
node-first t ns f l (plain (hbox w a d)) h = h
node-first t ns f l (plain (rule w a d)) h = h
node-first t ns f l (plain (pen p)) h = f (pen-first (sorts ns) p h)
node-first t ns f l k h = f h

pub pruned-first : (t : ℤ) (ns : List PlainNode) → RealFirst (sorts ns) → RealFirst (sorts (pruned_nodes t ns))
pruned-first t [] h = h
pruned-first t (n ∷ ns) h = node-first t ns (λ h. pruned-first t ns h) n.line n.kind h

acts-more : (l : ℕ) (k : PlainKind) (ns : List PlainNode) (ys : List Sort) → (RealFirst (sorts ns ++ ys) → RealFirst (sorts (without_acts ns) ++ ys)) → RealFirst (kind_sort k ∷ sorts ns ++ ys) → RealFirst (sorts (without_acts (record { line = l; kind = k } ∷ ns)) ++ ys)
acts-more l (plain m) ns ys f h = light-first (kind_sort (plain m)) (sorts ns ++ ys) (sorts (without_acts ns) ++ ys) f h
acts-more l (ins i) ns ys f h = f h
acts-more l (act a) ns ys f h = f h

pub acts-first : (ns : List PlainNode) (ys : List Sort) → RealFirst (sorts ns ++ ys) → RealFirst (sorts (without_acts ns) ++ ys)
acts-first [] ys h = h
acts-first (n ∷ ns) ys h = acts-more n.line n.kind ns ys (λ h. acts-first ns ys h) h

-- if the break is forced, the box comes before it
abbrev pub BreakReal : List Sort → Sort → Type 0
BreakReal xs light = Unit {0}
BreakReal xs blank = Unit {0}
BreakReal xs real = Unit {0}
BreakReal xs silent = Unit {0}
BreakReal xs pause = HasReal xs
BreakReal xs hold = HasReal xs
BreakReal xs serve = HasReal xs
BreakReal xs clear = HasReal xs
BreakReal xs odd = HasReal xs

before-forced : (xs ys : List Sort) → (RealFirst ys → ⊥) → RealFirst (xs ++ ys) → HasReal xs
before-forced [] ys n h = absurd (n h)
before-forced (light ∷ xs) ys n h = before-forced xs ys n h
before-forced (blank ∷ xs) ys n h = before-forced xs ys n h
before-forced (real ∷ xs) ys n h = tt
before-forced (silent ∷ xs) ys n h = before-forced xs ys n h
before-forced (k ∷ xs) ys n h = absurd h

pen-real : (xs ys : List Sort) (p : ℤ) → RealFirst (xs ++ pen_sort p ∷ ys) → BreakReal xs (pen_sort p)
pen-real xs ys p = pen-sorts (λ x. RealFirst (xs ++ x ∷ ys) → BreakReal xs x) (λ h. tt) (before-forced xs (pause ∷ ys) (λ k. k)) (before-forced xs (hold ∷ ys) (λ k. k)) (before-forced xs (serve ∷ ys) (λ k. k)) (before-forced xs (clear ∷ ys) (λ k. k)) (before-forced xs (odd ∷ ys) (λ k. k)) p

node-real : (xs : List Sort) (ns : List PlainNode) (l : ℕ) (k : PlainKind) → RealFirst (xs ++ kind_sort k ∷ sorts ns) → BreakReal xs (pen_sort (penalty_at (record { line = l; kind = k } ∷ ns)))
node-real xs ns l (plain (pen p)) h = pen-real xs (sorts ns) p h
node-real xs ns l k h = tt

pub break-real : (xs : List Sort) (ns : List PlainNode) → RealFirst (xs ++ sorts ns) → BreakReal xs (pen_sort (penalty_at ns))
break-real xs [] h = tt
break-real xs (n ∷ ns) h = node-real xs ns n.line n.kind h

-- ---- the page's list

real-more : (s : Sort) (xs ys : List Sort) → (HasReal xs → HasReal ys) → HasReal (s ∷ xs) → HasReal (s ∷ ys)
real-more real xs ys f h = tt
real-more s xs ys f h = f h

body-more : (l : ℕ) (k : PlainKind) (ns : List PlainNode) → (HasReal (sorts ns) → HasReal (sorts (without_insertions ns))) → HasReal (kind_sort k ∷ sorts ns) → HasReal (sorts (without_insertions (record { line = l; kind = k } ∷ ns)))
body-more l (plain m) ns f h = real-more (kind_sort (plain m)) (sorts ns) (sorts (without_insertions ns)) f h
body-more l (ins i) ns f h = f h
body-more l (act a) ns f h = f h

pub body-real : (ns : List PlainNode) → HasReal (sorts ns) → HasReal (sorts (without_insertions ns))
body-real [] h = h
body-real (n ∷ ns) h = body-more n.line n.kind ns (λ h. body-real ns h) h

-- a page whose boxes are one blank box has no box of the galley
pub one-unreal : (xs : List Sort) (s : Seen) → AllByRecursion CalmSort xs → seen_all s xs ≡ one → HasReal xs → ⊥
one-unreal [] s c e h = h
one-unreal (light ∷ xs) none c e h = one-unreal xs none c.1 e h
one-unreal (light ∷ xs) one c e h = never-one xs c.1 e
one-unreal (light ∷ xs) many c e h = never-one xs c.1 e
one-unreal (blank ∷ xs) none c e h = one-unreal xs one c.1 e h
one-unreal (blank ∷ xs) one c e h = never-one xs c.1 e
one-unreal (blank ∷ xs) many c e h = never-one xs c.1 e
one-unreal (real ∷ xs) s c e h = never-one xs c.1 e
one-unreal (silent ∷ xs) s c e h = one-unreal xs s c.1 e h
one-unreal (k ∷ xs) s c e h = absurd c.0

sort-unreal : (s : Sort) (xs : List Sort) → CalmSort s → (HasReal (s ∷ xs) → ⊥) → Quiet (sort_token s) × (HasReal xs → ⊥)
sort-unreal light xs c n = (tt, n)
sort-unreal blank xs c n = (tt, n)
sort-unreal real xs c n = absurd (n tt)
sort-unreal silent xs c n = (tt, n)
sort-unreal s xs c n = absurd c

quiet-more : (l : ℕ) (k : PlainKind) (ns : List PlainNode) → CalmSort (kind_sort k) → ActFree k → ((HasReal (sorts ns) → ⊥) → AllByRecursion Quiet (tokens (without_insertions ns))) → (HasReal (kind_sort k ∷ sorts ns) → ⊥) → AllByRecursion Quiet (tokens (without_insertions (record { line = l; kind = k } ∷ ns)))
quiet-more l (plain m) ns c f h n = let x = sort-unreal (kind_sort (plain m)) (sorts ns) c n in (x.0, h x.1)
quiet-more l (ins i) ns c f h n = h n
quiet-more l (act a) ns c f h n = absurd f

-- without boxes of the galley and insertions a page is quiet
pub unreal-quiet : (ns : List PlainNode) → AllByRecursion CalmSort (sorts ns) → AllFree ns → (HasReal (sorts ns) → ⊥) → AllByRecursion Quiet (tokens (without_insertions ns))
unreal-quiet [] c f n = tt
unreal-quiet (x ∷ ns) c f n = quiet-more x.line x.kind ns c.0 f.0 (λ n. unreal-quiet ns c.1 f.1 n) n
