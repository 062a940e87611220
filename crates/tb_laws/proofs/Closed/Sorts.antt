-- The sorts of nodes, and well-formed lists: a walk over them never meets a penalty out of place.
use Rattle.std.proofs.Common.{ℕ, ℤ, Bool, true, false, List, [], ◌∷◌, ◌++◌, map}
use Rattle.std.specs.Prelude.{int_le, ◌||◌, if◌then◌else◌}
use Rattle.std.specs.List.{AllByRecursion}
use Rattle.tb_scaled.specs.Scaled.{eject_penalty}
use Rattle.tb_node.specs.declared.What.{What}
use Rattle.tb_node.specs.declared.What.TheVariants as what
use Rattle.tb_node.specs.PlainNodes.{hbox, rule, skip, kerned, pen, mark, note, whatsit, PlainKind, plain, ins, act, PlainNode, without_acts}
use Rattle.tb_break.specs.PageTop.{pruned_nodes}
use Rattle.tb_builder.proofs.Cutting.CutLemmas.{Calm, AllCalm, ActFree}
use Rattle.tb_output.specs.Output.{is_int}
use Rattle.tb_sheet.specs.Asked.{clear_penalty, par_penalty, vert_penalty, hold_penalty}

-- what stops nothing and is no box, a blank box, another box, an act, the end of a page, the page before a float or note, its own penalty, a clear, and any other forced break
pub data Sort : Type 0 where
  light : Sort
  blank : Sort
  real : Sort
  silent : Sort
  pause : Sort
  hold : Sort
  serve : Sort
  clear : Sort
  odd : Sort

abbrev pub forced_sort : ℤ → Sort
forced_sort p =
    if is_int p eject_penalty then pause
    else (if is_int p clear_penalty then clear
    else (if is_int p par_penalty || is_int p vert_penalty then serve
    else (if is_int p hold_penalty then hold else odd)))

abbrev pub pen_sort : ℤ → Sort
pen_sort p = if int_le p eject_penalty then forced_sort p else light

abbrev pub box_sort : What → Sort
box_sort (what.Text name) = real
box_sort what.Blank = blank
box_sort (what.Float name class place item) = real
box_sort (what.Margin name side item shift height depth) = real

abbrev pub kind_sort : PlainKind → Sort
kind_sort (plain (hbox w h d)) = box_sort w
kind_sort (plain (rule name h d)) = real
kind_sort (plain (skip g)) = light
kind_sort (plain (kerned w)) = light
kind_sort (plain (pen p)) = pen_sort p
kind_sort (plain (mark name)) = light
kind_sort (plain (note name)) = light
kind_sort (plain whatsit) = light
kind_sort (ins i) = light
kind_sort (act a) = silent

abbrev pub sorts : List PlainNode → List Sort
sorts ns = map (λ n. kind_sort n.kind) ns

-- the boxes since the last end of a page, or since a page began: none; a blank one, which comes last; or others
pub data Seen : Type 0 where
  none : Seen
  one : Seen
  many : Seen

abbrev pub seen_after : Seen → Sort → Seen
seen_after none light = none
seen_after one light = many
seen_after many light = many
seen_after none blank = one
seen_after one blank = many
seen_after many blank = many
seen_after s real = many
seen_after s silent = s
seen_after s pause = none
seen_after s hold = none
seen_after s serve = many
seen_after s clear = many
seen_after s odd = many

-- a page is held from the penalty before a float or note to the one after its blank box
abbrev pub held_after : Bool → Sort → Bool
held_after b light = b
held_after b blank = b
held_after b real = b
held_after b silent = b
held_after b pause = b
held_after b hold = true
held_after b serve = false
held_after b clear = b
held_after b odd = b

-- a float's, note's or clear's penalty comes right after a blank box that is the first box of its page; while a page is held only blank boxes and ends of pages come
abbrev pub Allowed : Seen → Bool → Sort → Type 0
Allowed s b light = Unit {0}
Allowed s b blank = Unit {0}
Allowed s true real = ⊥
Allowed s false real = Unit {0}
Allowed s true silent = ⊥
Allowed s false silent = Unit {0}
Allowed s b pause = Unit {0}
Allowed s true hold = ⊥
Allowed s false hold = Unit {0}
Allowed none b serve = ⊥
Allowed one b serve = Unit {0}
Allowed many b serve = ⊥
Allowed none b clear = ⊥
Allowed one true clear = ⊥
Allowed one false clear = Unit {0}
Allowed many b clear = ⊥
Allowed s b odd = ⊥

abbrev pub Stands : Seen → Bool → List Sort → Type 0
Stands s b [] = Unit {0}
Stands s b (x ∷ xs) = Allowed s b x × Stands (seen_after s x) (held_after b x) xs

-- ---- what is well formed after many boxes is so after fewer; and what is so with a page held is so with none

pub fewer : (s : Seen) (b : Bool) (xs : List Sort) → Stands many b xs → Stands s b xs
fewer s b [] h = tt
fewer none b (light ∷ xs) h = (tt, fewer none b xs h.1)
fewer one b (light ∷ xs) h = h
fewer many b (light ∷ xs) h = h
fewer none b (blank ∷ xs) h = (tt, fewer one b xs h.1)
fewer one b (blank ∷ xs) h = h
fewer many b (blank ∷ xs) h = h
fewer s true (real ∷ xs) h = h
fewer s false (real ∷ xs) h = h
fewer s true (silent ∷ xs) h = absurd h.0
fewer s false (silent ∷ xs) h = (tt, fewer s false xs h.1)
fewer s b (pause ∷ xs) h = h
fewer s true (hold ∷ xs) h = h
fewer s false (hold ∷ xs) h = h
fewer s b (k ∷ xs) h = absurd h.0

unheld : (s : Seen) (xs : List Sort) → Stands s true xs → Stands s false xs
unheld s [] h = tt
unheld s (light ∷ xs) h = (tt, unheld (seen_after s light) xs h.1)
unheld s (blank ∷ xs) h = (tt, unheld (seen_after s blank) xs h.1)
unheld s (pause ∷ xs) h = (tt, unheld none xs h.1)
unheld none (serve ∷ xs) h = absurd h.0
unheld one (serve ∷ xs) h = h
unheld many (serve ∷ xs) h = absurd h.0
unheld none (clear ∷ xs) h = absurd h.0
unheld one (clear ∷ xs) h = absurd h.0
unheld many (clear ∷ xs) h = absurd h.0
unheld s (k ∷ xs) h = absurd h.0

-- ---- the sort of a penalty

if_sort : (P : Sort → Type 0) (t : Bool) (x y : Sort) → P x → P y → P (if t then x else y)
if_sort P true x y a b = a
if_sort P false x y a b = b

-- what is true of the sorts of penalties
pub pen-sorts : (P : Sort → Type 0) → P light → P pause → P hold → P serve → P clear → P odd → (p : ℤ) → P (pen_sort p)
pen-sorts P l a h s c o p =
    if_sort P (int_le p eject_penalty) (forced_sort p) light
    (if_sort P (is_int p eject_penalty) pause _ a
    (if_sort P (is_int p clear_penalty) clear _ c
    (if_sort P (is_int p par_penalty || is_int p vert_penalty) serve _ s (if_sort P (is_int p hold_penalty) hold odd h o)))) l

-- the sorts of nodes that force no break
abbrev pub CalmSort : Sort → Type 0
CalmSort light = Unit {0}
CalmSort blank = Unit {0}
CalmSort real = Unit {0}
CalmSort silent = Unit {0}
CalmSort pause = ⊥
CalmSort hold = ⊥
CalmSort serve = ⊥
CalmSort clear = ⊥
CalmSort odd = ⊥

box-calm : (w : What) → CalmSort (box_sort w)
box-calm (what.Text name) = tt
box-calm w = tt

pub kind-calm : (k : PlainKind) → Calm k → CalmSort (kind_sort k)
kind-calm (plain (hbox w h d)) c = box-calm w
kind-calm (plain (pen p)) c = rw c tt
kind-calm k c = tt

pub sorts-calm : (ns : List PlainNode) → AllCalm ns → AllByRecursion CalmSort (sorts ns)
sorts-calm [] h = tt
sorts-calm (n ∷ ns) h = (kind-calm n.kind h.0, sorts-calm ns h.1)

-- ---- the top of a page

pen-pruned : (xs : List Sort) (p : ℤ) (b : Bool) → Stands none b (pen_sort p ∷ xs) → Stands none b xs
pen-pruned xs p = pen-sorts (λ x. (b : Bool) → Stands none b (x ∷ xs) → Stands none b xs) (λ b h. h.1) (λ b h. h.1) at_hold (λ b h. absurd h.0) (λ b h. absurd h.0) (λ b h. absurd h.0) p
  where
    at_hold : (b : Bool) → Stands none b (hold ∷ xs) → Stands none b xs
    at_hold true h = absurd h.0
    at_hold false h = unheld none xs h.1

node-pruned : (t : ℤ) (ns : List PlainNode) → ((b : Bool) → Stands none b (sorts ns) → Stands none b (sorts (pruned_nodes t ns))) → (l : ℕ) (k : PlainKind) (b : Bool) → Stands none b (kind_sort k ∷ sorts ns) → Stands none b (sorts (pruned_nodes t (record { line = l; kind = k } ∷ ns)))
node-pruned t ns h l (plain (hbox w a d)) b s = (tt, s)
node-pruned t ns h l (plain (rule name a d)) b s = (tt, s)
node-pruned t ns h l (plain (skip g)) b s = h b s.1
node-pruned t ns h l (plain (kerned w)) b s = h b s.1
node-pruned t ns h l (plain (pen p)) b s = h b (pen-pruned (sorts ns) p b s)
node-pruned t ns h l (act a) true s = absurd s.0
node-pruned t ns h l (act a) false s = (tt, h false s.1)
node-pruned t ns h l k b s = (tt, h b s.1)

pub pruned-stands : (t : ℤ) (ns : List PlainNode) (b : Bool) → Stands none b (sorts ns) → Stands none b (sorts (pruned_nodes t ns))
pruned-stands t [] b h = tt
pruned-stands t (n ∷ ns) b h = node-pruned t ns (λ b s. pruned-stands t ns b s) n.line n.kind b h

-- ---- a front in which nothing is forced

abbrev pub seen_all : Seen → List Sort → Seen
seen_all s [] = s
seen_all s (x ∷ xs) = seen_all (seen_after s x) xs

pub stands-after : (xs ys : List Sort) (s : Seen) (b : Bool) → AllByRecursion CalmSort xs → Stands s b (xs ++ ys) → Stands (seen_all s xs) b ys
stands-after [] ys s b c h = h
stands-after (light ∷ xs) ys s b c h = stands-after xs ys (seen_after s light) b c.1 h.1
stands-after (blank ∷ xs) ys s b c h = stands-after xs ys (seen_after s blank) b c.1 h.1
stands-after (real ∷ xs) ys s true c h = absurd h.0
stands-after (real ∷ xs) ys s false c h = stands-after xs ys many false c.1 h.1
stands-after (silent ∷ xs) ys s true c h = absurd h.0
stands-after (silent ∷ xs) ys s false c h = stands-after xs ys s false c.1 h.1
stands-after (k ∷ xs) ys s b c h = absurd c.0

-- without its acts a front leaves the same after it
kept-silent : (l : ℕ) (k : PlainKind) (ns : List PlainNode) (ys : List Sort) → ((s : Seen) (b : Bool) → Stands s b (sorts ns ++ ys) → Stands s b (sorts (without_acts ns) ++ ys)) → (s : Seen) (b : Bool) → Stands s b (kind_sort k ∷ sorts ns ++ ys) → Stands s b (sorts (without_acts (record { line = l; kind = k } ∷ ns)) ++ ys)
kept-silent l (plain m) ns ys h s b k = (k.0, h (seen_after s (kind_sort (plain m))) (held_after b (kind_sort (plain m))) k.1)
kept-silent l (ins i) ns ys h s b k = (tt, h (seen_after s light) b k.1)
kept-silent l (act a) ns ys h s true k = absurd k.0
kept-silent l (act a) ns ys h s false k = h s false k.1

pub acts-silent : (ns : List PlainNode) (ys : List Sort) (s : Seen) (b : Bool) → Stands s b (sorts ns ++ ys) → Stands s b (sorts (without_acts ns) ++ ys)
acts-silent [] ys s b h = h
acts-silent (n ∷ ns) ys s b h = kept-silent n.line n.kind ns ys (λ s b h. acts-silent ns ys s b h) s b h

-- a calm node that is no act
abbrev pub Steady : Sort → Type 0
Steady light = Unit {0}
Steady blank = Unit {0}
Steady real = Unit {0}
Steady silent = ⊥
Steady pause = ⊥
Steady hold = ⊥
Steady serve = ⊥
Steady clear = ⊥
Steady odd = ⊥

-- what begins with no forced break may begin a page
pub from-none : (x : Sort) (xs : List Sort) (s : Seen) (b : Bool) → Steady x → Stands s b (x ∷ xs) → Stands none b (x ∷ xs)
from-none light xs none b c h = h
from-none light xs one b c h = (tt, fewer none b xs h.1)
from-none light xs many b c h = (tt, fewer none b xs h.1)
from-none blank xs none b c h = h
from-none blank xs one b c h = (tt, fewer one b xs h.1)
from-none blank xs many b c h = (tt, fewer one b xs h.1)
from-none real xs s true c h = absurd h.0
from-none real xs s false c h = h
from-none silent xs s b c h = absurd c
from-none x xs s b c h = absurd c

pub box-steady : (w : What) → Steady (box_sort w)
box-steady (what.Text name) = tt
box-steady w = tt

pub kind-steady : (k : PlainKind) → Calm k → ActFree k → Steady (kind_sort k)
kind-steady (plain (hbox w h d)) c f = box-steady w
kind-steady (plain (pen p)) c f = rw c tt
kind-steady (act a) c f = absurd f
kind-steady k c f = tt
