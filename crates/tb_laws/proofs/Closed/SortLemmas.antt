-- Where the penalties are at which the routine does something special. What matters of a node is its sort; a list is well
-- formed if a walk over it never meets a penalty out of place.
use Rattle.std.proofs.Common.{◌≡◌, refl, sym, ◌∙◌, ap, subst, ℕ, zero, suc, ℤ, Bool, true, false, List, [], ◌∷◌, ◌++◌, take, drop, arith}
use Rattle.std.specs.Prelude.{int_le, ◌||◌, if◌then◌else◌}
use Rattle.std.specs.List.{AllByRecursion}
use Rattle.std.proofs.lemmas.Int.{ints}
use Rattle.tb_break.proofs.EachLemmas.{all-take}
use Rattle.tb_scaled.specs.Scaled.{eject_penalty, inf_penalty}
use Rattle.tb_node.specs.declared.What.TheVariants as what
use Rattle.tb_node.specs.PlainNodes.{hbox, rule, pen, PlainKind, plain, ins, act, PlainNode, without_acts, without_insertions}
use Rattle.tb_node.proofs.Weights.{Weight, nodes_weight}
use Rattle.tb_insert.specs.Account.{Labelled}
use Rattle.tb_builder.specs.FiredPages.{Boxed, page_break, from_break, fired_by, with_spent_break, penalty_at}
use Rattle.tb_builder.specs.Reach.{Reach}
use Rattle.tb_builder.proofs.Cutting.CutLemmas.{Calm, AllCalm, ActFree, FirstFree, AllFree, CutAt, acts-free}
use Rattle.tb_output.specs.Output.{is_int}
use Rattle.tb_sheet.specs.Asked.{clear_penalty, par_penalty, vert_penalty, hold_penalty}
use Rattle.tb_laws.proofs.NothingLost.WorkWeights.{is_serving, Careful}
use Rattle.tb_laws.proofs.Closed.Sorts.{Sort, pen_sort, box_sort, kind_sort, sorts, Seen, Stands, pen-sorts, CalmSort, sorts-calm, seen_all, stands-after, acts-silent, from-none, box-steady, light, blank, real, silent, pause, hold, serve, clear, odd, none, one, many}
use Rattle.tb_laws.proofs.PageBreaks.PausedPages.{calm-acts}
pub use Rattle.tb_laws.proofs.Closed.Sorts.{Sort, light, blank, real, silent, pause, hold, serve, clear, odd, Seen, none, one, many, Stands, Steady, pen_sort, kind_sort, sorts, kind-steady, fewer, pruned-stands}

-- ---- the break

-- the rest is well formed after a break at a node of this sort, with a page held or not, and with these boxes seen
abbrev pub BreakStands : Bool → Seen → List PlainNode → Sort → Type 0
BreakStands b s rest light = Stands none b (sorts rest)
BreakStands b s rest blank = Stands none b (sorts rest)
BreakStands b s rest real = Stands none b (sorts rest)
BreakStands b s rest silent = Stands none b (sorts rest)
BreakStands b s rest pause = Stands none b (sorts rest)
BreakStands b s rest hold = (b ≡ false) × Stands none true (sorts rest)
BreakStands b s rest serve = (s ≡ one) × Stands many false (sorts rest)
BreakStands b s rest clear = (s ≡ one) × (b ≡ false) × Stands many false (sorts rest)
BreakStands b s rest odd = ⊥

forced-stands : (ns : List PlainNode) (l : ℕ) (s : Seen) (p : ℤ) (b : Bool) → Stands s b (pen_sort p ∷ sorts ns) → BreakStands b s (record { line = l; kind = plain (pen inf_penalty) } ∷ ns) (pen_sort p)
forced-stands ns l s p = pen-sorts (λ x. (b : Bool) → Stands s b (x ∷ sorts ns) → BreakStands b s (record { line = l; kind = plain (pen inf_penalty) } ∷ ns) x) (λ b h. from-none light (sorts ns) s b tt h) (λ b h. (tt, h.1)) (at_hold s) (at_serve s) (at_clear s) (λ b h. absurd h.0) p
  where
    at_hold : (s : Seen) (b : Bool) → Stands s b (hold ∷ sorts ns) → BreakStands b s (record { line = l; kind = plain (pen inf_penalty) } ∷ ns) hold
    at_hold s true h = absurd h.0
    at_hold s false h = (refl, (tt, h.1))

    at_serve : (s : Seen) (b : Bool) → Stands s b (serve ∷ sorts ns) → BreakStands b s (record { line = l; kind = plain (pen inf_penalty) } ∷ ns) serve
    at_serve none b h = absurd h.0
    at_serve one b h = (refl, (tt, h.1))
    at_serve many b h = absurd h.0

    at_clear : (s : Seen) (b : Bool) → Stands s b (clear ∷ sorts ns) → BreakStands b s (record { line = l; kind = plain (pen inf_penalty) } ∷ ns) clear
    at_clear none b h = absurd h.0
    at_clear one true h = absurd h.0
    at_clear one false h = (refl, refl, (tt, h.1))
    at_clear many b h = absurd h.0

-- a break at any node that is no act
node-stands : (ns : List PlainNode) (l : ℕ) (k : PlainKind) (s : Seen) (b : Bool) → ActFree k → Stands s b (kind_sort k ∷ sorts ns) → BreakStands b s (with_spent_break (record { line = l; kind = k } ∷ ns)) (pen_sort (penalty_at (record { line = l; kind = k } ∷ ns)))
node-stands ns l (plain (hbox w a d)) s b f h = from-none (box_sort w) (sorts ns) s b (box-steady w) h
node-stands ns l (plain (rule name a d)) s b f h = from-none real (sorts ns) s b tt h
node-stands ns l (plain (pen p)) s b f h = forced-stands ns l s p b h
node-stands ns l (act a) s b f h = absurd f
node-stands ns l k s b f h = from-none light (sorts ns) s b tt h

pub break-stands : (ns : List PlainNode) (s : Seen) (b : Bool) → FirstFree ns → Stands s b (sorts ns) → BreakStands b s (with_spent_break ns) (pen_sort (penalty_at ns))
break-stands [] s b f h = tt
break-stands (n ∷ ns) s b f h = node-stands ns n.line n.kind s b f h

-- ---- a page that holds one blank box alone weighs nothing

pub never-one : (xs : List Sort) → AllByRecursion CalmSort xs → seen_all many xs ≡ one → ⊥
never-one [] c e = let no : Some_one many = subst Some_one (sym e) tt in no
  where
    Some_one : Seen → Type 0
    Some_one none = ⊥
    Some_one one = Unit {0}
    Some_one many = ⊥
never-one (light ∷ xs) c e = never-one xs c.1 e
never-one (blank ∷ xs) c e = never-one xs c.1 e
never-one (real ∷ xs) c e = never-one xs c.1 e
never-one (silent ∷ xs) c e = never-one xs c.1 e
never-one (k ∷ xs) c e = absurd c.0

-- after a blank box nothing comes
pub behind-one : (ns : List PlainNode) → AllCalm ns → AllFree ns → seen_all one (sorts ns) ≡ one → ns ≡ []
behind-one [] c f e = refl
behind-one (n ∷ ns) c f e = absurd (behind n.kind c.0 f.0 e)
  where
    behind : (k : PlainKind) → Calm k → ActFree k → seen_all one (kind_sort k ∷ sorts ns) ≡ one → ⊥
    behind (plain (hbox (what.Text name) h d)) a g e = never-one (sorts ns) (sorts-calm ns c.1) e
    behind (plain (pen p)) a g e = never-one (sorts ns) (sorts-calm ns c.1) (rw a at e)
    behind (act x) a g e = g
    behind k a g e = never-one (sorts ns) (sorts-calm ns c.1) e

one-rest : (v : Weight) (ns : List PlainNode) → AllCalm ns → AllFree ns → seen_all one (sorts ns) ≡ one → nodes_weight v (without_insertions ns) ≡ 0
one-rest v ns c f e = ap (λ xs. nodes_weight v (without_insertions xs)) (behind-one ns c f e)

one-more : (v : Weight) (ns : List PlainNode) → AllCalm ns → AllFree ns → (seen_all none (sorts ns) ≡ one → nodes_weight v (without_insertions ns) ≡ 0) → (l : ℕ) (k : PlainKind) → Calm k → ActFree k → seen_all none (kind_sort k ∷ sorts ns) ≡ one → nodes_weight v (without_insertions (record { line = l; kind = k } ∷ ns)) ≡ 0
one-more v ns c f h l (plain (hbox (what.Text name) x d)) a g e = absurd (never-one (sorts ns) (sorts-calm ns c) e)
one-more v ns c f h l (plain (hbox what.Blank x d)) a g e = let k : nodes_weight v (without_insertions ns) ≡ 0 = one-rest v ns c f e in omega arith
one-more v ns c f h l (plain (hbox (what.Float name class place item) x d)) a g e = absurd (never-one (sorts ns) (sorts-calm ns c) e)
one-more v ns c f h l (plain (hbox (what.Margin name side item shift height depth) x d)) a g e = absurd (never-one (sorts ns) (sorts-calm ns c) e)
one-more v ns c f h l (plain (rule name x d)) a g e = absurd (never-one (sorts ns) (sorts-calm ns c) e)
one-more v ns c f h l (plain (pen p)) a g e = let k : nodes_weight v (without_insertions ns) ≡ 0 = h (rw a at e) in omega arith
one-more v ns c f h l (ins i) a g e = h e
one-more v ns c f h l (act x) a g e = absurd g
one-more v ns c f h l x a g e = let k : nodes_weight v (without_insertions ns) ≡ 0 = h e in omega arith

-- a list whose boxes are one blank box weighs nothing without its insertions
pub one-weight : (v : Weight) (ns : List PlainNode) → AllCalm ns → AllFree ns → seen_all none (sorts ns) ≡ one → nodes_weight v (without_insertions ns) ≡ 0
one-weight v [] c f e = refl
one-weight v (n ∷ ns) c f e = one-more v ns c.1 f.1 (λ e. one-weight v ns c.1 f.1 e) n.line n.kind c.0 f.0 e

-- ---- a page, from what waits

pub sorts-append : (xs ys : List PlainNode) → sorts (xs ++ ys) ≡ sorts xs ++ sorts ys
sorts-append [] ys = refl
sorts-append (x ∷ xs) ys = ap (λ l. kind_sort x.kind ∷ l) (sorts-append xs ys)

pub take-drop : {X : Type 0} (k : ℕ) (xs ys : List X) → xs ++ ys ≡ take k xs ++ (drop k xs ++ ys)
take-drop zero xs ys = refl
take-drop (suc k) [] ys = refl
take-drop (suc k) (x ∷ xs) ys = ap (λ l. x ∷ l) (take-drop k xs ys)

-- without acts after its cut, a list begins with none
pub free-drop : (k : ℕ) (xs ys : List PlainNode) → AllFree xs → FirstFree ys → FirstFree (drop k xs ++ ys)
free-drop zero [] ys h f = f
free-drop zero (x ∷ xs) ys h f = h.0
free-drop (suc k) [] ys h f = f
free-drop (suc k) (x ∷ xs) ys h f = free-drop k xs ys h.1 f

-- what a cut of the page at a place leaves: a calm list before it, and a well-formed rest
pub record PageStands (b : Bool) (k : ℕ) (w : Reach) : Type 0 where
  pub calm : AllCalm (take k w.passed)
  pub free : AllFree (take k w.passed)
  pub rest : BreakStands b (seen_all none (sorts (take k w.passed))) (with_spent_break (drop k w.passed ++ w.beyond)) (pen_sort (penalty_at (drop k w.passed ++ w.beyond)))

pub cut-stands : (ns : List PlainNode) (w : Reach) (b : Bool) (k : ℕ) → CutAt [] ns w → Stands none b (sorts ns) → PageStands b k w
cut-stands ns w b k h s = record { calm = before_calm; free = before_free; rest = break-stands (drop k w.passed ++ w.beyond) (seen_all none (sorts (take k w.passed))) b first behind }
  where
    calm : AllCalm w.passed
    calm = subst AllCalm (sym h.passed) (calm-acts h.front h.calm)

    free : AllFree w.passed
    free = subst AllFree (sym h.passed) (acts-free h.front)

    before_calm : AllCalm (take k w.passed)
    before_calm = all-take (λ n. Calm n.kind) k w.passed calm

    before_free : AllFree (take k w.passed)
    before_free = all-take (λ n. ActFree n.kind) k w.passed free

    first : FirstFree (drop k w.passed ++ w.beyond)
    first = free-drop k w.passed w.beyond free h.first

    whole : Stands none b (sorts (take k w.passed) ++ sorts (drop k w.passed ++ w.beyond))
    whole = subst (Stands none b) (sorts-append (take k w.passed) (drop k w.passed ++ w.beyond))
        (subst (λ l. Stands none b (sorts l)) (ap (λ l. l ++ w.beyond) (sym h.passed) ∙ take-drop k w.passed w.beyond)
        (subst (Stands none b) (sym (sorts-append (without_acts h.front) w.beyond))
        (acts-silent h.front (sorts w.beyond) none b (subst (Stands none b) (sorts-append h.front w.beyond) (subst (λ l. Stands none b (sorts l)) h.whole s)))))

    behind : Stands (seen_all none (sorts (take k w.passed))) b (sorts (drop k w.passed ++ w.beyond))
    behind = stands-after (sorts (take k w.passed)) (sorts (drop k w.passed ++ w.beyond)) none b (sorts-calm (take k w.passed) before_calm) whole

-- ---- what a firing needs of its page

serving-one : (b : Bool) (s : Seen) (rest : List PlainNode) (q : ℤ) → int_le eject_penalty q ≡ false → is_serving q ≡ true → BreakStands b s rest (pen_sort q) → s ≡ one
serving-one b s rest q h k r = by_tests (int_le q eject_penalty) (is_int q eject_penalty) (is_int q clear_penalty) (is_int q par_penalty || is_int q vert_penalty) (is_int q hold_penalty) (grind (arith, ints, h)) (grind (arith, ints, h)) k r
  where
    by_tests : (t e c x z : Bool) → t ≡ true → e ≡ false → (c || x) ≡ true → BreakStands b s rest (if t then (if e then pause else (if c then clear else (if x then serve else (if z then hold else odd)))) else light) → s ≡ one
    by_tests true false true x z u v k r = r.0
    by_tests true false false true z u v k r = r.0
    by_tests true false false false z u v k r = let no : ⊥ = grind (arith, k) in absurd no
    by_tests true true c x z u v k r = let no : ⊥ = grind (arith, v) in absurd no
    by_tests false e c x z u v k r = let no : ⊥ = grind (arith, u) in absurd no

holding-free : (b : Bool) (s : Seen) (rest : List PlainNode) (q : ℤ) → int_le eject_penalty q ≡ false → is_serving q ≡ false → BreakStands b s rest (pen_sort q) → (b ≡ false) × Stands none true (sorts rest)
holding-free b s rest q h k r = by_tests (int_le q eject_penalty) (is_int q eject_penalty) (is_int q clear_penalty) (is_int q par_penalty || is_int q vert_penalty) (is_int q hold_penalty) (grind (arith, ints, h)) (grind (arith, ints, h)) k r
  where
    by_tests : (t e c x z : Bool) → t ≡ true → e ≡ false → (c || x) ≡ false → BreakStands b s rest (if t then (if e then pause else (if c then clear else (if x then serve else (if z then hold else odd)))) else light) → (b ≡ false) × Stands none true (sorts rest)
    by_tests true false true x z u v k r = let no : ⊥ = grind (arith, k) in absurd no
    by_tests true false false true z u v k r = let no : ⊥ = grind (arith, k) in absurd no
    by_tests true false false false true u v k r = r
    by_tests true false false false false u v k r = absurd r
    by_tests true true c x z u v k r = let no : ⊥ = grind (arith, v) in absurd no
    by_tests false e c x z u v k r = let no : ⊥ = grind (arith, u) in absurd no

-- a page cut from a well-formed list loses nothing
pub page-careful : (v : Weight) (b : Bool) (ls : List Labelled) (boxes : List Boxed) (w : Reach) (held : List PlainNode) → (b ≡ false → held ≡ []) → PageStands b (page_break w).place w → Careful v held (fired_by ls boxes w)
page-careful v b ls boxes w held h p = record {
  list = λ x y. one-weight v (take (page_break w).place w.passed) p.calm p.free (serving-one b _ _ (penalty_at (from_break w)) x y p.rest);
  page = λ x y. ap (nodes_weight v) (h (holding-free b _ _ (penalty_at (from_break w)) x y p.rest).0);
}
