-- Each clear comes directly after an empty box of no size.
use Rattle.std.proofs.Common.{◌≡◌, refl, subst, ℕ, ℤ, Bool, true, false, ◌+◌, List, [], ◌∷◌, ◌++◌, arith}
use Rattle.std.specs.Prelude.{int_le, ◌&&◌, ◌||◌, if◌then◌else◌}
use Rattle.std.proofs.lemmas.Int.{ints}
use Rattle.tb_scaled.specs.Scaled.{is_zero, eject_penalty}
use Rattle.tb_node.specs.declared.What.TheVariants as what
use Rattle.tb_node.specs.PlainNodes.{hbox, rule, skip, kerned, pen, mark, note, whatsit, PlainKind, plain, ins, act, PlainNode, without_acts}
use Rattle.tb_break.specs.PageTop.{pruned_nodes}
use Rattle.tb_builder.specs.FiredPages.{with_spent_break}
use Rattle.tb_output.specs.Output.{is_int}
use Rattle.tb_sheet.specs.Asked.{clear_penalty, par_penalty, vert_penalty, hold_penalty}
use Rattle.tb_laws.proofs.Closed.Sorts.{light, pause, hold, serve, clear, odd, pen_sort}
use Rattle.tb_laws.proofs.DeadCycles.WaitCosts.{sort_cost, kind_cost, wait_cost}

-- a blank box of no size
abbrev pub is_flat : PlainKind → Bool
is_flat (plain (hbox (what.Text name) h d)) = false
is_flat (plain (hbox what.Blank h d)) = is_zero h && is_zero d
is_flat (plain (hbox (what.Float name class place item) h d)) = false
is_flat (plain (hbox (what.Margin name side item shift height depth) h d)) = false
is_flat (plain (rule name h d)) = false
is_flat (plain (skip g)) = false
is_flat (plain (kerned w)) = false
is_flat (plain (pen p)) = false
is_flat (plain (mark name)) = false
is_flat (plain (note name)) = false
is_flat (plain whatsit) = false
is_flat (ins i) = false
is_flat (act a) = false

-- a clear has such a box before it
abbrev pub EndsAt : Bool → PlainKind → Type 0
EndsAt b (plain (hbox w h d)) = Unit {0}
EndsAt b (plain (rule name h d)) = Unit {0}
EndsAt b (plain (skip g)) = Unit {0}
EndsAt b (plain (kerned w)) = Unit {0}
EndsAt b (plain (pen p)) = is_int p clear_penalty ≡ true → b ≡ true
EndsAt b (plain (mark name)) = Unit {0}
EndsAt b (plain (note name)) = Unit {0}
EndsAt b (plain whatsit) = Unit {0}
EndsAt b (ins i) = Unit {0}
EndsAt b (act a) = Unit {0}

-- each clear of the list has one; the flag says whether the node before the list is such a box
abbrev pub Ended : Bool → List PlainNode → Type 0
Ended b [] = Unit {0}
Ended b (n ∷ ns) = EndsAt b n.kind × Ended (is_flat n.kind) ns

pub ends-looser : (b : Bool) (k : PlainKind) → EndsAt false k → EndsAt b k
ends-looser b (plain (pen p)) e = λ h. let no : false ≡ true = e h in cc
ends-looser b k e = tt

pub looser : (b : Bool) (ns : List PlainNode) → Ended false ns → Ended b ns
looser b [] e = tt
looser b (n ∷ ns) e = (ends-looser b n.kind e.0, e.1)

pub ended-both : (b : Bool) (xs ys : List PlainNode) → Ended b xs → Ended false ys → Ended b (xs ++ ys)
ended-both b [] ys e g = looser b ys g
ended-both b (x ∷ xs) ys e g = (e.0, ended-both (is_flat x.kind) xs ys e.1 g)

-- ---- the top of a page

tight-kind : (t : ℤ) (ns : List PlainNode) → ((b : Bool) → b ≡ false → Ended b ns → Ended false (pruned_nodes t ns)) → (l : ℕ) (k : PlainKind) → EndsAt false k → Ended (is_flat k) ns → Ended false (pruned_nodes t (record { line = l; kind = k } ∷ ns))
tight-kind t ns h l (plain (hbox w x d)) e g = (tt, (tt, g))
tight-kind t ns h l (plain (rule name x d)) e g = (tt, (tt, g))
tight-kind t ns h l (plain (skip y)) e g = h false refl g
tight-kind t ns h l (plain (kerned w)) e g = h false refl g
tight-kind t ns h l (plain (pen p)) e g = h false refl g
tight-kind t ns h l k e g = (tt, h false refl g)

pub ended-pruned : (t : ℤ) (ns : List PlainNode) → Ended false ns → Ended false (pruned_nodes t ns)
ended-pruned t [] e = tt
ended-pruned t (n ∷ ns) e = tight-kind t ns (λ b i g. ended-pruned t ns (subst (λ (x : Bool). Ended x ns) i g)) n.line n.kind e.0 e.1

-- ---- a front

acts-kind : (l : ℕ) (k : PlainKind) (b : Bool) (ns ys : List PlainNode) → ((b : Bool) → Ended b (ns ++ ys) → Ended b (without_acts ns ++ ys)) → EndsAt b k → Ended (is_flat k) (ns ++ ys) → Ended b (without_acts (record { line = l; kind = k } ∷ ns) ++ ys)
acts-kind l (plain x) b ns ys h e g = (e, h (is_flat (plain x)) g)
acts-kind l (ins i) b ns ys h e g = (tt, h false g)
acts-kind l (act a) b ns ys h e g = h b (looser b (ns ++ ys) g)

pub ended-acts : (b : Bool) (ns ys : List PlainNode) → Ended b (ns ++ ys) → Ended b (without_acts ns ++ ys)
ended-acts b [] ys e = e
ended-acts b (n ∷ ns) ys e = acts-kind n.line n.kind b ns ys (λ b e. ended-acts b ns ys e) e.0 e.1

-- a last node like this, or one like that if the list is empty
abbrev pub flat_last : Bool → List PlainNode → Bool
flat_last b [] = b
flat_last b (n ∷ ns) = flat_last (is_flat n.kind) ns

pub ended-behind : (b : Bool) (xs ys : List PlainNode) → Ended b (xs ++ ys) → Ended (flat_last b xs) ys
ended-behind b [] ys e = e
ended-behind b (x ∷ xs) ys e = ended-behind (is_flat x.kind) xs ys e.1

-- ---- the break node is no clear any more

spent-kind : (l : ℕ) (k : PlainKind) (b : Bool) (ns : List PlainNode) → Ended (is_flat k) ns → Ended false (with_spent_break (record { line = l; kind = k } ∷ ns))
spent-kind l (plain (pen p)) b ns e = (λ h. cc, e)
spent-kind l k b ns e = (tt, e)

pub ended-spent : (b : Bool) (ns : List PlainNode) → Ended b ns → Ended false (with_spent_break ns)
ended-spent b [] e = tt
ended-spent b (n ∷ ns) e = spent-kind n.line n.kind b ns e.1

-- ---- what costs nothing has no clear

pen-no-clear : (p : ℤ) → sort_cost (pen_sort p) ≡ 0 → is_int p clear_penalty ≡ true → false ≡ true
pen-no-clear p h k = by_tests (int_le p eject_penalty) (is_int p eject_penalty) (is_int p clear_penalty) (is_int p par_penalty || is_int p vert_penalty) (is_int p hold_penalty) (grind (arith, ints, k)) (grind (arith, ints, k)) k h
  where
    by_tests : (t e c x z : Bool) → t ≡ true → e ≡ false → c ≡ true → sort_cost (if t then (if e then pause else (if c then clear else (if x then serve else (if z then hold else odd)))) else light) ≡ 0 → false ≡ true
    by_tests true false true x z u v w h = cc
    by_tests true false false x z u v w h = let no : ⊥ = grind (arith, w) in absurd no
    by_tests true true c x z u v w h = let no : ⊥ = grind (arith, v) in absurd no
    by_tests false e c x z u v w h = let no : ⊥ = grind (arith, u) in absurd no

pub free-kind : (k : PlainKind) → kind_cost k ≡ 0 → EndsAt false k
free-kind (plain (pen p)) e = λ k. pen-no-clear p e k
free-kind k e = tt

pub free-ended : (b : Bool) (ns : List PlainNode) → wait_cost ns ≡ 0 → Ended b ns
free-ended b [] e = tt
free-ended b (n ∷ ns) e = (ends-looser b n.kind (free-kind n.kind (first (kind_cost n.kind) (wait_cost ns) e)), free-ended (is_flat n.kind) ns (rest (kind_cost n.kind) (wait_cost ns) e))
  where
    first : (x y : ℕ) → x + y ≡ 0 → x ≡ 0
    first x y h = omega arith

    rest : (x y : ℕ) → x + y ≡ 0 → y ≡ 0
    rest x y h = omega arith
