-- If what waits has no insertions for the next page and fits up to a forced break, the page fires there, and the rest is what came after it.
use Rattle.std.proofs.Common.{◌≡◌, refl, sym, ◌∙◌, ap, subst, ℕ, ℤ, pos, true, List, [], ◌∷◌, ◌++◌, map, length, take, drop, arith}
use Rattle.std.specs.Prelude.{◌+ℤ◌, ◌-ℤ◌, ◌≤ℤ◌, int_le}
use Rattle.std.specs.List.{AllByRecursion}
use Rattle.std.proofs.lemmas.Int.{ints}
use Rattle.std.proofs.lemmas.List.{append_assoc}
use Rattle.std.proofs.Math.Seq.{take-length, drop-length}
use Rattle.tb_scaled.specs.Scaled.{eject_penalty, inf_penalty, max_ℤ}
use Rattle.tb_node.specs.declared.What.{What}
use Rattle.tb_node.specs.PlainNodes.{hbox, rule, skip, kerned, pen, mark, note, whatsit, PlainKind, plain, ins, act, PlainNode, node_shape}
use Rattle.tb_node.specs.Sums.{size_of, stretches, list_shrink}
use Rattle.tb_break.specs.PageTop.{pruned_nodes, top_glue}
use Rattle.tb_break.specs.Best.{Breakpoint}
use Rattle.tb_insert.specs.Terms.{bare_terms}
use Rattle.tb_insert.specs.Account.{ClassBox, class_charge, skip_shapes, Frozen, Labelled, labelled, labelled_from, terms_after, terms_of_labels}
use Rattle.tb_builder.specs.Reach.{Reach, reach_from, breakpoints}
use Rattle.tb_builder.specs.FiredPages.{Boxed, Fired, page_break, from_break, fired_by, box_after, no_place, penalty_at, with_spent_break, held_insertions}
use Rattle.tb_laws.proofs.PageBreaks.FittingPages.{Slim, AllSlim, slim-both, size-both, best-last, BreaksAt, breaks-at}
use Rattle.tb_insert.proofs.StandsLemmas.{none_met}

-- a node that vanishes at the top of a page, or stays there and takes no height
abbrev pub Topmost : PlainKind → Type 0
Topmost (plain (hbox w h d)) = ⊥
Topmost (plain (rule name h d)) = ⊥
Topmost (plain (skip g)) = Unit {0}
Topmost (plain (kerned w)) = Unit {0}
Topmost (plain (pen p)) = Unit {0}
Topmost (plain (mark name)) = Unit {0}
Topmost (plain (note name)) = Unit {0}
Topmost (plain whatsit) = Unit {0}
Topmost (ins i) = ⊥
Topmost (act a) = ⊥

abbrev pub AllTopmost : List PlainNode → Type 0
AllTopmost = AllByRecursion (λ n. Topmost n.kind)

abbrev pub flat_box : ℕ → What → PlainNode
flat_box line w = record { line = line; kind = plain (hbox w (pos 0) (pos 0)) }

abbrev pub break_at : ℕ → ℤ → PlainNode
break_at line q = record { line = line; kind = plain (pen q) }

-- nodes that vanish at the top or take no height there, a box of no size, slim nodes of no size, and the forced break before this tail
pub record Fitted (q : ℤ) (tail ns : List PlainNode) : Type 0 where
  pub top : List PlainNode
  pub box_line : ℕ
  pub what : What
  pub behind : List PlainNode
  pub line : ℕ
  pub whole : ns ≡ top ++ flat_box box_line what ∷ behind ++ break_at line q ∷ tail
  pub vanish : AllTopmost top
  pub slim : AllSlim behind
  pub flat : size_of (map node_shape behind) ≡ pos 0

-- ---- the top of the page

top-kind : (t : ℤ) (l : ℕ) (k : PlainKind) (ns ys : List PlainNode) → Topmost k → pruned_nodes t (ns ++ ys) ≡ pruned_nodes t ns ++ pruned_nodes t ys → pruned_nodes t (record { line = l; kind = k } ∷ ns ++ ys) ≡ pruned_nodes t (record { line = l; kind = k } ∷ ns) ++ pruned_nodes t ys
top-kind t l (plain (skip g)) ns ys k e = e
top-kind t l (plain (kerned w)) ns ys k e = e
top-kind t l (plain (pen p)) ns ys k e = e
top-kind t l (plain (mark name)) ns ys k e = ap (λ xs. record { line = l; kind = plain (mark name) } ∷ xs) e
top-kind t l (plain (note name)) ns ys k e = ap (λ xs. record { line = l; kind = plain (note name) } ∷ xs) e
top-kind t l (plain whatsit) ns ys k e = ap (λ xs. record { line = l; kind = plain whatsit } ∷ xs) e
top-kind t l x ns ys k e = absurd k

top-pruned : (t : ℤ) (ns ys : List PlainNode) → AllTopmost ns → pruned_nodes t (ns ++ ys) ≡ pruned_nodes t ns ++ pruned_nodes t ys
top-pruned t [] ys h = refl
top-pruned t (n ∷ ns) ys h = top-kind t n.line n.kind ns ys h.0 (top-pruned t ns ys h.1)

slim-kind : (t : ℤ) (l : ℕ) (k : PlainKind) (ns : List PlainNode) → Topmost k → AllSlim (pruned_nodes t ns) × (size_of (map node_shape (pruned_nodes t ns)) ≡ pos 0) → AllSlim (pruned_nodes t (record { line = l; kind = k } ∷ ns)) × (size_of (map node_shape (pruned_nodes t (record { line = l; kind = k } ∷ ns))) ≡ pos 0)
slim-kind t l (plain (skip g)) ns k e = e
slim-kind t l (plain (kerned w)) ns k e = e
slim-kind t l (plain (pen p)) ns k e = e
slim-kind t l (plain (mark name)) ns k e = ((tt, e.0), grind (arith, ints, e.1))
slim-kind t l (plain (note name)) ns k e = ((tt, e.0), grind (arith, ints, e.1))
slim-kind t l (plain whatsit) ns k e = ((tt, e.0), grind (arith, ints, e.1))
slim-kind t l x ns k e = absurd k

top-slim : (t : ℤ) (ns : List PlainNode) → AllTopmost ns → AllSlim (pruned_nodes t ns) × (size_of (map node_shape (pruned_nodes t ns)) ≡ pos 0)
top-slim t [] h = (tt, refl)
top-slim t (n ∷ ns) h = slim-kind t n.line n.kind ns h.0 (top-slim t ns h.1)

-- ---- no insertion is labelled

label-kind : (z : Frozen) (ls : List Labelled) (before : List PlainNode) (n : PlainNode) (ns : List PlainNode) → Slim n.kind → ((b : List PlainNode) → labelled_from z ls b ns ≡ ls) → labelled_from z ls before (n ∷ ns) ≡ ls
label-kind z ls before n ns s h = at n.kind s
  where
    at : (k : PlainKind) → Slim k → labelled_from z ls before (record { line = n.line; kind = k } ∷ ns) ≡ ls
    at (plain m) s = h (before ++ record { line = n.line; kind = plain m } ∷ [])
    at (ins i) s = absurd s
    at (act a) s = absurd s

none-labelled_from : (z : Frozen) (ls : List Labelled) (before ns : List PlainNode) → AllSlim ns → labelled_from z ls before ns ≡ ls
none-labelled_from z ls before [] s = refl
none-labelled_from z ls before (n ∷ ns) s = label-kind z ls before n ns s.0 (λ b. none-labelled_from z ls b ns s.1)

pub slim-unlabelled : (z : Frozen) (ns : List PlainNode) → AllSlim ns → labelled z ns ≡ []
slim-unlabelled z ns s = none-labelled_from z [] [] ns s

bare-labels : (goal limit : ℤ) (cs : List ClassBox) → terms_of_labels (record { goal = goal; limit = limit; classes = cs }) [] ≡ bare_terms goal
bare-labels goal limit cs = ap (λ m. record { goal = goal -ℤ class_charge m -ℤ pos 0; penalties = pos 0; stretch = stretches (skip_shapes m); shrink = list_shrink (skip_shapes m) }) (none_met cs) ∙ same (goal -ℤ pos 0 -ℤ pos 0) (grind (arith, ints))
  where
    same : (g : ℤ) → g ≡ goal → bare_terms g ≡ bare_terms goal
    same g e = ap bare_terms e

pub bare-page : (goal limit : ℤ) (cs : List ClassBox) (ns : List PlainNode) → AllSlim ns → terms_after (record { goal = goal; limit = limit; classes = cs }) ns ≡ bare_terms goal
bare-page goal limit cs ns s = ap (terms_of_labels (record { goal = goal; limit = limit; classes = cs })) (slim-unlabelled (record { goal = goal; limit = limit; classes = cs }) ns s) ∙ bare-labels goal limit cs

-- ---- the page that fires

-- it fires at the break, holds nothing, gives nothing to the boxes, and the rest is what came after the break
pub record FiresAt (q : ℤ) (tail : List PlainNode) (bs : List Boxed) (w : Reach) (f : Fired) : Type 0 where
  pub fires : w.fires ≡ true
  pub penalty : f.penalty ≡ q
  pub line : ℕ
  pub rest : f.rest ≡ break_at line inf_penalty ∷ tail
  pub held : f.held ≡ []
  pub boxes : f.boxes ≡ bs

unchanged : (bs : List Boxed) → map (box_after []) bs ≡ bs
unchanged [] = refl
unchanged (b ∷ bs) = ap (λ xs. b ∷ xs) (unchanged bs)

-- the page breaks at the forced break, with all slim nodes on it
slim-fires : (z : Frozen) (q : ℤ) (page : List PlainNode) (line : ℕ) (tail : List PlainNode) (bs : List Boxed) (w : Reach) → AllSlim page → BreaksAt q page (break_at line q ∷ tail) w → FiresAt q tail bs w (fired_by (labelled z (take (page_break w).place w.passed)) bs w)
slim-fires z q page line tail bs w s h = record {
  fires = h.fires;
  penalty = ap penalty_at rest;
  line = line;
  rest = ap with_spent_break rest;
  held = ap held_insertions none;
  boxes = ap (λ ls. map (box_after ls) bs) none ∙ unchanged bs;
}
  where
    place : (page_break w).place ≡ length page
    place = ap (λ (b : Breakpoint). b.place) (best-last no_place q (length page) (breakpoints w.reached) h.best) ∙ h.best.at

    taken : take (page_break w).place w.passed ≡ page
    taken = ap (λ k. take k w.passed) place ∙ ap (λ ns. take (length page) ns) h.passed ∙ take-length page

    rest : from_break w ≡ break_at line q ∷ tail
    rest = ap (λ k. drop k w.passed ++ w.beyond) place ∙ ap (λ ns. drop (length page) ns ++ w.beyond) h.passed ∙ ap (λ ns. ns ++ w.beyond) (drop-length page) ∙ h.beyond

    none : labelled z (take (page_break w).place w.passed) ≡ []
    none = ap (labelled z) taken ∙ slim-unlabelled z page s

module _ (goal limit t q : ℤ) (cs : List ClassBox) (deep : pos 0 ≤ℤ limit) (forced : int_le q eject_penalty ≡ true) (low : pos 0 ≤ℤ t) (room : t ≤ℤ goal) where
  abbrev frozen : Frozen
  frozen = record { goal = goal; limit = limit; classes = cs }

  -- what waits fits up to the forced break, so the next page fires there
  pub fitted-fires : (ns tail : List PlainNode) → Fitted q tail ns → (bs : List Boxed) → FiresAt q tail bs (reach_from limit (terms_after frozen) [] (pruned_nodes t ns)) (fired_by (labelled frozen (take (page_break (reach_from limit (terms_after frozen) [] (pruned_nodes t ns))).place (reach_from limit (terms_after frozen) [] (pruned_nodes t ns)).passed)) bs (reach_from limit (terms_after frozen) [] (pruned_nodes t ns)))
  fitted-fires ns tail h bs = slim-fires frozen q page h.line tail bs (reach_from limit (terms_after frozen) [] (pruned_nodes t ns)) slim (subst (λ (xs : List PlainNode). BreaksAt q page (break_at h.line q ∷ tail) (reach_from limit (terms_after frozen) [] xs)) (sym laid) (breaks-at limit goal deep (terms_after frozen) (λ xs s. bare-page goal limit cs xs s) q forced [] page h.line tail tt slim size))
    where
      page : List PlainNode
      page = pruned_nodes t h.top ++ record { line = h.box_line; kind = plain (skip (top_glue t (pos 0))) } ∷ flat_box h.box_line h.what ∷ h.behind

      laid : pruned_nodes t ns ≡ page ++ break_at h.line q ∷ tail
      laid =
          ap (pruned_nodes t) (h.whole ∙ append_assoc h.top (flat_box h.box_line h.what ∷ h.behind) (break_at h.line q ∷ tail))
          ∙ top-pruned t h.top (flat_box h.box_line h.what ∷ h.behind ++ break_at h.line q ∷ tail) h.vanish
          ∙ sym (append_assoc (pruned_nodes t h.top) (record { line = h.box_line; kind = plain (skip (top_glue t (pos 0))) } ∷ flat_box h.box_line h.what ∷ h.behind) (break_at h.line q ∷ tail))

      wide : (m : ℤ) → pos 0 ≤ℤ max_ℤ m (pos 0)
      wide m = grind (arith, ints)

      slim : AllSlim page
      slim = slim-both (pruned_nodes t h.top) (record { line = h.box_line; kind = plain (skip (top_glue t (pos 0))) } ∷ flat_box h.box_line h.what ∷ h.behind) (top-slim t h.top h.vanish).0 ((wide (t -ℤ pos 0), refl, refl), ((refl, refl), h.slim))

      size : size_of (map node_shape page) ≤ℤ goal
      size = sums (size_of (map node_shape (pruned_nodes t h.top))) (size_of (map node_shape h.behind)) (size_of (map node_shape page)) (size-both (pruned_nodes t h.top) (record { line = h.box_line; kind = plain (skip (top_glue t (pos 0))) } ∷ flat_box h.box_line h.what ∷ h.behind)) (top-slim t h.top h.vanish).1 h.flat
        where
          sums : (a b c : ℤ) → c ≡ a +ℤ (max_ℤ (t -ℤ pos 0) (pos 0) +ℤ ((pos 0 +ℤ pos 0) +ℤ b)) → a ≡ pos 0 → b ≡ pos 0 → c ≤ℤ goal
          sums a b c e i j = grind (arith, ints, e, i, j, low, room)
