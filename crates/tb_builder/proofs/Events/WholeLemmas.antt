-- A whole page of sized nodes: what `next` requires at its beginning, what is reached of it, and the page that fires.
use Rattle.std.proofs.Common.{sym, subst, ℕ, zero, suc, ◌+◌, ◌≤◌, ℤ, Bool, true, false, List, [], ◌∷◌, ◌++◌, take, None, arith}
use Rattle.std.specs.Prelude.{All, if◌then◌else◌}
use Rattle.std.specs.List.{AllByRecursion}
use Rattle.std.proofs.lemmas.List.Elements.{All-nil, All-append}
use Rattle.tb_node.specs.PlainNodes.{PlainKind, plain, ins, act, PlainNode, without_acts, without_insertions}
use Rattle.tb_break.specs.PageTop.{pruned_nodes}
use Rattle.tb_insert.specs.declared.Class.{Class}
use Rattle.tb_insert.specs.Terms.{Terms}
use Rattle.tb_insert.specs.Account.{Labelled, terms_after}
use Rattle.tb_builder.specs.declared.Ask.{Ask}
use Rattle.tb_builder.specs.Reach.{Reach, holds_box, laid_out, reach_from}
use Rattle.tb_builder.specs.FiredPages.{Boxed, page_break, fired_by, frozen_for, reach_of, fired_of}
use Rattle.tb_builder.specs.Contents.{Contents, node_count, box_count}
use Rattle.tb_builder.specs.Ownership.{ClassesFit}
use Rattle.tb_builder.specs.PageEvents.{NextFits}
use Rattle.tb_builder.specs.Pageable.{IsSizedOnPage, IsSizedClass, IsSizedBox}
use Rattle.tb_builder.specs.SizedContents.{IsSizedAsk, IsSizedContents, whole_count, AreBoxesOf, fired_count}
use Rattle.tb_builder.proofs.Cutting.CutLemmas.{CutAt, reach-cut}
use Rattle.tb_builder.proofs.Ranges.PageableLemmas.{count-append, pruned_sized, pruned_nodes_longer}
use Rattle.tb_builder.proofs.Ranges.SizedLemmas.{FiredSized, fired_by_sized}
use Rattle.tb_builder.proofs.FiredPages.FiredCounts.{fired_by-fewer}
use Rattle.tb_builder.proofs.Ranges.KeptLemmas.{kept-fits}
use Rattle.tb_builder.proofs.Handover.CallLemmas.{list-sized, list-count}

-- ---- between two pages

-- nothing is on the page and nothing is held
abbrev pub between : List Class → List Boxed → List PlainNode → Contents
between cs bs waiting = record { classes = cs; boxes = bs; page = []; waiting = waiting; held = []; frozen = None; stopped = false }

module _ (cs : List Class) (bs : List Boxed) (waiting : List PlainNode) (classes : All IsSizedClass cs) (classes_fit : ClassesFit cs) (boxes : All IsSizedBox bs) (nodes : All IsSizedOnPage waiting) where
  pub between-sized : IsSizedContents (between cs bs waiting)
  between-sized = record { nodes = list-sized false [] waiting (All-nil IsSizedOnPage) nodes; held = All-nil IsSizedOnPage; boxes = boxes; classes = classes; classes_fit = classes_fit; frozen = tt }

  pub between-count : whole_count (between cs bs waiting) ≤ node_count waiting + box_count bs + 1
  between-count = let h = list-count false [] waiting in omega (arith, h)

  -- what `next` requires at the beginning of a page
  pub between-fits : (ask : Ask) → IsSizedAsk ask → node_count waiting + box_count bs ≤ 4194304 → NextFits (between cs bs waiting) ask
  between-fits ask asked few = kept-fits (between cs bs waiting) ask between-sized asked (let h = between-count in omega (arith, h, few)) (omega (arith, few))

-- ---- what is reached

laid_whole : (t : Bool) (ask : Ask) (page waiting : List PlainNode) → IsSizedAsk ask → All IsSizedOnPage page → All IsSizedOnPage waiting
    → All IsSizedOnPage (page ++ (if t then waiting else pruned_nodes ask.top_skip waiting)) × (node_count (page ++ (if t then waiting else pruned_nodes ask.top_skip waiting)) ≤ node_count page + node_count waiting + 1)
laid_whole true ask page waiting asked p w = let e = count-append page waiting in (All-append IsSizedOnPage page waiting p w, omega (arith, e))
laid_whole false ask page waiting asked p w =
    let e = count-append page (pruned_nodes ask.top_skip waiting) in
    let l = pruned_nodes_longer ask.top_skip waiting in
    (All-append IsSizedOnPage page (pruned_nodes ask.top_skip waiting) p (pruned_sized ask.top_skip waiting asked.top_skip w), omega (arith, e, l))

module _ (ask : Ask) (cs : List Class) (bs : List Boxed) (page waiting : List PlainNode) (asked : IsSizedAsk ask) (p : All IsSizedOnPage page) (w : All IsSizedOnPage waiting) where
  list : All IsSizedOnPage (laid_out ask.top_skip page waiting) × (node_count (laid_out ask.top_skip page waiting) ≤ node_count page + node_count waiting + 1)
  list = laid_whole (holds_box page) ask page waiting asked p w

  abbrev terms : List PlainNode → Terms
  terms = terms_after (frozen_for ask cs bs)

  -- the page that fires
  pub fired_of-sized : All IsSizedBox bs → FiredSized (fired_of ask cs bs (reach_of ask cs bs page waiting))
  fired_of-sized boxes = fired_by_sized ask.max_depth terms (frozen_for ask cs bs) bs (laid_out ask.top_skip page waiting) list.0 boxes

  pub fired_of-fewer : ClassesFit cs → AreBoxesOf cs bs → fired_count (fired_of ask cs bs (reach_of ask cs bs page waiting)) ≤ node_count page + node_count waiting + box_count bs + 1
  fired_of-fewer classes boxed = let h = fired_by-fewer ask.max_depth terms (frozen_for ask cs bs) cs bs (laid_out ask.top_skip page waiting) classes boxed in omega (arith, h, list.1)

-- ---- the body

-- neither an insertion nor an act
abbrev pub IsMatterKind : PlainKind → Type 0
IsMatterKind (plain m) = Unit {0}
IsMatterKind (ins i) = ⊥
IsMatterKind (act a) = ⊥

abbrev pub AreMatter : List PlainNode → Type 0
AreMatter = AllByRecursion (λ n. IsMatterKind n.kind)

abbrev IsActless : PlainKind → Type 0
IsActless (plain m) = Unit {0}
IsActless (ins i) = Unit {0}
IsActless (act a) = ⊥

abbrev AreActless : List PlainNode → Type 0
AreActless = AllByRecursion (λ n. IsActless n.kind)

actless_by : (l : ℕ) (k : PlainKind) (ns : List PlainNode) → AreActless (without_acts ns) → AreActless (without_acts (record { line = l; kind = k } ∷ ns))
actless_by l (plain m) ns h = (tt, h)
actless_by l (ins i) ns h = (tt, h)
actless_by l (act a) ns h = h

actless : (ns : List PlainNode) → AreActless (without_acts ns)
actless [] = tt
actless (n ∷ ns) = actless_by n.line n.kind ns (actless ns)

actless_front : (k : ℕ) (ns : List PlainNode) → AreActless ns → AreActless (take k ns)
actless_front zero ns h = tt
actless_front (suc k) [] h = tt
actless_front (suc k) (n ∷ ns) h = (h.0, actless_front k ns h.1)

matter_by : (l : ℕ) (k : PlainKind) (ns : List PlainNode) → IsActless k → AreMatter (without_insertions ns) → AreMatter (without_insertions (record { line = l; kind = k } ∷ ns))
matter_by l (plain m) ns a h = (tt, h)
matter_by l (ins i) ns a h = h
matter_by l (act x) ns a h = absurd a

matter_left : (ns : List PlainNode) → AreActless ns → AreMatter (without_insertions ns)
matter_left [] a = tt
matter_left (n ∷ ns) a = matter_by n.line n.kind ns a.0 (matter_left ns a.1)

-- the body of a page that fires has neither insertions nor acts
pub fired-matter : (limit : ℤ) (terms : List PlainNode → Terms) (ls : List Labelled) (bs : List Boxed) (ns : List PlainNode) → AreMatter (fired_by ls bs (reach_from limit terms [] ns)).body
fired-matter limit terms ls bs ns =
    let w : Reach = reach_from limit terms [] ns in
    let cut : CutAt [] ns w = reach-cut limit terms [] ns in
    matter_left (take (page_break w).place w.passed) (actless_front (page_break w).place w.passed (subst AreActless (sym cut.passed) (actless cut.front)))
