-- A page that is not begun yet, with marks, notes and whatsits alone.
use Rattle.std.proofs.Common.{◌≡◌, refl, sym, subst, ◌∙◌, ap, ℕ, ℤ, Bool, true, false, List, [], ◌∷◌, ◌++◌, None, append_assoc, append-nil}
use Rattle.std.specs.Prelude.{◌||◌}
use Rattle.std.proofs.lemmas.Bool.{true≢false}
use Rattle.std.proofs.Math.Bool.{or_assoc}
use Rattle.tb_pool.specs.Lists.{Lists}
use Rattle.tb_node.specs.declared.Act.{Act}
use Rattle.tb_node.specs.declared.Node.{Node}
use Rattle.tb_node.specs.Shape.{is_box}
use Rattle.tb_node.specs.PlainNodes.{hbox, rule, skip, kerned, pen, mark, note, whatsit, PlainKind, plain, ins, act, PlainNode, node_shape, is_insertion_kind}
use Rattle.tb_break.specs.PageTop.{pruned_nodes}
use Rattle.tb_insert.specs.Terms.{Terms}
use Rattle.tb_builder.specs.declared.Builder.{Builder}
use Rattle.tb_builder.specs.Reach.{acted, also_reached, reach_from, holds_box}
use Rattle.tb_builder.specs.LegalPlaces.{page_places, NoActs}
use Rattle.tb_builder.specs.Contents.{contents_of}
use Rattle.tb_builder.specs.Courses.{AllLoose, is_loose, freezes, IsPageSoFar, IsSound}

-- ---- pages that are not begun

pub freezes-both : (xs ys : List PlainNode) → freezes (xs ++ ys) ≡ (freezes xs || freezes ys)
freezes-both [] ys = refl
freezes-both (x ∷ xs) ys =
    ap (λ b. (is_box (node_shape x) || is_insertion_kind x.kind) || b) (freezes-both xs ys)
    ∙ sym (or_assoc (is_box (node_shape x) || is_insertion_kind x.kind) (freezes xs) (freezes ys))

pruned-freezes-kind : (t : ℤ) (ns : List PlainNode) → freezes (pruned_nodes t ns) ≡ freezes ns → (l : ℕ) (k : PlainKind) → (let n : PlainNode = record { line = l; kind = k } in freezes (pruned_nodes t (n ∷ ns)) ≡ freezes (n ∷ ns))
pruned-freezes-kind t ns ih l (plain (hbox w h d)) = refl
pruned-freezes-kind t ns ih l (plain (rule w h d)) = refl
pruned-freezes-kind t ns ih l (plain (skip g)) = ih
pruned-freezes-kind t ns ih l (plain (kerned g)) = ih
pruned-freezes-kind t ns ih l (plain (pen q)) = ih
pruned-freezes-kind t ns ih l (plain (mark w)) = ih
pruned-freezes-kind t ns ih l (plain (note w)) = ih
pruned-freezes-kind t ns ih l (plain whatsit) = ih
pruned-freezes-kind t ns ih l (ins i) = refl
pruned-freezes-kind t ns ih l (act a) = ih

pub pruned-freezes : (t : ℤ) (ns : List PlainNode) → freezes (pruned_nodes t ns) ≡ freezes ns
pruned-freezes t [] = refl
pruned-freezes t (n ∷ ns) = pruned-freezes-kind t ns (pruned-freezes t ns) n.line n.kind

quiet-kind : (t u : ℤ) (ns : List PlainNode) → (freezes ns ≡ false → pruned_nodes t ns ≡ pruned_nodes u ns) → (l : ℕ) (k : PlainKind) → (let n : PlainNode = record { line = l; kind = k } in freezes (n ∷ ns) ≡ false → pruned_nodes t (n ∷ ns) ≡ pruned_nodes u (n ∷ ns))
quiet-kind t u ns ih l (plain (hbox w h d)) f = absurd (true≢false f)
quiet-kind t u ns ih l (plain (rule w h d)) f = absurd (true≢false f)
quiet-kind t u ns ih l (plain (skip g)) f = ih f
quiet-kind t u ns ih l (plain (kerned g)) f = ih f
quiet-kind t u ns ih l (plain (pen q)) f = ih f
quiet-kind t u ns ih l (ins i) f = absurd (true≢false f)
quiet-kind t u ns ih l k f = ap (λ xs. record { line = l; kind = k } ∷ xs) (ih f)

-- nodes that begin no page are pruned to the same for every top skip
pub pruned-quiet : (t u : ℤ) (ns : List PlainNode) → freezes ns ≡ false → pruned_nodes t ns ≡ pruned_nodes u ns
pruned-quiet t u [] f = refl
pruned-quiet t u (n ∷ ns) f = quiet-kind t u ns (pruned-quiet t u ns) n.line n.kind f

behind-kind : (t : ℤ) (ns more : List PlainNode) → (freezes ns ≡ false → pruned_nodes t (ns ++ more) ≡ pruned_nodes t ns ++ pruned_nodes t more) → (l : ℕ) (k : PlainKind)
    → (let n : PlainNode = record { line = l; kind = k } in freezes (n ∷ ns) ≡ false → pruned_nodes t (n ∷ ns ++ more) ≡ pruned_nodes t (n ∷ ns) ++ pruned_nodes t more)
behind-kind t ns more ih l (plain (hbox w h d)) f = absurd (true≢false f)
behind-kind t ns more ih l (plain (rule w h d)) f = absurd (true≢false f)
behind-kind t ns more ih l (plain (skip g)) f = ih f
behind-kind t ns more ih l (plain (kerned g)) f = ih f
behind-kind t ns more ih l (plain (pen q)) f = ih f
behind-kind t ns more ih l (ins i) f = absurd (true≢false f)
behind-kind t ns more ih l k f = ap (λ xs. record { line = l; kind = k } ∷ xs) (ih f)

-- what stands behind them is pruned by itself
pub pruned-behind : (t : ℤ) (ns more : List PlainNode) → freezes ns ≡ false → pruned_nodes t (ns ++ more) ≡ pruned_nodes t ns ++ pruned_nodes t more
pruned-behind t [] more f = refl
pruned-behind t (n ∷ ns) more f = behind-kind t ns more (pruned-behind t ns more) n.line n.kind f

-- ---- a page of marks, notes and whatsits

loose-begins-kind : (ns : List PlainNode) → freezes ns ≡ false → (l : ℕ) (k : PlainKind) → is_loose k ≡ true → (let n : PlainNode = record { line = l; kind = k } in freezes (n ∷ ns) ≡ false)
loose-begins-kind ns ih l (plain (hbox w h d)) e = absurd (true≢false (sym e))
loose-begins-kind ns ih l (plain (rule w h d)) e = absurd (true≢false (sym e))
loose-begins-kind ns ih l (plain (skip g)) e = absurd (true≢false (sym e))
loose-begins-kind ns ih l (plain (kerned g)) e = absurd (true≢false (sym e))
loose-begins-kind ns ih l (plain (pen q)) e = absurd (true≢false (sym e))
loose-begins-kind ns ih l (plain (mark w)) e = ih
loose-begins-kind ns ih l (plain (note w)) e = ih
loose-begins-kind ns ih l (plain whatsit) e = ih
loose-begins-kind ns ih l (ins i) e = absurd (true≢false (sym e))
loose-begins-kind ns ih l (act a) e = absurd (true≢false (sym e))

pub loose-begins : (ns : List PlainNode) → AllLoose ns → freezes ns ≡ false
loose-begins [] h = refl
loose-begins (n ∷ ns) h = loose-begins-kind ns (loose-begins ns h.1) n.line n.kind h.0

loose-holds-kind : (ns : List PlainNode) → holds_box ns ≡ false → (l : ℕ) (k : PlainKind) → is_loose k ≡ true → (let n : PlainNode = record { line = l; kind = k } in holds_box (n ∷ ns) ≡ false)
loose-holds-kind ns ih l (plain (hbox w h d)) e = absurd (true≢false (sym e))
loose-holds-kind ns ih l (plain (rule w h d)) e = absurd (true≢false (sym e))
loose-holds-kind ns ih l k e = ih

pub loose-holds : (ns : List PlainNode) → AllLoose ns → holds_box ns ≡ false
loose-holds [] h = refl
loose-holds (n ∷ ns) h = loose-holds-kind ns (loose-holds ns h.1) n.line n.kind h.0

module _ (limit : ℤ) (terms : List PlainNode → Terms) where
  loose-places-kind : (before ns : List PlainNode) (g : Bool) → page_places limit terms before ns g ≡ [] → (at : List PlainNode) (l : ℕ) (k : PlainKind) → is_loose k ≡ true
      → (let n : PlainNode = record { line = l; kind = k } in before ≡ at ++ n ∷ [] → page_places limit terms at (n ∷ ns) g ≡ [])
  loose-places-kind before ns g ih at l (plain (mark w)) e same = sym (ap (λ xs. page_places limit terms xs ns g) same) ∙ ih
  loose-places-kind before ns g ih at l (plain (note w)) e same = sym (ap (λ xs. page_places limit terms xs ns g) same) ∙ ih
  loose-places-kind before ns g ih at l (plain whatsit) e same = sym (ap (λ xs. page_places limit terms xs ns g) same) ∙ ih
  loose-places-kind before ns g ih at l (plain (hbox w h d)) e same = absurd (true≢false (sym e))
  loose-places-kind before ns g ih at l (plain (rule w h d)) e same = absurd (true≢false (sym e))
  loose-places-kind before ns g ih at l (plain (skip x)) e same = absurd (true≢false (sym e))
  loose-places-kind before ns g ih at l (plain (kerned x)) e same = absurd (true≢false (sym e))
  loose-places-kind before ns g ih at l (plain (pen q)) e same = absurd (true≢false (sym e))
  loose-places-kind before ns g ih at l (ins i) e same = absurd (true≢false (sym e))
  loose-places-kind before ns g ih at l (act a) e same = absurd (true≢false (sym e))

  -- it has no legal places
  pub loose-places : (at ns : List PlainNode) (g : Bool) → AllLoose ns → page_places limit terms at ns g ≡ []
  loose-places at [] g h = refl
  loose-places at (n ∷ ns) g h = loose-places-kind (at ++ n ∷ []) ns g (loose-places (at ++ n ∷ []) ns g h.1) at n.line n.kind h.0 refl

  -- ---- what is reached of it

  reach-kind : (t : ℤ) (ns more : List PlainNode) → (freezes ns ≡ false → (page : List PlainNode) → reach_from limit terms page (pruned_nodes t (ns ++ more)) ≡ reach_from limit terms (page ++ pruned_nodes t ns) (pruned_nodes t more))
      → (page : List PlainNode) (l : ℕ) (k : PlainKind)
      → (let n : PlainNode = record { line = l; kind = k } in NoActs (n ∷ ns) → freezes (n ∷ ns) ≡ false → reach_from limit terms page (pruned_nodes t (n ∷ ns ++ more)) ≡ reach_from limit terms (page ++ pruned_nodes t (n ∷ ns)) (pruned_nodes t more))
  reach-kind t ns more ih page l (plain (hbox w h d)) a f = absurd (true≢false f)
  reach-kind t ns more ih page l (plain (rule w h d)) a f = absurd (true≢false f)
  reach-kind t ns more ih page l (plain (skip g)) a f = ih f page
  reach-kind t ns more ih page l (plain (kerned g)) a f = ih f page
  reach-kind t ns more ih page l (plain (pen q)) a f = ih f page
  reach-kind t ns more ih page l (plain (mark w)) a f =
      let n : PlainNode = record { line = l; kind = plain (mark w) } in
      ih f (page ++ n ∷ []) ∙ ap (λ xs. reach_from limit terms xs (pruned_nodes t more)) (append_assoc page (n ∷ []) (pruned_nodes t ns))
  reach-kind t ns more ih page l (plain (note w)) a f =
      let n : PlainNode = record { line = l; kind = plain (note w) } in
      ih f (page ++ n ∷ []) ∙ ap (λ xs. reach_from limit terms xs (pruned_nodes t more)) (append_assoc page (n ∷ []) (pruned_nodes t ns))
  reach-kind t ns more ih page l (plain whatsit) a f =
      let n : PlainNode = record { line = l; kind = plain whatsit } in
      ih f (page ++ n ∷ []) ∙ ap (λ xs. reach_from limit terms xs (pruned_nodes t more)) (append_assoc page (n ∷ []) (pruned_nodes t ns))
  reach-kind t ns more ih page l (ins i) a f = absurd (true≢false f)
  reach-kind t ns more ih page l (act x) a f = absurd (true≢false a.0)

  -- past nodes that begin no page, it is what is reached of the others
  pub reach-quiet : (t : ℤ) (ns more page : List PlainNode) → NoActs ns → freezes ns ≡ false → reach_from limit terms page (pruned_nodes t (ns ++ more)) ≡ reach_from limit terms (page ++ pruned_nodes t ns) (pruned_nodes t more)
  reach-quiet t [] more page a f = ap (λ xs. reach_from limit terms xs (pruned_nodes t more)) (sym (append-nil page))
  reach-quiet t (n ∷ ns) more page a f = reach-kind t ns more (λ g q. reach-quiet t ns more q a.1 g) page n.line n.kind a f

  pub reach-act : (t : ℤ) (a : Act) (line : ℕ) (rest page : List PlainNode) → reach_from limit terms page (pruned_nodes t (record { line = line; kind = act a } ∷ rest)) ≡ also_reached (acted a) (reach_from limit terms page (pruned_nodes t rest))
  reach-act t a line rest page = ap (λ xs. also_reached (acted a) (reach_from limit terms xs (pruned_nodes t rest))) (append-nil page)

-- ---- what is kept of a builder whose page is not begun

module _ (b : Builder) (s : Lists Node) (sound : IsSound b s) (none : b.frozen ≡ None) where
  sofar : IsPageSoFar None b.stopped b.course (contents_of b s)
  sofar = subst (λ o. IsPageSoFar o b.stopped b.course (contents_of b s)) none sound.page

  pub unbegun-going : b.stopped ≡ false
  unbegun-going = by_stopped b.stopped sofar
    where
      by_stopped : (t : Bool) → IsPageSoFar None t b.course (contents_of b s) → t ≡ false
      by_stopped true h = absurd h
      by_stopped false h = refl

  pub unbegun-loose : AllLoose (contents_of b s).page
  unbegun-loose = by_stopped b.stopped sofar
    where
      by_stopped : (t : Bool) → IsPageSoFar None t b.course (contents_of b s) → AllLoose (contents_of b s).page
      by_stopped true h = absurd h
      by_stopped false h = h.loose

-- a page at its stop is begun
pub stopped-begun : (b : Builder) (s : Lists Node) → IsSound b s → b.stopped ≡ true → b.frozen ≡ None → ⊥
stopped-begun b s sound on none = true≢false (sym on ∙ unbegun-going b s sound none)
