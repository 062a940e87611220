-- Acts stay behind their whatsits.
use Rattle.std.proofs.Common.{◌≡◌, refl, sym, ◌∙◌, ap, subst, ℕ, ℤ, Bool, true, false, List, [], ◌∷◌, ◌++◌, map}
use Rattle.std.specs.Prelude.{if◌then◌else◌}
use Rattle.std.proofs.lemmas.Bool.{true≢false}
use Rattle.tb_node.specs.declared.Act.{Act}
use Rattle.tb_node.specs.PlainNodes.{hbox, rule, mark, note, whatsit, PlainKind, plain, ins, act, PlainNode, node_shape, is_act_kind}
use Rattle.tb_break.specs.PageTop.{pruned_nodes}
use Rattle.tb_break.specs.Places.{last_or}
use Rattle.tb_builder.specs.Reach.{holds_box, laid_out}
use Rattle.tb_builder.specs.LegalPlaces.{NoActs}
use Rattle.tb_builder.specs.Contributions.{is_kern, ends_in_kern}
use Rattle.tb_builder.specs.FiredPages.{spent_kind, with_spent_break}
use Rattle.tb_builder.proofs.Cutting.CutLemmas.{FirstFree, ActFree}
use Rattle.tb_builder.proofs.Turns.PastLemmas.{laid-more}
use Rattle.tb_items.specs.ItemsLeft.{kern_last}
use Rattle.tb_items.proofs.OpenLemmas.{kern-both}
use Rattle.tb_plain.specs.MakeupCalls.{IsTake}
use Rattle.tb_makeup.specs.LedActs.{is_whatsit, LedBy, ActsAreLed}

by-weaken : (b : Bool) (k : PlainKind) → LedBy false k → LedBy b k
by-weaken b (plain m) h = tt
by-weaken b (ins i) h = tt
by-weaken b (act a) h = absurd (true≢false (sym h.0))

pub led-weaken : (b : Bool) (ns : List PlainNode) → ActsAreLed false ns → ActsAreLed b ns
led-weaken b [] h = tt
led-weaken b (n ∷ ns) h = (by-weaken b n.kind h.0, h.1)

pub led-both : (b : Bool) (xs ys : List PlainNode) → ActsAreLed b xs → ActsAreLed false ys → ActsAreLed b (xs ++ ys)
led-both b [] ys h k = led-weaken b ys k
led-both b (x ∷ xs) ys h k = (h.0, led-both (is_whatsit x.kind) xs ys h.1 k)

-- what follows
pub record LedAfter (ys : List PlainNode) : Type 0 where
  pub flag : Bool
  pub led : ActsAreLed flag ys

pub led-back : (b : Bool) (xs ys : List PlainNode) → ActsAreLed b (xs ++ ys) → LedAfter ys
led-back b [] ys h = record { flag = b; led = h }
led-back b (x ∷ xs) ys h = led-back (is_whatsit x.kind) xs ys h.1

by-free : (b : Bool) (k : PlainKind) → ActFree k → LedBy b k → LedBy false k
by-free b (plain m) f h = tt
by-free b (ins i) f h = tt
by-free b (act a) f h = absurd f

pub led-free : (b : Bool) (ns : List PlainNode) → FirstFree ns → ActsAreLed b ns → ActsAreLed false ns
led-free b [] f h = tt
led-free b (n ∷ ns) f h = (by-free b n.kind f h.0, h.1)

by-none : (b : Bool) (k : PlainKind) → is_act_kind k ≡ false → LedBy b k
by-none b (plain m) e = tt
by-none b (ins i) e = tt
by-none b (act a) e = absurd (true≢false e)

pub led-none : (b : Bool) (ns : List PlainNode) → NoActs ns → ActsAreLed b ns
led-none b [] h = tt
led-none b (n ∷ ns) h = (by-none b n.kind h.0, led-none (is_whatsit n.kind) ns h.1)

pruned-kind : (t : ℤ) (ns : List PlainNode) → ((b : Bool) → ActsAreLed b ns → ActsAreLed b (pruned_nodes t ns)) → (b : Bool) (l : ℕ) (k : PlainKind) → LedBy b k → ActsAreLed (is_whatsit k) ns → (let n : PlainNode = record { line = l; kind = k } in ActsAreLed b (pruned_nodes t (n ∷ ns)))
pruned-kind t ns later b l (plain (hbox w h d)) x y = (tt, (tt, y))
pruned-kind t ns later b l (plain (rule name h d)) x y = (tt, (tt, y))
pruned-kind t ns later b l (plain (mark name)) x y = (tt, later false y)
pruned-kind t ns later b l (plain (note name)) x y = (tt, later false y)
pruned-kind t ns later b l (plain whatsit) x y = (tt, later true y)
pruned-kind t ns later b l (ins i) x y = (tt, later false y)
pruned-kind t ns later b l (act a) x y = (x, later false y)
pruned-kind t ns later b l k x y = led-weaken b (pruned_nodes t ns) (later false y)

pub led-pruned : (t : ℤ) (b : Bool) (ns : List PlainNode) → ActsAreLed b ns → ActsAreLed b (pruned_nodes t ns)
led-pruned t b [] h = tt
led-pruned t b (n ∷ ns) h = pruned-kind t ns (λ c k. led-pruned t c ns k) b n.line n.kind h.0 h.1

pub led-laid : (t : ℤ) (page waiting : List PlainNode) → NoActs page → ActsAreLed false waiting → ActsAreLed false (laid_out t page waiting)
led-laid t page waiting none h = by_box (holds_box page)
  where
    by_box : (b : Bool) → ActsAreLed false (page ++ (if b then waiting else pruned_nodes t waiting))
    by_box true = led-both false page waiting (led-none false page none) h
    by_box false = led-both false page (pruned_nodes t waiting) (led-none false page none) (led-pruned t false waiting h)

spent-whatsit : (k : PlainKind) → is_whatsit (spent_kind k) ≡ is_whatsit k
spent-whatsit (plain (hbox w h d)) = refl
spent-whatsit k = refl

spent-by : (b : Bool) (k : PlainKind) → LedBy b k → LedBy b (spent_kind k)
spent-by b (plain (hbox w h d)) x = tt
spent-by b (act a) x = x
spent-by b k x = tt

pub led-spent : (b : Bool) (ns : List PlainNode) → ActsAreLed b ns → ActsAreLed b (with_spent_break ns)
led-spent b [] h = tt
led-spent b (n ∷ ns) h = (spent-by b n.kind h.0, subst (λ t. ActsAreLed t ns) (sym (spent-whatsit n.kind)) h.1)

-- ---- what stands before an act

-- a list that ends with a whatsit
pub record EndsLed (ns : List PlainNode) : Type 0 where
  pub front : List PlainNode
  pub line : ℕ
  pub whole : ns ≡ front ++ record { line = line; kind = plain whatsit } ∷ []

whatsit-is : (k : PlainKind) → is_whatsit k ≡ true → k ≡ plain whatsit
whatsit-is (plain whatsit) e = refl
whatsit-is k e = absurd (true≢false (sym e))

first-whatsit : (x : PlainNode) (l : ℕ) (a : Act) (ys : List PlainNode) → ActsAreLed (is_whatsit x.kind) (record { line = l; kind = act a } ∷ ys) → EndsLed (x ∷ [])
first-whatsit x l a ys h = record { front = []; line = x.line; whole = ap (λ k. with_kind k) (whatsit-is x.kind h.0.0) }
  where
    with_kind : PlainKind → List PlainNode
    with_kind k = record { line = x.line; kind = k } ∷ []

ends-more : (x : PlainNode) (ns : List PlainNode) → EndsLed ns → EndsLed (x ∷ ns)
ends-more x ns h = record { front = x ∷ h.front; line = h.line; whole = ap (λ ms. x ∷ ms) h.whole }

-- what stands before an act ends with a whatsit
pub led-ends : (xs : List PlainNode) (l : ℕ) (a : Act) (ys : List PlainNode) → ActsAreLed false (xs ++ record { line = l; kind = act a } ∷ ys) → EndsLed xs
led-ends [] l a ys h = absurd (true≢false (sym h.0.0))
led-ends (x ∷ xs) l a ys h = by-rest x xs h.1
  where
    by-rest : (x : PlainNode) (xs : List PlainNode) → ActsAreLed (is_whatsit x.kind) (xs ++ record { line = l; kind = act a } ∷ ys) → EndsLed (x ∷ xs)
    by-rest x [] h = first-whatsit x l a ys h
    by-rest x (z ∷ zs) h = ends-more x (z ∷ zs) (by-rest z zs h.1)

-- and the act takes a float
pub led-takes : (b : Bool) (xs : List PlainNode) (l : ℕ) (a : Act) (ys : List PlainNode) → ActsAreLed b (xs ++ record { line = l; kind = act a } ∷ ys) → IsTake a × ActsAreLed false ys
led-takes b [] l a ys h = (h.0.1, h.1)
led-takes b (x ∷ xs) l a ys h = led-takes (is_whatsit x.kind) xs l a ys h.1

kern-front : (d : Bool) (xs : List PlainNode) (l : ℕ) → last_or d (map (λ n. is_kern (node_shape n)) (xs ++ record { line = l; kind = plain whatsit } ∷ [])) ≡ false
kern-front d [] l = refl
kern-front d (x ∷ xs) l = kern-front (is_kern (node_shape x)) xs l

lone-laid : (t : ℤ) (page : List PlainNode) (l : ℕ) → laid_out t page (record { line = l; kind = plain whatsit } ∷ []) ≡ page ++ record { line = l; kind = plain whatsit } ∷ []
lone-laid t page l = by_box (holds_box page)
  where
    by_box : (b : Bool) → page ++ (if b then record { line = l; kind = plain whatsit } ∷ [] else pruned_nodes t (record { line = l; kind = plain whatsit } ∷ [])) ≡ page ++ record { line = l; kind = plain whatsit } ∷ []
    by_box true = refl
    by_box false = refl

-- such a page as a list with its last node, a whatsit
led-last : (t : ℤ) (page before : List PlainNode) (h : EndsLed before) → laid_out t page before ≡ laid_out t page h.front ++ record { line = h.line; kind = plain whatsit } ∷ []
led-last t page before h = ap (laid_out t page) h.whole ∙ sym (laid-more t page h.front (record { line = h.line; kind = plain whatsit } ∷ [])) ∙ lone-laid t (laid_out t page h.front) h.line

-- a page that is laid out up to there does not end in a kern
pub led-no-kern : (t : ℤ) (page before : List PlainNode) → EndsLed before → ends_in_kern (laid_out t page before) ≡ false
led-no-kern t page before h =
    ap ends_in_kern (led-last t page before h) ∙ kern-front false (laid_out t page h.front) h.line

-- nor does it with its acts left out
pub led-open : (t : ℤ) (page before : List PlainNode) → EndsLed before → kern_last false (laid_out t page before) ≡ false
led-open t page before h = ap (kern_last false) (led-last t page before h) ∙ kern-both false (laid_out t page h.front) (record { line = h.line; kind = plain whatsit } ∷ [])
