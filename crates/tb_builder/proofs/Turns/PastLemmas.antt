-- Which of the waiting nodes a page went past, turn by turn.
use Rattle.std.proofs.Common.{◌≡◌, refl, sym, ◌∙◌, ap, ℕ, suc, ◌+◌, ◌<◌, ℤ, Bool, true, false, List, [], ◌∷◌, ◌++◌, length, Option, None, Some, append_assoc, append-nil, arith}
use Rattle.std.specs.Prelude.{◌||◌, not, if◌then◌else◌}
use Rattle.std.proofs.lemmas.Bool.{true≢false}
use Rattle.std.proofs.lemmas.List.{length-append}
use Rattle.tb_node.specs.declared.Node.{Node}
use Rattle.tb_node.specs.declared.Kind.{Kind}
use Rattle.tb_node.specs.declared.Kind.TheVariants as kinds
use Rattle.tb_node.specs.Shape.{other, is_box, is_discardable}
use Rattle.tb_node.specs.PlainNodes.{hbox, rule, mark, note, whatsit, PlainKind, plain, ins, act, PlainNode, plain_of, node_shape, shape_of_kind, is_act_kind}
use Rattle.tb_break.specs.PageTop.{pruned_nodes}
use Rattle.tb_insert.specs.Account.{Frozen}
use Rattle.tb_builder.specs.declared.Ask.{Ask}
use Rattle.tb_builder.specs.declared.Course.{Course}
use Rattle.tb_builder.specs.declared.Event.{Event}
use Rattle.tb_builder.specs.declared.Event.TheVariants as events
use Rattle.tb_builder.specs.Reach.{holds_box, laid_out}
use Rattle.tb_builder.specs.LegalPlaces.{NoActs}
use Rattle.tb_builder.specs.Contents.{Contents}
use Rattle.tb_builder.specs.PageTurns.{StepIs}
use Rattle.tb_builder.specs.PassedNodes.{ComesPast, TriesPast, EventPast, TurnPast}
use Rattle.std.proofs.Math.Bool.{or_assoc}

-- ---- what is laid out

pub holds-both : (xs ys : List PlainNode) → holds_box (xs ++ ys) ≡ (holds_box xs || holds_box ys)
holds-both [] ys = refl
holds-both (x ∷ xs) ys = ap (λ b. is_box (node_shape x) || b) (holds-both xs ys) ∙ sym (or_assoc (is_box (node_shape x)) (holds_box xs) (holds_box ys))

-- the rest is pruned with the nodes, unless a box is among them
pruned-kind : (t : ℤ) (xs ys : List PlainNode) → pruned_nodes t (xs ++ ys) ≡ pruned_nodes t xs ++ (if holds_box xs then ys else pruned_nodes t ys) → (l : ℕ) (k : PlainKind)
    → (let n : PlainNode = record { line = l; kind = k } in pruned_nodes t (n ∷ xs ++ ys) ≡ pruned_nodes t (n ∷ xs) ++ (if holds_box (n ∷ xs) then ys else pruned_nodes t ys))
pruned-kind t xs ys e l (plain (hbox w h d)) = refl
pruned-kind t xs ys e l (plain (rule name h d)) = refl
pruned-kind t xs ys e l (plain (mark name)) = ap (λ ns. record { line = l; kind = plain (mark name) } ∷ ns) e
pruned-kind t xs ys e l (plain (note name)) = ap (λ ns. record { line = l; kind = plain (note name) } ∷ ns) e
pruned-kind t xs ys e l (plain whatsit) = ap (λ ns. record { line = l; kind = plain whatsit } ∷ ns) e
pruned-kind t xs ys e l (ins i) = ap (λ ns. record { line = l; kind = ins i } ∷ ns) e
pruned-kind t xs ys e l (act a) = ap (λ ns. record { line = l; kind = act a } ∷ ns) e
pruned-kind t xs ys e l k = e

pruned-both : (t : ℤ) (xs ys : List PlainNode) → pruned_nodes t (xs ++ ys) ≡ pruned_nodes t xs ++ (if holds_box xs then ys else pruned_nodes t ys)
pruned-both t [] ys = refl
pruned-both t (x ∷ xs) ys = pruned-kind t xs ys (pruned-both t xs ys) x.line x.kind

holds-kind : (t : ℤ) (xs : List PlainNode) → holds_box (pruned_nodes t xs) ≡ holds_box xs → (l : ℕ) (k : PlainKind) → (let n : PlainNode = record { line = l; kind = k } in holds_box (pruned_nodes t (n ∷ xs)) ≡ holds_box (n ∷ xs))
holds-kind t xs e l (plain (hbox w h d)) = refl
holds-kind t xs e l (plain (rule name h d)) = refl
holds-kind t xs e l k = e

holds-pruned : (t : ℤ) (xs : List PlainNode) → holds_box (pruned_nodes t xs) ≡ holds_box xs
holds-pruned t [] = refl
holds-pruned t (x ∷ xs) = holds-kind t xs (holds-pruned t xs) x.line x.kind

pub laid-none : (t : ℤ) (page : List PlainNode) → laid_out t page [] ≡ page
laid-none t page = by_test (holds_box page)
  where
    by_test : (b : Bool) → page ++ (if b then [] else pruned_nodes t []) ≡ page
    by_test true = append-nil page
    by_test false = append-nil page

-- more is laid out on what was laid out
pub laid-more : (t : ℤ) (page xs ys : List PlainNode) → laid_out t (laid_out t page xs) ys ≡ laid_out t page (xs ++ ys)
laid-more t page xs ys = by_test (holds_box page) refl
  where
    by_test : (b : Bool) → holds_box page ≡ b → (let p = page ++ (if b then xs else pruned_nodes t xs) in p ++ (if holds_box p then ys else pruned_nodes t ys)) ≡ page ++ (if b then xs ++ ys else pruned_nodes t (xs ++ ys))
    by_test true e =
        ap (λ c. (page ++ xs) ++ (if c then ys else pruned_nodes t ys)) (holds-both page xs ∙ ap (λ c. c || holds_box xs) e)
        ∙ append_assoc page xs ys
    by_test false e =
        ap (λ c. (page ++ pruned_nodes t xs) ++ (if c then ys else pruned_nodes t ys)) (holds-both page (pruned_nodes t xs) ∙ ap (λ c. c || holds_box (pruned_nodes t xs)) e ∙ holds-pruned t xs)
        ∙ append_assoc page (pruned_nodes t xs) (if holds_box xs then ys else pruned_nodes t ys) ∙ ap (λ ns. page ++ ns) (sym (pruned-both t xs ys))

-- ---- turn after turn

pub acts-both : (xs ys : List PlainNode) → NoActs xs → NoActs ys → NoActs (xs ++ ys)
acts-both [] ys a b = b
acts-both (x ∷ xs) ys a b = (a.0, acts-both xs ys a.1 b)

pub past-after : (after : List PlainNode) (c d e : Contents) (ask : Ask) → ComesPast d.waiting c d ask → ComesPast after d e ask → ComesPast after c e ask
past-after after c d e ask a b = record {
  before = a.before ++ b.before;
  is = record {
    waiting = a.is.waiting ∙ ap (λ ns. a.before ++ ns) b.is.waiting ∙ sym (append_assoc a.before b.before after);
    page = b.is.page ∙ ap (λ p. laid_out ask.top_skip p b.before) a.is.page ∙ laid-more ask.top_skip c.page a.before b.before;
    no_acts = acts-both a.before b.before a.is.no_acts b.is.no_acts;
  };
}

no-longer : (n : ℕ) (xs ys zs : List PlainNode) → xs ≡ ys ++ zs → n < length zs → n < length xs
no-longer n xs ys zs e h = let l : length xs ≡ length ys + length zs = ap length e ∙ length-append ys zs in omega arith

pub event-after : (v : Event) (c d e : Contents) (ask : Ask) → ComesPast d.waiting c d ask → EventPast v d e ask → EventPast v c e ask
event-after (events.Try t) c d e ask a b = λ go. record {
  comes = past-after e.waiting c d e ask a (b go).comes;
  shorter = no-longer (length e.waiting) c.waiting a.before d.waiting a.is.waiting (b go).shorter;
}
event-after (events.Act x) c d e ask a b = record { line = b.line; comes = past-after (record { line = b.line; kind = act x } ∷ e.waiting) c d e ask a b.comes }
event-after (events.Fired p) c d e ask a b = tt
event-after events.Empty c d e ask a b = past-after e.waiting c d e ask a b

-- ---- one turn

-- nothing was passed
pub past-none : (after : List PlainNode) (c d : Contents) (ask : Ask) → c.waiting ≡ after → d.page ≡ c.page → ComesPast after c d ask
past-none after c d ask w p = record { before = []; is = record { waiting = w; page = p ∙ sym (laid-none ask.top_skip c.page); no_acts = tt } }

-- one node was passed, and is laid out so
past-one : (n : PlainNode) (c d : Contents) (ask : Ask) → c.waiting ≡ n ∷ d.waiting → is_act_kind n.kind ≡ false → d.page ≡ laid_out ask.top_skip c.page (n ∷ []) → ComesPast d.waiting c d ask
past-one n c d ask w a p = record { before = n ∷ []; is = record { waiting = w; page = p; no_acts = (a, tt) } }

-- a node that takes no room went on the page
lasts-kind : (t : ℤ) (page : List PlainNode) (l : ℕ) (k : PlainKind) → (let n : PlainNode = record { line = l; kind = k } in node_shape n ≡ other → page ++ n ∷ [] ≡ laid_out t page (n ∷ []))
lasts-kind t page l k = by_test (holds_box page) k
  where
    by_test : (b : Bool) (k : PlainKind) → (let n : PlainNode = record { line = l; kind = k } in node_shape n ≡ other → page ++ n ∷ [] ≡ page ++ (if b then n ∷ [] else pruned_nodes t (n ∷ [])))
    by_test true k e = refl
    by_test false (plain (mark name)) e = refl
    by_test false (plain (note name)) e = refl
    by_test false (plain whatsit) e = refl
    by_test false (ins i) e = refl
    by_test false (act a) e = refl
    by_test false k e = cc

pub past-lasting : (n : PlainNode) (c d : Contents) (ask : Ask) → c.waiting ≡ n ∷ d.waiting → d.page ≡ c.page ++ n ∷ [] → node_shape n ≡ other → is_act_kind n.kind ≡ false → ComesPast d.waiting c d ask
past-lasting n c d ask w p s a = past-one n c d ask w a (p ∙ lasts-kind ask.top_skip c.page n.line n.kind s)

-- a node vanished on a page without a box
pub past-vanished : (n : PlainNode) (c d : Contents) (ask : Ask) → c.waiting ≡ n ∷ d.waiting → d.page ≡ c.page → holds_box c.page ≡ false → pruned_nodes ask.top_skip (n ∷ []) ≡ [] → is_act_kind n.kind ≡ false → ComesPast d.waiting c d ask
past-vanished n c d ask w p closed gone a =
    past-one n c d ask w a (p ∙ sym (append-nil c.page) ∙ ap (λ ns. c.page ++ ns) (sym gone) ∙ ap (λ b. c.page ++ (if b then n ∷ [] else pruned_nodes ask.top_skip (n ∷ []))) (sym closed))

-- ---- by what is laid out of both

-- if two lists are equal and have tails of the same length, their fronts and their tails are equal
cancel : (a b x y : List PlainNode) → a ++ x ≡ b ++ y → length x ≡ length y → (a ≡ b) × (x ≡ y)
cancel [] [] x y e l = (refl, e)
cancel [] (b ∷ bs) x y e l = let k : length x ≡ suc (length bs + length y) = ap length e ∙ ap suc (length-append bs y) in let no : ⊥ = omega arith in absurd no
cancel (a ∷ more) [] x y e l = let k : suc (length more + length x) ≡ length y = ap suc (sym (length-append more x)) ∙ ap length e in let no : ⊥ = omega arith in absurd no
cancel (a ∷ more) (b ∷ bs) x y e l =
    let heads : a ≡ b = cc in
    let tails : more ++ x ≡ bs ++ y = cc in
    let rest = cancel more bs x y tails l in
    ((λ i. heads i ∷ rest.0 i), rest.1)

-- the page with what waits is as before, and one node less waits
pub past-open : (n : PlainNode) (rest : List PlainNode) (c d : Contents) (ask : Ask) → c.waiting ≡ n ∷ rest → d.page ++ d.waiting ≡ c.page ++ c.waiting → length d.waiting ≡ length rest → holds_box c.page ≡ true → is_act_kind n.kind ≡ false → ComesPast d.waiting c d ask
past-open n rest c d ask w whole l opened a =
    let same = cancel d.page (c.page ++ n ∷ []) d.waiting rest (whole ∙ ap (λ ns. c.page ++ ns) w ∙ sym (append_assoc c.page (n ∷ []) rest)) l in
    past-one n c d ask (w ∙ ap (λ ns. n ∷ ns) (sym same.1)) a (same.0 ∙ ap (λ b. c.page ++ (if b then n ∷ [] else pruned_nodes ask.top_skip (n ∷ []))) (sym opened))

-- the first box came after the top glue
pub past-first : (n g : PlainNode) (rest : List PlainNode) (c d : Contents) (ask : Ask) → c.waiting ≡ n ∷ rest → d.page ++ d.waiting ≡ c.page ++ (g ∷ n ∷ rest) → length d.waiting ≡ length rest → holds_box c.page ≡ false → pruned_nodes ask.top_skip (n ∷ []) ≡ g ∷ n ∷ [] → is_act_kind n.kind ≡ false
    → ComesPast d.waiting c d ask
past-first n g rest c d ask w whole l closed top a =
    let same = cancel d.page (c.page ++ g ∷ n ∷ []) d.waiting rest (whole ∙ sym (append_assoc c.page (g ∷ n ∷ []) rest)) l in
    past-one n c d ask (w ∙ ap (λ ns. n ∷ ns) (sym same.1)) a (same.0 ∙ ap (λ ns. c.page ++ ns) (sym top) ∙ ap (λ b. c.page ++ (if b then n ∷ [] else pruned_nodes ask.top_skip (n ∷ []))) (sym closed))

-- glue, kerns and penalties are no acts
pub gone_act : (held : ℕ → List Node) (line : ℕ) (k : Kind) → not (is_discardable (shape_of_kind k)) ≡ false → (let x : Node = record { line = line; kind = k } in is_act_kind (plain_of held x).kind ≡ false)
gone_act held line (kinds.Skip g) e = refl
gone_act held line (kinds.Kern w) e = refl
gone_act held line (kinds.Pen p) e = refl
gone_act held line k e = absurd (true≢false e)

-- in a step of a page that is laid out
pub past-stepped : (o : Option Event) (z : Frozen) (k : Course) (ask : Ask) (c m d : Contents) → m.stopped ≡ false → StepIs o z k m d → (d.stopped ≡ false → TriesPast c d ask) → TurnPast o c d ask
past-stepped None z k ask c m d on st f = (f (st.2 ∙ on)).comes
past-stepped (Some (events.Try t)) z k ask c m d on st f = f
past-stepped o z k ask c m d on st f = absurd st
