-- A list whose last node, acts aside, is no kern: what comes behind it changes no place in it.
use Rattle.std.proofs.Common.{◌≡◌, refl, sym, ◌∙◌, ap, ℕ, ℤ, Bool, true, false, List, [], ◌∷◌, ◌++◌, map}
use Rattle.std.proofs.lemmas.Bool.{true≢false}
use Rattle.tb_node.specs.declared.Act.{Act}
use Rattle.tb_node.specs.PlainNodes.{hbox, rule, skip, kerned, pen, mark, note, whatsit, PlainKind, plain, ins, act, PlainNode, node_shape, without_acts}
use Rattle.tb_break.specs.PageTop.{pruned_nodes}
use Rattle.tb_break.specs.Places.{last_or}
use Rattle.tb_builder.specs.LegalPlaces.{glue_first}
use Rattle.tb_builder.specs.Contributions.{is_kern}
use Rattle.tb_builder.specs.FiredPages.{spent_kind, with_spent_break}
use Rattle.tb_items.specs.ItemsLeft.{kern_last}

last-lower : (d : Bool) (bs : List Bool) → last_or d bs ≡ false → last_or false bs ≡ false
last-lower d [] h = refl
last-lower d (b ∷ bs) h = h

kern-kind : (d : Bool) (l : ℕ) (k : PlainKind) (xs ys : List PlainNode) → ((c : Bool) → kern_last c (xs ++ ys) ≡ kern_last (kern_last c xs) ys)
    → (let n : PlainNode = record { line = l; kind = k } in kern_last d (n ∷ xs ++ ys) ≡ kern_last (kern_last d (n ∷ xs)) ys)
kern-kind d l (plain m) xs ys h = h (is_kern (node_shape (record { line = l; kind = plain m })))
kern-kind d l (ins i) xs ys h = h false
kern-kind d l (act a) xs ys h = h d

pub kern-both : (d : Bool) (xs ys : List PlainNode) → kern_last d (xs ++ ys) ≡ kern_last (kern_last d xs) ys
kern-both d [] ys = refl
kern-both d (x ∷ xs) ys = kern-kind d x.line x.kind xs ys (λ c. kern-both c xs ys)

-- the rest of such a list is one
pub open-back : (xs ys : List PlainNode) → kern_last false (xs ++ ys) ≡ false → kern_last false ys ≡ false
open-back xs ys h = last-lower (kern_last false xs) (map (λ n. is_kern (node_shape n)) (without_acts ys)) (sym (kern-both false xs ys) ∙ h)

-- ---- what comes first

-- the list has a node that is no act, before which nothing else does
pub record StartsPlain (ns : List PlainNode) : Type 0 where
  pub first : PlainNode
  pub rest : List PlainNode
  pub is : without_acts ns ≡ first ∷ rest

-- a list with such a node may come behind any other
pub open-front : (xs ys : List PlainNode) → StartsPlain ys → kern_last false ys ≡ false → kern_last false (xs ++ ys) ≡ false
open-front xs ys s h =
    kern-both false xs ys
    ∙ ap (λ ns. last_or (kern_last false xs) (map (λ n. is_kern (node_shape n)) ns)) s.is
    ∙ sym (ap (λ ns. last_or false (map (λ n. is_kern (node_shape n)) ns)) s.is)
    ∙ h

-- if such a node would be a kern otherwise
pub some-plain : (ns : List PlainNode) → kern_last true ns ≡ false → StartsPlain ns
some-plain ns h = by_nodes (without_acts ns) refl h
  where
    by_nodes : (ms : List PlainNode) → without_acts ns ≡ ms → last_or true (map (λ n. is_kern (node_shape n)) (without_acts ns)) ≡ false → StartsPlain ns
    by_nodes [] e k = absurd (true≢false (sym (ap (λ xs. last_or true (map (λ n. is_kern (node_shape n)) xs)) e) ∙ k))
    by_nodes (m ∷ ms) e k = record { first = m; rest = ms; is = e }

first-glue : (l : ℕ) (k : PlainKind) (ns ms : List PlainNode) → (glue_first ns ≡ glue_first ms) → (let n : PlainNode = record { line = l; kind = k } in glue_first (n ∷ ns) ≡ glue_first (n ∷ ms))
first-glue l (plain (hbox w h d)) ns ms e = refl
first-glue l (plain (rule w h d)) ns ms e = refl
first-glue l (plain (skip g)) ns ms e = refl
first-glue l (plain (kerned w)) ns ms e = refl
first-glue l (plain (pen p)) ns ms e = refl
first-glue l (plain (mark w)) ns ms e = refl
first-glue l (plain (note w)) ns ms e = refl
first-glue l (plain whatsit) ns ms e = refl
first-glue l (ins i) ns ms e = refl
first-glue l (act a) ns ms e = e

first-more : (l : ℕ) (k : PlainKind) (ns more : List PlainNode) → (StartsPlain ns → glue_first (ns ++ more) ≡ glue_first ns)
    → (let n : PlainNode = record { line = l; kind = k } in StartsPlain (n ∷ ns) → glue_first (n ∷ ns ++ more) ≡ glue_first (n ∷ ns))
first-more l (plain (hbox w h d)) ns more e s = refl
first-more l (plain (rule w h d)) ns more e s = refl
first-more l (plain (skip g)) ns more e s = refl
first-more l (plain (kerned w)) ns more e s = refl
first-more l (plain (pen p)) ns more e s = refl
first-more l (plain (mark w)) ns more e s = refl
first-more l (plain (note w)) ns more e s = refl
first-more l (plain whatsit) ns more e s = refl
first-more l (ins i) ns more e s = refl
first-more l (act a) ns more e s = e (record { first = s.first; rest = s.rest; is = s.is })

-- whether glue comes first does not depend on what comes behind it
pub glue-more : (ns more : List PlainNode) → StartsPlain ns → glue_first (ns ++ more) ≡ glue_first ns
glue-more [] more s = let no : ⊥ = (let e = s.is in cc) in absurd no
glue-more (n ∷ ns) more s = first-more n.line n.kind ns more (glue-more ns more) s

-- ---- what vanishes at the top of a page

top-kind : (t : ℤ) (d : Bool) (l : ℕ) (k : PlainKind) (ns : List PlainNode) → ((c : Bool) → kern_last c ns ≡ false → kern_last false (pruned_nodes t ns) ≡ false)
    → (let n : PlainNode = record { line = l; kind = k } in kern_last d (n ∷ ns) ≡ false → kern_last false (pruned_nodes t (n ∷ ns)) ≡ false)
top-kind t d l (plain (hbox w h x)) ns later e = e
top-kind t d l (plain (rule w h x)) ns later e = e
top-kind t d l (plain (skip g)) ns later e = later false e
top-kind t d l (plain (kerned w)) ns later e = later true e
top-kind t d l (plain (pen p)) ns later e = later false e
top-kind t d l (plain (mark w)) ns later e = later false e
top-kind t d l (plain (note w)) ns later e = later false e
top-kind t d l (plain whatsit) ns later e = later false e
top-kind t d l (ins i) ns later e = later false e
top-kind t d l (act a) ns later e = later d e

pub open-pruned : (t : ℤ) (d : Bool) (ns : List PlainNode) → kern_last d ns ≡ false → kern_last false (pruned_nodes t ns) ≡ false
open-pruned t d [] h = refl
open-pruned t d (n ∷ ns) h = top-kind t d n.line n.kind ns (λ c. open-pruned t c ns) h

plain-kind : (t : ℤ) (l : ℕ) (k : PlainKind) (ns : List PlainNode) → (StartsPlain (pruned_nodes t ns) → StartsPlain ns)
    → (let n : PlainNode = record { line = l; kind = k } in StartsPlain (pruned_nodes t (n ∷ ns)) → StartsPlain (n ∷ ns))
plain-kind t l (plain m) ns later s = record { first = record { line = l; kind = plain m }; rest = without_acts ns; is = refl }
plain-kind t l (ins i) ns later s = record { first = record { line = l; kind = ins i }; rest = without_acts ns; is = refl }
plain-kind t l (act a) ns later s = let r = later (record { first = s.first; rest = s.rest; is = s.is }) in record { first = r.first; rest = r.rest; is = r.is }

pub plain-pruned : (t : ℤ) (ns : List PlainNode) → StartsPlain (pruned_nodes t ns) → StartsPlain ns
plain-pruned t [] s = s
plain-pruned t (n ∷ ns) s = plain-kind t n.line n.kind ns (plain-pruned t ns) s

-- ---- an act less

act-kind : (d : Bool) (l m : ℕ) (k : PlainKind) (a : Act) (xs ys : List PlainNode)
    → ((c : Bool) → kern_last c (xs ++ record { line = m; kind = act a } ∷ ys) ≡ kern_last c (xs ++ ys))
    → (let n : PlainNode = record { line = l; kind = k } in kern_last d (n ∷ xs ++ record { line = m; kind = act a } ∷ ys) ≡ kern_last d (n ∷ xs ++ ys))
act-kind d l m (plain p) a xs ys h = h (is_kern (node_shape (record { line = l; kind = plain p })))
act-kind d l m (ins i) a xs ys h = h false
act-kind d l m (act b) a xs ys h = h d

pub open-without : (d : Bool) (m : ℕ) (a : Act) (xs ys : List PlainNode) → kern_last d (xs ++ record { line = m; kind = act a } ∷ ys) ≡ kern_last d (xs ++ ys)
open-without d m a [] ys = refl
open-without d m a (x ∷ xs) ys = act-kind d x.line m x.kind a xs ys (λ c. open-without c m a xs ys)

-- ---- a break that is spent

spent-open : (d : Bool) (l : ℕ) (k : PlainKind) (ns : List PlainNode) → (let n : PlainNode = record { line = l; kind = k } in kern_last d (with_spent_break (n ∷ ns)) ≡ kern_last d (n ∷ ns))
spent-open d l (plain (hbox w h x)) ns = refl
spent-open d l (plain (rule w h x)) ns = refl
spent-open d l (plain (skip g)) ns = refl
spent-open d l (plain (kerned w)) ns = refl
spent-open d l (plain (pen p)) ns = refl
spent-open d l (plain (mark w)) ns = refl
spent-open d l (plain (note w)) ns = refl
spent-open d l (plain whatsit) ns = refl
spent-open d l (ins i) ns = refl
spent-open d l (act a) ns = refl

pub open-spent : (ns : List PlainNode) → kern_last false (with_spent_break ns) ≡ kern_last false ns
open-spent [] = refl
open-spent (n ∷ ns) = spent-open false n.line n.kind ns

plain-spent-kind : (l : ℕ) (k : PlainKind) (ns : List PlainNode) → (let n : PlainNode = record { line = l; kind = k } in StartsPlain (n ∷ ns) → StartsPlain (with_spent_break (n ∷ ns)))
plain-spent-kind l (plain (pen p)) ns s = record { first = record { line = l; kind = spent_kind (plain (pen p)) }; rest = without_acts ns; is = refl }
plain-spent-kind l k ns s = s

pub plain-spent : (ns : List PlainNode) → StartsPlain ns → StartsPlain (with_spent_break ns)
plain-spent [] s = s
plain-spent (n ∷ ns) s = plain-spent-kind n.line n.kind ns s

-- ---- a page

page-kern : (l : ℕ) (k : PlainKind) (d : Bool) (ns : List PlainNode) → ((c : Bool) → last_or c (map (λ n. is_kern (node_shape n)) ns) ≡ true → kern_last c ns ≡ true)
    → (let n : PlainNode = record { line = l; kind = k } in last_or d (map (λ n. is_kern (node_shape n)) (n ∷ ns)) ≡ true → kern_last d (n ∷ ns) ≡ true)
page-kern l (plain m) d ns h e = h (is_kern (node_shape (record { line = l; kind = plain m }))) e
page-kern l (ins i) d ns h e = h false e
page-kern l (act a) d ns h e = last-raise d (map (λ n. is_kern (node_shape n)) (without_acts ns)) (h false e)
  where
    last-raise : (d : Bool) (bs : List Bool) → last_or false bs ≡ true → last_or d bs ≡ true
    last-raise d [] e = absurd (true≢false (sym e))
    last-raise d (b ∷ bs) e = e

-- a page that ends with a kern ends with one, acts aside
pub page-ends : (d : Bool) (ns : List PlainNode) → last_or d (map (λ n. is_kern (node_shape n)) ns) ≡ true → kern_last d ns ≡ true
page-ends d [] e = e
page-ends d (n ∷ ns) e = page-kern n.line n.kind d ns (λ c. page-ends c ns) e

plain-front-kind : (l : ℕ) (k : PlainKind) (xs ys : List PlainNode) → (StartsPlain ys → StartsPlain (xs ++ ys)) → StartsPlain ys → (let n : PlainNode = record { line = l; kind = k } in StartsPlain (n ∷ xs ++ ys))
plain-front-kind l (plain m) xs ys h s = record { first = record { line = l; kind = plain m }; rest = without_acts (xs ++ ys); is = refl }
plain-front-kind l (ins i) xs ys h s = record { first = record { line = l; kind = ins i }; rest = without_acts (xs ++ ys); is = refl }
plain-front-kind l (act a) xs ys h s = let r = h s in record { first = r.first; rest = r.rest; is = r.is }

-- whatever comes before
pub plain-front : (xs ys : List PlainNode) → StartsPlain ys → StartsPlain (xs ++ ys)
plain-front [] ys s = s
plain-front (x ∷ xs) ys s = plain-front-kind x.line x.kind xs ys (plain-front xs ys) s
