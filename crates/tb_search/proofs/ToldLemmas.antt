-- What is told of a page by the places that were tried: walks over them and over the nodes that wait.
use Rattle.std.proofs.Common.{◌≡◌, refl, sym, ◌∙◌, ℕ, zero, suc, ◌≤◌, ℤ, Bool, true, false, true≢false, ◌||◌, List, [], ◌∷◌, map, length, drop, arith}
use Rattle.std.specs.Prelude.{not}
use Rattle.std.specs.List.{list_any, AllByRecursion}
use Rattle.tb_node.specs.Shape.{is_discardable}
use Rattle.tb_node.specs.declared.Act.{Act}
use Rattle.tb_node.specs.declared.Act.TheVariants as acts
use Rattle.tb_node.specs.declared.Kind.{Kind}
use Rattle.tb_node.specs.declared.Kind.TheVariants as kinds
use Rattle.tb_node.specs.declared.Node.{Node}
use Rattle.tb_node.specs.PlainNodes.{PlainNode, plain_of, node_shape, without_acts}
use Rattle.tb_param.specs.declared.Params.{Params}
use Rattle.tb_break.specs.Places.{last_or, ends_lasting}
use Rattle.tb_items.specs.declared.happenings.Happening.{Happening}
use Rattle.tb_items.specs.declared.happenings.Happening.TheVariants as happenings
use Rattle.tb_rate.specs.declared.PlacePenalty.{PlacePenalty}
use Rattle.tb_best.specs.PlacePrices.{sets_parameter, sets_any, AreAbove, AreDear}
use Rattle.tb_search.specs.LastNodes.{is_act_kind, last_but_acts}
use Rattle.tb_search.specs.Prices.{prices_among, IsPriceAbove}
use Rattle.tb_search.proofs.LastNodeLemmas.{folded, told_by, IsToldByLast, told-by-last}
use Rattle.tb_search.specs.Told.{tried_in, IsDearIn, is_set, lasting_after}

-- ---- a walk that ends early unless something holds of each element

-- it holds of all if it holds of those from here on
abbrev pub AllIfRest : {X : Type 0} → (X → Type 0) → ℕ → List X → Type 0
AllIfRest P i xs = AllByRecursion P (drop i xs) → AllByRecursion P xs

-- none is left
pub all-walked : {X : Type 0} (P : X → Type 0) (xs : List X) (i : ℕ) → length xs ≤ i → AllIfRest P i xs → AllByRecursion P xs
all-walked P xs i h all = all (none-left P xs i h)
  where
    none-left : {X : Type 0} (P : X → Type 0) (xs : List X) (i : ℕ) → length xs ≤ i → AllByRecursion P (drop i xs)
    none-left P [] zero h = tt
    none-left P [] (suc i) h = tt
    none-left P (x ∷ xs) zero h = absurd (omega (arith, h))
    none-left P (x ∷ xs) (suc i) h = none-left P xs i (omega (arith, h))

-- ---- the places that were tried

pub above-among : (p : Params) (places : List PlacePenalty) (line : ℕ) (d : ℤ) (hs : List Happening) → AllByRecursion (IsPriceAbove line d) (prices_among p places hs) → AreAbove p places line d (tried_in hs)
above-among p places line d [] h = tt
above-among p places line d (happenings.Tried t ∷ hs) h = (h.0, above-among p places line d hs h.1)
above-among p places line d (happenings.Sent e ∷ hs) h = above-among p places line d hs h

pub dear-in : (hs : List Happening) → AllByRecursion IsDearIn hs → AreDear (tried_in hs)
dear-in [] h = tt
dear-in (happenings.Tried t ∷ hs) h = (h.0.0, dear-in hs h.1)
dear-in (happenings.Sent e ∷ hs) h = dear-in hs h.1

-- ---- the nodes that wait

-- one of these nodes of a store sets a parameter
abbrev pub has_set : List Node → Bool
has_set ns = list_any (λ n. is_set n.kind) ns

set-act : (a : Act) → is_set (kinds.Act a) ≡ sets_parameter (plain_of (λ l. []) (record { line = 0; kind = kinds.Act a })).kind
set-act (acts.Set c) = refl
set-act a = refl

set-same : (held : ℕ → List Node) (l : ℕ) (k : Kind) → is_set k ≡ sets_parameter (plain_of held (record { line = l; kind = k })).kind
set-same held l (kinds.Act a) = set-act a
set-same held l k = refl

pub sets-shown : (held : ℕ → List Node) (ns : List Node) → has_set ns ≡ sets_any (map (plain_of held) ns)
sets-shown held [] = refl
sets-shown held (n ∷ ns) = λ i. set-same held n.line n.kind i || sets-shown held ns i

-- whether nodes of a store end in one that lasts, one after another, or this if there are acts alone
abbrev lasting_among : Bool → List Node → Bool
lasting_among t ns = folded lasting_after t ns

lasting-by-last : IsToldByLast lasting_after
lasting-by-last = record {
  acts = λ t k e. act-same t k e;
  others = λ t u k e. other-same t u k e;
}
  where
    act-same : (t : Bool) (k : Kind) → is_act_kind k ≡ true → lasting_after t k ≡ t
    act-same t (kinds.Act a) e = refl
    act-same t k e = absurd (true≢false (sym e))

    other-same : (t u : Bool) (k : Kind) → is_act_kind k ≡ false → lasting_after t k ≡ lasting_after u k
    other-same t u (kinds.Act a) e = absurd (true≢false e)
    other-same t u k e = refl

-- the same of a list as the definitions see it
abbrev last_lasting : Bool → List PlainNode → Bool
last_lasting t ns = last_or t (map (λ n. not (is_discardable n)) (map node_shape (without_acts ns)))

lasting-step : (held : ℕ → List Node) (l : ℕ) (t : Bool) (k : Kind) (ns : List PlainNode) → last_lasting (lasting_after t k) ns ≡ last_lasting t (plain_of held (record { line = l; kind = k }) ∷ ns)
lasting-step held l t (kinds.Act a) ns = refl
lasting-step held l t (kinds.Hbox what h d) ns = refl
lasting-step held l t k ns = refl

lasting-all : (held : ℕ → List Node) (t : Bool) (ns : List Node) → lasting_among t ns ≡ last_lasting t (map (plain_of held) ns)
lasting-all held t [] = refl
lasting-all held t (n ∷ ns) = lasting-all held (lasting_after t n.kind) ns ∙ lasting-step held n.line t n.kind (map (plain_of held) ns)

-- the last node that is no act tells it
pub lasting-last : (held : ℕ → List Node) (ns : List Node) → told_by lasting_after false (last_but_acts ns) ≡ ends_lasting (map node_shape (without_acts (map (plain_of held) ns)))
lasting-last held ns = sym (told-by-last lasting_after lasting-by-last false ns) ∙ lasting-all held false ns
