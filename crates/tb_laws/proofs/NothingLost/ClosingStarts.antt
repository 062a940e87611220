-- What waits at the start of a run closes.
use Rattle.std.proofs.Common.{◌≡◌, refl, sym, subst, ℕ, zero, suc, ◌+◌, Bool, true, false, List, [], ◌∷◌, ◌++◌, inl, arith}
use Rattle.std.specs.Prelude.{ℤ, int_le, ◌||◌, ◌&&◌, IsTrue, drop, if◌then◌else◌}
use Rattle.std.proofs.lemmas.Int.{ints}
use Rattle.std.proofs.lemmas.Bool.{and_parts}
use Rattle.tb_scaled.specs.Scaled.{eject_penalty}
use Rattle.tb_node.specs.PlainNodes.{act, on_line, clearpage_kinds}
use Rattle.tb_node.specs.declared.Act.TheVariants as acts
use Rattle.tb_node.proofs.Weights.{Weight}
use Rattle.tb_insert.specs.declared.Class.{Class}
use Rattle.tb_builder.proofs.FiredPages.PageWeights.{boxes_weight}
use Rattle.tb_items.specs.Classes.{classes_of}
use Rattle.tb_param.specs.declared.Params.{Params}
use Rattle.tb_param.specs.Release.{has_second}
use Rattle.tb_param.specs.declared.SetPlace.{SetPlace}
use Rattle.tb_param.specs.declared.SetPlace.TheVariants as set_places
use Rattle.tb_param.specs.Changes.{set_place}
use Rattle.tb_galley.specs.declared.Item.{Item}
use Rattle.tb_galley.specs.declared.ItemKind.{ItemKind}
use Rattle.tb_galley.specs.declared.ItemKind.TheVariants as items
use Rattle.tb_galley.specs.declared.Galley.{Galley}
use Rattle.tb_galley.specs.GalleyNodes.{with_firings, two_after, params_after, item_kinds, item_nodes, expanded}
use Rattle.tb_galley.specs.Valid.{Behind, behind_nothing, behind_clear, behind_two, behind_other, behind_after, may_set, may_come, do_items_stand}
use Rattle.tb_output.specs.State.{first_state, void_boxes}
use Rattle.tb_laws.proofs.NothingLost.StateWeights.{class_numbers}
use Rattle.tb_output.specs.Output.{is_int}
use Rattle.tb_sheet.specs.Asked.{clear_penalty, par_penalty, vert_penalty, hold_penalty}
use Rattle.tb_laws.proofs.Closed.SortLemmas.{light, pause, hold, serve, clear, odd, pen_sort}
use Rattle.tb_laws.proofs.Closed.Closings.{Ways, never, Token, Closes, sort_token, set_token, ins_token, tokens, tokens-append}
use Rattle.tb_laws.proofs.Closed.ClearedLists.{tokens-parts}
use Rattle.tb_laws.proofs.Closed.ClosingStates.{Closing}
use Rattle.tb_laws.proofs.NothingLost.StartLemmas.{ItemFits, ItemsFit}

-- behind a clear or a change of columns nothing came
abbrev Came : Behind → Bool → Type 0
Came behind_nothing o = Unit {0}
Came behind_clear o = o ≡ true
Came behind_two o = o ≡ true
Came behind_other o = Unit {0}

-- behind this, the list closes if nothing is owed
abbrev Ends : Behind → Ways → List Token → Type 0
Ends b z ys = (o : Bool) → Came b o → Closes z 0 o ys

-- how floats are taken with this many columns
abbrev ways : Params → Bool → Ways
ways p two = record { second = has_second p; two = two }

-- an item's penalty is quiet
high-penalty : (q : ℤ) → int_le eject_penalty q ≡ true → (y : Ways) (ys : List Token) → ((o : Bool) → Closes y 0 o ys) → (o : Bool) → Closes y 0 o (sort_token (pen_sort q) ∷ ys)
high-penalty q h y ys e = by_tests (int_le q eject_penalty) (is_int q eject_penalty) (is_int q clear_penalty) (is_int q par_penalty || is_int q vert_penalty) (is_int q hold_penalty) (λ k. grind (arith, ints, h, k))
  where
    by_tests : (t s c x z : Bool) → (t ≡ true → s ≡ true) → (o : Bool) → Closes y 0 o (sort_token (if t then (if s then pause else (if c then clear else (if x then serve else (if z then hold else odd)))) else light) ∷ ys)
    by_tests true true c x z u o = e o
    by_tests true false c x z u o = let no : ⊥ = grind (arith, u refl) in absurd no
    by_tests false s c x z u o = e o

-- a wide float that waits for a page is owed no firing, and any other is owed one
owed-none : (r t w : Bool) (n : ℕ) → (r && t && w) ≡ true → (if w && (r && t) then n else suc n) ≡ n
owed-none true true true n e = refl
owed-none true true false n e = never e
owed-none true false w n e = never e
owed-none false t w n e = never e

owed-one : (r t w : Bool) (n : ℕ) → (r && t && w) ≡ false → (if w && (r && t) then n else suc n) ≡ suc n
owed-one true true true n e = never (sym e)
owed-one true true false n e = refl
owed-one true false true n e = refl
owed-one true false false n e = refl
owed-one false t true n e = refl
owed-one false t false n e = refl

-- a measure is set behind a clear or a change of columns
set-ends : (z : Ways) (b : Behind) (x : SetPlace) → IsTrue (may_set b x) → (ys : List Token) → Ends b z ys → Ends b z (set_token x ∷ ys)
set-ends z behind_nothing x m ys e o c = never m
set-ends z b set_places.Anywhere m ys e o c = e o c
set-ends z behind_clear set_places.AfterClear m ys e o c = (c, e o c)
set-ends z behind_two set_places.AfterClear m ys e o c = (c, e o c)
set-ends z b x m ys e o c = never m

item-ends : (ks : List ℕ) (p : Params) (two : Bool) (b : Behind) (line : ℕ) (k : ItemKind) → ItemFits ks k → IsTrue (may_come b k) → (ys : List Token) → Ends (behind_after b k) (ways (params_after p k) (two_after two k)) ys → Ends b (ways p two) (tokens (on_line line (item_kinds p two k)) ++ ys)
item-ends ks p two b line (items.Hbox name h d) f m ys e o c = e false tt
item-ends ks p two b line (items.Rule name h d) f m ys e o c = e false tt
item-ends ks p two b line (items.Skip g) f m ys e o c = e o tt
item-ends ks p two b line (items.Kern w) f m ys e o c = e o tt
item-ends ks p two b line (items.Penalty n) f m ys e o c = high-penalty n f (ways p two) ys (λ o. e o tt) o
item-ends ks p two b line (items.Mark name) f m ys e o c = e o tt
item-ends ks p two b line (items.Note name) f m ys e o c = e o tt
item-ends ks p two b line (items.Foot class foot) f m ys e o c = subst (λ t. Closes (ways p two) 0 o (ins_token t ∷ ys)) (sym f.1) (e false tt)
item-ends ks p two b line (items.Float x vert) f m ys e o c = by_taking (has_second p && two && x.wide) vert refl
  where
    by_taking : (t u : Bool) → (has_second p && two && x.wide) ≡ t → Closes (ways p two) 0 o (tokens (on_line line (if t then act (acts.Take x) ∷ [] else with_firings (acts.Take x) u)) ++ ys)
    by_taking true u h = subst (λ n. Closes (ways p two) n false ys) (sym (owed-none (has_second p) two x.wide 0 h)) (e false tt)
    by_taking false true h = subst (λ n. Closes (ways p two) n false (tokens (on_line line (drop 1 (with_firings (acts.Take x) true))) ++ ys)) (sym (owed-one (has_second p) two x.wide 0 h)) (e false tt)
    by_taking false false h = subst (λ n. Closes (ways p two) n false (tokens (on_line line (drop 1 (with_firings (acts.Take x) false))) ++ ys)) (sym (owed-one (has_second p) two x.wide 0 h)) (e false tt)
item-ends ks p two b line (items.Margin x true) f m ys e o c = e false tt
item-ends ks p two b line (items.Margin x false) f m ys e o c = e false tt
item-ends ks p two b line items.NewPage f m ys e o c = e o tt
item-ends ks p two b line items.ClearPage f m ys e o c = e true refl
item-ends ks p two b line (items.PageBreak zero) f m ys e o c = e o tt
item-ends ks p two b line (items.PageBreak (suc zero)) f m ys e o c = e o tt
item-ends ks p two b line (items.PageBreak (suc (suc zero))) f m ys e o c = e o tt
item-ends ks p two b line (items.PageBreak (suc (suc (suc zero)))) f m ys e o c = e o tt
item-ends ks p two b line (items.PageBreak (suc (suc (suc (suc n))))) f m ys e o c = e o tt
item-ends ks p two b line (items.NoPageBreak zero) f m ys e o c = e o tt
item-ends ks p two b line (items.NoPageBreak (suc zero)) f m ys e o c = e o tt
item-ends ks p two b line (items.NoPageBreak (suc (suc zero))) f m ys e o c = e o tt
item-ends ks p two b line (items.NoPageBreak (suc (suc (suc zero)))) f m ys e o c = e o tt
item-ends ks p two b line (items.NoPageBreak (suc (suc (suc (suc n))))) f m ys e o c = e o tt
item-ends ks p two b line items.OneColumn f m ys e o c = (refl, e true refl)
item-ends ks p two b line items.TwoColumn f m ys e o c = (refl, e true refl)
item-ends ks p two b line (items.Suppress area) f m ys e o c = e o tt
item-ends ks p two b line (items.Page n) f m ys e o c = e o tt
item-ends ks p two b line (items.Enlarge by star) f m ys e o c = e o tt
item-ends ks p two b line (items.Head x) f m ys e o c = e false tt
item-ends ks p two b line (items.Set x) f m ys e o c = set-ends (ways p two) b (set_place x.field) m ys e o c

items-end : (ks : List ℕ) (p : Params) (two : Bool) (b : Behind) (ns : List Item) → ItemsFit ks ns → IsTrue (do_items_stand b ns) → (ys : List Token) → ((y : Ways) (o : Bool) → Closes y 0 o ys) → Ends b (ways p two) (tokens (item_nodes p two ns) ++ ys)
items-end ks p two b [] f s ys e o c = e (ways p two) o
items-end ks p two b (n ∷ ns) f s ys e o c =
    let later = params_after p n.kind in
    let after = two_after two n.kind in
    let stands = and_parts (may_come b n.kind) (do_items_stand (behind_after b n.kind) ns) s in
    subst (Closes (ways p two) 0 o) (sym (tokens-parts (on_line n.line (item_kinds p two n.kind)) (item_nodes later after ns) ys))
    (item-ends ks p two b n.line n.kind f.0 stands.0 (tokens (item_nodes later after ns) ++ ys) (λ o c. items-end ks later after (behind_after b n.kind) ns f.1 stands.1 ys e o c) o c)

-- a void box weighs nothing
void-weight : (v : Weight) (cs : List Class) → boxes_weight v (void_boxes cs) + 0 + 0 + 0 ≡ 0
void-weight v [] = refl
void-weight v (c ∷ cs) = let h : boxes_weight v (void_boxes cs) + 0 + 0 + 0 ≡ 0 = void-weight v cs in omega arith

-- nothing came before the start, and the galley ends in a clear
pub start-closing : (g : Galley) → IsTrue (do_items_stand behind_nothing g.items) → ItemsFit (class_numbers (classes_of g)) g.items → Closing (first_state g.params (classes_of g) (expanded g))
unfolding expanded
start-closing g s f = record {
  owed = 0;
  done = true;
  closes = subst (Closes (ways g.params false) 0 true) (sym (append g)) (items-end (class_numbers (classes_of g)) g.params false behind_nothing g.items f s (tokens (on_line g.end_line clearpage_kinds)) (λ y o. refl) true tt);
  items = omega arith;
  single = λ e. refl;
  here = inl refl;
  clean = λ e. record { weightless = λ v. void-weight v (classes_of g); here = refl };
}
  where
    append : (g : Galley) → tokens (item_nodes g.params false g.items ++ on_line g.end_line clearpage_kinds) ≡ tokens (item_nodes g.params false g.items) ++ tokens (on_line g.end_line clearpage_kinds)
    append g = tokens-append (item_nodes g.params false g.items) (on_line g.end_line clearpage_kinds)
