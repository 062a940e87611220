-- Along the run of a galley without items `twocolumn` and `page` there is one column, and no page number is set.
use Rattle.std.proofs.Common.{◌≡◌, refl, sym, ◌∙◌, subst, ℕ, Bool, true, false, List, [], ◌∷◌, None}
use Rattle.std.specs.Prelude.{ℤ, ◌&&◌, if◌then◌else◌}
use Rattle.std.specs.List.{AllByRecursion}
use Rattle.tb_scaled.specs.Scaled.{awful_bad}
use Rattle.tb_break.proofs.EachLemmas.{all-front, all-back, all-join}
use Rattle.tb_node.specs.declared.Act.{Act}
use Rattle.tb_node.specs.declared.Act.TheVariants as acts
use Rattle.tb_node.specs.PlainNodes.{act, on_line, clearpage_kinds}
use Rattle.tb_param.specs.declared.Params.{Params}
use Rattle.tb_param.specs.Release.{has_second}
use Rattle.tb_galley.specs.declared.Item.{Item}
use Rattle.tb_galley.specs.declared.ItemKind.{ItemKind}
use Rattle.tb_galley.specs.declared.ItemKind.TheVariants as items
use Rattle.tb_galley.specs.declared.Galley.{Galley}
use Rattle.tb_galley.specs.GalleyNodes.{with_firings, item_kinds, two_after, params_after, item_nodes, expanded}
use Rattle.tb_break.specs.PageTop.{pruned_nodes}
use Rattle.tb_builder.specs.Reach.{Reached}
use Rattle.tb_builder.specs.FiredPages.{frozen_for}
use Rattle.tb_builder.proofs.Cutting.CutLemmas.{acted_of}
use Rattle.tb_items.specs.Classes.{classes_of}
use Rattle.tb_items.specs.RunEvents.{RunEvent}
use Rattle.tb_output.specs.State.{State, Recorded, first_state}
use Rattle.tb_sheet.specs.declared.Warn.{Warn}
use Rattle.tb_steps.specs.Run.{progress, goes_on, step, ask_for}
use Rattle.tb_steps.proofs.RunTree.{ActMove, page-is, changes_columns, sets_number}
use Rattle.tb_steps.proofs.RunFolds.{nothing_shown, PageLaw, progress-holds}
use Rattle.tb_laws.proofs.ClassesRise.PageLines.{deeds, deeds-append, pruned-deeds}
use Rattle.tb_laws.proofs.NothingLost.RunWeights.{page_of, cut}
use Rattle.tb_laws.proofs.NothingLost.ClosingRuns.{progressed, fired_closes}
use Rattle.tb_why_laws.specs.OneColumn.{IsSingleItem, HasOneColumn}
use Rattle.tb_why_laws.proofs.OnePlace.Once.{of_line}
use Rattle.tb_why_laws.proofs.OnePlace.OnceStates.{Running, now, progressed as reached-adds}
use Rattle.tb_why_laws.proofs.OnePlace.CalledLater.{all-deeds, does}
use Rattle.tb_why_laws.proofs.OnePlace.AfterCalls.{waiting_deeds}
use Rattle.tb_why_laws.proofs.InTime.GoingOn.{GoesOn, going-on}

-- the act does not change to two columns, and does not set the page number
abbrev pub IsSingleAct : Act → Type 0
IsSingleAct (acts.Take f) = Unit {0}
IsSingleAct (acts.TakeMargin m) = Unit {0}
IsSingleAct (acts.Suppress area) = Unit {0}
IsSingleAct (acts.Page n) = ⊥
IsSingleAct (acts.Set c) = Unit {0}
IsSingleAct (acts.Head f) = Unit {0}
IsSingleAct (acts.Columns two) = two ≡ false

-- there is one column, and none of the acts that wait changes this or the page number
pub record OneColumn (s : State) : Type 0 where
  pub two : s.two_columns ≡ false
  pub acts : AllByRecursion IsSingleAct (deeds s.waiting)

-- ---- the acts of a page

-- they keep the number of the page, and the one column
record Kept (s t : State) : Type 0 where
  page : t.number ≡ s.number
  two : s.two_columns ≡ false → t.two_columns ≡ false

act-kept : {p : Params} {s t : State} {a : Act} {ws : List Warn} {rs : List Recorded} → ActMove p s a t ws rs → IsSingleAct a → Kept s t
act-kept (sets_number n) h = absurd h
act-kept (changes_columns two) h = record { page = refl; two = λ e. h }
act-kept m h = record { page = refl; two = λ e. e }

abbrev keeping : State → PageLaw
keeping o = record {
  shows = nothing_shown;
  holds = λ rs s. AllByRecursion IsSingleAct (acted_of rs) × Kept o s;
  tries = λ line b least rs s h. (tt, h);
  acts = λ s t a ws records rs m h. let x = act-kept m h.0.0 in (tt, (h.0.1, record { page = x.page ∙ h.1.page; two = λ e. x.two (h.1.two e) }));
}

progress-kept : (rs : List Reached) (least : ℤ) (s : State) → AllByRecursion IsSingleAct (acted_of rs) → Kept s (progress rs least s).state
progress-kept rs least s h = (progress-holds (keeping s) (page-is rs least s) (h, record { page = refl; two = λ e. e })).1.1.1

-- ---- a step

module _ (s : State) (o : Running s) (one : OneColumn s) where
  -- the acts that were done are single
  acts-single : AllByRecursion IsSingleAct (acted_of (page_of s).reached)
  acts-single =
      all-front IsSingleAct (acted_of (page_of s).reached) (deeds (page_of s).beyond)
      (subst (AllByRecursion IsSingleAct) (sym (pruned-deeds (ask_for s).top_skip s.waiting) ∙ all-deeds (pruned_nodes (ask_for s).top_skip s.waiting) (page_of s) (cut (of_line 0) s o.kept)) one.acts)

  done : Kept s (now s o).state
  done = progress-kept (page_of s).reached awful_bad s acts-single

  -- the page that is made once the page is filled is the same
  pub filled-page : (now s o).state.number ≡ s.number
  filled-page = done.page

  module _ (e : (now s o).fault ≡ None) where
    -- and there is one column
    pub filled-single : (now s o).state.two_columns ≡ false
    filled-single = done.two one.two

  pub step-single : (es : List RunEvent) (rs : List Recorded) (t : State) → step s ≡ goes_on es rs t → OneColumn t
  step-single es rs t e = record {
    two = subst (λ (x : State). x.two_columns ≡ false) (sym g.state)
        ((fired_closes s o.kept o.closing (now s o).state (λ v. (reached-adds s o v).after g.fault) ((progressed s o.kept o.closing).after g.fault) (frozen_for (ask_for s) (now s o).state.classes (now s o).state.boxes)).1 ∙ filled-single g.fault);
    acts = subst (λ (x : State). AllByRecursion IsSingleAct (deeds x.waiting)) (sym g.state)
        (subst (AllByRecursion IsSingleAct) (sym (waiting_deeds s o g.fault)) (all-back IsSingleAct (acted_of (page_of s).reached) _ (subst (AllByRecursion IsSingleAct) (does s o g.fault) one.acts)));
  }
    where
      g : GoesOn s o t
      g = going-on s o es rs t e

-- ---- the start

item-single : (p : Params) (two : Bool) (n : ℕ) (k : ItemKind) → IsSingleItem k → AllByRecursion IsSingleAct (deeds (on_line n (item_kinds p two k)))
item-single p two n (items.Float f vert) h = by_taking (has_second p && two && f.wide)
  where
    by_taking : (t : Bool) → AllByRecursion IsSingleAct (deeds (on_line n (if t then act (acts.Take f) ∷ [] else with_firings (acts.Take f) vert)))
    by_taking true = (tt, tt)
    by_taking false = (tt, tt)
item-single p two n items.TwoColumn h = absurd h
item-single p two n items.OneColumn h = (refl, tt)
item-single p two n (items.Margin m vert) h = (tt, tt)
item-single p two n (items.Suppress area) h = (tt, tt)
item-single p two n (items.Page k) h = absurd h
item-single p two n (items.Head f) h = (tt, tt)
item-single p two n (items.Set c) h = (tt, tt)
item-single p two n k h = tt

items-single : (p : Params) (two : Bool) (ns : List Item) → AllByRecursion (λ (n : Item). IsSingleItem n.kind) ns → AllByRecursion IsSingleAct (deeds (item_nodes p two ns))
items-single p two [] h = tt
items-single p two (n ∷ ns) h =
    subst (AllByRecursion IsSingleAct) (sym (deeds-append (on_line n.line (item_kinds p two n.kind)) (item_nodes (params_after p n.kind) (two_after two n.kind) ns)))
    (all-join IsSingleAct (deeds (on_line n.line (item_kinds p two n.kind))) (deeds (item_nodes (params_after p n.kind) (two_after two n.kind) ns)) (item-single p two n.line n.kind h.0) (items-single (params_after p n.kind) (two_after two n.kind) ns h.1))

-- a galley without items `twocolumn` and `page` begins in one column and stays there
pub starts-single : (g : Galley) → HasOneColumn g → OneColumn (first_state g.params (classes_of g) (expanded g))
unfolding expanded
starts-single g h = record {
  two = refl;
  acts = subst (AllByRecursion IsSingleAct) (sym (deeds-append (item_nodes g.params false g.items) (on_line g.end_line clearpage_kinds))) (all-join IsSingleAct (deeds (item_nodes g.params false g.items)) _ (items-single g.params false g.items h) tt);
}
