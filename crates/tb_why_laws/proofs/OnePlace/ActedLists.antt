-- The float lists after the acts of a page: the current list and the second one grow by what the acts take.
use Rattle.std.proofs.Common.{◌≡◌, refl, sym, ◌∙◌, ap, ℕ, ◌+◌, ◌⊎◌, inl, inr, Bool, true, false, List, [], ◌∷◌, ◌++◌, append_assoc, append-nil, None, subst, arith}
use Rattle.std.specs.Prelude.{ℤ, ◌&&◌, if◌then◌else◌}
use Rattle.std.specs.List.{AllByRecursion}
use Rattle.std.proofs.lemmas.Option.{none-some}
use Rattle.tb_break.proofs.EachLemmas.{all-front, all-back}
use Rattle.tb_node.specs.declared.Act.{Act}
use Rattle.tb_node.specs.declared.Act.TheVariants as acts
use Rattle.tb_node.specs.declared.Float.{Float}
use Rattle.tb_node.proofs.Weights.{Weight, act_weight}
use Rattle.tb_param.specs.declared.Params.{Params}
use Rattle.tb_param.specs.Release.{has_second}
use Rattle.tb_builder.specs.Reach.{Reached}
use Rattle.tb_builder.proofs.Cutting.CutLemmas.{acted_of}
use Rattle.tb_float.specs.declared.Entry.{Entry}
use Rattle.tb_float.specs.declared.Entry.TheVariants as entries
use Rattle.tb_float.specs.Lists.{FloatLists}
use Rattle.tb_sheet.specs.declared.Warn.{Warn}
use Rattle.tb_output.specs.State.{State, Recorded}
use Rattle.tb_items.specs.RunEvents.{RunEvent}
use Rattle.tb_output.specs.Act.{taken_float, taken_head}
use Rattle.tb_steps.specs.Run.{Progress, progress}
use Rattle.tb_steps.proofs.RunTree.{ActMove, PageMoves, PageIs, page-is, takes_float, takes_note, changes_columns, takes_title, shows_try, does_act, rests, moves, is_whole, is_cut}
use Rattle.tb_laws.specs.Laws.{IsEmptied}
use Rattle.tb_laws.proofs.NothingLost.StateWeights.{floats_weight, floats-append, entries_weight}
use Rattle.tb_why_laws.proofs.OnePlace.CallWeights.{deeds_weight}

-- the lists after acts, with the titles that were taken, and the wide floats that were taken into the second list; the columns changed only with all lists empty
pub record ActedLists (ds : List Act) (s t : State) : Type 0 where
  pub here : t.floats.here ≡ s.floats.here
  pub top : t.floats.top ≡ s.floats.top
  pub bottom : t.floats.bottom ≡ s.floats.bottom
  pub deferred : t.floats.deferred ≡ s.floats.deferred
  pub titles : List Float
  pub double : t.floats.double ≡ s.floats.double ++ titles
  pub news : List Float
  pub second : t.floats.second ≡ s.floats.second ++ news
  pub columns : ((t.two_columns ≡ s.two_columns) × (t.first_column ≡ s.first_column)) ⊎ (s.floats.double ≡ [])
  pub taken : (v : Weight) → entries_weight v t.floats.current + floats_weight v news + floats_weight v titles ≡ entries_weight v s.floats.current + deeds_weight v ds

nothing-done : (s : State) → ActedLists [] s s
nothing-done s = record { here = refl; top = refl; bottom = refl; deferred = refl; titles = []; double = sym (append-nil s.floats.double); news = []; second = sym (append-nil s.floats.second); columns = inl (refl, refl); taken = λ v. omega arith }

none-front : (xs ys : List Float) → xs ++ ys ≡ [] → xs ≡ []
none-front [] ys e = refl
none-front (x ∷ xs) ys e = cc

-- one act, and those after it
both-done : (a : Act) (ds : List Act) (s t u : State) → ActedLists (a ∷ []) s t → ActedLists ds t u → ActedLists (a ∷ ds) s u
both-done a ds s t u x y = record {
  here = y.here ∙ x.here;
  top = y.top ∙ x.top;
  bottom = y.bottom ∙ x.bottom;
  deferred = y.deferred ∙ x.deferred;
  titles = x.titles ++ y.titles;
  double = y.double ∙ ap (λ l. l ++ y.titles) x.double ∙ append_assoc s.floats.double x.titles y.titles;
  news = x.news ++ y.news;
  second = y.second ∙ ap (λ l. l ++ y.news) x.second ∙ append_assoc s.floats.second x.news y.news;
  columns = by_columns x.columns y.columns;
  taken = λ v. sums v (floats-append v x.news y.news) (floats-append v x.titles y.titles) (x.taken v) (y.taken v);
}
  where
    by_columns : ((t.two_columns ≡ s.two_columns) × (t.first_column ≡ s.first_column)) ⊎ (s.floats.double ≡ []) → ((u.two_columns ≡ t.two_columns) × (u.first_column ≡ t.first_column)) ⊎ (t.floats.double ≡ []) → ((u.two_columns ≡ s.two_columns) × (u.first_column ≡ s.first_column)) ⊎ (s.floats.double ≡ [])
    by_columns (inl a) (inl b) = inl (b.0 ∙ a.0, b.1 ∙ a.1)
    by_columns (inr a) b = inr a
    by_columns (inl a) (inr b) = inr (none-front s.floats.double x.titles (sym x.double ∙ b))

    sums : (v : Weight) → floats_weight v (x.news ++ y.news) ≡ floats_weight v x.news + floats_weight v y.news → floats_weight v (x.titles ++ y.titles) ≡ floats_weight v x.titles + floats_weight v y.titles
        → entries_weight v t.floats.current + floats_weight v x.news + floats_weight v x.titles ≡ entries_weight v s.floats.current + (act_weight v a + 0)
        → entries_weight v u.floats.current + floats_weight v y.news + floats_weight v y.titles ≡ entries_weight v t.floats.current + deeds_weight v ds
        → entries_weight v u.floats.current + floats_weight v (x.news ++ y.news) + floats_weight v (x.titles ++ y.titles) ≡ entries_weight v s.floats.current + (act_weight v a + deeds_weight v ds)
    sums v e f g h = omega arith

-- ---- an act

entries-append : (v : Weight) (xs ys : List Entry) → entries_weight v (xs ++ ys) ≡ entries_weight v xs + entries_weight v ys
entries-append v [] ys = omega arith
entries-append v (entries.Float f ∷ xs) ys = let h : entries_weight v (xs ++ ys) ≡ entries_weight v xs + entries_weight v ys = entries-append v xs ys in omega arith
entries-append v (entries.Left m ∷ xs) ys = let h : entries_weight v (xs ++ ys) ≡ entries_weight v xs + entries_weight v ys = entries-append v xs ys in omega arith
entries-append v (entries.Right m ∷ xs) ys = let h : entries_weight v (xs ++ ys) ≡ entries_weight v xs + entries_weight v ys = entries-append v xs ys in omega arith

-- entries join the current list
joins : (a : Act) (s : State) (es : List Entry) → ((v : Weight) → entries_weight v es ≡ act_weight v a) → ActedLists (a ∷ []) s (record s { floats = record s.floats { current = s.floats.current ++ es } })
joins a s es h = record {
  here = refl;
  top = refl;
  bottom = refl;
  deferred = refl;
  titles = [];
  double = sym (append-nil s.floats.double);
  news = [];
  second = sym (append-nil s.floats.second);
  columns = inl (refl, refl);
  taken = λ v. sums (entries_weight v (s.floats.current ++ es)) (entries_weight v s.floats.current) (entries_weight v es) (act_weight v a) (entries-append v s.floats.current es) (h v);
}
  where
    sums : (x y z w : ℕ) → x ≡ y + z → z ≡ w → x + 0 + 0 ≡ y + (w + 0)
    sums x y z w e g = omega arith

act-done : (p : Params) {s t : State} {a : Act} {ws : List Warn} {rs : List Recorded} → ActMove p s a t ws rs → AllByRecursion IsEmptied rs → ActedLists (a ∷ []) s t
act-done p (takes_float {s = s} f r) e = by_list (has_second p && (f.wide && s.two_columns))
  where
    by_list : (t : Bool) → ActedLists (acts.Take f ∷ []) s (record s { floats = if t then record s.floats { second = s.floats.second ++ taken_float p s f ∷ [] } else record s.floats { current = s.floats.current ++ entries.Float (taken_float p s f) ∷ [] } })
    by_list true = record { here = refl; top = refl; bottom = refl; deferred = refl; titles = []; double = sym (append-nil s.floats.double); news = taken_float p s f ∷ []; second = refl; columns = inl (refl, refl); taken = λ v. omega arith }
    by_list false = joins (acts.Take f) s (entries.Float (taken_float p s f) ∷ []) (λ v. omega arith)
act-done p (takes_note {s = s} m r) e = joins (acts.TakeMargin m) s (entries.Left m ∷ entries.Right m ∷ []) (λ v. omega arith)
act-done p (takes_title {s = s} f r) e = record { here = refl; top = refl; bottom = refl; deferred = refl; titles = taken_head p f ∷ []; double = refl; news = []; second = sym (append-nil s.floats.second); columns = inl (refl, refl); taken = λ v. omega arith }
act-done p (changes_columns {s = s} two) e = record { here = refl; top = refl; bottom = refl; deferred = refl; titles = []; double = sym (append-nil s.floats.double); news = []; second = sym (append-nil s.floats.second); columns = inr (ap (λ (l : FloatLists). l.double) e.0); taken = λ v. omega arith }
act-done p {s = s} m e = record { here = refl; top = refl; bottom = refl; deferred = refl; titles = []; double = sym (append-nil s.floats.double); news = []; second = sym (append-nil s.floats.second); columns = inl (refl, refl); taken = λ v. omega arith }

-- ---- all acts of a page

page-lists : {rs qs : List Reached} {s t : State} {es : List RunEvent} {records : List Recorded} → PageMoves rs s es records qs t → qs ≡ [] → AllByRecursion IsEmptied records → ActedLists (acted_of rs) s t
page-lists (rests {s = s}) none e = subst (λ l. ActedLists (acted_of l) s s) (sym none) (nothing-done s)
page-lists (moves (shows_try line b least qs) x) none e = page-lists x none e
page-lists (moves {u = u} {more = more} (does_act {s = s} {t = t} {records = records} a qs m) x) none e =
    both-done a (acted_of qs) s t u (act-done s.params m (all-front IsEmptied records more e)) (page-lists x none (all-back IsEmptied records more e))

pub progress-lists : (rs : List Reached) (least : ℤ) (s : State) → AllByRecursion IsEmptied (progress rs least s).records → (progress rs least s).fault ≡ None → ActedLists (acted_of rs) s (progress rs least s).state
progress-lists rs least s = by_page (page-is rs least s)
  where
    by_page : {q : Progress} → PageIs rs s q → AllByRecursion IsEmptied q.records → q.fault ≡ None → ActedLists (acted_of rs) s q.state
    by_page (is_whole x) e f = page-lists x refl e
    by_page (is_cut {line = line} {live = live} x y) e f = absurd (none-some (line, live) (sym f))
