-- The acts of a page, if what waits closes: a change of columns meets empty lists, and what is taken is owed a firing.
use Rattle.std.proofs.Common.{◌≡◌, refl, sym, ◌∙◌, ap, subst, ℕ, suc, ◌+◌, ◌≤◌, Bool, true, false, List, [], ◌∷◌, ◌++◌, Option, None, arith}
use Rattle.std.specs.Prelude.{ℤ, ◌&&◌, if◌then◌else◌}
use Rattle.std.specs.List.{AllByRecursion}
use Rattle.tb_node.specs.declared.Act.{Act}
use Rattle.tb_node.specs.declared.Act.TheVariants as acts
use Rattle.tb_node.proofs.Weights.{Weight}
use Rattle.tb_param.specs.declared.Params.{Params}
use Rattle.tb_param.specs.Release.{has_second}
use Rattle.tb_param.specs.declared.SetPlace.{SetPlace}
use Rattle.tb_param.specs.declared.SetPlace.TheVariants as set_places
use Rattle.tb_param.specs.Changes.{set_place}
use Rattle.tb_builder.specs.Reach.{Reached, acted, tried}
use Rattle.tb_builder.proofs.Cutting.CutLemmas.{acted_of}
use Rattle.tb_builder.proofs.FiredPages.PageWeights.{acted_weight}
use Rattle.tb_float.specs.declared.Entry.{Entry}
use Rattle.tb_float.specs.declared.Entry.TheVariants as entries
use Rattle.tb_float.specs.Lists.{FloatLists, no_floats}
use Rattle.tb_sheet.specs.declared.Warn.{Warn}
use Rattle.tb_column.specs.Column.{PlainColumn}
use Rattle.tb_output.specs.State.{State, Recorded}
use Rattle.tb_output.specs.Act.{taken_float, set_records}
use Rattle.tb_laws.proofs.NothingLost.StateWeights.{left_weight}
use Rattle.tb_column.proofs.PrintedLines.{left_prints, LeftPlain}
use Rattle.tb_laws.proofs.Closed.Closings.{owed_after, never, Still, act_token}
use Rattle.tb_laws.proofs.Closed.ClosingPages.{SetCloses, ActsClose, owed_acts, ways_acts, AllStill}
use Rattle.tb_laws.proofs.Closed.ClosingStates.{ways_of}
use Rattle.tb_laws.proofs.Closed.SparedLists.{Single}
use Rattle.tb_laws.proofs.Closed.ServedLists.{entry_items}
use Rattle.tb_laws.proofs.NothingLost.RunWeights.{ActFits, ActsFit}
use Rattle.tb_items.specs.RunEvents.{RunEvent}
use Rattle.tb_steps.specs.Run.{Progress, progress}
use Rattle.tb_steps.proofs.RunTree.{ActMove, PageMoves, page-is, takes_float, takes_note, sets_flag, changes_columns, sets_number, takes_title, sets_parameter}
use Rattle.tb_steps.proofs.RunFolds.{each_record, PageLaw, page-holds, progress-holds, whole-holds}
use Rattle.tb_laws.specs.Laws.{IsEmptied}
use Rattle.tb_output.proofs.Acts.HeadLemmas.{head-room}

-- ---- a kept column at a change of columns

act-fits : (v : Weight) (o : Option PlainColumn) (d : Bool) (a : Act) (ds : List Act) → (d ≡ true → left_weight v o ≡ 0) → ActsClose d (a ∷ ds) → ActFits v o a
act-fits v o d (acts.Columns two) ds h c = h c.0
act-fits v o d a ds h c = tt

-- it weighs nothing
pub acts-fit : (v : Weight) (o : Option PlainColumn) (d : Bool) (ds : List Act) → (d ≡ true → left_weight v o ≡ 0) → ActsClose d ds → ActsFit v o ds
acts-fit v o d [] h c = tt
acts-fit v o d (acts.Take f ∷ ds) h c = (tt, acts-fit v o false ds (λ e. never e) c)
acts-fit v o d (acts.TakeMargin m ∷ ds) h c = (tt, acts-fit v o false ds (λ e. never e) c)
acts-fit v o d (acts.Suppress area ∷ ds) h c = (tt, acts-fit v o d ds h c)
acts-fit v o d (acts.Page n ∷ ds) h c = (tt, acts-fit v o d ds h c)
acts-fit v o d (acts.Head f ∷ ds) h c = (tt, acts-fit v o false ds (λ e. never e) c)
acts-fit v o d (acts.Columns two ∷ ds) h c = (h c.0, acts-fit v o d ds h c.1)
acts-fit v o d (acts.Set k ∷ ds) h c = (tt, acts-fit v o d ds h c.1)

-- ---- an act

items-append : (xs ys : List Entry) → entry_items (xs ++ ys) ≡ entry_items xs + entry_items ys
items-append [] ys = omega arith
items-append (entries.Float f ∷ xs) ys = let h : entry_items (xs ++ ys) ≡ entry_items xs + entry_items ys = items-append xs ys in omega arith
items-append (entries.Left m ∷ xs) ys = let h : entry_items (xs ++ ys) ≡ entry_items xs + entry_items ys = items-append xs ys in omega arith
items-append (entries.Right m ∷ xs) ys = items-append xs ys

-- what an act comes to: the records, how many firings are owed, and whether still nothing came
pub record Went (n : ℕ) (s : State) (a : Act) (ds : List Act) (t : State) (rs : List Recorded) : Type 0 where
  pub records : AllByRecursion IsEmptied rs
  pub owed : ℕ
  pub done : Bool
  pub empty : done ≡ true → t.floats ≡ no_floats
  pub items : entry_items t.floats.current ≤ owed
  pub single : Single t
  pub close : ActsClose done ds
  pub same_owed : owed_acts (ways_of s) n (a ∷ ds) ≡ owed_acts (ways_of t) owed ds
  pub same_ways : ways_acts (ways_of s) (a ∷ ds) ≡ ways_acts (ways_of t) ds
  pub here : t.floats.here ≡ s.floats.here
  pub still : Still (act_token a) → t.floats ≡ s.floats
  pub bare : done ≡ true → left_prints t.left_column ≡ []
  pub left : left_prints t.left_column ≡ left_prints s.left_column
  pub left_plain : LeftPlain s.left_column → LeftPlain t.left_column

-- where a measure is set the lists are empty
set-emptied : (x : SetPlace) (o : Bool) (l : FloatLists) → (o ≡ true → l ≡ no_floats) → SetCloses o x → AllByRecursion IsEmptied (set_records x l)
set-emptied set_places.AfterClear o l e c = (e c, tt)
set-emptied x o l e c = tt

pub act-went : (n : ℕ) (o : Bool) {s t : State} {a : Act} {ws : List Warn} {rs : List Recorded} (ds : List Act) → ActMove s.params s a t ws rs → (o ≡ true → s.floats ≡ no_floats) → (o ≡ true → left_prints s.left_column ≡ []) → entry_items s.floats.current ≤ n → Single s → ActsClose o (a ∷ ds) → Went n s a ds t rs
act-went n o ds (takes_float {s = s} f r) e b i g c =
    record { records = tt; owed = owed_after (ways_of s) f.wide n; done = false; empty = λ z. never z; items = taken-items f.wide (has_second s.params) s.two_columns; single = taken-single f.wide (has_second s.params) s.two_columns; close = c; same_owed = refl; same_ways = refl; here = taken-here (has_second s.params && (f.wide && s.two_columns)); still = λ z. absurd z; bare = λ z. never z; left = refl; left_plain = λ z. z }
  where
    p : Params
    p = s.params

    lists : Bool → FloatLists
    lists t = if t then record s.floats { second = s.floats.second ++ taken_float p s f ∷ [] } else record s.floats { current = s.floats.current ++ entries.Float (taken_float p s f) ∷ [] }

    one-more : entry_items (s.floats.current ++ entries.Float (taken_float p s f) ∷ []) ≤ suc n
    one-more = let k : entry_items (s.floats.current ++ entries.Float (taken_float p s f) ∷ []) ≡ entry_items s.floats.current + 1 = items-append s.floats.current (entries.Float (taken_float p s f) ∷ []) in omega arith

    taken-items : (w r t : Bool) → entry_items (lists (r && (w && t))).current ≤ (if w && (r && t) then n else suc n)
    taken-items true true true = i
    taken-items true true false = one-more
    taken-items true false t = one-more
    taken-items false true t = one-more
    taken-items false false t = one-more

    taken-single : (w r t : Bool) → s.two_columns ≡ false → (lists (r && (w && t))).double ≡ []
    taken-single w r t z = by_list (r && (w && t))
      where
        by_list : (u : Bool) → (lists u).double ≡ []
        by_list true = g z
        by_list false = g z

    taken-here : (u : Bool) → (lists u).here ≡ s.floats.here
    taken-here true = refl
    taken-here false = refl
act-went n o ds (takes_note {s = s} m r) e b i g c =
    let k : entry_items (s.floats.current ++ entries.Left m ∷ entries.Right m ∷ []) ≡ entry_items s.floats.current + 1 = items-append s.floats.current (entries.Left m ∷ entries.Right m ∷ []) in
    record { records = tt; owed = suc n; done = false; empty = λ z. never z; items = omega arith; single = g; close = c; same_owed = refl; same_ways = refl; here = refl; still = λ z. absurd z; bare = λ z. never z; left = refl; left_plain = λ z. z }
act-went n o ds (takes_title {s = s} f r) e b i g c =
    record { records = tt; owed = n; done = false; empty = λ z. never z; items = i; single = λ z. never (sym z ∙ (head-room s.params s r).two); close = c; same_owed = refl; same_ways = refl; here = refl; still = λ z. absurd z; bare = λ z. never z; left = refl; left_plain = λ z. z }
act-went n o ds (changes_columns two) e b i g c = record { records = (e c.0, tt); owed = n; done = o; empty = e; items = i; single = λ z. ap (λ l. l.double) (e c.0); close = c.1; same_owed = refl; same_ways = refl; here = refl; still = λ z. refl; bare = λ z. refl; left = sym (b c.0); left_plain = λ z. tt }
act-went n o ds (sets_flag area) e b i g c = record { records = tt; owed = n; done = o; empty = e; items = i; single = g; close = c; same_owed = refl; same_ways = refl; here = refl; still = λ z. refl; bare = b; left = refl; left_plain = λ z. z }
act-went n o ds (sets_number k) e b i g c = record { records = tt; owed = n; done = o; empty = e; items = i; single = g; close = c; same_owed = refl; same_ways = refl; here = refl; still = λ z. refl; bare = b; left = refl; left_plain = λ z. z }
act-went n o ds (sets_parameter {s = s} x) e b i g c = record { records = set-emptied (set_place x.field) o s.floats e c.0; owed = n; done = o; empty = e; items = i; single = g; close = c.1; same_owed = refl; same_ways = refl; here = refl; still = λ z. refl; bare = b; left = refl; left_plain = λ z. z }

-- ---- all acts of a page

-- the state after them
pub record ActsClosed (n : ℕ) (ds : List Act) (s t : State) : Type 0 where
  pub ways : ways_of t ≡ ways_acts (ways_of s) ds
  pub items : entry_items t.floats.current ≤ owed_acts (ways_of s) n ds
  pub single : Single t
  pub here : t.floats.here ≡ s.floats.here
  pub still : AllStill ds → t.floats ≡ s.floats
  pub left : left_prints t.left_column ≡ left_prints s.left_column
  pub left_plain : LeftPlain s.left_column → LeftPlain t.left_column

pub record ProgressClosed (n : ℕ) (ds : List Act) (s : State) (q : Progress) : Type 0 where
  pub records : AllByRecursion IsEmptied q.records
  pub after : q.fault ≡ None → ActsClosed n ds s q.state

-- while a page is gone through: what all its acts owe is what those that are left owe, and they close
pub record Acting (n : ℕ) (all : List Act) (o : State) (rs : List Reached) (s : State) : Type 0 where
  pub owed : ℕ
  pub done : Bool
  pub empty : done ≡ true → s.floats ≡ no_floats
  pub items : entry_items s.floats.current ≤ owed
  pub single : Single s
  pub close : ActsClose done (acted_of rs)
  pub same_owed : owed_acts (ways_of o) n all ≡ owed_acts (ways_of s) owed (acted_of rs)
  pub same_ways : ways_acts (ways_of o) all ≡ ways_acts (ways_of s) (acted_of rs)
  pub here : s.floats.here ≡ o.floats.here
  pub still : AllStill all → AllStill (acted_of rs) × (s.floats ≡ o.floats)
  pub bare : done ≡ true → left_prints s.left_column ≡ []
  pub left : left_prints s.left_column ≡ left_prints o.left_column
  pub left_plain : LeftPlain o.left_column → LeftPlain s.left_column

abbrev pub acting : ℕ → List Act → State → PageLaw
acting n all o = record {
  shows = each_record IsEmptied;
  holds = Acting n all o;
  tries = λ line b least rs s h. (tt, record { owed = h.owed; done = h.done; empty = h.empty; items = h.items; single = h.single; close = h.close; same_owed = h.same_owed; same_ways = h.same_ways; here = h.here; still = h.still; bare = h.bare; left = h.left; left_plain = h.left_plain });
  acts = λ s t a ws records rs x h.
      let k = act-went h.owed h.done (acted_of rs) x h.empty h.bare h.items h.single h.close in (
        k.records,
        record {
          owed = k.owed;
          done = k.done;
          empty = k.empty;
          items = k.items;
          single = k.single;
          close = k.close;
          same_owed = h.same_owed ∙ k.same_owed;
          same_ways = h.same_ways ∙ k.same_ways;
          here = k.here ∙ h.here;
          still = λ z. ((h.still z).0.1, k.still (h.still z).0.0 ∙ (h.still z).1);
          bare = k.bare;
          left = k.left ∙ h.left;
          left_plain = λ z. k.left_plain (h.left_plain z);
        },
      );
}

module _ (rs : List Reached) (n : ℕ) (o : Bool) (s : State) (e : o ≡ true → s.floats ≡ no_floats) (b : o ≡ true → left_prints s.left_column ≡ []) (i : entry_items s.floats.current ≤ n) (g : Single s) (c : ActsClose o (acted_of rs)) where
  pub acting-starts : Acting n (acted_of rs) s rs s
  acting-starts = record { owed = n; done = o; empty = e; items = i; single = g; close = c; same_owed = refl; same_ways = refl; here = refl; still = λ z. (z, refl); bare = b; left = refl; left_plain = λ z. z }

  acts-closed : {t : State} → Acting n (acted_of rs) s [] t → ActsClosed n (acted_of rs) s t
  acts-closed {t = t} h = record { ways = sym h.same_ways; items = subst (λ m. entry_items t.floats.current ≤ m) (sym h.same_owed) h.items; single = h.single; here = h.here; still = λ z. (h.still z).1; left = h.left; left_plain = h.left_plain }

  -- the acts and tries so far record empty lists alone
  pub page-emptied : {qs : List Reached} {t : State} {es : List RunEvent} {records : List Recorded} → PageMoves rs s es records qs t → AllByRecursion IsEmptied records
  page-emptied x = (page-holds (acting n (acted_of rs) s) x acting-starts).0

  pub page-closed : {t : State} {es : List RunEvent} {records : List Recorded} → PageMoves rs s es records [] t → ActsClosed n (acted_of rs) s t
  page-closed x = acts-closed (page-holds (acting n (acted_of rs) s) x acting-starts).1

  pub progress-closed : (least : ℤ) → ProgressClosed n (acted_of rs) s (progress rs least s)
  progress-closed least = record { records = (progress-holds (acting n (acted_of rs) s) (page-is rs least s) acting-starts).0; after = λ f. acts-closed (whole-holds (acting n (acted_of rs) s) (page-is rs least s) acting-starts f) }

-- acts that take nothing bring nothing
pub still-weight : (v : Weight) (rs : List Reached) → AllStill (acted_of rs) → acted_weight v rs ≡ 0
still-weight v [] h = refl
still-weight v (acted (acts.Take f) ∷ rs) h = absurd h.0
still-weight v (acted (acts.TakeMargin m) ∷ rs) h = absurd h.0
still-weight v (acted (acts.Head f) ∷ rs) h = absurd h.0
still-weight v (acted (acts.Suppress area) ∷ rs) h = let k : acted_weight v rs ≡ 0 = still-weight v rs h.1 in omega arith
still-weight v (acted (acts.Page n) ∷ rs) h = let k : acted_weight v rs ≡ 0 = still-weight v rs h.1 in omega arith
still-weight v (acted (acts.Columns two) ∷ rs) h = let k : acted_weight v rs ≡ 0 = still-weight v rs h.1 in omega arith
still-weight v (acted (acts.Set c) ∷ rs) h = let k : acted_weight v rs ≡ 0 = still-weight v rs h.1 in omega arith
still-weight v (tried line b ∷ rs) h = still-weight v rs h
