-- A clear: the steps of the work.
use Rattle.std.proofs.Common.{◌≡◌, ◌≢◌, refl, sym, subst, ◌∙◌, ap, ℕ, zero, suc, pos, Bool, true, false, List, [], ◌∷◌, ◌++◌, map, take, length, append-nil, Option, Some, IsSome, arith}
use Rattle.std.specs.Prelude.{not, ◌||◌, if◌then◌else◌, unwrap_or}
use Rattle.std.specs.FinMap.{FinMap, get, insert, remove}
use Rattle.std.specs.Ordering.{nat_cmp}
use Rattle.std.proofs.lemmas.Int.{ints}
use Rattle.std.proofs.lemmas.List.{take-map}
use Rattle.std.proofs.lemmas.List.Elements.{All-from_recursion, All-take}
use Rattle.tb_pool.specs.Lists.{Lists, IsLive, list_at, with_list}
use Rattle.tb_pool.proofs.CallerLemmas.{list_same, list_other}
use Rattle.tb_pool.proofs.MapLemmas.{get-insert_same, get-insert_other, get-remove_other}
use Rattle.tb_node.specs.declared.Node.{Node}
use Rattle.tb_node.specs.PlainNodes.{PlainNode, plain_of, made, blank_box, plain_list}
use Rattle.tb_node.specs.Fit.{IsSizedNode, shapes}
use Rattle.tb_break.specs.Split.{split_of}
use Rattle.tb_builder.specs.Ownership.{inner_ids}
use Rattle.tb_column.specs.Page.{AreLeaves, IsPageList}
use Rattle.tb_param.specs.declared.Params.{Params}
use Rattle.tb_column.proofs.ShownLemmas.{shapes-held}
use Rattle.tb_output.specs.declared.RunFault.{RunFault}
use Rattle.tb_output.specs.declared.RunFault.TheVariants as faults
use Rattle.tb_output.specs.State.{Work, puts, with_floats, has_floats}
use Rattle.tb_output.specs.Pages.{all_wide_pages}
use Rattle.tb_output.specs.Columns.{all_float_columns}
use Rattle.tb_output.specs.Clear.{clear_again, deferred_again, double_again, cleared_front, clear_wide, clear_rest}
use Rattle.tb_output.specs.BackList.{clear_list, blank_clear_list}
use Rattle.tb_output.specs.Machine.{MachineView, machine_lists, IsMachine}
use Rattle.tb_output.specs.FiringWork.{ShowsBack, shows, shows_back, IsCutShort, Does}
use Rattle.tb_sheet.specs.ApartLists.{AreNoneOf}
use Rattle.tb_output.specs.MachineFrame.{HasFloats, HasGrown, IsBack, back_lists, KeepsMachine, KeepsBack}
use Rattle.tb_sheet.proofs.ListsApart.{apart-none, apart-swap}
use Rattle.tb_output.proofs.FiringWork.StandLemmas.{IsShownBy}
use Rattle.tb_output.proofs.FiringWork.KeepLemmas.{MayGoBack, beside-shows, keeps-beside, keeps-back_same, keeps-back_then, grown-machine, grown-shows, grown-keeps}
use Rattle.tb_output.proofs.FiringWork.WorkingLemmas.{does-then, does-shown_with}
use Rattle.tb_output.proofs.StepLaws.WorkSteps.{continues-then, continues-clear_wide, continues-clear_rest}
use Rattle.tb_output.proofs.StepLaws.ColumnSteps.{no_law, stays, float_columns-step, all_wide_pages-step}
use Rattle.tb_output.proofs.FiringWork.StepLemmas.{Done, Cut, keeps-on, done-then, then-cut, cut-short, no-room, done-same, cut-same, done-puts, moved-keeps, moved-shows}

-- ---- a call that is handed nothing

module _ (l : ℕ) (m now : MachineView) (store new : Lists Node) (back : IsBack l m store) (k : KeepsMachine [] m now store new) (step : Work → Work) where
  -- it puts nothing back
  pub beside-done : ((w : Work) → (step w).put_back ≡ w.put_back) → Does (shows m store) (shows now new) step → Done l m now store new step
  beside-done stays does = record {
    does = λ before w h. (does before w h.0, beside-shows [] m now store new l back k (apart-none (back_lists store l)) ∙ h.1 ∙ sym (stays w));
    keeps = keeps-beside [] m now store new l back k (apart-none (back_lists store l));
  }

  pub beside-cut : (e : RunFault) → Does (shows m store) (IsCutShort e now new) step → Cut e l m now store new step
  beside-cut e does = record {
    does = λ before w h. does before w h.0;
    keeps = keeps-beside [] m now store new l back k (apart-none (back_lists store l));
  }

pub columns-stay : (p : Params) (clearing : Bool) (w : Work) → (all_float_columns p clearing w).put_back ≡ w.put_back
columns-stay p clearing w = (stays (float_columns-step p (no_law p) clearing (length w.state.floats.deferred) w)).put_back

pub pages-stay : (p : Params) (clearing : Bool) (w : Work) → (all_wide_pages p clearing w).put_back ≡ w.put_back
pages-stay p clearing w = (stays (all_wide_pages-step p (no_law p) clearing w)).put_back

-- ---- floats wait again

module _ (l : ℕ) (m now : MachineView) (store : Lists Node) (is : IsMachine m store) (back : IsBack l m store) where
  pub areas-done : HasFloats (deferred_again m.pool.lists) m now → Done l m now store store (λ w. with_floats (deferred_again w.state.floats) w)
  areas-done h = record {
    does = λ before w s. does-shown_with (ShowsBack l store) (shows_back l now store) m store (λ v. with_floats (deferred_again v.state.floats) v)
        (λ b v sent at. (moved-shows l _ m now store is back h b _ sent refl refl, at)) before w s.0 s.1;
    keeps = moved-keeps l _ m now store is back h;
  }

  pub double-done : HasFloats (double_again m.params m.pool.lists) m now → Done l m now store store (λ w. with_floats (double_again m.params w.state.floats) w)
  double-done h = record {
    does = λ before w s. does-shown_with (ShowsBack l store) (shows_back l now store) m store (λ v. with_floats (double_again m.params v.state.floats) v)
        (λ b v sent at. (moved-shows l _ m now store is back h b _ sent refl refl, at)) before w s.0 s.1;
    keeps = moved-keeps l _ m now store is back h;
  }

-- ---- what goes back

clear-may : MayGoBack clear_list
clear-may = record {
  leaves = (tt, (tt, (tt, (tt, (tt, tt)))));
  sized = All-from_recursion IsSizedNode clear_list (
    (record { low = omega (arith, ints); high = omega (arith, ints) }, record { low = omega (arith, ints); high = omega (arith, ints) }, record { low = omega (arith, ints); high = omega (arith, ints) }),
    (
      record { low = omega (arith, ints); high = omega (arith, ints) },
      (
        tt,
        (
          (record { low = omega (arith, ints); high = omega (arith, ints) }, record { low = omega (arith, ints); high = omega (arith, ints) }),
          (record { low = omega (arith, ints); high = omega (arith, ints) }, tt),
        ),
      ),
    ),
  );
}

blank_clear-may : MayGoBack blank_clear_list
blank_clear-may = record {
  leaves = (tt, clear-may.leaves);
  sized = All-from_recursion IsSizedNode blank_clear_list (
    (record { low = omega (arith, ints); high = omega (arith, ints) }, record { low = omega (arith, ints); high = omega (arith, ints) }),
    (
      (record { low = omega (arith, ints); high = omega (arith, ints) }, record { low = omega (arith, ints); high = omega (arith, ints) }, record { low = omega (arith, ints); high = omega (arith, ints) }),
      (
        record { low = omega (arith, ints); high = omega (arith, ints) },
        (
          tt,
          (
            (record { low = omega (arith, ints); high = omega (arith, ints) }, record { low = omega (arith, ints); high = omega (arith, ints) }),
            (record { low = omega (arith, ints); high = omega (arith, ints) }, tt),
          ),
        ),
      ),
    ),
  );
}

nothing-may : MayGoBack []
nothing-may = record { leaves = tt; sized = All-from_recursion IsSizedNode [] tt }

module _ (l : ℕ) (m : MachineView) (store new : Lists Node) (is : IsMachine m store) (back : IsBack l m store) where
  pub clear-done : HasGrown l clear_list [] store new → Done l m m store new (puts clear_again)
  clear-done grown = done-puts l clear_list m store new is back grown clear-may clear_again refl

  pub blank_clear-done : HasGrown l blank_clear_list [] store new → Done l m m store new (puts (made blank_box ∷ clear_again))
  blank_clear-done grown = done-puts l blank_clear_list m store new is back grown blank_clear-may (made blank_box ∷ clear_again) refl

  puts-nothing : (w : Work) → puts [] w ≡ w
  puts-nothing w = λ i. record w { put_back = append-nil w.put_back i }

  -- a further clear goes back, if floats are left
  pub rest-done : HasGrown l (if has_floats m.pool.lists.deferred || has_floats m.pool.lists.second then clear_list else []) [] store new → Done l m m store new clear_rest
  rest-done grown = by_left (has_floats m.pool.lists.deferred || has_floats m.pool.lists.second) refl grown
    where
      by_left : (t : Bool) → t ≡ (has_floats m.pool.lists.deferred || has_floats m.pool.lists.second) → HasGrown l (if t then clear_list else []) [] store new → Done l m m store new clear_rest
      by_left true e grown = done-same l m m store new (puts clear_again) clear_rest
          (λ before w h. ap (λ t. if t then puts clear_again w else w) (e ∙ (λ i. has_floats (h.0.state i).floats.deferred || has_floats (h.0.state i).floats.second)))
          (clear-done grown)
      by_left false e grown = done-same l m m store new (puts []) clear_rest
          (λ before w h. puts-nothing w ∙ ap (λ t. if t then puts clear_again w else w) (e ∙ (λ i. has_floats (h.0.state i).floats.deferred || has_floats (h.0.state i).floats.second)))
          (done-puts l [] m store new is back grown nothing-may [] refl)

-- ---- the front of the page

pub front-kept : (a b c d : Lists Node) (back body : ℕ) (xs : List Node) → body ≢ back → b.lists ≡ with_list a body xs → c.lists ≡ insert (with_list b back (list_at b back ++ list_at b body)) body [] → d.lists ≡ remove c.lists body → HasGrown back xs (body ∷ []) a d
front-kept a b c d back body xs apart e f g = record {
  list =
      ap (λ m. get m back) g ∙ get-remove_other c.lists body back (λ h. apart (sym h)) ∙ ap (λ m. get m back) f
      ∙ get-insert_other (with_list b back (list_at b back ++ list_at b body)) body [] back (λ h. apart (sym h))
      ∙ get-insert_same b.lists back (list_at b back ++ list_at b body)
      ∙ (λ i. Some (list_other a b body xs back (λ h. apart (sym h)) e i ++ list_same a b body xs e i));
  others = λ q ne none.
      let away : q ≢ body = λ h. none.0 (sym h) in
      ap (λ m. get m q) g ∙ get-remove_other c.lists body q away ∙ ap (λ m. get m q) f
      ∙ get-insert_other (with_list b back (list_at b back ++ list_at b body)) body [] q away
      ∙ get-insert_other b.lists back (list_at b back ++ list_at b body) q ne
      ∙ ap (λ m. get m q) e ∙ get-insert_other a.lists body xs q away;
}

pub leaves-take : (n : ℕ) (ns : List Node) → AreLeaves ns → AreLeaves (take n ns)
leaves-take zero ns h = tt
leaves-take (suc n) [] h = tt
leaves-take (suc n) (x ∷ ns) h = (h.0, leaves-take n ns h.1)

-- the front of the page goes back, and the rest is dropped
module _ (l body : ℕ) (m : MachineView) (store new : Lists Node) (is : IsMachine m store) (back : IsBack l m store) (page : IsPageList store body) (apart : AreNoneOf (body ∷ []) (back_lists store l ++ machine_lists m)) where
  abbrev front : List Node
  front = take (split_of (pos 0) m.params.splitmaxdepth (shapes store body)).index (list_at store body)

  module _ (grown : HasGrown l front (body ∷ []) store new) where
    away : AreNoneOf (inner_ids (list_at store l) ++ machine_lists m) (body ∷ [])
    away = (apart-swap (body ∷ []) (back_lists store l ++ machine_lists m) apart).1

    front-may : MayGoBack front
    front-may = record {
      leaves = leaves-take (split_of (pos 0) m.params.splitmaxdepth (shapes store body)).index (list_at store body) page.leaves;
      sized = All-take IsSizedNode (split_of (pos 0) m.params.splitmaxdepth (shapes store body)).index (list_at store body) page.sized;
    }

    pub front-keeps : KeepsBack l (body ∷ []) m m store new
    front-keeps = grown-keeps l front (body ∷ []) m store new is back grown away front-may

    front-shown : map (plain_of (list_at store)) front ≡ cleared_front m.params (plain_list store body)
    front-shown =
        sym (take-map (plain_of (list_at store)) (split_of (pos 0) m.params.splitmaxdepth (shapes store body)).index (list_at store body))
        ∙ ap (λ ss. take (split_of (pos 0) m.params.splitmaxdepth ss).index (plain_list store body)) (sym (shapes-held (list_at store) (list_at store body)))

    pub front-done : Does (shows_back l m store) (shows_back l m new) (puts (cleared_front m.params (plain_list store body)))
    front-done before w h = does-shown_with (ShowsBack l store) (shows_back l m new) m store (puts (cleared_front m.params (plain_list store body)))
        (λ b v sent at. (
          record { served = refl; sent = shown.events ∙ sent; state = shown.state v.state.boxes v.state.waiting },
          grown-shows l front (body ∷ []) m store new is back grown away front-may.leaves ∙ (λ i. at i ++ front-shown i),
        ))
        before w h.0 h.1
      where
        shown : IsShownBy m store new
        shown = grown-machine l front (body ∷ []) m store new is back grown away

-- ---- a second column that stays blank, and wide pages

module _ (p : Params) (w : Work) where
  abbrev by_columns : Bool → Bool → Work
  by_columns two first = if not two then w else (if first then all_wide_pages p true (with_floats (double_again p w.state.floats) w) else puts (made blank_box ∷ clear_again) w)

  module _ (two first : Bool) (same_two : two ≡ w.state.two_columns) (same_first : first ≡ w.state.first_column) where
    pub one-wide : two ≡ false → w ≡ clear_wide p w
    one-wide e = ap (λ t. by_columns t w.state.first_column) (sym e ∙ same_two)

    pub first-wide : two ≡ true → first ≡ true → all_wide_pages p true (with_floats (double_again p w.state.floats) w) ≡ clear_wide p w
    first-wide e f = λ i. by_columns ((sym e ∙ same_two) i) ((sym f ∙ same_first) i)

    pub second-wide : two ≡ true → first ≡ false → puts (made blank_box ∷ clear_again) w ≡ clear_wide p w
    second-wide e f = λ i. by_columns ((sym e ∙ same_two) i) ((sym f ∙ same_first) i)

module _ (l : ℕ) (m : MachineView) (store : Lists Node) (is : IsMachine m store) (back : IsBack l m store) where
  pub single-done : m.two_columns ≡ false → Done l m m store store (clear_wide m.params)
  single-done e = done-same l m m store store (λ w. w) (clear_wide m.params)
      (λ before w h. one-wide m.params w m.two_columns m.first_column (λ i. (h.0.state i).two_columns) (λ i. (h.0.state i).first_column) e)
      (record { does = λ before w h. h; keeps = keeps-back_same l [] m store store is back refl (apart-none (back_lists store l)) })

  -- a second column stays blank
  pub second-done : (new : Lists Node) → m.two_columns ≡ true → m.first_column ≡ false → HasGrown l blank_clear_list [] store new → Done l m m store new (clear_wide m.params)
  second-done new e f grown = done-same l m m store new (puts (made blank_box ∷ clear_again)) (clear_wide m.params)
      (λ before w h. second-wide m.params w m.two_columns m.first_column (λ i. (h.0.state i).two_columns) (λ i. (h.0.state i).first_column) e f)
      (blank_clear-done l m store new is back grown)

  -- wide pages before a first column
  module _ (mid now : MachineView) (new : Lists Node) (e : m.two_columns ≡ true) (f : m.first_column ≡ true) (again : HasFloats (double_again m.params m.pool.lists) m mid) (k : KeepsMachine [] mid now store new) where
    first : Done l m mid store store (λ w. with_floats (double_again m.params w.state.floats) w)
    first = double-done l m mid store is back again

    pub first-done : Does (shows mid store) (shows now new) (all_wide_pages mid.params true) → Done l m now store new (clear_wide m.params)
    first-done does = done-same l m now store new (λ w. all_wide_pages m.params true (with_floats (double_again m.params w.state.floats) w)) (clear_wide m.params)
        (λ before w h. first-wide m.params w m.two_columns m.first_column (λ i. (h.0.state i).two_columns) (λ i. (h.0.state i).first_column) e f)
        (done-then l m mid now store store new (λ w. with_floats (double_again m.params w.state.floats) w) (all_wide_pages m.params true) first
        (subst (λ (p : Params). Done l mid now store new (all_wide_pages p true)) first.keeps.fields.params
        (beside-done l mid now store new first.keeps.back k (all_wide_pages mid.params true) (pages-stay mid.params true) does)))

    pub first-cut : (c : RunFault) → Does (shows mid store) (IsCutShort c now new) (all_wide_pages mid.params true) → Cut c l m now store new (clear_wide m.params)
    first-cut c does = cut-same l c m now store new (λ w. all_wide_pages m.params true (with_floats (double_again m.params w.state.floats) w)) (clear_wide m.params)
        (λ before w h. first-wide m.params w m.two_columns m.first_column (λ i. (h.0.state i).two_columns) (λ i. (h.0.state i).first_column) e f)
        (then-cut l c m mid now store store new (λ w. with_floats (double_again m.params w.state.floats) w) (all_wide_pages m.params true) first
        (subst (λ (p : Params). Cut c l mid now store new (all_wide_pages p true)) first.keeps.fields.params
        (beside-cut l mid now store new first.keeps.back k (all_wide_pages mid.params true) c does)))

  -- what they keep
  module _ (mid now : MachineView) (new : Lists Node) (again : HasFloats (double_again m.params m.pool.lists) m mid) (k : KeepsMachine [] mid now store new) where
    pub first-keeps : KeepsBack l [] m now store new
    first-keeps =
        let first = double-done l m mid store is back again in
        keeps-on l m mid now store store new first.keeps (keeps-beside [] mid now store new l first.keeps.back k (apart-none (back_lists store l)))

-- ---- a clear of floats

-- the front of the page went back, and the floats of its areas wait again
pub record FrontKept (l body : ℕ) (m mid : MachineView) (store middle : Lists Node) : Type 0 where
  pub is : IsMachine m store
  pub back : IsBack l m store
  pub page : IsPageList store body
  pub apart : AreNoneOf (body ∷ []) (back_lists store l ++ machine_lists m)
  pub grown : HasGrown l (take (split_of (pos 0) m.params.splitmaxdepth (shapes store body)).index (list_at store body)) (body ∷ []) store middle
  pub again : HasFloats (deferred_again m.pool.lists) m mid

-- they are put out in columns, as far as these are full
abbrev pub columns : Params → Work → Work
columns p w = all_float_columns p true (with_floats (deferred_again w.state.floats) w)

module _ (l body : ℕ) (m mid : MachineView) (store middle : Lists Node) (h : FrontKept l body m mid store middle) where
  abbrev front_nodes : List PlainNode
  front_nodes = cleared_front m.params (plain_list store body)

  kept : KeepsBack l (body ∷ []) m m store middle
  kept = front-keeps l body m store middle h.is h.back h.page h.apart h.grown

  goes-back : Does (shows_back l m store) (shows_back l m middle) (puts front_nodes)
  goes-back = front-done l body m store middle h.is h.back h.page h.apart h.grown

  pub areas : Done l m mid middle middle (λ w. with_floats (deferred_again w.state.floats) w)
  areas = areas-done l m mid middle kept.machine kept.back h.again

  -- with the front that went back before
  pub after-front : (now : MachineView) (new : Lists Node) (step : Work → Work) → Done l m now middle new step → Does (shows_back l m store) (shows_back l now new) (λ w. step (puts front_nodes w))
  after-front now new step x = does-then (shows_back l m store) (shows_back l m middle) (shows_back l now new) (puts front_nodes) step goes-back x.does

  pub after-front_cut : (e : RunFault) (now : MachineView) (new : Lists Node) (step : Work → Work) → Cut e l m now middle new step → Does (shows_back l m store) (IsCutShort e now new) (λ w. step (puts front_nodes w))
  after-front_cut e now new step x = does-then (shows_back l m store) (shows_back l m middle) (IsCutShort e now new) (puts front_nodes) step goes-back x.does

  pub after-front_keeps : (now : MachineView) (new : Lists Node) → KeepsBack l [] m now middle new → KeepsBack l (body ∷ []) m now store new
  after-front_keeps now new k = keeps-back_then l (body ∷ []) [] m m now store middle new kept k (λ q live none. tt)

  module _ (now : MachineView) (new : Lists Node) (k : KeepsMachine [] mid now middle new) where
    pub columns-done : Does (shows mid middle) (shows now new) (all_float_columns mid.params true) → Done l m now middle new (columns m.params)
    columns-done does = done-then l m mid now middle middle new (λ w. with_floats (deferred_again w.state.floats) w) (all_float_columns m.params true) areas
        (subst (λ (p : Params). Done l mid now middle new (all_float_columns p true)) areas.keeps.fields.params
        (beside-done l mid now middle new areas.keeps.back k (all_float_columns mid.params true) (columns-stay mid.params true) does))

    pub columns-cut : (e : RunFault) → Does (shows mid middle) (IsCutShort e now new) (all_float_columns mid.params true) → Cut e l m now middle new (λ w. clear_rest (clear_wide m.params (columns m.params w)))
    columns-cut e does = cut-short l e m now middle new (columns m.params) (λ w. clear_rest (clear_wide m.params w))
        (then-cut l e m mid now middle middle new (λ w. with_floats (deferred_again w.state.floats) w) (all_float_columns m.params true) areas
        (subst (λ (p : Params). Cut e l mid now middle new (all_float_columns p true)) areas.keeps.fields.params
        (beside-cut l mid now middle new areas.keeps.back k (all_float_columns mid.params true) e does)))
        (λ w. continues-then (continues-clear_wide m.params w) (continues-clear_rest (clear_wide m.params w)))

  -- the wide floats after them
  module _ (last now : MachineView) (there new : Lists Node) (x : Done l m last middle there (columns m.params)) (k : KeepsBack l [] last now there new) where
    pub wide-done : Does (shows_back l last there) (shows_back l now new) (clear_wide last.params) → Done l m now middle new (λ w. clear_wide m.params (columns m.params w))
    wide-done does = done-then l m last now middle there new (columns m.params) (clear_wide m.params) x
        (subst (λ (p : Params). Done l last now there new (clear_wide p)) x.keeps.fields.params (record { does = does; keeps = k }))

    pub wide-cut : (e : RunFault) → Does (shows_back l last there) (IsCutShort e now new) (clear_wide last.params) → Cut e l m now middle new (λ w. clear_rest (clear_wide m.params (columns m.params w)))
    wide-cut e does = cut-short l e m now middle new (λ w. clear_wide m.params (columns m.params w)) clear_rest
        (then-cut l e m last now middle there new (columns m.params) (clear_wide m.params) x
        (subst (λ (p : Params). Cut e l last now there new (clear_wide p)) x.keeps.fields.params (record { does = does; keeps = k })))
        continues-clear_rest

  -- what is left after that
  module _ (now : MachineView) (there new : Lists Node) (x : Done l m now middle there (λ w. clear_wide m.params (columns m.params w))) where
    pub rest-whole : HasGrown l (if has_floats now.pool.lists.deferred || has_floats now.pool.lists.second then clear_list else []) [] there new → Done l m now middle new (λ w. clear_rest (clear_wide m.params (columns m.params w)))
    rest-whole more = done-then l m now now middle there new (λ w. clear_wide m.params (columns m.params w)) clear_rest x (rest-done l now there new x.keeps.machine x.keeps.back more)

    pub rest-memory : new.lists ≡ there.lists → Cut faults.Memory l m now middle new (λ w. clear_rest (clear_wide m.params (columns m.params w)))
    rest-memory same = then-cut l faults.Memory m now now middle there new (λ w. clear_wide m.params (columns m.params w)) clear_rest x
        (no-room l now now there new clear_rest x.keeps.machine x.keeps.back refl same continues-clear_rest)

-- a list that was joined to another is empty
pub front-emptied : (a b : Lists Node) (body : ℕ) (lists : FinMap nat_cmp (List Node)) → b.lists ≡ insert lists body [] → IsLive b body × (list_at b body ≡ [])
front-emptied a b body lists e =
    let here : get b.lists body ≡ Some [] = ap (λ m. get m body) e ∙ get-insert_same lists body [] in
    (subst (λ (o : Option (List Node)). IsSome o) (sym here) refl, ap (λ (o : Option (List Node)). unwrap_or o []) here)
