-- What the output routine leaves of a bare state after a page that was broken by force.
use Rattle.std.proofs.Common.{◌≡◌, refl, sym, subst, ◌∙◌, ap, ℤ, Bool, true, false, [], ◌∷◌, true≢false, arith}
use Rattle.std.specs.Prelude.{pos, ◌+ℤ◌, ◌&&◌, int_lt, int_div, if◌then◌else◌}
use Rattle.std.proofs.lemmas.Int.{ints}
use Rattle.tb_scaled.specs.Scaled.{eject_penalty}
use Rattle.tb_param.specs.declared.Params.{Params}
use Rattle.tb_builder.specs.FiredPages.{Fired}
use Rattle.tb_float.specs.Lists.{no_floats}
use Rattle.tb_float.specs.Rooms.{column_room_of}
use Rattle.tb_sheet.specs.Sheet.{one}
use Rattle.tb_output.specs.State.{State, Work, begun, records_also, output}
use Rattle.tb_output.specs.Pages.{ship_now, after_column}
use Rattle.tb_output.specs.Columns.{text_of, without_column_floats, all_float_columns, fill_column}
use Rattle.tb_output.specs.Output.{out, next_goal, with_goal, leave_column, is_crowded, after_page, waiting_again}
use Rattle.tb_best.specs.ItemsAhead.{Ahead}
use Rattle.tb_best.specs.PlainPages.{IsBare, spent, after_plain}

-- a page without insertions that breaks by force before an item
pub record IsForcedPage (c : Ahead) (s : State) (f : Fired) : Type 0 where
  pub penalty : f.penalty ≡ eject_penalty
  pub held : f.held ≡ []
  pub boxes : f.boxes ≡ s.boxes
  pub rest : f.rest ≡ spent c ∷ c.nodes

-- the room of a column without floats is all of it
not-crowded : (p : Params) → is_crowded p (column_room_of p no_floats) ≡ false
not-crowded p = by (int_lt (column_room_of p no_floats) (p.baselineskip +ℤ int_div p.baselineskip (pos 2))) (int_lt (column_room_of p no_floats) p.textheight) (grind (arith, ints))
  where
    by : (a b : Bool) → b ≡ false → (a && b) ≡ false
    by true b h = h
    by false b h = refl

module _ (c : Ahead) (s : State) (f : Fired) where
  -- the bare state
  abbrev bare : State
  bare = record s { floats = no_floats; two_columns = false; boxes = f.boxes }

  -- the page, broken by force before the item and without insertions
  abbrev forced_page : Fired
  forced_page = record f { penalty = eject_penalty; held = []; rest = spent c ∷ c.nodes }

  -- the work before the page is shipped
  abbrev made : Work
  made = records_also (output (text_of s.params (after_page bare forced_page) f.body)) (without_column_floats (begun (after_page bare forced_page)))

  -- the work once it is shipped, or the page limit is met
  abbrev shipped_or : Bool → Work
  shipped_or t = if t then record made { refused = true } else ship_now (one (text_of s.params (after_page bare forced_page) f.body)) made

  -- the firing from there on
  abbrev rest_of : Bool → Work
  rest_of t = waiting_again forced_page (next_goal s.params eject_penalty (fill_column s.params (all_float_columns s.params false (after_column (shipped_or t)))))

  out-is : out s.params bare forced_page ≡ rest_of (int_lt s.params.maxpages (pos s.page))
  unfolding out
  out-is = refl

  by-goal : (t : Bool) (room : ℤ) (w : Work) → t ≡ false → (if t then leave_column w else with_goal room w) ≡ with_goal room w
  by-goal true room w h = absurd (true≢false h)
  by-goal false room w h = refl

  shipped-state : (t : Bool) → (rest_of t).refused ≡ false → (rest_of t).state ≡ after_plain c bare
  shipped-state true h =
      let w = fill_column s.params (all_float_columns s.params false (after_column (shipped_or true))) in
      absurd (true≢false (sym (ap (λ x. (waiting_again forced_page x).refused) (by-goal (is_crowded s.params (column_room_of s.params no_floats)) (column_room_of s.params no_floats) w (not-crowded s.params))) ∙ h))
  shipped-state false h =
      let w = fill_column s.params (all_float_columns s.params false (after_column (shipped_or false))) in
      ap (λ x. (waiting_again forced_page x).state) (by-goal (is_crowded s.params (column_room_of s.params no_floats)) (column_room_of s.params no_floats) w (not-crowded s.params))

  bare-out : (out s.params bare forced_page).refused ≡ false → (out s.params bare forced_page).state ≡ after_plain c bare
  bare-out = subst (λ w. w.refused ≡ false → w.state ≡ after_plain c bare) (sym out-is) (shipped-state (int_lt s.params.maxpages (pos s.page)))

-- the firing of such a page in a bare state
pub forced-out : (c : Ahead) (s : State) (f : Fired) → IsBare s → IsForcedPage c s f → (out s.params s f).refused ≡ false → (out s.params s f).state ≡ after_plain c s
forced-out c s f is page =
    let state : bare c s f ≡ s = sym (λ i. record s { floats = is.floats i; two_columns = is.one_column i; boxes = sym page.boxes i }) in
    let fired : forced_page c s f ≡ f = sym (λ i. record f { penalty = page.penalty i; held = page.held i; rest = page.rest i }) in
    subst (λ x. (out x.params x f).refused ≡ false → (out x.params x f).state ≡ after_plain c x) state
    (subst (λ g. (out s.params (bare c s f) g).refused ≡ false → (out s.params (bare c s f) g).state ≡ after_plain c (bare c s f)) fired (bare-out c s f))
