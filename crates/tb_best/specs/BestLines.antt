-- The lines of the mode best before its report.
use Rattle.std.specs.Prelude.{ℕ, zero, suc, ℤ, ◌==◌, List, [], ◌∷◌, ◌++◌, codes, Option, Some, None, if◌then◌else◌}
use Rattle.tb_text.specs.Fields.{and_number, and_count, line}
use Rattle.tb_galley.specs.declared.Item.{Item}
use Rattle.tb_galley.specs.declared.ItemKind.{ItemKind}
use Rattle.tb_galley.specs.declared.ItemKind.TheVariants as items
use Rattle.tb_galley.specs.declared.Galley.{Galley}
use Rattle.tb_builder.specs.declared.Try.{Try}
use Rattle.tb_items.specs.RunEvents.{offered, sent}
use Rattle.tb_plans.specs.Plans.{with_breaks}
use Rattle.tb_rate.specs.Tries.{later_champion}
use Rattle.tb_rate.specs.RatedRun.{Rated, happens, rates, rated_run}
use Rattle.tb_best.specs.PlanDemerits.{plan_demerits}
use Rattle.tb_best.specs.BestOf.{RatedPlan, best_of}

-- ---- the page that ends at a break

-- a line of a galley at which a column broke, and the number of its page
pub record BrokenColumn : Type 0 where
  pub line : ℕ
  pub page : ℕ

-- the place that is the best so far, after something that is shown
abbrev pub place_after : Option Try → Rated → Option Try
place_after best (happens (offered t)) = later_champion best t
place_after best (happens (sent e)) = best
place_after best (rates r) = None

-- a column of this page that broke at the place that was the best
abbrev pub broken_at : Option Try → ℕ → List BrokenColumn
broken_at None page = []
broken_at (Some t) page = record { line = t.line; page = page } ∷ []

-- the column that is rated, if one is
abbrev pub broken_by : Option Try → Rated → List BrokenColumn
broken_by best (happens e) = []
broken_by best (rates r) = broken_at best r.page

-- the columns of what is shown of a run
abbrev pub broken_columns : Option Try → List Rated → List BrokenColumn
broken_columns best [] = []
broken_columns best (x ∷ xs) = broken_by best x ++ broken_columns (place_after best x) xs

-- the number of the page that broke at this line; 0 if none did
abbrev pub page_at : List BrokenColumn → ℕ → ℕ
page_at [] line = 0
page_at (c ∷ cs) line = if c.line == line then c.page else page_at cs line

-- ---- the item at a break

-- the line of the item with this number
abbrev pub item_line : ℕ → List Item → ℕ
item_line k [] = 0
item_line zero (n ∷ ns) = n.line
item_line (suc k) (n ∷ ns) = item_line k ns

-- the name of a box or rule, or else this one
abbrev pub name_or : List ℕ → ItemKind → List ℕ
name_or name (items.Hbox own h d) = own
name_or name (items.Rule own h d) = own
name_or name _ = name

-- the name of the last box or rule before the item with this number, or else this one
abbrev pub name_before : List ℕ → ℕ → List Item → List ℕ
name_before name zero ns = name
name_before name (suc k) [] = name
name_before name (suc k) (n ∷ ns) = name_before (name_or name n.kind) k ns

-- ---- the lines

-- the line of a break before the item with this number: the item's line, the page that ends there, and what is last before it
abbrev pub break_line : List Item → List BrokenColumn → ℕ → List ℕ
break_line ns columns k =
    line (codes "break" ++ and_count (item_line k ns) ++ codes " page" ++ and_count (page_at columns (item_line k ns)) ++ codes " after " ++ name_before (codes "-") k ns)

-- the lines of all breaks
abbrev pub break_lines : List Item → List BrokenColumn → List ℕ → List ℕ
break_lines ns columns [] = []
break_lines ns columns (k ∷ ks) = break_line ns columns k ++ break_lines ns columns ks

-- the lines of a plan, with the demerits of the galley without breaks and with those of the plan
abbrev pub plan_lines : Galley → ℤ → RatedPlan → List ℕ
plan_lines g greedy w =
    codes "best 1\n" ++ line (codes "greedy" ++ and_number greedy) ++ line (codes "least" ++ and_number w.total)
    ++ break_lines g.items (broken_columns None (rated_run (with_breaks g w.plan))) w.plan

-- the same, if the run without breaks ends well
abbrev pub lines_by : Galley → Option ℤ → Option RatedPlan → List ℕ
lines_by g (Some greedy) (Some w) = plan_lines g greedy w
lines_by g _ _ = []

-- the lines of the best plan of a galley; none if its run does not end well
unfoldable pub best_lines : Galley → List ℕ
best_lines g = lines_by g (plan_demerits g []) (best_of g)
