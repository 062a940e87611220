-- What the mode best writes before the report, piece by piece.
use Rattle.std.specs.Prelude.{ℕ, ℤ, nat_lt, IsTrue, List, [], ◌++◌, length, map, codes, Option, Some, None}
use Rattle.std.specs.List.{list_all}
use Rattle.tb_text.specs.Fields.{and_number, and_count, line}
use Rattle.tb_galley.specs.declared.Item.{Item}
use Rattle.tb_galley.specs.declared.ItemKind.{ItemKind}
use Rattle.tb_galley.specs.declared.ItemKind.TheVariants as items
use Rattle.tb_items.specs.RunEvents.{RunEvent}
use Rattle.tb_rate.specs.declared.Rating.{Rating}
use Rattle.tb_rate.specs.Tries.{last_champion}
use Rattle.tb_best.specs.BestLines.{BrokenColumn, broken_at, break_lines}
use Rattle.tb_top.specs.declared.rated_pages.RatedColumn.{RatedColumn}

-- the columns, as the lines of a plan look them up
abbrev pub shown_columns : List RatedColumn → List BrokenColumn
shown_columns cs = map (λ (c : RatedColumn). record { line = c.line; page = c.page }) cs

-- the column that a turn with these events put out, if it is rated
abbrev pub turn_columns : List RunEvent → Option Rating → List BrokenColumn
turn_columns es None = []
turn_columns es (Some r) = broken_at (last_champion es) r.page

-- the name of a box or rule
abbrev pub name_of : ItemKind → Option (List ℕ)
name_of (items.Hbox name h d) = Some name
name_of (items.Rule name h d) = Some name
name_of _ = None

-- the text of a break on this line, which ends this page, after this name
abbrev pub break_text : ℕ → ℕ → List ℕ → List ℕ
break_text at page name = line (codes "break" ++ and_count at ++ codes " page" ++ and_count page ++ codes " after " ++ name)

-- the text of a plan of these items, with the demerits without breaks and with those of the plan
abbrev pub plan_text : List Item → List BrokenColumn → ℤ → ℤ → List ℕ → List ℕ
plan_text ns columns greedy least plan =
    codes "best 1\n" ++ line (codes "greedy" ++ and_number greedy) ++ line (codes "least" ++ and_number least) ++ break_lines ns columns plan

-- each number is that of an item
abbrev pub AreNumbersOf : List Item → List ℕ → Type 0
AreNumbersOf ns plan = IsTrue (list_all (λ k. nat_lt k (length ns)) plan)
