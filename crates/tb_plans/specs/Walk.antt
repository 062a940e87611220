-- A walk over the items of a galley that finds the places in one pass: a kern is a place if glue follows it, which is known only later.
use Rattle.std.specs.Prelude.{ℕ, Bool, List, [], ◌∷◌, ◌++◌, Option, Some, None, if◌then◌else◌}
use Rattle.tb_param.specs.declared.Params.{Params}
use Rattle.tb_galley.specs.declared.Item.{Item}
use Rattle.tb_galley.specs.declared.ItemKind.{ItemKind}
use Rattle.tb_galley.specs.declared.ItemKind.TheVariants as items
use Rattle.tb_galley.specs.GalleyNodes.{two_after}
use Rattle.tb_plans.specs.declared.walk.Before.{Before}
use Rattle.tb_plans.specs.declared.walk.Walk.{Walk}
use Rattle.tb_plans.specs.Places.{is_call, is_later, before_by, past, is_glue_next, places_from}

-- this number, if the item is a kern that is a place exactly if glue follows it
abbrev pub open_kern : Before → ℕ → ItemKind → Option ℕ
open_kern b k (items.Kern w) = if is_later b then (if is_call b then None else Some k) else None
open_kern b k _ = None

-- the walk after an item that is looked past
abbrev pub passed : Walk → Walk
passed w = record w { before = past w.before }

-- the walk after the item of this number
abbrev pub walked : Walk → ℕ → ItemKind → Walk
walked w k kind = record { two = two_after w.two kind; before = before_by kind; kern = open_kern w.before k kind }

-- the place of a kern that waits, if glue is next
abbrev pub kern_place : Option ℕ → Bool → List ℕ
kern_place None glue = []
kern_place (Some k) glue = if glue then k ∷ [] else []

-- the places that a walk has still to find among the items that are left
abbrev pub places_left : Params → Walk → ℕ → List Item → List ℕ
places_left p w k ns = kern_place w.kern (is_glue_next p w.two ns) ++ places_from p w.two w.before k ns
