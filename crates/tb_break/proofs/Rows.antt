-- Worked values of the definitions.
use Rattle.std.proofs.Common.{◌≡◌, refl, ℤ, pos, neg_ℤ, List, [], ◌∷◌, map, None, Some}
use Rattle.std.specs.Prelude.{codes}
use Rattle.tb_scaled.specs.Glue.{fixed_glue}
use Rattle.tb_scaled.specs.Scaled.{awful_bad, badness_of}
use Rattle.tb_node.specs.declared.What.TheVariants.{Blank}
use Rattle.tb_node.specs.declared.Kind.{Kind}
use Rattle.tb_node.specs.declared.Kind.TheVariants as kinds
use Rattle.tb_node.specs.declared.Node.{Node}
use Rattle.tb_node.specs.declared.Sums.{Sums}
use Rattle.tb_node.specs.Shape.{Shape, box, glue, kern, penalty, other}
use Rattle.tb_break.specs.declared.PlaceKind.TheVariants.{Skip}
use Rattle.tb_break.specs.declared.Found.{Found}
use Rattle.tb_break.specs.Places.{legal_at}
use Rattle.tb_break.specs.Cost.{page_badness, cost_of_badness, cost_of}
use Rattle.tb_break.specs.Split.{split_of}
use Rattle.tb_break.specs.PageTop.{pruned_list}

-- of two glues of one cost the later is the place
split_found : Found
split_found = record { index = 3; kind = Skip; penalty = pos 0; size = pos 24; cost = pos 100000 }

split_row : split_of (pos 30) (pos 1) (box (pos 10) (pos 2) ∷ glue (fixed_glue (pos 0)) ∷ box (pos 12) (pos 0) ∷ glue (fixed_glue (pos 0)) ∷ box (pos 12) (pos 0) ∷ []) ≡ split_found
unfolding split_found page_badness cost_of_badness badness_of
split_row = refl

-- glue and a penalty vanish before a box, a note stays, and glue fills what the box lacks of the top skip
abbrev at_seven : Kind → Node
at_seven k = record { line = 7; kind = k }

prune_row : pruned_list (pos 12) (at_seven (kinds.Skip (fixed_glue (pos 5))) ∷ at_seven (kinds.Pen (pos 0)) ∷ at_seven (kinds.Note (codes "n")) ∷ at_seven (kinds.Hbox Blank (pos 10) (pos 0)) ∷ [])
    ≡ at_seven (kinds.Note (codes "n")) ∷ at_seven (kinds.Skip (fixed_glue (pos 2))) ∷ at_seven (kinds.Hbox Blank (pos 10) (pos 0)) ∷ []
prune_row = refl

-- the places of a box, two glues, a kern, glue, penalties of 10000 and 50, a note and a kern, up to the end and past it
abbrev ten_places : List Shape
ten_places = box (pos 1) (pos 0) ∷ glue (fixed_glue (pos 1)) ∷ glue (fixed_glue (pos 1)) ∷ kern (pos 1) ∷ glue (fixed_glue (pos 1)) ∷ penalty (pos 10000) ∷ penalty (pos 50) ∷ other ∷ kern (pos 1) ∷ []

legal_row : map (legal_at ten_places) (0 ∷ 1 ∷ 2 ∷ 3 ∷ 4 ∷ 5 ∷ 6 ∷ 7 ∷ 8 ∷ 9 ∷ 10 ∷ [])
    ≡ None ∷ Some (pos 0) ∷ None ∷ Some (pos 0) ∷ None ∷ None ∷ Some (pos 50) ∷ None ∷ None ∷ Some (neg_ℤ (pos 10000)) ∷ None ∷ []
legal_row = refl

-- a page of 20 with stretch 5
abbrev twenty : Sums
twenty = record { total = pos 20; depth = pos 0; stretch = pos 5 ∷ pos 0 ∷ pos 0 ∷ pos 0 ∷ []; shrink = pos 0 }

cost_row : map (λ (goal : ℤ). cost_of twenty goal (pos 0) (pos 0)) (pos 30 ∷ pos 20 ∷ pos 19 ∷ []) ≡ pos 800 ∷ pos 0 ∷ awful_bad ∷ []
unfolding page_badness cost_of_badness badness_of
cost_row = refl

insert_row : cost_of twenty (pos 30) (pos 0) (pos 20000) ≡ awful_bad
unfolding page_badness cost_of_badness badness_of
insert_row = refl

forced_row : cost_of twenty (pos 30) (neg_ℤ (pos 10000)) (pos 0) ≡ neg_ℤ (pos 10000)
unfolding page_badness cost_of_badness badness_of
forced_row = refl

-- a page of 40 with stretch 60 that has the goal 100 at a penalty of -9999
penalty_row : cost_of (record { total = pos 40; depth = pos 0; stretch = pos 60 ∷ pos 0 ∷ pos 0 ∷ pos 0 ∷ []; shrink = pos 0 }) (pos 100) (neg_ℤ (pos 9999)) (pos 0) ≡ neg_ℤ (pos 9899)
unfolding page_badness cost_of_badness badness_of
penalty_row = refl

-- the same page once its goal is 90
lower_goal_row : cost_of (record { total = pos 40; depth = pos 0; stretch = pos 60 ∷ pos 0 ∷ pos 0 ∷ pos 0 ∷ []; shrink = pos 0 }) (pos 90) (neg_ℤ (pos 9999)) (pos 0) ≡ neg_ℤ (pos 9942)
unfolding page_badness cost_of_badness badness_of
lower_goal_row = refl
