-- The lines of the stories: one group or one story more.
use Rattle.std.proofs.Common.{◌≡◌, Bool, true, false, refl, sym, ap, ◌∙◌, ℕ, ◌+◌, ◌<◌, List, [], ◌∷◌, ◌++◌, length, drop, get_or, append_assoc, append-nil}
use Rattle.std.proofs.lemmas.List.{at_drop_more}
use Rattle.std.specs.Prelude.{Option, Some, if◌then◌else◌}
use Rattle.tb_story.specs.declared.Kept.{Kept}
use Rattle.tb_story.specs.declared.Group.{Group}
use Rattle.tb_story.specs.Story.{StoryView, is_alike, closed}
use Rattle.tb_story.specs.StoryLines.{group_text, all_groups, story_line, story_lines}

pub groups_step : (gs : List Group) (i : ℕ) (d : Group) → i < length gs → d ≡ get_or gs i d → all_groups (drop i gs) ≡ group_text d ++ all_groups (drop (i + 1) gs)
groups_step gs i d lt is = at_drop_more all_groups gs i d lt ∙ ap (λ g. group_text g ++ all_groups (drop (i + 1) gs)) (sym is)

pub lines_step : (ss : List StoryView) (i : ℕ) (d : StoryView) → i < length ss → d ≡ get_or ss i d → story_lines (drop i ss) ≡ story_line d ++ story_lines (drop (i + 1) ss)
lines_step ss i d lt is = at_drop_more story_lines ss i d lt ∙ ap (λ s. story_line s ++ story_lines (drop (i + 1) ss)) (sym is)

-- one group more at the end
pub groups_more : (gs : List Group) (g : Group) → all_groups gs ++ group_text g ≡ all_groups (gs ++ g ∷ [])
groups_more [] g = sym (append-nil (group_text g))
groups_more (f ∷ fs) g = append_assoc (group_text f) (all_groups fs) (group_text g) ∙ ap (λ t. group_text f ++ t) (groups_more fs g)

closed_by : (b : Bool) (gs : List Group) (g : Group) → b ≡ false → gs ++ g ∷ [] ≡ (if b then gs else gs ++ g ∷ [])
closed_by false gs g e = refl
closed_by true gs g e = cc

-- the reason that went on is over, since the next is not alike
pub closed_text : (k : Kept) (o : Option Group) (g : Group) (gs : List Group) → o ≡ Some g → is_alike g.kept k ≡ false → all_groups gs ++ group_text g ≡ all_groups (closed k o gs)
closed_text k o g gs e a = groups_more gs g ∙ ap all_groups (closed_by (is_alike g.kept k) gs g a ∙ ap (λ x. closed k x gs) (sym e))
