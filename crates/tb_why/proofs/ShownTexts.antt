-- Without the lines that are told, the lines of the events are left of what is shown, if no name in it has a line feed.
use Rattle.std.proofs.Common.{◌≡◌, refl, sym, ap, ◌∙◌, ℕ, List, [], ◌∷◌, ◌++◌, append-nil, append_assoc}
use Rattle.tb_why.specs.WhyRun.{Shown, happens, tells, happened_among}
use Rattle.tb_why.specs.Summary.{summary_lines}
use Rattle.tb_why.specs.ShownLines.{event_lines, shown_lines, all_shown_lines, all_event_lines}
use Rattle.tb_why.specs.Told.{without_told}
use Rattle.tb_why.specs.PlainNames.{ArePlainNames}
use Rattle.tb_why.proofs.EventLines.{event-kept}
use Rattle.tb_why.proofs.TaleLines.{tale-left}
use Rattle.tb_why.proofs.StoryTexts.{stories_left}

-- whatever follows what is shown
pub before : (xs : List Shown) (rest : List ℕ) → ArePlainNames xs → without_told (all_shown_lines xs ++ rest) ≡ all_event_lines (happened_among xs) ++ without_told rest
before [] rest h = refl
before (happens e ∷ xs) rest h =
    ap without_told (append_assoc (event_lines e) (all_shown_lines xs) rest) ∙ event-kept e h.0 (all_shown_lines xs ++ rest)
    ∙ ap (λ ls. event_lines e ++ ls) (before xs rest h.1) ∙ sym (append_assoc (event_lines e) (all_event_lines (happened_among xs)) (without_told rest))
before (tells t ∷ xs) rest h = ap without_told (append_assoc (shown_lines (tells t)) (all_shown_lines xs) rest) ∙ tale-left t h.0 (all_shown_lines xs ++ rest) ∙ before xs rest h.1

pub events_left : (xs : List Shown) → ArePlainNames xs → without_told (all_shown_lines xs) ≡ all_event_lines (happened_among xs)
events_left xs h = ap without_told (sym (append-nil (all_shown_lines xs))) ∙ before xs [] h ∙ append-nil (all_event_lines (happened_among xs))

pub summary_left : (xs : List Shown) → ArePlainNames xs → without_told (summary_lines xs) ≡ []
summary_left xs h = ap without_told (sym (append-nil (summary_lines xs))) ∙ stories_left xs h []

-- the same of a text with its summary
pub text_left : (xs : List Shown) → ArePlainNames xs → without_told (all_shown_lines xs ++ summary_lines xs) ≡ all_event_lines (happened_among xs)
text_left xs h = before xs (summary_lines xs) h ∙ ap (λ ls. all_event_lines (happened_among xs) ++ ls) (summary_left xs h) ∙ append-nil (all_event_lines (happened_among xs))
