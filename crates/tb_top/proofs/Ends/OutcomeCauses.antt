-- What the outcome says of the refusals that the input does not decide.
use Rattle.std.proofs.Common.{◌≡◌, refl, sym, ◌∙◌, inl, inr, ◌⊎◌, Option, None, Some, List, ℕ}
use Rattle.tb_words.specs.declared.Mode.{Mode}
use Rattle.tb_words.specs.declared.Mode.TheVariants as modes
use Rattle.tb_top.specs.declared.status.Status.{Status}
use Rattle.tb_top.specs.declared.status.Status.TheVariants as answers
use Rattle.tb_top.specs.Outcome.{Stream, Failed, IsUnread, Decided, Outcome}

-- only a source that failed leaves a mode unread
unread-failed : (m : Mode) (source : Stream) → IsUnread m source → Failed source
unread-failed (modes.Generate n) source is = absurd is
unread-failed m source is = is

pub decided-asked : (asked : Option Mode) (answer : Status) (source out : Stream) (line : List ℕ) → Decided asked answer source out line → asked ≡ None → ⊥
decided-asked asked answer source out line d none = let no : Some d.mode ≡ None = sym d.asked_for ∙ none in cc

module _ (asked : Option Mode) (source out err : Stream) where
  pub words-outcome : (answer : Status) → Outcome asked answer source out err → answer ≡ answers.Words → asked ≡ None
  words-outcome answers.Words o is = o.1.0.none
  words-outcome answer o is = cc

  pub read-outcome : (answer : Status) → Outcome asked answer source out err → answer ≡ answers.ReadFault → Failed source
  read-outcome answers.ReadFault o is = unread-failed o.1.0.mode source o.1.0.failed
  read-outcome answer o is = cc

  pub write-outcome : (answer : Status) → Outcome asked answer source out err → answer ≡ answers.WriteFault → Failed out
  write-outcome answers.WriteFault o is = o.1.1
  write-outcome answer o is = cc

  pub refused-outcome : (answer : Status) → Outcome asked answer source out err → asked ≡ None → (answer ≡ answers.Words) ⊎ (answer ≡ answers.Memory)
  refused-outcome answers.Done o is = absurd (decided-asked asked answers.Done source out _ o.0.0 is)
  refused-outcome answers.Memory o is = inr refl
  refused-outcome answers.Words o is = inl refl
  refused-outcome answers.DeadCycles o is = absurd (decided-asked asked answers.DeadCycles source out _ o.1.0 is)
  refused-outcome answers.ReadFault o is = let no : Some o.1.0.mode ≡ None = sym o.1.0.asked_for ∙ is in cc
  refused-outcome answers.WriteFault o is = let no : Some o.1.0.mode ≡ None = sym o.1.0.asked_for ∙ is in cc
  refused-outcome answers.Choices o is = let no : Some modes.Best ≡ None = sym o.1.0.asked_for ∙ is in cc
  refused-outcome answer o is = absurd (decided-asked asked answer source out _ o.1 is)
