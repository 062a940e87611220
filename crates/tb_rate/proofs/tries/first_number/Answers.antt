use Rattle.std.proofs.Common.{◌≡◌, ◌∙◌, refl, ℕ, List, [], ◌∷◌}
use Rattle.tb_pool.specs.Lists.{Lists}
use Rattle.tb_node.specs.declared.Node.{Node}
use Rattle.tb_items.specs.declared.happenings.Happening.{Happening}
use Rattle.tb_items.specs.declared.happenings.Happening.TheVariants as happenings
use Rattle.tb_items.specs.Happenings.{events_of}
use Rattle.tb_sheet.specs.declared.Sent.TheVariants as sents
use Rattle.tb_rate.specs.Tries.{first_number, number_among}
use Rattle.tb_rate.proofs.tries.first_number.Goals as goal

-- among the events of what happened it is the same
among-events : (store : Lists Node) (n : ℕ) (hs : List Happening) → number_among n hs ≡ first_number n (events_of store hs)
among-events store n [] = refl
among-events store n (happenings.Tried t ∷ hs) = among-events store n hs
among-events store n (happenings.Sent (sents.Warn w) ∷ hs) = among-events store n hs
among-events store n (happenings.Sent (sents.Ship page sheet) ∷ hs) = refl

pub returns : goal.returns
returns c = λ store. c.number_among.ensures ∙ among-events store c.args.number c.args.happened.now
