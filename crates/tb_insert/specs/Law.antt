-- The law of nodes that need no call of an account.
use Rattle.std.specs.Prelude.{◌≡◌, false, List, [], ◌∷◌, ◌++◌}
use Rattle.tb_node.specs.PlainNodes.{PlainNode, is_insertion_kind}
use Rattle.tb_insert.specs.declared.Account.{Account}
use Rattle.tb_insert.specs.Account.{Frozen}
use Rattle.tb_insert.specs.AccountEntries.{IsAccountOf}

-- an account of a page is also one of the page with one more node, if that is no insertion
abbrev pub PlainNodesJoin : Type 0
PlainNodesJoin = (a : Account) (z : Frozen) (page marked : List PlainNode) (n : PlainNode) → is_insertion_kind n.kind ≡ false → IsAccountOf a z page marked → IsAccountOf a z (page ++ n ∷ []) marked
