-- Ids of lists that are apart: fresh ones, and those of a builder.
use Rattle.std.proofs.Common.{◌≡◌, ℕ, List, [], ◌∷◌, None}
use Rattle.std.specs.FinMap.{get}
use Rattle.std.specs.List.{AllByRecursion}
use Rattle.tb_builder.proofs.Events.NextLemmas.{fresh_apart}
use Rattle.tb_pool.specs.Lists.{Lists, IsLive}
use Rattle.tb_pool.specs.Frame.{IsNoneOf}
use Rattle.tb_node.specs.declared.Node.{Node}
use Rattle.tb_builder.specs.Ownership.{AllDiffer}
use Rattle.tb_builder.proofs.Ownership.LackLemmas.{none-lacks}
use Rattle.tb_column.specs.Notes.{AreDistinct}
use Rattle.tb_sheet.specs.ApartLists.{AreNoneOf}

-- ---- a list that was not live

pub fresh-none : (store : Lists Node) (l : ℕ) (ls : List ℕ) → get store.lists l ≡ None → AllByRecursion (IsLive store) ls → IsNoneOf l ls
fresh-none store l [] none live = tt
fresh-none store l (q ∷ ls) none live = (fresh_apart store l q none live.0, fresh-none store l ls none live.1)

-- lists that were live are none of these
pub live-apart : (store : Lists Node) (mine ls ys : List ℕ) → AllByRecursion (IsLive store) ls → AreNoneOf ls mine → ((q : ℕ) → IsLive store q → IsNoneOf q mine → IsNoneOf q ys) → AreNoneOf ls ys
live-apart store mine [] ys live free fresh = tt
live-apart store mine (l ∷ ls) ys live free fresh = (fresh l live.0 free.0, live-apart store mine ls ys live.1 free.1 fresh)

-- ---- the page builder's words

pub distinct-differ : (xs : List ℕ) → AreDistinct xs → AllDiffer xs
distinct-differ [] h = tt
distinct-differ (x ∷ xs) h = (none-lacks x xs h.0, distinct-differ xs h.1)
