-- A builder whose lists a call did not change.
use Rattle.std.proofs.Common.{◌≡◌, sym, subst, ℕ, List, [], ◌∷◌}
use Rattle.std.specs.List.{AllByRecursion}
use Rattle.tb_pool.specs.Lists.{Lists, IsLive}
use Rattle.tb_pool.specs.Frame.{OnlyChanged}
use Rattle.tb_node.specs.declared.Node.{Node}
use Rattle.tb_builder.specs.declared.Builder.{Builder}
use Rattle.tb_builder.specs.Contents.{contents_of}
use Rattle.tb_builder.specs.Ownership.{AllLive, ids_of, owned}
use Rattle.tb_builder.specs.Courses.{IsSound}
use Rattle.tb_builder.proofs.Ownership.OwnedLemmas.{AllSame}
use Rattle.tb_builder.proofs.Ownership.FrameLemmas.{frame_owned, frame_contents, frame_sound}
use Rattle.tb_builder.specs.BuilderLists.{builder_lists}
use Rattle.tb_sheet.specs.ApartLists.{AreNoneOf}
use Rattle.tb_sheet.proofs.StandLemmas.{Stands}
use Rattle.tb_output.proofs.FiringWork.StandLemmas.{frame-stands, frame-free}

pub live-all : (s : Lists Node) (xs : List ℕ) → AllLive s xs → AllByRecursion (IsLive s) xs
live-all s [] h = tt
live-all s (x ∷ xs) h = (h.0, live-all s xs h.1)

pub stand-same : (s t : Lists Node) (xs : List ℕ) → AllByRecursion (Stands s t) xs → AllSame s t xs
stand-same s t [] h = tt
stand-same s t (x ∷ xs) h = (h.0, stand-same s t xs h.1)

module _ (b : Builder) (mine ours : List ℕ) (store new : Lists Node) (sound : IsSound b store) (frame : OnlyChanged mine ours store new) (free : AreNoneOf (builder_lists b store) mine) where
  builder-live : AllByRecursion (IsLive store) (builder_lists b store)
  builder-live = live-all store (builder_lists b store) sound.own.live

  same : AllSame store new (owned (ids_of b) store)
  same = stand-same store new (builder_lists b store) (frame-stands mine ours store new frame (builder_lists b store) builder-live free)

  -- its lists are the same, it is sound, and holds the same
  pub beside-owned : builder_lists b new ≡ builder_lists b store
  beside-owned = frame_owned b store new sound same

  pub beside-sound : IsSound b new
  beside-sound = frame_sound b store new sound same

  pub beside-contents : contents_of b new ≡ contents_of b store
  beside-contents = frame_contents b store new sound same

  -- and none of its lists is among those that are owned afterwards
  pub beside-free : AreNoneOf (builder_lists b new) ours
  beside-free = subst (λ ls. AreNoneOf ls ours) (sym beside-owned) (frame-free mine ours store new frame (builder_lists b store) builder-live free)
