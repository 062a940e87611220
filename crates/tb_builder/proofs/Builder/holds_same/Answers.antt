use Rattle.std.proofs.Common.{sym, subst}
use Rattle.tb_builder.specs.Ownership.{AllLive, HoldPlain, VoidEmpty, ids_of, box_ids}
use Rattle.tb_builder.proofs.Amounts.CountLemmas.{boxes_live, waiting_live}
use Rattle.tb_builder.proofs.SameLemmas.{boxes_plain, waiting_plain}
use Rattle.tb_builder.proofs.Builder.holds_same.Goals as goal

pub same_waiting-requires-clause-inner : goal.same_waiting-requires-clause-inner
same_waiting-requires-clause-inner c = waiting_live (ids_of c.args.self.now) c.args.store.now c.requires.sound.own

pub same_waiting-requires-clause-other_inner : goal.same_waiting-requires-clause-other_inner
same_waiting-requires-clause-other_inner c = waiting_live (ids_of c.args.other.now) c.args.other_store.now c.requires.other_sound.own

pub same_boxes-requires-clause-live : goal.same_boxes-requires-clause-live
same_boxes-requires-clause-live c = subst (λ es. AllLive c.args.store.now (box_ids es)) (sym c.as_slice.ensures) (boxes_live (ids_of c.args.self.now) c.args.store.now c.requires.sound.own)

pub same_boxes-requires-clause-other_live : goal.same_boxes-requires-clause-other_live
same_boxes-requires-clause-other_live c = subst (λ es. AllLive c.args.other_store.now (box_ids es)) (sym c.as_slice-then-same_waiting.ensures) (boxes_live (ids_of c.args.other.now) c.args.other_store.now c.requires.other_sound.own)

pub same_waiting-requires-clause-plain : goal.same_waiting-requires-clause-plain
same_waiting-requires-clause-plain c = waiting_plain (ids_of c.args.self.now) c.args.store.now c.requires.sound.own

pub same_boxes-requires-clause-plain : goal.same_boxes-requires-clause-plain
same_boxes-requires-clause-plain c = subst (λ es. HoldPlain c.args.store.now (box_ids es)) (sym c.as_slice.ensures) (boxes_plain (ids_of c.args.self.now) c.args.store.now c.requires.sound.own)

pub same_boxes-requires-clause-void : goal.same_boxes-requires-clause-void
same_boxes-requires-clause-void c = subst (λ es. VoidEmpty c.args.store.now es) (sym c.as_slice.ensures) c.requires.sound.own.void_empty

pub same_waiting-requires-clause-other_plain : goal.same_waiting-requires-clause-other_plain
same_waiting-requires-clause-other_plain c = waiting_plain (ids_of c.args.other.now) c.args.other_store.now c.requires.other_sound.own

pub same_boxes-requires-clause-other_plain : goal.same_boxes-requires-clause-other_plain
same_boxes-requires-clause-other_plain c = subst (λ es. HoldPlain c.args.other_store.now (box_ids es)) (sym c.as_slice-then-same_waiting.ensures) (boxes_plain (ids_of c.args.other.now) c.args.other_store.now c.requires.other_sound.own)

pub same_boxes-requires-clause-other_void : goal.same_boxes-requires-clause-other_void
same_boxes-requires-clause-other_void c = subst (λ es. VoidEmpty c.args.other_store.now es) (sym c.as_slice-then-same_waiting.ensures) c.requires.other_sound.own.void_empty
