use Rattle.std.proofs.Common.{◌∷◌, [], sym, subst}
use Rattle.tb_builder.specs.Ownership.{Lacks, ids_of, owned, inner_ids}
use Rattle.tb_builder.proofs.Ownership.OwnedLemmas.{lacks-left}
use Rattle.tb_builder.proofs.Ownership.SpareLemmas.{sound_still, owned_still}
use Rattle.tb_builder.proofs.Handover.JoinLemmas.{pushed_after, contribute_sound, contributed, grown_others, grown_keeps}
use Rattle.tb_builder.proofs.Builder.contribute.Goals as goal

pub returns-clause-sound : goal.returns-clause-sound
returns-clause-sound c =
    let e = pushed_after c.args.store.now c.reserve.new.self c.push_back.new.self c.args.self.now.waiting c.args.n c.reserve.ensures.lists c.push_back.ensures.pushed in
    contribute_sound c.args.self.now c.args.store.now c.push_back.new.self c.args.n c.requires.sound c.requires.joins e c.requires.may_wait

pub returns-clause-contents : goal.returns-clause-contents
returns-clause-contents c =
    let e = pushed_after c.args.store.now c.reserve.new.self c.push_back.new.self c.args.self.now.waiting c.args.n c.reserve.ensures.lists c.push_back.ensures.pushed in
    contributed c.args.self.now c.args.store.now c.push_back.new.self c.args.n c.requires.sound c.requires.joins e

pub returns-clause-others : goal.returns-clause-others
returns-clause-others c = λ q h.
    let e = pushed_after c.args.store.now c.reserve.new.self c.push_back.new.self c.args.self.now.waiting c.args.n c.reserve.ensures.lists c.push_back.ensures.pushed in
    grown_others (ids_of c.args.self.now) c.args.store.now c.push_back.new.self c.args.n c.requires.sound.own c.requires.joins e q h

pub returns-clause-keeps : goal.returns-clause-keeps
returns-clause-keeps c = λ q h.
    let e = pushed_after c.args.store.now c.reserve.new.self c.push_back.new.self c.args.self.now.waiting c.args.n c.reserve.ensures.lists c.push_back.ensures.pushed in
    grown_keeps (ids_of c.args.self.now) c.args.store.now c.push_back.new.self c.args.n c.requires.sound.own c.requires.joins e q h

pub returns-in_err-reserve-clause-sound : goal.returns-in_err-reserve-clause-sound
returns-in_err-reserve-clause-sound c = sound_still c.args.store.now c.reserve.new.self c.reserve.ensures.lists c.args.self.now c.requires.sound

pub returns-in_err-reserve-clause-keeps : goal.returns-in_err-reserve-clause-keeps
returns-in_err-reserve-clause-keeps c = λ q h. subst (Lacks q) (sym (owned_still c.args.store.now c.reserve.new.self c.reserve.ensures.lists (ids_of c.args.self.now))) (lacks-left q (owned (ids_of c.args.self.now) c.args.store.now) (inner_ids (c.args.n ∷ [])) h)
