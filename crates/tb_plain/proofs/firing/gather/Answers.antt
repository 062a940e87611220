use Rattle.std.proofs.Common.{rules, FitsSigned, w64}
use Rattle.std.proofs.lemmas.Int.{to_z-of_z}
use Rattle.tb_plain.proofs.FireLemmas.{all-grow, still-emptied}
use Rattle.tb_plain.proofs.firing.gather.Goals as goal

pub gather_feet-requires-clause-free : goal.gather_feet-requires-clause-free
gather_feet-requires-clause-free c = c.gather_text.ensures.grows.keeps c.args.list c.requires.free

pub returns-clause-grows : goal.returns-clause-grows
returns-clause-grows c =
    let fits : FitsSigned w64 c.body_depth-depth.result = search rules in
    let put = simp to_z-of_z at c.push_end.ensures.lists in
    all-grow c.args.p.now c.args.b.now c.gather_text.new.b c.gather_feet.new.b c.args.store.now c.gather_text.new.store c.gather_feet.new.store c.push_end.new.store c.args.page.now c.args.list c.requires.page c.requires.free c.requires.apart
    c.gather_text.ensures.grows c.gather_feet.ensures.grows
    c.body_depth-depth.result c.body_depth-depth.ensures.value put

pub returns-clause-emptied : goal.returns-clause-emptied
returns-clause-emptied c =
    let fits : FitsSigned w64 c.body_depth-depth.result = search rules in
    let put = simp to_z-of_z at c.push_end.ensures.lists in
    still-emptied c.args.p.now c.args.b.now c.gather_text.new.b c.gather_feet.new.b c.args.store.now c.gather_text.new.store c.gather_feet.new.store c.push_end.new.store c.args.page.now c.args.list c.requires.page c.requires.free c.requires.apart
    c.gather_text.ensures.grows c.gather_feet.ensures.grows
    c.body_depth-depth.result c.body_depth-depth.ensures.value put c.gather_text.ensures.emptied
