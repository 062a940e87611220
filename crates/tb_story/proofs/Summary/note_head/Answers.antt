use Rattle.std.proofs.Common.{◌≡◌, sym, subst, OnOk}
use Rattle.tb_story.specs.Summary.{not_alone, after_heads}
use Rattle.tb_story.proofs.Summary.note_head.Goals as goal

pub returns : goal.returns
returns c =
    let r = c.not_alone.result in
    let new = c.not_alone.new.self in
    let f = c.args.f.now in
    let m = c.args.self.now in
    subst (λ x. OnOk r (new ≡ after_heads f c.args.t.now x m)) (sym c.in-Some.is) (subst (λ k. OnOk r (new ≡ not_alone f k m)) c.no_head_by-k.ensures c.not_alone.ensures)
