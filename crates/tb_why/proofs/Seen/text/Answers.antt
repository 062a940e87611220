use Rattle.std.proofs.Common.{◌≡◌, subst}
use Rattle.std.specs.Prelude.{OnOk}
use Rattle.tb_why.specs.Seen.{put_out_seen}
use Rattle.tb_why.proofs.Seen.text.Goals as goal

pub returns-clause-seen : goal.returns-clause-seen
returns-clause-seen c = subst (λ v. OnOk c.put_out.result (c.put_out.new.self ≡ put_out_seen c.args.p.now v)) c.end_text.ensures c.put_out.ensures.seen
