use Rattle.tb_text.proofs.FirstLine.{first_feed_is}
use Rattle.tb_text.proofs.line.first_feed.Goals as goal

pub returns : goal.returns
returns c = first_feed_is c.args.bytes.now c.memchr.result c.memchr.ensures
