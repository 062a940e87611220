use Rattle.std.proofs.Common.{◌∙◌}
use Rattle.tb_node.proofs.NameBytes.{folded_bytes}
use Rattle.tb_node.proofs.names.are_name_bytes.Goals as goal

pub returns : goal.returns
returns c = c.name_bytes_folded.ensures ∙ folded_bytes c.args.bytes.now
