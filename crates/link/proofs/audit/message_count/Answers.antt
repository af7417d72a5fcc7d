-- `link::audit::message_count` meets its contract. Assumes nothing.
use Rattle.link.proofs.AuditLaws.{messages_alone}
use Rattle.link.proofs.audit.message_count.Goals as goal

pub returns : goal.returns
returns c = messages_alone c.args.image.now c.read.ensures
