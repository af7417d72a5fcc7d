-- `link::audit::mark_of` meets its contract. Assumes nothing.
use Rattle.link.proofs.AuditLaws.{mark_open, mark_shut}
use Rattle.link.proofs.audit.mark_of.Goals as goal

pub returns-then-link-eq0 : goal.returns-then-link-eq0
returns-then-link-eq0 c = mark_open c.args.links.now c.args.m.0 c.message_link_row-link.ensures c.if-link-eq0.true

pub returns : goal.returns
returns c = mark_shut c.args.links.now c.args.m.0 c.message_link_row-link.ensures c.if-link-eq0.false
