-- `link::field_index::read_default` meets its contract. Assumes nothing.
use Rattle.std.proofs.Common.{rules}
use Rattle.link.specs.Field.{default_read}
use Rattle.link.proofs.field_index.read_default.Goals as goal

pub returns-in_err-t : goal.returns-in_err-t
unfolding default_read
returns-in_err-t c = search rules

pub returns : goal.returns
unfolding default_read
returns c = search rules
