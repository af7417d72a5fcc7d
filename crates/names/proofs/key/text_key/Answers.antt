-- `names::key::text_key` meets its contract. Assumes nothing.
use Rattle.names.specs.Key.{text_key}
use Rattle.names.proofs.key.text_key.Goals as goal

pub returns : goal.returns
unfolding text_key
returns c = c.key_from.ensures
