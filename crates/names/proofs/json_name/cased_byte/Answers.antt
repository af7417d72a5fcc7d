-- `names::json_name::cased_byte` meets its contract. Assumes nothing.
use Rattle.names.proofs.JsonLaws.{upper}
use Rattle.names.proofs.json_name.cased_byte.Goals as goal

pub returns-then-up : goal.returns-then-up
returns-then-up c = simp (c.if-up.true, c.to_ascii_uppercase.ensures.value, upper)
