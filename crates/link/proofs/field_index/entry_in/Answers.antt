-- `link::field_index::entry_in` meets its contract. Assumes nothing.
use Rattle.std.proofs.Common.{rules}
use Rattle.image.specs.Schema.{schema_of, schema_in}
use Rattle.link.proofs.field_index.entry_in.Goals as goal

pub returns : goal.returns
unfolding schema_of schema_in
returns c = search rules
