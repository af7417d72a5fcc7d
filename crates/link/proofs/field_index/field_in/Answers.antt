-- `link::field_index::field_in` meets its contract. Assumes nothing.
use Rattle.image.specs.Schema.{schema_of, schema_in}
use Rattle.link.proofs.field_index.field_in.Goals as goal

pub returns : goal.returns
unfolding schema_of schema_in
returns c = rw (c.nth_field.ensures, c.fields_of-g.ensures, c.read-image.ensures, c.message_row.ensures)
