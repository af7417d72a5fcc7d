-- `link::file_lookup::field_by_number` meets its contract. Assumes nothing.
use borrow.Author.Tests.{lt-ltb, le-ltb}
use Rattle.image.specs.Schema.{schema_in, schema_of}
use Rattle.link.specs.Lookup.{field_numbered}
use Rattle.link.proofs.file_lookup.field_by_number.Goals as goal

pub returns-then-image-message : goal.returns-then-image-message
unfolding field_numbered schema_of schema_in
returns-then-image-message c = simp (le-ltb _ _ (rw c.read-image.ensures at c.if-image-message.true))

pub returns : goal.returns
unfolding field_numbered schema_of schema_in
returns c = simp (lt-ltb _ _ (rw c.read-image.ensures at c.if-image-message.false)) (rw (c.field_by_number-found.ensures, c.message_row-row.ensures, c.read-image.ensures) at c.flat_field.ensures)
