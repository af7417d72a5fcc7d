-- `link::file_lookup::value_by_number` meets its contract. Assumes nothing.
use borrow.Author.Tests.{lt-ltb, le-ltb}
use Rattle.image.specs.Schema.{schema_in, schema_of}
use Rattle.link.specs.Lookup.{value_numbered}
use Rattle.link.proofs.file_lookup.value_by_number.Goals as goal

pub returns-then-image-index : goal.returns-then-image-index
unfolding value_numbered schema_of schema_in
returns-then-image-index c = simp (le-ltb _ _ (rw c.read-image.ensures at c.if-image-index.true))

pub returns : goal.returns
unfolding value_numbered schema_of schema_in
returns c = simp (lt-ltb _ _ (rw c.read-image.ensures at c.if-image-index.false)) (rw (c.enum_row-row.ensures, c.read-image.ensures) at c.value_by_number.ensures)
