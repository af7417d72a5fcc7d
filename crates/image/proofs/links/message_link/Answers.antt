-- `image::links::message_link` meets its contract. Assumes nothing.
use Rattle.image.specs.Schema.{schema_in}
use Rattle.image.proofs.links.message_link.Goals as goal

pub returns : goal.returns
unfolding schema_in
returns c = rw (c.fields_of-fields.ensures, c.extensions_of-extensions.ensures, c.map_entry-entry.ensures)
