-- `image::links::oneof_link_row` meets its contract. Assumes nothing.
use Rattle.image.specs.Schema.{schema_in}
use Rattle.image.proofs.links.oneof_link_row.Goals as goal

pub returns : goal.returns
unfolding schema_in
returns c = c.words_at.ensures
