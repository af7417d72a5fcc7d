-- `image::links::enum_up` meets its contract. Assumes nothing.
use Rattle.image.specs.Schema.{schema_in}
use Rattle.image.proofs.links.enum_up.Goals as goal

pub returns : goal.returns
unfolding schema_in
returns c = c.word_at.ensures
