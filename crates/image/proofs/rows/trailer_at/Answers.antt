-- `image::rows::trailer_at` meets its contract. Assumes nothing.
use Rattle.std.proofs.Common.{rules}
use Rattle.image.specs.Words.{trailer_at}
use Rattle.image.proofs.rows.trailer_at.Goals as goal

pub returns : goal.returns
unfolding trailer_at
returns c = search rules
