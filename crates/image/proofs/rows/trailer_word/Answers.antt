-- `image::rows::trailer_word` meets its contract. Assumes nothing.
use native.Mathlib.Omega.{arith}
use Rattle.image.specs.Words.{trailer_at, trailer_word}
use Rattle.image.proofs.rows.trailer_word.Goals as goal

pub overflow_add-trailer_at : goal.overflow_add-trailer_at
unfolding trailer_at
overflow_add-trailer_at c = omega (arith, c.trailer_at.ensures)

pub returns : goal.returns
unfolding trailer_word
returns c = rw (← c.trailer_at.ensures) c.word_at.ensures
