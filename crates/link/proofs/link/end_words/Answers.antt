-- `link::link::end_words` meets its contract. Assumes nothing.
use mathlib.Core.Path.{refl}
use mathlib.Core.List.{[]}
use Rattle.link.proofs.RecordLaws.{end_is}
use Rattle.link.proofs.link.end_words.Goals as goal

pub returns : goal.returns
returns c = let a = c.args in end_is a.image.now a.pool.now [] a.used.words a.used.bytes c.read-s.ensures refl refl refl refl
