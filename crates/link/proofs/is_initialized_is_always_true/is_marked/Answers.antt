-- `link::is_initialized_is_always_true::is_marked` meets its contract. Assumes nothing.
use Rattle.image.specs.Places.{shelf_file}
use Rattle.link.proofs.CauseLaws.{marked_past, marked_by}
use Rattle.link.proofs.is_initialized_is_always_true.is_marked.Goals as goal

pub returns-then-n-word : goal.returns-then-n-word
returns-then-n-word c = let a = c.args in marked_past (shelf_file a.shelf.now) a.n a.word a.index c.if-n-word.true

pub returns : goal.returns
returns c = let a = c.args in marked_by (shelf_file a.shelf.now) a.n a.word a.index c.if-word-eq0.false c.if-n-word.false c.links-links.ensures c.word_at.ensures
