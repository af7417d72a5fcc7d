-- `image::link_tests::message_exists` meets its contract. Assumes nothing.
use mathlib.Core.Path.{ap}
use lib.Dec.{ltb}
use Rattle.image.specs.LinkTests.{file_by}
use Rattle.image.specs.Places.{shelf_files}
use Rattle.image.proofs.FileLaws.{messages_by}
use Rattle.image.proofs.link_tests.message_exists.Goals as goal

pub returns : goal.returns
returns c = let a = c.args in
    ap (ltb a.index) (messages_by (file_by (shelf_files a.shelf.now a.n) a.word) c.image_by.ensures c.trailer_word.ensures)
