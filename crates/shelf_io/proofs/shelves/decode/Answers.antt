-- `shelf_io::shelves::decode` meets its contract: what is no shelf file leaves all as it was. Assumes nothing.
use mathlib.Core.Path.{refl}
use Rattle.shelf_io.proofs.OpeningLaws.{unread_keeps}
use Rattle.shelf_io.proofs.shelves.decode.Goals as goal

pub returns-in-Err : goal.returns-in-Err
returns-in-Err c =
    let a = c.args in
    (refl, unread_keeps a.file.now a.words.now a.bytes.now _ c.in-Err.fault c.read_shelf.ensures c.in-Err.is)
