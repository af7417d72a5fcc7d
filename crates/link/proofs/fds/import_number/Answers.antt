-- `link::fds::import_number` meets its contract. Assumes nothing.
use Rattle.lists.proofs.TableLaws.{length_table}
use Rattle.image.specs.Places.{shelf_file}
use Rattle.link.proofs.fds.import_number.Goals as goal

pub returns : goal.returns
returns c = rw (c.unwrap_or.ensures, c.file_named.ensures, c.import_name.ensures, length_table c.args.n (shelf_file c.args.shelf.now))
