-- `image::link_tests::value_count` meets its contract. Assumes nothing.
use mathlib.Core.Path.{ap}
use Rattle.image.specs.LinkTests.{file_by}
use Rattle.image.specs.Places.{shelf_files}
use Rattle.image.specs.Record.{File}
use Rattle.image.proofs.FileLaws.{reads_file, values_by}
use Rattle.image.proofs.link_tests.value_count.Goals as goal

pub returns : goal.returns
returns c =
    let file : File = file_by (shelf_files c.args.shelf.now c.args.n) c.args.word in
    let r = reads_file file c.file_by-file.result c.read-image.ensures c.file_by-file.ensures in
    values_by file r.words r.sections r.pool (ap (λ (x : File). x.links) c.file_by-file.ensures) c.args.e.0 c.enum_row.ensures c.values_of-g.ensures
