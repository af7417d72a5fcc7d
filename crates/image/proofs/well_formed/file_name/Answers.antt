-- `image::well_formed::file_name` meets its contract. Assumes nothing.
use mathlib.Core.Path.{ap, ◌∙◌}
use Rattle.image.specs.Schema.{Schema}
use Rattle.image.specs.Places.{shelf_file}
use Rattle.image.proofs.FileLaws.{reads, schema_read}
use Rattle.image.proofs.well_formed.file_name.Goals as goal

pub returns : goal.returns
returns c =
    let file = shelf_file c.args.shelf.now c.args.f in
    c.file_name.ensures ∙ ap (λ (g : Schema). g.file_name) (schema_read file (reads file c.read.ensures c.image.ensures c.pool.ensures))
