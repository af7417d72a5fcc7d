-- `image::link_tests::links_fit` meets its contract. Assumes nothing.
use mathlib.Core.Path.{◌≡◌, sym, ap, ◌∙◌}
use Prim.Native.Nat.{◌+◌}
use Rattle.std.proofs.Common.{rules, tests}
use Rattle.image.specs.Schema.{schema}
use Rattle.image.specs.Links.{links_of}
use Rattle.image.specs.Record.{File, says}
use Rattle.image.specs.Places.{shelf_file, shelf_files}
use Rattle.image.proofs.FileLaws.{reads_file, schema_read}
use Rattle.image.proofs.LinkTestLaws.{links_by}
use Rattle.image.proofs.link_tests.links_fit.Goals as goal
use Rattle.image.proofs.link_tests.links_fit.Goals.{After-read-image}

said : (c : After-read-image) → schema c.read-image.result ≡ says (shelf_file c.args.shelf.now c.args.f)
said c = schema_read (shelf_file c.args.shelf.now c.args.f) (reads_file (shelf_file c.args.shelf.now c.args.f) c.file-file.result c.read-image.ensures c.file-file.ensures)

pub messages_given-requires : goal.messages_given-requires
messages_given-requires c = c.requires.own_value ∙ ap links_of (sym (said (goal.at.messages_given-requires c).After-read-image))

pub others_given-requires : goal.others_given-requires
others_given-requires c = c.requires.own_value ∙ ap links_of (sym (said (goal.at.others_given-requires c).After-read-image))

pub returns-then-marks_fit : goal.returns-then-marks_fit
returns-then-marks_fit c =
    let a = c.args in
    let file = shelf_file a.shelf.now a.f in
    links_by (shelf_files a.shelf.now (a.f + 1)) file (said (goal.at.returns-then-marks_fit c).After-read-image) (ap (λ (x : File). x.links) c.file-file.ensures) (search (rules, tests))

pub returns-else-marks_fit : goal.returns-else-marks_fit
returns-else-marks_fit c =
    let a = c.args in
    let file = shelf_file a.shelf.now a.f in
    links_by (shelf_files a.shelf.now (a.f + 1)) file (said (goal.at.returns-else-marks_fit c).After-read-image) (ap (λ (x : File). x.links) c.file-file.ensures) (search (rules, tests))
