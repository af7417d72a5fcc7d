-- `image::link_tests::listed_links_fit` meets its contract. Assumes nothing.
use mathlib.Core.Path.{◌≡◌, sym, ap, ◌∙◌}
use Rattle.image.specs.Schema.{schema}
use Rattle.image.specs.Links.{links_of}
use Rattle.image.specs.Record.{says}
use Rattle.image.specs.Places.{shelf_file}
use Rattle.image.proofs.FileLaws.{reads, schema_read}
use Rattle.image.proofs.LinkTestLaws.{homes_listed, holders-listed}
use Rattle.image.proofs.link_tests.listed_links_fit.Goals as goal
use Rattle.image.proofs.link_tests.listed_links_fit.Goals.{After-read-image}

said : (c : After-read-image) → schema c.read-image.result ≡ says (shelf_file c.args.shelf.now c.args.f)
said c = let file = shelf_file c.args.shelf.now c.args.f in
    schema_read file (reads file c.read-image.ensures c.image.ensures c.pool.ensures)

pub invariant_of-list_fields : goal.invariant_of-list_fields
invariant_of-list_fields c = record { sound = rw (said (goal.at.invariant_of-list_fields c).After-read-image) c.requires.sound }

pub list_fields-requires : goal.list_fields-requires
list_fields-requires c =
    let e = said (goal.at.list_fields-requires c).After-read-image in
    record { links_value = c.requires.own_value ∙ ap links_of (sym e); pool_in_bounds = rw e c.requires.homes_in_bounds; pool_in_bounds_2 = rw e c.requires.holders_in_bounds }

pub field_links_fit-requires : goal.field_links_fit-requires
field_links_fit-requires c =
    let e = c.list_fields.ensures in
    let r = said (goal.at.field_links_fit-requires c).After-read-image in
    let file = shelf_file c.args.shelf.now c.args.f in
    record { f_bound = c.requires.f_bound; by_index = homes_listed (says file) c.requires.sound r _ e.homes_after; by_index_2 = holders-listed (says file) c.requires.sound r _ e.holders_after }
