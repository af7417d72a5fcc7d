-- `image::link_tests::all_field_links_fit` meets its contract: both pairs of arrays have room for the file's fields. Assumes nothing.
use borrow.Author.Rules.{rules}
use mathlib.Core.Path.{◌≡◌, refl}
use Prim.Native.Nat.{◌≤◌}
use native.Mathlib.Nat.{le_trans}
use native.Mathlib.Omega.{arith}
use Rattle.image.specs.Record.{says}
use Rattle.image.specs.Places.{shelf_file}
use Rattle.image.proofs.FileLaws.{fields_by}
use Rattle.image.proofs.link_tests.all_field_links_fit.Goals as goal
use Rattle.image.proofs.link_tests.all_field_links_fit.Goals.{After-read}

count : (c : After-read) → c.read.result.fields.count ≡ (says (shelf_file c.args.shelf.now c.args.f)).fields
count c = fields_by (shelf_file c.args.shelf.now c.args.f) c.image.ensures c.read.ensures refl

pub listed_links_fit-requires : goal.listed_links_fit-requires
listed_links_fit-requires c =
    let few : (says (shelf_file c.args.shelf.now c.args.f)).fields ≤ 128 = omega (arith, count (goal.at.listed_links_fit-requires c).After-read) in
    record { f_bound = c.requires.f_bound; sound = c.requires.sound; own_value = c.requires.own_value; homes_in_bounds = le_trans few (search rules); holders_in_bounds = le_trans few (search rules) }

pub listed_links_fit-requires-2 : goal.listed_links_fit-requires-2
listed_links_fit-requires-2 c =
    let most = c.requires.sound.few_fields in
    record { f_bound = c.requires.f_bound; sound = c.requires.sound; own_value = c.requires.own_value; homes_in_bounds = le_trans most (search rules); holders_in_bounds = le_trans most (search rules) }
