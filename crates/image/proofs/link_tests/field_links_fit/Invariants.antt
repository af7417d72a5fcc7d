-- `image::link_tests::field_links_fit` meets its contract: the link rows of all fields before the present one are in order. Assumes nothing.
use Prim.Native.Nat.{◌+◌}
use Rattle.image.specs.Places.{shelf_file, shelf_files}
use Rattle.image.proofs.SearchLaws.{Passing}
use Rattle.image.proofs.LinkTestLaws.{field_fits}
use Rattle.image.proofs.link_tests.field_links_fit.Given as goal

abbrev pub invariant-loop-k : goal.invariant-loop-k
invariant-loop-k l = Passing l.image.rows.sections.fields.count (field_fits (shelf_files l.shelf (l.f + 1)) (shelf_file l.shelf l.f)) l.k
