-- `link::is_initialized_is_always_true::rows_refer_marked` meets its contract: the search for a row that refers to a marked message is one below their number. Assumes nothing.
use Prim.Native.Nat.{◌+◌, ◌*◌}
use Rattle.std.proofs.Common.{rules, tests}
use Rattle.lists.proofs.StdLaws.{any_of_range}
use Rattle.image.specs.Places.{shelf_files}
use Rattle.image.specs.Record.{field_link_of, link_row}
use Rattle.link.specs.Marks.{is_marked, refers_to}
use Rattle.link.proofs.is_initialized_is_always_true.rows_refer_marked.Goals as goal

pub returns : goal.returns
returns c =
    let a = c.args in
    any_of_range _ (λ k. refers_to (field_link_of (link_row a.fields.now ((a.first + k) * 16) 16)) (is_marked (shelf_files a.shelf.now a.n))) _ _ _ c.any.ensures.ran (λ x b q k. search (rules, tests))
