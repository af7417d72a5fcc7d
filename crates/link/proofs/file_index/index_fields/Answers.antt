-- `link::file_index::index_fields` meets its contract: the first j fields are linked, and their rows written. Assumes nothing.
use mathlib.Core.Path.{◌≡◌, refl, ◌∙◌}
use Prim.Native.Nat.{◌+◌}
use Rattle.std.proofs.Common.{rules}
use Rattle.std.specs.Prelude.{Err}
use Rattle.link.specs.Scope.{seen}
use Rattle.link.specs.Search.{list_of}
use Rattle.link.proofs.FileIndexLaws.{field_said, linking_start, linking_next, linking_stop}
use Rattle.link.proofs.file_index.index_fields.Goals as goal

pub loop-j-init : goal.loop-j-init
loop-j-init c = let a = c.args in linking_start (seen c.args.scope.now) (list_of c.args.scope.now.list) a.file a.container a.g.first a.g.count a.at a.rows.now

pub returns-in_err-link-clause-value : goal.returns-in_err-link-clause-value
returns-in_err-link-clause-value c =
    let e : c.from_residual.result ≡ Err c.in_err-link.field-0.0 = search rules in
    let said = field_said c.args.scope.now.own.image.now c.args.scope.now.own.pool.now (c.args.g.first + c.loop-j.j) refl (rw c.read-image.ensures at c.nth_field-row.ensures) in
    e ∙ linking_stop c.loop-j.invariant c.loop-j-test.true said c.index_field.ensures c.in_err-link.was

pub loop-j-preserved : goal.loop-j-preserved
loop-j-preserved c =
    let said = field_said c.args.scope.now.own.image.now c.args.scope.now.own.pool.now (c.args.g.first + c.loop-j.j) refl (rw c.read-image.ensures at c.nth_field-row.ensures) in
    linking_next c.loop-j.invariant c.loop-j-test.true said c.index_field.ensures c.requires.numbers_in_bounds c.in_ok-link.was c.put_row.auto.rows c.put_row.ensures
