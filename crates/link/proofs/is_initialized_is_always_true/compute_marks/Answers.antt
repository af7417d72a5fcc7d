-- `link::is_initialized_is_always_true::compute_marks` meets its contract: each array has two words for each of two references of a field. Assumes nothing.
use mathlib.Core.Path.{◌≡◌, refl}
use native.Mathlib.Omega.{arith}
use Rattle.image.specs.Schema.{schema_of}
use Rattle.link.proofs.FileIndexLaws.{fields_said}
use Rattle.link.proofs.is_initialized_is_always_true.compute_marks.Goals as goal

pub marks_in-requires-clause-fields_in_bounds : goal.marks_in-requires-clause-fields_in_bounds
marks_in-requires-clause-fields_in_bounds c =
    let a = c.args.own.now in
    let size : c.read.result.fields.count ≡ (schema_of a.image.now a.pool.now).fields = fields_said a.image.now a.pool.now c.read.ensures refl in
    omega (arith, size, c.if-read-le128.true)
