-- `link::file_index::judge_clash` meets its contract. Assumes nothing.
use mathlib.Core.Path.{sym, ap, ◌∙◌}
use native.Mathlib.Omega.{arith}
use Rattle.image.specs.Schema.{Schema, schema_of}
use Rattle.image.specs.Clash.{first_clash}
use Rattle.link.proofs.FileIndexLaws.{clash_hit, clash_none, clash_below, read_says}
use Rattle.link.proofs.file_index.judge_clash.Goals as goal

pub overflow_add-at : goal.overflow_add-at
overflow_add-at c =
    let a = c.args in
    let e = c.first_clash.ensures ∙ ap (λ (g : Schema). first_clash g a.row.0) (read_says a.image a.pool c.read.ensures) in
    omega (arith, clash_below (schema_of a.image.now a.pool.now) a.row.0 _ (sym c.in-Some.is ∙ e), c.requires.at_bound, c.requires.fields_bound)

pub returns-in-Some : goal.returns-in-Some
returns-in-Some c =
    let a = c.args in
    let e = c.first_clash.ensures ∙ ap (λ (g : Schema). first_clash g a.row.0) (read_says a.image a.pool c.read.ensures) in
    rw c.at.ensures (clash_hit (schema_of a.image.now a.pool.now) a.row.0 a.at _ (sym c.in-Some.is ∙ e))

pub returns-in-None : goal.returns-in-None
returns-in-None c =
    let a = c.args in
    let e = c.first_clash.ensures ∙ ap (λ (g : Schema). first_clash g a.row.0) (read_says a.image a.pool c.read.ensures) in
    clash_none (schema_of a.image.now a.pool.now) a.row.0 a.at (sym c.in-None.is ∙ e)
