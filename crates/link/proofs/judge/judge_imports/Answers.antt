-- `link::judge::judge_imports` meets its contract: each import before the present one is on the shelf. Assumes nothing.
use native.Mathlib.Omega.{arith}
use mathlib.Core.Path.{◌≡◌, sym, ◌∙◌}
use Rattle.image.specs.Schema.{schema, schema_in}
use Rattle.image.specs.Places.{shelf_files}
use Rattle.image.proofs.VerdictLaws.{order_start, order_more, order_stop}
use Rattle.link.proofs.FirstLaws.{import_line, import_missing, import_found, import_lines_lem}
use Rattle.link.proofs.judge.judge_imports.Goals as goal

pub loop-i-init : goal.loop-i-init
loop-i-init c = order_start (import_line (shelf_files c.args.shelf.now c.args.n) (schema c.args.image.now))

pub returns-then-is_none : goal.returns-then-is_none
unfolding schema_in
returns-then-is_none c =
    let files = shelf_files c.args.shelf.now c.args.n in
    let g = schema c.args.image.now in
    rw c.at.ensures
    (sym (order_stop g.imports (import_line files g) c.loop-i.i _ c.loop-i-test.true c.loop-i.invariant (import_missing files g c.loop-i.i (rw (c.file_named.ensures, c.import_name.ensures) at c.if-is_none.ensures)))
    ∙ import_lines_lem files g)

pub loop-i-preserved : goal.loop-i-preserved
loop-i-preserved c =
    let files = shelf_files c.args.shelf.now c.args.n in
    let g = schema c.args.image.now in
    order_more c.loop-i.i (import_line files g) c.loop-i.invariant (import_found files g c.loop-i.i (rw (c.file_named.ensures, c.import_name.ensures) at c.if-is_none.ensures))

pub returns : goal.returns
unfolding schema_in
returns c =
    let files = shelf_files c.args.shelf.now c.args.n in
    let g = schema c.args.image.now in
    let e : c.loop-i.i ≡ g.imports = omega (arith, c.loop-i.auto.i-end, c.loop-i-test.false) in
    sym (rw e at c.loop-i.invariant) ∙ import_lines_lem files g
