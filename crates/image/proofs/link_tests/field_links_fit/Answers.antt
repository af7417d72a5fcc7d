-- `image::link_tests::field_links_fit` meets its contract: the link rows of all fields before the present one are in order. Assumes nothing.
use mathlib.Core.Path.{◌≡◌, sym, ap, ◌∙◌}
use Prim.Native.Nat.{◌+◌, ◌<◌}
use native.Mathlib.Omega.{arith}
use Rattle.image.specs.Record.{File, says}
use Rattle.image.specs.Places.{shelf_file, shelf_files}
use Rattle.image.proofs.SearchLaws.{passing_end, passing_fails, passing_more, passing_start}
use Rattle.image.proofs.FileLaws.{Reads, reads_file, fields_by, field_link_by}
use Rattle.image.proofs.LinkTestLaws.{field_fits, all_fields_in, field_tested}
use Rattle.image.proofs.link_tests.field_links_fit.Goals as goal
use Rattle.image.proofs.link_tests.field_links_fit.Goals.{After-field_link_fits, After-read-image}

read : (c : After-read-image) → Reads c.read-image.result (shelf_file c.args.shelf.now c.args.f)
read c = reads_file (shelf_file c.args.shelf.now c.args.f) c.file-file.result c.read-image.ensures c.file-file.ensures

count : (c : After-read-image) → c.read-image.result.rows.sections.fields.count ≡ (says (shelf_file c.args.shelf.now c.args.f)).fields
count c = let r = read c in fields_by (shelf_file c.args.shelf.now c.args.f) r.words r.sections r.pool

tested : (c : After-field_link_fits) → c.field_link_fits.result ≡ field_fits (shelf_files c.args.shelf.now (c.args.f + 1)) (shelf_file c.args.shelf.now c.args.f) c.loop-k.k
tested c =
    let k = c.loop-k.k in
    let file : File = shelf_file c.args.shelf.now c.args.f in
    let r = read (goal.at.After-field_link_fits c).After-read-image in
    let l : k < (says file).fields = omega (arith, count (goal.at.After-field_link_fits c).After-read-image, c.loop-k-test.true) in
    field_tested
    (shelf_files c.args.shelf.now (c.args.f + 1))
    file
    k
    c.field_link_fits.ensures
    (ap (λ (x : File). x.pool) c.file-file.ensures)
    (c.word_at-home.ensures ∙ c.requires.by_index k l)
    (c.word_at-container.ensures ∙ c.requires.by_index_2 k l)
    (field_link_by file r.words r.sections r.pool (ap (λ (x : File). x.links) c.file-file.ensures) k c.field_link_row-row.ensures)

pub loop-k-init : goal.loop-k-init
loop-k-init c = passing_start c.read-image.result.rows.sections.fields.count (field_fits (shelf_files c.args.shelf.now (c.args.f + 1)) (shelf_file c.args.shelf.now c.args.f))

pub overflow_add-f : goal.overflow_add-f
overflow_add-f c = omega (arith, c.requires.f_bound)

pub returns-then-not-field_link_fits : goal.returns-then-not-field_link_fits
returns-then-not-field_link_fits c =
    let at = goal.at.returns-then-not-field_link_fits c in
    passing_fails c.loop-k.invariant c.loop-k-test.true (sym (tested at.After-field_link_fits) ∙ c.if-not-field_link_fits.true)
    ∙ sym (all_fields_in (shelf_files c.args.shelf.now (c.args.f + 1)) (shelf_file c.args.shelf.now c.args.f) (count at.After-read-image))

pub loop-k-preserved : goal.loop-k-preserved
loop-k-preserved c = passing_more c.loop-k.invariant c.loop-k-test.true (sym (tested (goal.at.loop-k-preserved c).After-field_link_fits) ∙ c.if-not-field_link_fits.false)

pub returns : goal.returns
returns c =
    passing_end c.loop-k.invariant (omega (arith, c.loop-k.auto.k-end))
    ∙ sym (all_fields_in (shelf_files c.args.shelf.now (c.args.f + 1)) (shelf_file c.args.shelf.now c.args.f) (count (goal.at.returns c).After-read-image))
