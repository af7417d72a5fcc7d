-- `image::layout::is_laid_out` meets its contract. Assumes nothing.
use borrow.Author.Rules.{rules}
use mathlib.Core.Path.{◌≡◌, sym, ◌∙◌}
use borrow.Author.Tests.{le-leb, lt-leb}
use Rattle.lists.proofs.Cases.{Each, each}
use Rattle.image.specs.Layout.{frame_tests, frame_fits, rows_tests, all_rows_fit, all_owned, laid_out, laid_out_within_limit}
use Rattle.image.specs.Marks.{Ranged, Roomy, row_limit}
use Rattle.image.proofs.FewLaws.{few-rows, rows_tested, roomy_in}
use Rattle.image.proofs.layout.is_laid_out.Goals as goal
use Rattle.image.proofs.layout.is_laid_out.Goals.{Else-not-all_rows_fit}

-- what the tests before tell
framed : (c : Else-not-all_rows_fit) → Each (frame_tests c.read-rows.result.words.now c.args.pool c.read-rows.result.sections)
unfolding frame_fits
framed c = each (frame_tests c.read-rows.result.words.now c.args.pool c.read-rows.result.sections) (sym c.frame_fits.ensures ∙ c.if-not-frame_fits.false)

ranged : (c : Else-not-all_rows_fit) → Ranged c.read-rows.result.words.now c.read-rows.result.sections c.args.pool
unfolding all_rows_fit
ranged c =
    let rows = each (rows_tests c.read-rows.result.words.now c.args.pool c.read-rows.result.sections) (sym c.all_rows_fit.ensures ∙ c.if-not-all_rows_fit.false) in
    record { files = (framed c).1.1.1.0; messages = rows.1.0; enums = rows.1.1.0 }

roomy : (c : Else-not-all_rows_fit) → Roomy c.read-rows.result.sections row_limit
roomy c = few-rows c.read-rows.result.words.now c.read-rows.result.sections (rw c.read-rows.ensures c.if-image-gt65536.false) (framed c).1.1.0

-- owners alone are left to be tested
owners-left : (c : Else-not-all_rows_fit) → laid_out_within_limit c.args.image.now c.args.pool ≡ all_owned c.read-rows.result.words.now c.read-rows.result.sections
unfolding laid_out_within_limit laid_out
owners-left c =
    simp (le-leb _ _ c.if-image-gt65536.false, ← (rw c.read-rows.ensures at c.frame_fits.ensures), c.if-not-frame_fits.false, ← (rw c.read-rows.ensures at c.all_rows_fit.ensures), c.if-not-all_rows_fit.false, c.read-rows.ensures)

pub returns-then-image-gt65536 : goal.returns-then-image-gt65536
unfolding laid_out_within_limit
returns-then-image-gt65536 c = simp (lt-leb _ _ c.if-image-gt65536.true)

pub returns-then-not-frame_fits : goal.returns-then-not-frame_fits
unfolding laid_out_within_limit laid_out
returns-then-not-frame_fits c = simp (le-leb _ _ c.if-image-gt65536.false, ← (rw c.read-rows.ensures at c.frame_fits.ensures), c.if-not-frame_fits.true)

pub returns-then-not-all_rows_fit : goal.returns-then-not-all_rows_fit
unfolding laid_out_within_limit laid_out
returns-then-not-all_rows_fit c = simp (le-leb _ _ c.if-image-gt65536.false, ← (rw c.read-rows.ensures at c.frame_fits.ensures), c.if-not-frame_fits.false, ← (rw c.read-rows.ensures at c.all_rows_fit.ensures), c.if-not-all_rows_fit.true)

pub all_owned-requires : goal.all_owned-requires
all_owned-requires c = record { ranged = ranged (goal.at.all_owned-requires c).Else-not-all_rows_fit; roomy = roomy_in (rows_tested c.read-rows.result.sections 512 (sym c.rows_within.ensures ∙ c.if-rows_within.true)) (search rules) }

pub returns-then-rows_within : goal.returns-then-rows_within
returns-then-rows_within c = c.all_owned.ensures ∙ sym (owners-left (goal.at.returns-then-rows_within c).Else-not-all_rows_fit)

pub all_owned-requires-2 : goal.all_owned-requires-2
all_owned-requires-2 c = record { ranged = ranged (goal.at.all_owned-requires-2 c).Else-not-all_rows_fit; roomy = roomy_in (roomy (goal.at.all_owned-requires-2 c).Else-not-all_rows_fit) (search rules) }

pub returns : goal.returns
returns c = c.all_owned-2.ensures ∙ sym (owners-left (goal.at.returns c).Else-not-all_rows_fit)
