-- `image::well_formed::files_fit` meets its contract: all files before the present one are in order. Assumes nothing.
use borrow.Author.Rules.{rules}
use native.Mathlib.Omega.{arith}
use mathlib.Core.Path.{sym, ◌∙◌}
use Rattle.image.specs.Places.{files_fit}
use Rattle.image.proofs.SearchLaws.{passing_end, passing_fails, passing_more, passing_start}
use Rattle.image.proofs.well_formed.files_fit.Invariants.{fits}
use Rattle.image.proofs.well_formed.files_fit.Goals as goal

pub returns-then-n-eq0 : goal.returns-then-n-eq0
unfolding files_fit
returns-then-n-eq0 c = let a = c.args in
    passing_end (passing_start a.n (fits a.shelf.now)) (omega (arith, c.if-n-eq0.true))

pub loop-f-init : goal.loop-f-init
loop-f-init c = let a = c.args in (search rules, passing_start a.n (fits a.shelf.now))

pub file_fits-requires : goal.file_fits-requires
file_fits-requires c = record { f_bound = omega (arith, c.loop-f-test.true, c.requires); in_bounds = omega (arith, c.loop-f.invariant.0) }

pub returns-then-not-file_fits : goal.returns-then-not-file_fits
unfolding files_fit
returns-then-not-file_fits c = passing_fails c.loop-f.invariant.1 c.loop-f-test.true (sym c.file_fits.ensures ∙ c.if-not-file_fits.true)

pub loop-f-preserved : goal.loop-f-preserved
loop-f-preserved c = (c.file_fits.auto.own ∙ c.loop-f.invariant.0, passing_more c.loop-f.invariant.1 c.loop-f-test.true (sym c.file_fits.ensures ∙ c.if-not-file_fits.false))

pub returns : goal.returns
unfolding files_fit
returns c = passing_end c.loop-f.invariant.1 (omega (arith, c.loop-f.auto.f-end))
