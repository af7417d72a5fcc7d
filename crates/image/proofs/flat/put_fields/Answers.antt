-- `image::flat::put_fields` meets its contract: the first k rows are listed, each with the same containing word. Assumes nothing.
use borrow.Author.Rules.{rules}
use mathlib.Core.Path.{◌≡◌, refl}
use native.Mathlib.Omega.{arith}
use Rattle.image.proofs.FieldListLaws.{rows_none, rows_next, words_none, words_next}
use Rattle.image.proofs.flat.put_fields.Goals as goal

pub loop-k-init : goal.loop-k-init
loop-k-init c = let a = c.args in
    (refl, refl, rows_none a.homes.now a.at a.g.first, words_none a.holders.now a.at a.container)

pub loop-k-preserved : goal.loop-k-preserved
loop-k-preserved c = let a = c.args in
    let h = c.loop-k.invariant in
    let k = c.loop-k.k in
    (search rules, search rules, rows_next a.homes.now a.at a.g.first k (omega (arith, c.requires.count_in_bounds, c.loop-k-test.true)) h.2, words_next a.holders.now a.at a.container k (omega (arith, c.requires.count_in_bounds_2, c.loop-k-test.true)) h.3)

pub returns : goal.returns
returns c =
    let e : c.loop-k.k ≡ c.args.g.count = omega arith in
    record { homes_after = rw e at c.loop-k.invariant.2; holders_after = rw e at c.loop-k.invariant.3 }
