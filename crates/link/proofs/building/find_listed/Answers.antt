-- `link::building::find_listed` meets its contract: none of the files before the present one has it. Assumes nothing.
use mathlib.Core.Path.{ap, ◌∙◌}
use native.Mathlib.Omega.{arith}
use Rattle.image.specs.Record.{File}
use Rattle.link.specs.Resolve.{item_in}
use Rattle.link.proofs.SearchLaws.{below_at}
use Rattle.link.proofs.ResolveLaws.{first_here, first_further, first_none}
use Rattle.link.proofs.building.find_listed.Invariants.{looked}
use Rattle.link.proofs.building.find_listed.Goals as goal

pub overflow_add-result : goal.overflow_add-result
overflow_add-result c = omega (arith, below_at 32 c.args.list.now c.loop-f.f-index c.requires c.loop-f-test.true)

pub returns-in-Some : goal.returns-in-Some
returns-in-Some c = let a = c.args in
    first_here (looked a.shelf.now a.wanted a.full.now) a.list.now c.loop-f.f-index c.loop-f-test.true (c.find_item.ensures ∙ ap (λ (x : File). item_in a.wanted x a.full.now) c.file.ensures) c.loop-f.invariant c.in-Some.m c.in-Some.is

pub loop-f-preserved : goal.loop-f-preserved
loop-f-preserved c = let a = c.args in
    first_further (looked a.shelf.now a.wanted a.full.now) a.list.now c.loop-f.f-index c.loop-f-test.true (c.find_item.ensures ∙ ap (λ (x : File). item_in a.wanted x a.full.now) c.file.ensures) c.loop-f.invariant c.in_default.is

pub returns : goal.returns
returns c = let a = c.args in
    first_none (looked a.shelf.now a.wanted a.full.now) a.list.now c.loop-f.f-index c.loop-f-test.false c.loop-f.invariant
