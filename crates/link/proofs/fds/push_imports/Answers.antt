-- `link::fds::push_imports` meets its contract: after i turns the last i imports stand on the stack, the last one first. Assumes nothing.
use native.Mathlib.Omega.{arith}
use Prim.Native.Nat.{◌<◌}
use mathlib.Core.Path.{◌≡◌, refl, sym}
use lib.ListN.{length}
use Rattle.lists.proofs.TableLaws.{length_table}
use Rattle.image.specs.Schema.{schema, schema_in}
use Rattle.image.specs.Places.{shelf_files}
use Rattle.link.specs.Search.{import_number, imports_of}
use Rattle.link.proofs.PushLaws.{reversing_start, reversing_more, reversing_end, import_at}
use Rattle.link.proofs.fds.push_imports.Goals as goal
use Rattle.link.proofs.fds.push_imports.Goals.{Start, In-loop-i}

all : (c : Start) → length (imports_of (shelf_files c.args.shelf.now c.args.n) (schema c.args.image.now)) ≡ (schema c.args.image.now).imports
all c = length_table (schema c.args.image.now).imports (import_number (shelf_files c.args.shelf.now c.args.n) (schema c.args.image.now))

row : (c : In-loop-i) → c.loop-i.i < (schema c.args.image.now).imports
unfolding schema_in
row c = c.loop-i-test.true

pub loop-i-init : goal.loop-i-init
loop-i-init c = reversing_start (imports_of (shelf_files c.args.shelf.now c.args.n) (schema c.args.image.now)) c.args.stack.now (omega (arith, c.requires, all (goal.at.loop-i-init c).Start))

pub bounds-stack-i : goal.bounds-stack-i
bounds-stack-i c = omega (arith, row (goal.at.bounds-stack-i c).In-loop-i, all (goal.at.bounds-stack-i c).Start, c.loop-i.invariant.fits, c.loop-i.invariant.same_size)

pub loop-i-preserved : goal.loop-i-preserved
unfolding schema_in
loop-i-preserved c =
    let l = row (goal.at.loop-i-preserved c).In-loop-i in
    reversing_more c.loop-i.invariant c.import_number.result (omega (arith, l, all (goal.at.loop-i-preserved c).Start))
    (import_at (shelf_files c.args.shelf.now c.args.n) (schema c.args.image.now) c.loop-i.i l c.import_number.ensures)

pub returns-clause-value : goal.returns-clause-value
unfolding schema_in
returns-clause-value c = refl

pub returns-clause-stack_after : goal.returns-clause-stack_after
unfolding schema_in
returns-clause-stack_after c = reversing_end c.loop-i.invariant (sym (all (goal.at.returns-clause-stack_after c).Start)) c.loop-i-test.false
