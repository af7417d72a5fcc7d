-- `link::fds::search_list` meets its contract: what waits on the stack, last one first, is what is left of the walk. Assumes nothing.
use Prim.Native.Nat.{ℕ, ◌<◌, ◌-◌}
use native.Mathlib.Omega.{arith}
use mathlib.Core.Path.{sym, ◌∙◌}
use lib.ListN.{get_or, length-replicate}
use Rattle.lists.proofs.TableLaws.{length_table}
use Rattle.image.specs.Schema.{schema}
use Rattle.image.specs.Places.{shelf_file, shelf_files}
use Rattle.link.specs.Search.{import_number, imports_of, publics_of}
use Rattle.link.proofs.RunLaws.{fits, held_start, held_end, running_old, running_new, running_end, top_file, room, stack_room}
use Rattle.link.proofs.fds.search_list.Goals as goal
use Rattle.link.proofs.fds.search_list.Goals.{Else-seen-f-ne0, In-loop-top}

-- in a turn the file on top is one of the shelf
file_in_lem : (c : In-loop-top) → get_or c.loop-top.stack (c.loop-top.top - 1) 0 < 32
file_in_lem c = let i = c.loop-top.invariant in omega (arith, top_file i.0 i.1 c.loop-top-test.true, i.0.few)

-- and where it has no mark, the answer has room for it
count-in : (c : Else-seen-f-ne0) → c.loop-top.count < 32
count-in c = let i = c.loop-top.invariant in room i.0 i.1 c.loop-top-test.true c.if-seen-f-ne0.false

pub loop-top-init : goal.loop-top-init
loop-top-init c =
    let files = shelf_files c.args.shelf.now c.args.n in
    let g = schema c.args.image.now in
    held_start (fits files g (length_table c.args.n (shelf_file c.args.shelf.now)) c.requires) c.push_imports-top.new.stack c.push_imports-top.result
    (c.push_imports-top.auto.stack ∙ length-replicate {A = ℕ} 1056 0) (c.push_imports-top.ensures.value ∙ sym (length_table g.imports (import_number files g))) c.push_imports-top.ensures.stack_after

pub bounds-seen-f : goal.bounds-seen-f
bounds-seen-f c = let i = c.loop-top.invariant in omega (arith, top_file i.0 i.1 c.loop-top-test.true, i.0.few)

pub loop-top-preserved-then-seen-f-ne0 : goal.loop-top-preserved-then-seen-f-ne0
loop-top-preserved-then-seen-f-ne0 c = let i = c.loop-top.invariant in
    (i.0, running_old i.0 i.1 c.loop-top-test.true c.if-seen-f-ne0.true)

pub bounds-seen-f-in-loop-top : goal.bounds-seen-f-in-loop-top
bounds-seen-f-in-loop-top c = file_in_lem (goal.at.bounds-seen-f-in-loop-top c).In-loop-top

pub push_publics-top-requires-clause-f_lt_n : goal.push_publics-top-requires-clause-f_lt_n
push_publics-top-requires-clause-f_lt_n c = let i = c.loop-top.invariant in top_file i.0 i.1 c.loop-top-test.true

pub push_publics-top-requires-clause-f_in_bounds : goal.push_publics-top-requires-clause-f_in_bounds
push_publics-top-requires-clause-f_in_bounds c = let i = c.loop-top.invariant in
    omega (arith, i.1.stack_size, stack_room i.0 i.1 c.loop-top-test.true c.if-seen-f-ne0.false)

pub bounds-found-count : goal.bounds-found-count
bounds-found-count c = count-in (goal.at.bounds-found-count c).Else-seen-f-ne0

pub overflow_add-count : goal.overflow_add-count
overflow_add-count c = omega (arith, count-in (goal.at.overflow_add-count c).Else-seen-f-ne0)

pub loop-top-smaller : goal.loop-top-smaller
loop-top-smaller c = let t = c.loop-top-test.true in
    let file = top_file c.loop-top.invariant.0 c.loop-top.invariant.1 t in
    omega (arith, count-in (goal.at.loop-top-smaller c).Else-seen-f-ne0, c.push_publics-top.ensures.value, t, c.loop-top.invariant.0.short (get_or c.loop-top.stack (c.loop-top.top - 1) 0) file)

pub loop-top-preserved : goal.loop-top-preserved
loop-top-preserved c = let i = c.loop-top.invariant in
    let t = c.loop-top-test.true in
    (i.0, running_new i.0 i.1 t c.if-seen-f-ne0.false (c.push_publics-top.auto.stack ∙ i.1.stack_size) c.push_publics-top.ensures.value c.push_publics-top.ensures.stack_after)

pub returns : goal.returns
returns c = let i = c.loop-top.invariant in
    let files = shelf_files c.args.shelf.now c.args.n in
    held_end (publics_of files) c.args.n (imports_of files (schema c.args.image.now)) c.push_imports-top.new.stack c.push_imports-top.result c.push_imports-top.ensures.stack_after
    (running_end i.0 i.1 c.loop-top-test.false)
