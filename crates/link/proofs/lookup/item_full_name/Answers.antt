-- `link::lookup::item_full_name` meets its contract. Assumes nothing.
use Prim.Native.Nat.{◌+◌, ◌≤◌, ◌<◌}
use native.Mathlib.Omega.{arith}
use mathlib.Core.Path.{◌≡◌, refl}
use mathlib.Core.Bool.{true}
use lib.ListN.{take}
use Rattle.std.proofs.Common.{rules}
use Rattle.std.specs.Prelude.{Err}
use Rattle.image.specs.Schema.{schema_in, schema_of}
use Rattle.image.specs.Record.{says}
use Rattle.image.specs.Shelf.{file_fits}
use Rattle.image.specs.Places.{file_of}
use Rattle.link.specs.Refusals.{shelved_files}
use Rattle.link.specs.Lookup.{asked_of, count_of, item_of, item_written}
use Rattle.link.proofs.FileLookupLaws.{item_in_lem, item_most, item_bad, item_good}
use Rattle.link.proofs.GivenLaws.{fit_short, fit_small}
use Rattle.link.proofs.LookupLaws.{there_fits, name_refused, name_none, name_there}
use Rattle.link.proofs.lookup.item_full_name.Goals as goal
use Rattle.link.proofs.lookup.item_full_name.Goals.{in-Message, in-Enum, Then-count-index, Else-count-index}

-- how many there are of what is wanted; where the index is good, its number among the items
past : (c : Then-count-index) → count_of c.args.wanted (says (file_of c.in-Some.file)) ≤ c.args.index
unfolding schema_of schema_in
past c = elim c.match-wanted.branch [
  | in-Message w ↦ rw w.in-Message.is (rw (w.count-is, c.read-image.ensures) at c.if-count-index.true)
  | in-Enum w ↦ rw w.in-Enum.is (rw (w.count-is, c.read-image.ensures) at c.if-count-index.true)
]

counted : (c : Else-count-index) → let g = says (file_of c.in-Some.file) in
    (c.args.index < count_of c.args.wanted g) × (c.match-wanted.count.1 + c.args.index ≡ item_of c.args.wanted g c.args.index)
unfolding schema_of schema_in
counted c = elim c.match-wanted.branch [
  | in-Message w ↦ rw (w.in-Message.is, w.count-is) (rw (w.count-is, c.read-image.ensures) at c.if-count-index.false, omega arith)
  | in-Enum w ↦ rw (w.in-Enum.is, w.count-is, c.read-image.ensures) (rw (w.count-is, c.read-image.ensures) at c.if-count-index.false, refl)
]

-- and the file is in order
fits : (c : Else-count-index) → file_fits (take c.args.file (shelved_files (asked_of c.args.lent.now))) (file_of c.in-Some.file) ≡ true
fits c = there_fits (asked_of c.args.lent.now) c.args.file c.open_file.ensures c.in_ok-file.was c.in-Some.is

pub returns-in_err-file : goal.returns-in_err-file
returns-in_err-file c =
    let h : c.from_residual.result ≡ Err c.in_err-file.field-0.0 = search rules in
    rw h (name_refused (asked_of c.args.lent.now) c.args.file c.open_file.ensures c.args.out.now (item_written c.args.wanted c.args.index) c.in_err-file.was)

pub returns-in_default : goal.returns-in_default
returns-in_default c = name_none (asked_of c.args.lent.now) c.args.file c.open_file.ensures c.args.out.now (item_written c.args.wanted c.args.index) c.in_ok-file.was c.in_default.is

pub returns-then-count-index : goal.returns-then-count-index
returns-then-count-index c =
    name_there (asked_of c.args.lent.now) c.args.file c.open_file.ensures c.args.out.now (item_written c.args.wanted c.args.index) c.in_ok-file.was c.in-Some.is
    (item_bad c.args.wanted c.args.index c.args.out.now (file_of c.in-Some.file) (past c))

pub overflow_add-first : goal.overflow_add-first
overflow_add-first c =
    let a = c.args in
    let b = goal.at.overflow_add-first c in
    let x = file_of c.in-Some.file in
    omega (arith, fit_small (take a.file (shelved_files (asked_of a.lent.now))) x (fits b.Else-count-index) a.wanted a.index (counted b.Else-count-index).0, (counted b.Else-count-index).1, item_most a.wanted (says x) a.index)

pub write_item-requires : goal.write_item-requires
unfolding schema_of
write_item-requires c =
    let a = c.args in
    let b = goal.at.write_item-requires c in
    let x = file_of c.in-Some.file in
    let short = fit_short (take a.file (shelved_files (asked_of a.lent.now))) x (fits b.Else-count-index) (item_of a.wanted (says x) a.index) (item_in_lem a.wanted (says x) a.index (counted b.Else-count-index).0) in
    rw ((counted b.Else-count-index).1, c.read-image.ensures) (omega (arith, short))

pub returns : goal.returns
unfolding schema_of
returns c =
    let b = goal.at.returns c in
    name_there (asked_of c.args.lent.now) c.args.file c.open_file.ensures c.args.out.now (item_written c.args.wanted c.args.index) c.in_ok-file.was c.in-Some.is
    (item_good c.args.wanted c.args.index c.args.out.now (file_of c.in-Some.file) (counted b.Else-count-index).0 (rw ((counted b.Else-count-index).1, c.read-image.ensures) at c.write_item.ensures))
