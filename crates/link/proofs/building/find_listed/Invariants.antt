-- `link::building::find_listed` meets its contract: none of the files before the present one has it. Assumes nothing.
use mathlib.Core.Path.{◌≡◌}
use Prim.Native.Nat.{ℕ}
use lib.ListN.{drop}
use Rattle.std.specs.Prelude.{List, Option}
use Rattle.image.specs.Places.{shelf_file}
use Rattle.image.specs.declared.rows.Flat.{Flat}
use Rattle.image.specs.declared.shelf.Shelf.{Shelf}
use Rattle.link.specs.Resolve.{item_in, first_in}
use Rattle.link.specs.declared.building.Wanted.{Wanted}
use Rattle.link.proofs.building.find_listed.Given as goal

-- what is found in a shelved file
abbrev pub looked : Shelf → Wanted → List ℕ → ℕ → Option Flat
looked shelf wanted full f = item_in wanted (shelf_file shelf f) full

abbrev pub invariant-loop-f : goal.invariant-loop-f
invariant-loop-f l = first_in (looked l.shelf l.wanted l.full) l.list ≡ first_in (looked l.shelf l.wanted l.full) (drop l.f-index l.list)
