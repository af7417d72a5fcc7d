-- `image::well_formed::files_fit` meets its contract: all files before the present one are in order. Assumes nothing.
use Prim.Native.Nat.{ℕ}
use mathlib.Core.Path.{◌≡◌}
use mathlib.Core.Bool.{Bool}
use lib.ListN.{length}
use Rattle.image.specs.Shelf.{file_fits}
use Rattle.image.specs.Places.{shelf_file, shelf_files}
use Rattle.image.specs.declared.shelf.Shelf.{Shelf}
use Rattle.image.proofs.SearchLaws.{Passing}
use Rattle.image.proofs.well_formed.files_fit.Given as goal

-- file f is in order behind those before it
abbrev pub fits : Shelf → ℕ → Bool
fits shelf f = file_fits (shelf_files shelf f) (shelf_file shelf f)

abbrev pub invariant-loop-f : goal.invariant-loop-f
invariant-loop-f l = (length l.own ≡ 4096) × Passing l.n (fits l.shelf) l.f
