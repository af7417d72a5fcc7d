-- What is known of a shelf file that was opened. What the file holds is not known, so neither is whether there is a shelf. Assumes nothing.
use Rattle.std.specs.Prelude.{◌≡◌, Bool, true, false, List, ℕ, Some, None, Result, IfOk, IfErr}
use Rattle.image.specs.Shelf.{well_formed}
use Rattle.image.specs.Places.{read_shelf}
use Rattle.image.specs.declared.shelf.Used.{Used}
use Rattle.formats.specs.declared.file.Fault.TheVariants as fault
use Rattle.shelf_io.specs.declared.files.LoadError.{LoadError}
use Rattle.shelf_io.specs.declared.files.LoadError.TheVariants as load
use Rattle.shelf_io.specs.declared.shelves.OpenError.{OpenError}
use Rattle.shelf_io.specs.declared.shelves.OpenError.TheVariants.{Unread, NoShelf, Broken}
use Rattle.shelf_io.specs.declared.shelves.Opened.{Opened}

-- no shelf was read
abbrev pub read_none : OpenError → Bool
read_none (Unread cause) = true
read_none (NoShelf fault) = true
read_none (Broken used) = false

-- no shelf was opened, since its file was not read
abbrev pub unopened : LoadError → OpenError
unopened load.TooLong = NoShelf fault.TooLong
unopened (load.Unread cause) = Unread cause

-- the numbers of a shelf with no file
abbrev pub none_used : Used
none_used = record { words = 0; bytes = 0; files = 0 }

-- the numbers that there are where no shelf was opened: those of the broken one, or of a shelf with no file
abbrev pub used_left : OpenError → Used
used_left (Unread cause) = none_used
used_left (NoShelf fault) = none_used
used_left (Broken used) = used

-- where no shelf was read, lent words and bytes are as they were
abbrev pub Kept : {A : Type 0} → Result A OpenError → List ℕ → List ℕ → List ℕ → List ℕ → Type 0
Kept r words bytes wordsAfter bytesAfter = IfErr r (λ e. read_none e ≡ true → (wordsAfter ≡ words) × (bytesAfter ≡ bytes))

-- the same of the steps before the shelf is judged, which fail where no shelf was read and nowhere else
abbrev pub Untouched : {A : Type 0} → Result A OpenError → List ℕ → List ℕ → List ℕ → List ℕ → Type 0
Untouched r words bytes wordsAfter bytesAfter = IfErr r (λ e. (read_none e ≡ true) × ((wordsAfter ≡ words) × (bytesAfter ≡ bytes)))

-- the numbers that are told of a shelf that is broken have no places
abbrev pub Unplaced : OpenError → List ℕ → List ℕ → Type 0
Unplaced (Unread cause) words bytes = Unit
Unplaced (NoShelf fault) words bytes = Unit
Unplaced (Broken used) words bytes = None ≡ read_shelf words bytes used

pub record Opens (r : Result Opened OpenError) (words bytes wordsAfter bytesAfter : List ℕ) : Type 0 where
  -- a shelf that is opened is well formed
  pub formed : IfOk r (λ o. well_formed wordsAfter bytesAfter o.used ≡ true)
  -- its files stand where they are said to stand
  pub placed : IfOk r (λ o. Some o.places ≡ read_shelf wordsAfter bytesAfter o.used)
  pub kept : Kept r words bytes wordsAfter bytesAfter
  pub broken : IfErr r (λ e. Unplaced e wordsAfter bytesAfter)
