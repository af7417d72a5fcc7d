-- What a file sees that is being linked: the shelved files, and itself. Assumes nothing.
use Rattle.std.specs.Prelude.{List, [], ◌∷◌, ◌++◌, ℕ, ◌+◌, ◌<◌, ◌≤◌}
use Rattle.image.specs.Schema.{Schema}
use Rattle.image.specs.Record.{File, says}
use Rattle.image.specs.Places.{file_of, files_in, shelf_files}
use Rattle.image.specs.declared.shelf.Places.{Places}
use Rattle.image.specs.declared.shelf.Shelf as lent
use Rattle.image.specs.declared.shelf.File as lent_file

-- the shelved files, oldest first, and the file that is linked, with the link rows that its image gives
pub record Sight : Type 0 where
  pub files : List File
  pub own : File

-- what the image says that is linked
abbrev pub own_says : Sight → Schema
own_says s = says s.own

-- all of them: the file that is linked has the next shelf number
abbrev pub in_sight : Sight → List File
in_sight s = s.files ++ (s.own ∷ [])

-- n files at places of a shelf, and an image with its pool and link rows
abbrev pub sight_of : List ℕ → List ℕ → Places → ℕ → List ℕ → List ℕ → List ℕ → Sight
sight_of words bytes p n image pool links = record { files = files_in words bytes p n; own = record { image = image; pool = pool; links = links } }

-- the first n files of a lent shelf, and the file that is linked
abbrev pub seen_with : lent.Shelf → ℕ → lent_file.File → Sight
seen_with shelf n own = record { files = shelf_files shelf n; own = file_of own }

-- a file word names one of n shelved files, or the file that is linked
abbrev pub InReach : ℕ → ℕ → Type 0
InReach n word = (0 < word) × (word ≤ n + 1)
