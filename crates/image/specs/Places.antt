-- Where the files of a shelf stand, as an array of 32 places: for each the word where its record starts and the number of its image words, the byte
-- where its pool starts and the number of its pool's bytes, and 0 beyond the files. How many files there are is the caller's number. Assumes nothing.
use Rattle.std.specs.Prelude.{List, Bool, cond, ◌&&◌, ℕ, zero, suc, eqb, length, get_or, Option, Some, None}
use Rattle.lists.specs.Below.{all_below}
use Rattle.lists.specs.Lists.{table}
use Rattle.image.specs.Record.{File, file_at}
use Rattle.image.specs.Shelf.{Shelf, end_word, record_start, image_length, pool_start, pool_length, before, record_fits, file_fits, file_limit, used_part, well_formed}
use Rattle.image.specs.declared.shelf.Used.{Used}
use Rattle.image.specs.declared.shelf.Place.{Place}
use Rattle.image.specs.declared.shelf.Places.{Places}
use Rattle.image.specs.declared.shelf.Shelf as lent
use Rattle.image.specs.declared.shelf.File as lent_file

-- ---- the file at a place

-- where no file stands
abbrev pub no_place : Place
no_place = record { start = 0; image = 0; pool = 0; length = 0 }

abbrev pub file_in : List ℕ → List ℕ → Places → ℕ → File
file_in words bytes p f =
    file_at words bytes (get_or p.files f no_place).start (get_or p.files f no_place).image (get_or p.files f no_place).pool (get_or p.files f no_place).length

-- the file as the program hands it on
abbrev pub file_of : lent_file.File → File
file_of file = record { image = file.image.now; pool = file.pool.now; links = file.links.now }

-- the first n files
abbrev pub files_in : List ℕ → List ℕ → Places → ℕ → List File
files_in words bytes p n = table n (file_in words bytes p)

-- the file at a place of lent words and bytes, and the first n files there
abbrev pub shelf_file : lent.Shelf → ℕ → File
shelf_file x f = file_in x.words.now x.bytes.now x.places f

abbrev pub shelf_files : lent.Shelf → ℕ → List File
shelf_files x n = files_in x.words.now x.bytes.now x.places n

-- ---- the places on a shelf of n files

-- the place of the last file
abbrev pub last_place : Shelf → Place
last_place s = record { start = record_start s; image = image_length s; pool = pool_start s; length = pool_length s }

-- the place of file f: that of the last file of the shelf as it stood when f was its last; none beyond the files
unfoldable pub place_on : ℕ → Shelf → ℕ → Place
unfolding end_word
place_on zero s f = no_place
place_on (suc n) s f = cond (eqb f n) (last_place s) (place_on n (before s) f)

abbrev pub places_of : ℕ → Shelf → Places
places_of n s = record { files = table file_limit (place_on n s) }

-- where the files of two slices and three numbers stand, if they are a well-formed shelf. The files at these places in the slices are those of
-- the shelf (`read_files`, in proofs/ReadLaws)
unfoldable pub read_shelf : List ℕ → List ℕ → Used → Option Places
unfolding table place_on
read_shelf words bytes used = cond (well_formed words bytes used) (Some (places_of used.files (used_part words bytes used))) None

-- ---- the two halves of the check: records first, then files. Of at most 32 files, within the slices, `shelved` is both together (`halves`, in
-- proofs/PlaceLaws)

-- records chain back to nothing in exactly n steps
unfoldable pub chained : ℕ → Shelf → Bool
unfolding record_fits
chained zero s = eqb (length s.words) 0 && eqb (length s.bytes) 0
chained (suc n) s = record_fits s && chained n (before s)

-- the first n files at given places are in order
unfoldable pub files_fit : List ℕ → List ℕ → Places → ℕ → Bool
unfolding all_below file_fits table
files_fit words bytes p n = all_below n (λ f. file_fits (files_in words bytes p f) (file_in words bytes p f))

-- the same of lent words and bytes
abbrev pub shelf_fits : lent.Shelf → ℕ → Bool
shelf_fits x n = files_fit x.words.now x.bytes.now x.places n
