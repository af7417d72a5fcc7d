-- Rule 2: the well-formed shelf. A shelf is the used part of two lent slices, read back from its end: a shelf of n + 1 files is a shelf of n
-- files with one record and one pool behind it. What is unused never comes into it. Assumes nothing.
use Rattle.std.specs.Prelude.{List, [], ◌∷◌, ◌++◌, Bool, not, Option, is_some, is_none, ◌&&◌, ℕ, zero, suc, ◌+◌, ◌-◌, eqb, leb, length, take, get_or}
use Rattle.lists.specs.Below.{all_below, first_below, found_below, all_of}
use Rattle.lists.specs.Lists.{same}
use Rattle.image.specs.Words.{word_at}
use Rattle.image.specs.Layout.{laid_out}
use Rattle.image.specs.Limits.{within_limits}
use Rattle.image.specs.Texts.{texts_right}
use Rattle.image.specs.Schema.{Schema, schema_of}
use Rattle.image.specs.Links.{links_of}
use Rattle.image.specs.FullName.{shares_name}
use Rattle.image.specs.Verdict.{first, passes}
use Rattle.image.specs.Judge.{map_entry_lines}
use Rattle.image.specs.Clash.{first_clash}
use Rattle.image.specs.Record.{File, no_file, says, file_at, all_link_words, end_width, record_words}
use Rattle.image.specs.LinkTests.{links_fit}
use Rattle.image.specs.declared.shelf.Used.{Used}

-- the used words and bytes
pub record Shelf : Type 0 where
  pub words : List ℕ
  pub bytes : List ℕ

abbrev pub shelf_of : List ℕ → List ℕ → Shelf
shelf_of words bytes = record { words = words; bytes = bytes }

-- ---- the last record

-- word k of the 8 words at its end
unfoldable pub end_word : List ℕ → ℕ → ℕ
end_word words k = word_at words ((length words - end_width) + k)

abbrev pub record_start : Shelf → ℕ
record_start s = end_word s.words 0

abbrev pub image_length : Shelf → ℕ
image_length s = end_word s.words 1

abbrev pub pool_start : Shelf → ℕ
pool_start s = end_word s.words 2

abbrev pub pool_length : Shelf → ℕ
pool_length s = end_word s.words 3

-- the last file
abbrev pub last_file : Shelf → File
last_file s = file_at s.words s.bytes (record_start s) (image_length s) (pool_start s) (pool_length s)

-- the shelf before it
abbrev pub before : Shelf → Shelf
before s = shelf_of (take (record_start s) s.words) (take (pool_start s) s.bytes)

-- the record is its image's words, the rows for its image's counts, and 8 words, which repeat the counts; its pool is the last of the bytes
abbrev pub record_tests : Shelf → List Bool
record_tests s =
    leb end_width (length s.words)
    ∷ eqb (record_start s + image_length s + all_link_words (says (last_file s)) + end_width) (length s.words)
    ∷ eqb (pool_start s + pool_length s) (length s.bytes)
    ∷ eqb (end_word s.words 4) (says (last_file s)).messages
    ∷ eqb (end_word s.words 5) (says (last_file s)).enums
    ∷ eqb (end_word s.words 6) (says (last_file s)).oneofs
    ∷ eqb (end_word s.words 7) (says (last_file s)).fields
    ∷ []

unfoldable pub record_fits : Shelf → Bool
unfolding end_word
record_fits s = all_of (record_tests s)

-- ---- its file

-- no regular field of any message clashes with an earlier one
unfoldable pub clash_free : Schema → Bool
unfolding all_below first_clash
clash_free g = all_below g.messages (λ r. is_none (first_clash g r))

-- the image obeys 3, 4 (shelved files aside), 5, 8, 9 to 11 and 17. Rule 4's counts keep it below 65,536 words; its pool may be longer than
-- 32,768 bytes, which is a limit of lent slices
abbrev pub image_tests : List ℕ → List ℕ → List Bool
image_tests image pool =
    laid_out image (length pool)
    ∷ within_limits image pool
    ∷ texts_right image pool
    ∷ not (shares_name (schema_of image pool) (links_of (schema_of image pool)))
    ∷ passes (first (map_entry_lines (schema_of image pool) (links_of (schema_of image pool))))
    ∷ clash_free (schema_of image pool)
    ∷ []

unfoldable pub image_obeys : List ℕ → List ℕ → Bool
image_obeys image pool = all_of (image_tests image pool)

-- the first file of that name
unfoldable pub file_named : List File → List ℕ → Option ℕ
unfolding first_below
file_named files name =
    found_below (length files) (first_below (length files) (λ f. same (says (get_or files f no_file)).file_name name) (length files))

-- no earlier file has its name, and each import names an earlier file
abbrev pub is_fresh : List File → File → Bool
is_fresh earlier file = is_none (file_named earlier (says file).file_name)

unfoldable pub imports_named : List File → File → Bool
unfolding all_below
imports_named earlier file = all_below (says file).imports (λ i. is_some (file_named earlier ((says file).import_name i)))

-- a file behind the files `earlier`
abbrev pub shelved_tests : List File → File → List Bool
shelved_tests earlier file =
    image_obeys file.image file.pool
    ∷ is_fresh earlier file
    ∷ imports_named earlier file
    ∷ links_fit (earlier ++ (file ∷ [])) file
    ∷ []

unfoldable pub file_fits : List File → File → Bool
file_fits earlier file = all_of (shelved_tests earlier file)

-- ---- all files

-- the files of a shelf that has n
unfoldable pub files_of : ℕ → Shelf → List File
unfolding end_word
files_of zero s = []
files_of (suc n) s = files_of n (before s) ++ (last_file s ∷ [])

-- the last record and its file are in order, and so is the shelf before them; nothing is left in front of the first
unfoldable pub shelved : ℕ → Shelf → Bool
unfolding end_word
shelved zero s = eqb (length s.words) 0 && eqb (length s.bytes) 0
shelved (suc n) s = all_of (record_fits s ∷ file_fits (files_of n (before s)) (last_file s) ∷ shelved n (before s) ∷ [])

-- the shelf with one more record and pool behind it
abbrev pub appended : Shelf → File → Shelf
appended s file = shelf_of (s.words ++ record_words file (length s.words) (length s.bytes)) (s.bytes ++ file.pool)

-- ---- rule 2

abbrev pub file_limit : ℕ
file_limit = 32

-- the used part of two slices
abbrev pub used_part : List ℕ → List ℕ → Used → Shelf
used_part words bytes used = shelf_of (take used.words words) (take used.bytes bytes)

abbrev pub shelf_tests : List ℕ → List ℕ → Used → List Bool
shelf_tests words bytes used =
    leb used.files file_limit
    ∷ leb used.words (length words)
    ∷ leb used.bytes (length bytes)
    ∷ shelved used.files (used_part words bytes used)
    ∷ []

unfoldable pub well_formed : List ℕ → List ℕ → Used → Bool
well_formed words bytes used = all_of (shelf_tests words bytes used)

-- the three numbers behind one more file
abbrev pub used_with : Used → File → Used
used_with used file =
    record {
      words = used.words + length (record_words file used.words used.bytes);
      bytes = used.bytes + length file.pool;
      files = used.files + 1;
    }
