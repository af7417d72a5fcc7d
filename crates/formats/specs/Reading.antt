-- What reading a file does: its answer, and what the two lent slices then hold. Assumes nothing.
use Rattle.std.specs.Prelude.{Bool, not, cond, ◌||◌, ◌&&◌, List, [], ◌∷◌, ℕ, ◌+◌, ◌*◌, leb, ltb, eqb, length, drop, Result, Ok, Err}
use Rattle.lists.specs.Lists.{is_prefix_of}
use Rattle.lists.specs.Splice.{splice}
use Rattle.formats.specs.Words.{word_at, words_at}
use Rattle.formats.specs.Files.{Kind, image_kind, shelf_kind, version}
use Rattle.formats.specs.declared.file.Sizes.{Sizes}
use Rattle.formats.specs.declared.file.Fault.{Fault}
use Rattle.formats.specs.declared.shelf_file.ShelfSizes.{ShelfSizes}
use Rattle.formats.specs.declared.file.Fault.TheVariants.{Foreign, OtherVersion, Damaged, TooLong}

-- the numbers of a file's head; only a shelf file has the last
abbrev pub version_of : List ℕ → ℕ
version_of file = word_at file 8

abbrev pub word_count : List ℕ → ℕ
word_count file = word_at file 12

abbrev pub byte_count : List ℕ → ℕ
byte_count file = word_at file 16

abbrev pub file_count : List ℕ → ℕ
file_count file = word_at file 20

-- what stands behind the head
abbrev pub stored_words : Kind → List ℕ → List ℕ
stored_words kind file = words_at file kind.head (word_count file)

abbrev pub stored_bytes : Kind → List ℕ → List ℕ
stored_bytes kind file = drop (kind.head + word_count file * 4) file

-- a fault, and whether the file has it
pub record Line : Type 0 where
  pub fault : Fault
  pub given : Bool

-- the faults, in the order in which they are looked for. A file of fewer than 12 bytes has no version: it is damaged
abbrev pub faults : Kind → List ℕ → ℕ → ℕ → List Line
faults kind file word_room byte_room =
    record { fault = Foreign; given = not (is_prefix_of kind.magic file) }
    ∷ record { fault = OtherVersion; given = leb 12 (length file) && not (eqb (version_of file) version) }
    ∷ record { fault = Damaged; given = not (eqb (length file) (kind.head + word_count file * 4 + byte_count file)) }
    ∷ record { fault = TooLong; given = ltb word_room (word_count file) || ltb byte_room (byte_count file) }
    ∷ []

-- the first fault that is given, or the sizes of a file that has none
unfoldable pub first_fault : Sizes → List Line → Result Sizes Fault
first_fault sizes [] = Ok sizes
first_fault sizes (l ∷ ls) = cond l.given (Err l.fault) (first_fault sizes ls)

-- how a file is judged, with room for so many words and bytes
unfoldable pub judged : Kind → List ℕ → ℕ → ℕ → Result Sizes Fault
judged kind file word_room byte_room =
    first_fault (record { words = word_count file; bytes = byte_count file }) (faults kind file word_room byte_room)

pub record ReadOutcome (A : Type 0) : Type 0 where
  pub answer : A
  pub words : List ℕ
  pub bytes : List ℕ

-- a fault leaves all as it was; the words and bytes of a whole file come to stand in front of the lent slices
unfoldable pub filled : Kind → List ℕ → List ℕ → List ℕ → Result Sizes Fault → ReadOutcome (Result Sizes Fault)
filled kind file words bytes (Err f) = record { answer = Err f; words = words; bytes = bytes }
filled kind file words bytes (Ok sizes) =
    record {
      answer = Ok sizes;
      words = splice words 0 (stored_words kind file);
      bytes = splice bytes 0 (stored_bytes kind file);
    }

unfoldable pub read_file : Kind → List ℕ → List ℕ → List ℕ → ReadOutcome (Result Sizes Fault)
read_file kind file words bytes = filled kind file words bytes (judged kind file (length words) (length bytes))

abbrev pub read_image : List ℕ → List ℕ → List ℕ → ReadOutcome (Result Sizes Fault)
read_image file words pool = read_file image_kind file words pool

-- the answer for a shelf has the number of files too
abbrev pub shelf_answer : List ℕ → Result Sizes Fault → Result ShelfSizes Fault
shelf_answer file (Err f) = Err f
shelf_answer file (Ok sizes) = Ok (record { words = sizes.words; bytes = sizes.bytes; files = file_count file })

abbrev pub read_shelf : List ℕ → List ℕ → List ℕ → ReadOutcome (Result ShelfSizes Fault)
read_shelf file words bytes =
    let o = read_file shelf_kind file words bytes in
    record { answer = shelf_answer file o.answer; words = o.words; bytes = o.bytes }
