-- What writing a file does: its answer, and what the lent bytes then hold. Assumes nothing.
use Rattle.std.specs.Prelude.{Bool, cond, ◌&&◌, List, [], ◌∷◌, ℕ, leb, ltb, length, take, Option, Some, None}
use Rattle.lists.specs.Below.{all_of}
use Rattle.lists.specs.Splice.{splice, has_room}
use Rattle.formats.specs.Words.{word_limit}
use Rattle.formats.specs.Files.{image_file, shelf_file}

pub record WriteOutcome : Type 0 where
  pub answer : Option ℕ
  pub out : List ℕ

-- a file that there can be is written whole to the front of `out` where it has room; else nothing is written
unfoldable pub written : Bool → List ℕ → List ℕ → WriteOutcome
written possible file out =
    cond (possible && has_room out file)
    (record { answer = Some (length file); out = splice out 0 file })
    (record { answer = None; out = out })

-- a file's head can say that there are so many words, or bytes
abbrev pub sayable : ℕ → Bool
sayable n = ltb n word_limit

unfoldable pub write_image : List ℕ → List ℕ → List ℕ → WriteOutcome
write_image ws pool out = written (all_of (sayable (length ws) ∷ sayable (length pool) ∷ [])) (image_file ws pool) out

-- the used words and bytes alone are written
unfoldable pub write_shelf : List ℕ → List ℕ → ℕ → ℕ → ℕ → List ℕ → WriteOutcome
write_shelf ws bs usedWords usedBytes files out =
    written (all_of (leb usedWords (length ws) ∷ leb usedBytes (length bs) ∷ [])) (shelf_file files (take usedWords ws) (take usedBytes bs)) out
