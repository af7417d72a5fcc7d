-- The bytes of an image file and of a shelf file. Assumes nothing.
use Rattle.std.specs.Prelude.{List, [], ◌∷◌, ◌++◌, ℕ, length}
use Rattle.formats.specs.Words.{in_bytes}

-- what a kind of file begins with, and how many bytes stand before its words
pub record Kind : Type 0 where
  pub magic : List ℕ
  pub head : ℕ

-- `NJUOLIMG`; then version, number of words, number of bytes
abbrev pub image_kind : Kind
image_kind = record { magic = 78 ∷ 74 ∷ 85 ∷ 79 ∷ 76 ∷ 73 ∷ 77 ∷ 71 ∷ []; head = 20 }

-- `NJUOLSHF`; then version, number of words, number of bytes, number of files
abbrev pub shelf_kind : Kind
shelf_kind = record { magic = 78 ∷ 74 ∷ 85 ∷ 79 ∷ 76 ∷ 83 ∷ 72 ∷ 70 ∷ []; head = 24 }

-- the version of both kinds
abbrev pub version : ℕ
version = 1

-- a file: its magic, the numbers of its head, its words, its bytes
unfoldable pub file_of : List ℕ → List ℕ → List ℕ → List ℕ → List ℕ
file_of magic numbers ws bs = magic ++ (in_bytes numbers ++ (in_bytes ws ++ bs))

-- the words of an image and its pool
abbrev pub image_file : List ℕ → List ℕ → List ℕ
image_file ws pool = file_of image_kind.magic (version ∷ length ws ∷ length pool ∷ []) ws pool

-- the used words and bytes of a shelf, and the number of its files
abbrev pub shelf_file : ℕ → List ℕ → List ℕ → List ℕ
shelf_file files ws bs = file_of shelf_kind.magic (version ∷ length ws ∷ length bs ∷ files ∷ []) ws bs
