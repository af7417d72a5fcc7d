-- What is written is read back the same, and what is read was written so. Assumes nothing.
use Rattle.std.specs.Prelude.{◌≡◌, true, List, ℕ, ◌≤◌, ◌<◌, ltb, length, take, Ok}
use Rattle.lists.specs.Lists.{all}
use Rattle.lists.specs.Splice.{splice}
use Rattle.formats.specs.Words.{word_limit, byte_limit}
use Rattle.formats.specs.Files.{image_file, shelf_file}
use Rattle.formats.specs.Reading.{read_image, read_shelf}
use Rattle.formats.specs.declared.file.Sizes.{Sizes}
use Rattle.formats.specs.declared.shelf_file.ShelfSizes.{ShelfSizes}

-- every number of a list is below a limit
abbrev pub AllBelow : ℕ → List ℕ → Type 0
AllBelow limit l = all (λ x. ltb x limit) l ≡ true

-- an image file is read as the words and the pool that it was made of
abbrev pub ImageReadBack : Type 0
ImageReadBack =
    (ws pool words bytes : List ℕ)
    → AllBelow word_limit ws
    → length ws < word_limit
    → length pool < word_limit
    → length ws ≤ length words
    → length pool ≤ length bytes
    → read_image (image_file ws pool) words bytes
    ≡ record {
      answer = Ok (record { words = length ws; bytes = length pool });
      words = splice words 0 ws;
      bytes = splice bytes 0 pool;
    }

-- and a shelf file as the words, the bytes and the number of files
abbrev pub ShelfReadBack : Type 0
ShelfReadBack =
    (files : ℕ) (ws bs words bytes : List ℕ)
    → files < word_limit
    → AllBelow word_limit ws
    → length ws < word_limit
    → length bs < word_limit
    → length ws ≤ length words
    → length bs ≤ length bytes
    → read_shelf (shelf_file files ws bs) words bytes
    ≡ record {
      answer = Ok (record { words = length ws; bytes = length bs; files = files });
      words = splice words 0 ws;
      bytes = splice bytes 0 bs;
    }

-- a file that is read is the image file of what then stands in front of the two slices
abbrev pub ImageWrittenSo : Type 0
ImageWrittenSo =
    (file words pool : List ℕ) (s : Sizes)
    → AllBelow byte_limit file
    → (read_image file words pool).answer ≡ Ok s
    → file ≡ image_file (take s.words (read_image file words pool).words) (take s.bytes (read_image file words pool).bytes)

abbrev pub ShelfWrittenSo : Type 0
ShelfWrittenSo =
    (file words bytes : List ℕ) (s : ShelfSizes)
    → AllBelow byte_limit file
    → (read_shelf file words bytes).answer ≡ Ok s
    → file ≡ shelf_file s.files (take s.words (read_shelf file words bytes).words) (take s.bytes (read_shelf file words bytes).bytes)
