-- What the marks of owners say: a byte for each row of a section, which counts the owners that were seen. Assumes nothing.
use Rattle.std.specs.Prelude.{◌≡◌, List, [], ◌∷◌, Bool, true, false, ℕ, ◌+◌, ◌<◌, ◌≤◌, leb, length, get_or}
use Rattle.lists.specs.Below.{all_of}
use Rattle.image.specs.Words.{range_at, section_of, row_at}
use Rattle.image.specs.Layout.{file_ranges_fit, rows_fit}
use Rattle.image.specs.declared.rows.Sections.{Sections}
use Rattle.image.specs.declared.rows.Kind.{Kind}
use Rattle.image.specs.declared.rows.Kind.TheVariants.{Message, Enum}

-- either each mark grew by `more` of its row, or some row would have more than one owner. That every row has exactly one is known only
-- once each mark is seen to be 1
pub record Marked (done : Bool) (before after : List ℕ) (more : ℕ → ℕ) : Type 0 where
  pub grown : done ≡ true → (j : ℕ) → j < length before → get_or after j 0 ≡ get_or before j 0 + more j
  pub twice : done ≡ false → (j : ℕ) × (j < length before) × (1 < get_or before j 0 + more j)

-- the ranges at an offset of each row of a kind lie in a section of n rows
pub record Held (image : List ℕ) (s : Sections) (kind : Kind) (offset n : ℕ) : Type 0 where
  pub inside : (p : ℕ) → p < (section_of s kind).count → (range_at image (row_at s kind p + offset)).first + (range_at image (row_at s kind p + offset)).count ≤ n

-- no row has a mark yet
pub record Free (marks : List ℕ) : Type 0 where
  pub free : (j : ℕ) → j < length marks → get_or marks j 0 ≡ 0

-- no section of an image within 65,536 words has more rows than this: half its words, since the narrowest row has two
abbrev pub row_limit : ℕ
row_limit = 32768

-- what is known of an image when its owners are counted: every range lies in its section
pub record Ranged (image : List ℕ) (s : Sections) (pool : ℕ) : Type 0 where
  pub files : file_ranges_fit image s ≡ true
  pub messages : rows_fit image s pool Message ≡ true
  pub enums : rows_fit image s pool Enum ≡ true

-- n marks are enough for the rows of every section
pub record Roomy (s : Sections) (n : ℕ) : Type 0 where
  pub few : (kind : Kind) → (section_of s kind).count ≤ n

-- the same as tests
abbrev pub room_tests : Sections → ℕ → List Bool
room_tests s n =
    leb s.imports.count n
    ∷ leb s.messages.count n
    ∷ leb s.enums.count n
    ∷ leb s.values.count n
    ∷ leb s.oneofs.count n
    ∷ leb s.fields.count n
    ∷ []

unfoldable pub rows_within : Sections → ℕ → Bool
rows_within s n = all_of (room_tests s n)
