-- A word as four bytes, the lowest first, and words read out of bytes four by four. Assumes nothing.
use Rattle.std.specs.Prelude.{List, [], ◌∷◌, ℕ, ◌+◌, ◌*◌, ◌/◌, ◌%◌, get_or}
use Rattle.lists.specs.Lists.{table, concat_map}

-- what a byte holds is below this, and so what a word holds
abbrev pub byte_limit : ℕ
byte_limit = 256

abbrev pub word_limit : ℕ
word_limit = 4294967296

-- the four bytes of a word
unfoldable pub le32 : ℕ → List ℕ
le32 n = n % 256 ∷ n / 256 % 256 ∷ n / 65536 % 256 ∷ n / 16777216 % 256 ∷ []

-- the bytes of words, one behind the other
abbrev pub in_bytes : List ℕ → List ℕ
in_bytes ws = concat_map le32 ws

-- the word that four bytes say
abbrev pub word_of : ℕ → ℕ → ℕ → ℕ → ℕ
word_of a b c d = a + b * 256 + c * 65536 + d * 16777216

-- the word in the four bytes from byte `at` on
unfoldable pub word_at : List ℕ → ℕ → ℕ
word_at s at = word_of (get_or s at 0) (get_or s (at + 1) 0) (get_or s (at + 2) 0) (get_or s (at + 3) 0)

-- the n words from byte `at` on: word k stands at byte at + 4 k
unfoldable pub words_at : List ℕ → ℕ → ℕ → List ℕ
words_at s at n = table n (λ k. word_at s (at + k * 4))
