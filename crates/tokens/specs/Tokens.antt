-- The tokens of a text: runs of bytes that are neither white space nor in a comment. `#` starts a comment, which runs to the end of its
-- line. Assumes nothing.
use Rattle.std.specs.Prelude.{ℕ, suc, ◌+◌, ◌-◌, ◌^◌, Bool, false, cond, ◌||◌, List, [], ◌∷◌, leb, eqb, take, drop, unwrap_or, Ok, Err}
use Rattle.names.specs.Integer.{unsigned}
use Rattle.names.specs.Default.{DefaultRead}
use Rattle.names.specs.declared.runtime_type_box.ReadDefault.TheVariants.{Integer, Text, ValueName}
use Rattle.tokens.specs.declared.Token.{Token}

-- the bytes newline, space and `#`
abbrev pub newline : ℕ
newline = 10

abbrev pub space : ℕ
space = 32

abbrev pub hash : ℕ
hash = 35

-- white space: a space, or a byte below it
abbrev pub is_space : ℕ → Bool
is_space b = leb b space

-- the byte is in a comment; `before` says whether the byte in front of it is
abbrev pub in_comment : Bool → ℕ → Bool
in_comment before b = cond (eqb b newline) false (before || eqb b hash)

-- how many bytes stand in front of the first token; `before` says whether the byte in front of them is in a comment
unfoldable pub passed_over : Bool → List ℕ → ℕ
passed_over before [] = 0
passed_over before (b ∷ s) = cond (in_comment before b || is_space b) (suc (passed_over (in_comment before b) s)) 0

-- how many bytes the token has that a text starts with
unfoldable pub token_length : List ℕ → ℕ
token_length [] = 0
token_length (b ∷ s) = cond (is_space b || eqb b hash) 0 (suc (token_length s))

-- where the next token starts, from `at` on: the first place that is neither white space nor in a comment. Where there is none that is
-- the text's end, or `at` past it
abbrev pub token_start : List ℕ → ℕ → ℕ
token_start text at = at + passed_over false (drop at text)

-- where the token ends that starts at `at`
abbrev pub token_end : List ℕ → ℕ → ℕ
token_end text at = at + token_length (drop at text)

-- the next token, from `at` on
unfoldable pub next_token : List ℕ → ℕ → Token
unfolding passed_over token_length
next_token text at = record { start = token_start text at; end = token_end text (token_start text at) }

-- the bytes of a token
abbrev pub bytes_of : List ℕ → Token → List ℕ
bytes_of text t = drop t.start (take t.end text)

-- the low word of an integer that was read, or 0 where none was
abbrev pub low_of : DefaultRead → ℕ
low_of (Ok (Integer w)) = w.low
low_of (Ok (Text w)) = 0
low_of (Ok ValueName) = 0
low_of (Err e) = 0

-- the number of 32 bits that a token is: digits, perhaps behind a plus; 0 where it is none
unfoldable pub number_of : List ℕ → Token → ℕ
unfolding unsigned
number_of text t = unwrap_or (unsigned (2 ^ 32 - 1) (bytes_of text t)) 0
