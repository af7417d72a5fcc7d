-- What stands in front of a file's words in a list of cases: `file`, the numbers of its words and bytes, and what is expected of it.
-- Assumes nothing.
use Rattle.std.specs.Prelude.{ℕ, Bool, true, cond, not, ◌||◌, ◌&&◌, List, [], ◌∷◌, eqb}
use Rattle.lists.specs.Lists.{between, same}
use Rattle.tokens.specs.declared.Token.{Token}
use Rattle.tokens.specs.declared.heads.Expect.{Expect}
use Rattle.tokens.specs.declared.heads.Expect.TheVariants.{Domain, Refused, RefusedAt, Any}
use Rattle.tokens.specs.declared.heads.Expected.{Expected}
use Rattle.tokens.specs.declared.heads.Head.{Head}
use Rattle.tokens.specs.Tokens.{next_token, bytes_of, number_of}

-- the words `refused`, `refused-at` and `domain`
abbrev pub refused_word : List ℕ
refused_word = 114 ∷ 101 ∷ 102 ∷ 117 ∷ 115 ∷ 101 ∷ 100 ∷ []

abbrev pub refused_at_word : List ℕ
refused_at_word = 114 ∷ 101 ∷ 102 ∷ 117 ∷ 115 ∷ 101 ∷ 100 ∷ 45 ∷ 97 ∷ 116 ∷ []

abbrev pub domain_word : List ℕ
domain_word = 100 ∷ 111 ∷ 109 ∷ 97 ∷ 105 ∷ 110 ∷ []

-- a refusal that no file in the domain draws
abbrev pub is_outside : ℕ → Bool
is_outside n = between 1 8 n || eqb n 13 || eqb n 14 || eqb n 16 || eqb n 18

-- a file answers what is expected of it, with a refusal's number and place, or with number 0 where it is accepted
abbrev pub is_met : Expect → ℕ → ℕ → Bool
is_met Domain number place = not (is_outside number)
is_met (Refused n) number place = eqb number n
is_met (RefusedAt n p) number place = eqb number n && eqb place p
is_met Any number place = true

-- the token behind one
abbrev pub behind : List ℕ → Token → Token
behind text t = next_token text t.end

-- what is expected, and where the tokens end that say so
abbrev pub expecting : Expect → Token → Expected
expecting e last = record { expect = e; end = last.end }

-- what the token `t` says, and the numbers behind it. A token that is none of the three words expects nothing
unfoldable pub expected_at : List ℕ → Token → Expected
expected_at text t =
    let n = behind text t in
    let p = behind text n in
    cond (same (bytes_of text t) refused_word) (expecting (Refused (number_of text n)) n)
    (cond (same (bytes_of text t) refused_at_word) (expecting (RefusedAt (number_of text n) (number_of text p)) p)
    (cond (same (bytes_of text t) domain_word) (expecting Domain t) (expecting Any t)))

-- what stands behind the token `t`, which is the word `file`
unfoldable pub head_of : List ℕ → Token → Head
head_of text t =
    let w = behind text t in
    let b = behind text w in
    let e = expected_at text (behind text b) in
    record { words = number_of text w; bytes = number_of text b; expect = e.expect; end = e.end }
