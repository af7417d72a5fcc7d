-- Words and bytes read from a text into lent memory: the numbers that its next tokens are. Assumes nothing.
use Rattle.std.specs.Prelude.{ℕ, zero, suc, ◌%◌, List, [], ◌∷◌}
use Rattle.tokens.specs.declared.Token.{Token}
use Rattle.tokens.specs.Tokens.{next_token, number_of}

-- what f makes of each of the next n tokens, from `at` on
unfoldable pub of_tokens : {A : Type 0} → (Token → A) → List ℕ → ℕ → ℕ → List A
of_tokens f text at zero = []
of_tokens f text at (suc n) = f (next_token text at) ∷ of_tokens f text (next_token text at).end n

-- where they end
unfoldable pub end_of_tokens : List ℕ → ℕ → ℕ → ℕ
end_of_tokens text at zero = at
end_of_tokens text at (suc n) = end_of_tokens text (next_token text at).end n

-- the next n tokens as words
abbrev pub words_from : List ℕ → ℕ → ℕ → List ℕ
words_from text at n = of_tokens (number_of text) text at n

-- a word's low 8 bits
abbrev pub low_byte : ℕ → ℕ
low_byte n = n % 256

-- the next n tokens as bytes
abbrev pub bytes_from : List ℕ → ℕ → ℕ → List ℕ
bytes_from text at n = of_tokens (λ t. low_byte (number_of text t)) text at n

-- `ws` with `vs` in the place of its first elements, as far as it has room for them
unfoldable pub filled : {A : Type 0} → List A → List A → List A
filled [] vs = []
filled (w ∷ ws) [] = w ∷ ws
filled (w ∷ ws) (v ∷ vs) = v ∷ filled ws vs
