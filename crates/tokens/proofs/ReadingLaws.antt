-- The loop that reads what f makes of the next tokens into the front of a list. Assumes nothing.
use Prim.Native.Nat.{ℕ, suc, ◌+◌, ◌-◌, ◌≤◌, ◌<◌}
use native.Mathlib.Nat.{sub-zero}
use native.Mathlib.Omega.{arith}
use mathlib.Core.Path.{◌≡◌, refl, sym, ap, ◌∙◌}
use mathlib.Core.List.{List, [], ◌∷◌, ◌++◌, append_assoc, append-nil}
use lib.ListN.{length, set, length-append}
use Rattle.tokens.specs.declared.Token.{Token}
use Rattle.tokens.specs.Tokens.{next_token}
use Rattle.tokens.specs.Reading.{of_tokens, end_of_tokens, filled}

module _ {A : Type 0} where
  filled_nil : (ws : List A) → filled ws [] ≡ ws
  unfolding filled
  filled_nil [] = refl
  filled_nil (w ∷ ws) = refl

  length-filled : (ws vs : List A) → length (filled ws vs) ≡ length ws
  unfolding filled
  length-filled [] vs = refl
  length-filled (w ∷ ws) [] = refl
  length-filled (w ∷ ws) (v ∷ vs) = ap suc (length-filled ws vs)

  -- one element more, which has room or not
  filled_more : (ws vs : List A) (v : A) → set (filled ws vs) (length vs) v ≡ filled ws (vs ++ (v ∷ []))
  unfolding filled
  filled_more [] vs v = refl
  filled_more (w ∷ ws) [] v = ap (λ (l : List A). v ∷ l) (sym (filled_nil ws))
  filled_more (w ∷ ws) (u ∷ vs) v = ap (λ (l : List A). u ∷ l) (filled_more ws vs v)

-- with i of n tokens read, up to `end`: what was made of them stands in front, and the tokens from `end` on give the rest
pub record Reading {A : Type 0} (f : Token → A) (text : List ℕ) (at n : ℕ) (ws₀ ws : List A) (end i : ℕ) : Type 0 where
  pub made : List A
  pub size : length made ≡ i
  pub written : ws ≡ filled ws₀ made
  pub rest : of_tokens f text at n ≡ made ++ of_tokens f text end (n - i)
  pub last : end_of_tokens text at n ≡ end_of_tokens text end (n - i)

pub reading_start : {A : Type 0} (f : Token → A) (text : List ℕ) (at n : ℕ) (ws : List A) → Reading f text at n ws ws at 0
reading_start f text at n ws = record { made = []; size = refl; written = sym (filled_nil ws); rest = rw (sub-zero n); last = rw (sub-zero n) }

module _ {A : Type 0} {f : Token → A} {text : List ℕ} {at n : ℕ} {ws₀ ws : List A} {end i : ℕ} (r : Reading f text at n ws₀ ws end i) where
  pub reading_more : i < n → (t : Token) (v : A) (ws' : List A) → t ≡ next_token text end → v ≡ f t → ws' ≡ set ws i v → Reading f text at n ws₀ ws' t.end (i + 1)
  unfolding of_tokens end_of_tokens
  reading_more h t v ws' e q w =
      let k : n - i ≡ suc (n - (i + 1)) = omega arith in
      record {
        made = r.made ++ (v ∷ []);
        size = length-append r.made (v ∷ []) ∙ ap (λ (m : ℕ). m + 1) r.size;
        written = w ∙ rw (r.written, ← r.size) (filled_more ws₀ r.made v);
        rest = r.rest ∙ rw (k, ← e, q) (sym (append_assoc r.made (f t ∷ []) (of_tokens f text t.end (n - (i + 1)))));
        last = r.last ∙ rw (k, e);
      }

  pub reading_same : length ws ≡ length ws₀
  reading_same = rw r.written (length-filled ws₀ r.made)

  pub reading_end : n ≤ i → (end ≡ end_of_tokens text at n) × (ws ≡ filled ws₀ (of_tokens f text at n))
  unfolding of_tokens end_of_tokens
  reading_end h =
      let k : n - i ≡ 0 = omega arith in
      (sym (r.last ∙ rw k), r.written ∙ ap (filled ws₀) (sym (r.rest ∙ rw k (append-nil r.made))))
