-- Laws of where tokens start and end, a byte at a time. Assumes nothing.
use Prim.Native.Nat.{ℕ, suc, ◌+◌, ◌≤◌, ◌<◌}
use native.Mathlib.Numerals.{add-one, one-add}
use mathlib.Core.Path.{◌≡◌, refl, ap}
use mathlib.Core.Bool.{Bool, true, false, not, ◌||◌}
use mathlib.Core.List.{List, [], ◌∷◌}
use lib.Dec.{eqb}
use lib.ListN.{length, get_or, drop, drop_of_length-le}
use lib.Seq.{drop-cons}
use Rattle.std.specs.List.{prefix_len}
use Rattle.lists.proofs.Cases.{by}
use Rattle.tokens.specs.Tokens.{hash, is_space, in_comment, passed_over, token_length}

-- ---- where a token starts

module _ (before inside : Bool) (s : List ℕ) (i : ℕ) (h : i < length s) (q : inside ≡ in_comment before (get_or s i 0)) where
  pub passed_more : (inside || is_space (get_or s i 0)) ≡ true → passed_over before (drop i s) ≡ suc (passed_over inside (drop (i + 1) s))
  unfolding passed_over
  passed_more e = rw (add-one, drop-cons s i 0, q, rw q at e)

  pub passed_stop : (inside || is_space (get_or s i 0)) ≡ false → passed_over before (drop i s) ≡ 0
  unfolding passed_over
  passed_stop e = rw (drop-cons s i 0, rw q at e)

pub passed_end : (before : Bool) (s : List ℕ) (i : ℕ) → length s ≤ i → passed_over before (drop i s) ≡ 0
unfolding passed_over
passed_end before s i h = rw drop_of_length-le

-- ---- where it ends

pub token_end_lem : (s : List ℕ) (i : ℕ) → length s ≤ i → token_length (drop i s) ≡ 0
unfolding token_length
token_end_lem s i h = rw drop_of_length-le

-- the library's word for it
pub prefix_len-token_length : (s : List ℕ) → prefix_len (λ b. not (is_space b || eqb b hash)) s ≡ token_length s
unfolding token_length
prefix_len-token_length [] = refl
prefix_len-token_length (b ∷ s) =
    by (is_space b || eqb b hash)
    (λ e. rw e)
    (λ e. rw (e, one-add) (ap suc (prefix_len-token_length s)))
