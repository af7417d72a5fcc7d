-- Laws of words and rows. Assumes nothing.
use Prim.Native.Nat.{ℕ, ◌+◌, ◌-◌, ◌*◌, ◌≤◌, ◌<◌, min}
use native.Mathlib.Nat.{mul-le-mul_left}
use native.Mathlib.Omega.{arith}
use mathlib.Core.List.{List, [], ◌++◌, append-nil}
use mathlib.Core.Path.{◌≡◌, sym, ap, ◌∙◌}
use lib.ListN.{length, drop, drop_of_length-le, replicate, length-append, length-take, length-drop, length-replicate, get_or-append, get_or-replicate, get_or-eq_default}
use lib.Seq.{get_or-append_right, get_or-take, get_or-drop}
use Rattle.lists.specs.Lists.{part, table}
use Rattle.lists.proofs.Cases.{order}
use Rattle.lists.proofs.TableLaws.{as_table}
use Rattle.image.specs.Words.{word_at}

pub word_past : (image : List ℕ) (k : ℕ) → length image ≤ k → word_at image k ≡ 0
word_past image k h = get_or-eq_default image 0 h

-- a row number times a row's width is at most sixteen times the number
pub row_small : (r width : ℕ) → width < 17 → r * width ≤ r * 16
row_small r width h = let m : width ≤ 16 = omega arith in mul-le-mul_left r m

-- ---- `n` words from word `at` on, those past the end being 0

module _ (ws : List ℕ) (at n : ℕ) where
  -- how many of them there are
  there_few : length (part at n ws) ≡ min n (length ws - at)
  there_few = length-take n (drop at ws) ∙ ap (min n) (length-drop at ws)

  pub words_filled : part at n ws ++ drop (length (part at n ws)) (replicate n 0) ≡ table n (λ k. word_at ws (at + k))
  words_filled =
      let p = part at n ws in
      let q : List ℕ = drop (length p) (replicate n 0) in
      as_table (p ++ q) n (λ k. word_at ws (at + k)) 0
      (omega (arith, length-append p q, length-drop {A = ℕ} (length p) (replicate n 0), length-replicate {A = ℕ} n 0, there_few))
      (λ i l. order i (length p)
      (λ m. get_or-append p q 0 i m ∙ get_or-take n (drop at ws) i 0 l ∙ get_or-drop at ws i 0)
      (λ m. get_or-append_right p q i 0 m ∙ get_or-drop {A = ℕ} (length p) (replicate n 0) (i - length p) 0
      ∙ get_or-replicate {A = ℕ} n (length p + (i - length p)) 0 0 (omega arith) ∙ sym (word_past ws (at + i) (omega (arith, there_few)))))

  -- all of them are there
  pub words_whole : length (part at n ws) ≡ n → part at n ws ≡ table n (λ k. word_at ws (at + k))
  words_whole e =
      let short : length (replicate {A = ℕ} n 0) ≤ length (part at n ws) = omega (arith, length-replicate {A = ℕ} n 0, e) in
      let none : drop {A = ℕ} (length (part at n ws)) (replicate {A = ℕ} n 0) ≡ [] = rw drop_of_length-le in
      sym (ap (λ (q : List ℕ). part at n ws ++ q) none ∙ rw append-nil) ∙ words_filled
