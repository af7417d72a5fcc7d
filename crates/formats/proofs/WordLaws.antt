-- Laws of words in bytes: their lengths, and the turns of the loops that read and write them. Assumes nothing.
use mathlib.Core.Path.{◌≡◌, refl, ◌∙◌}
use mathlib.Core.List.{List, [], ◌∷◌, ◌++◌, append-nil}
use Prim.Native.Nat.{ℕ, ◌+◌, ◌*◌, ◌≤◌, ◌<◌}
use native.Mathlib.Nat.{zero-add}
use native.Mathlib.Numerals.{add-one}
use native.Mathlib.Omega.{arith}
use lib.ListN.{length, get_or, take, set, length-append}
use lib.Seq.{take-suc, length-take-le}
use Rattle.std.specs.Int.{w32, to_le_bytes}
use Rattle.lists.specs.Lists.{concat_map}
use Rattle.lists.specs.Splice.{splice}
use Rattle.lists.proofs.SpanLaws.{concat-append}
use Rattle.lists.proofs.SpliceLaws.{splice_more, splice-splice}
use Rattle.lists.proofs.TableLaws.{length_table, get_or_table}
use Rattle.formats.specs.Words.{le32, in_bytes, word_at, words_at}

-- ---- lengths

-- the library's word for the bytes of a word
pub to_le_bytes-le32 : (n : ℕ) → to_le_bytes w32 n ≡ le32 n
unfolding le32
to_le_bytes-le32 n = refl

pub length-le32 : (n : ℕ) → length (le32 n) ≡ 4
unfolding le32
length-le32 n = refl

pub length-in_bytes : (ws : List ℕ) → length (in_bytes ws) ≡ length ws * 4
unfolding concat_map
length-in_bytes [] = refl
length-in_bytes (w ∷ ws) = omega (arith, length-append (le32 w) (in_bytes ws), length-le32 w, length-in_bytes ws)

pub length_words : (s : List ℕ) (at n : ℕ) → length (words_at s at n) ≡ n
unfolding words_at
length_words s at n = length_table n (λ k. word_at s (at + k * 4))

pub get_d_words : (s : List ℕ) (at n k : ℕ) → k < n → get_or (words_at s at n) k 0 ≡ word_at s (at + k * 4)
unfolding words_at
get_d_words s at n k h = get_or_table n (λ j. word_at s (at + j * 4)) k 0 h

-- ---- words read one by one

pub read_more : (ws s : List ℕ) (at n i : ℕ) → i < n → n ≤ length ws
    → set (splice ws 0 (take i (words_at s at n))) i (word_at s (at + i * 4)) ≡ splice ws 0 (take (i + 1) (words_at s at n))
read_more ws s at n i h l =
    let e = length_words s at n in
    rw (← get_d_words s at n i h) (rw zero-add at (splice_more ws 0 (words_at s at n) i 0 (omega arith) (omega arith)))

-- ---- words written one by one

in_bytes_more : (ws : List ℕ) (i : ℕ) → i < length ws → in_bytes (take (i + 1) ws) ≡ in_bytes (take i ws) ++ le32 (get_or ws i 0)
unfolding concat_map
in_bytes_more ws i h =
    rw (add-one, take-suc ws i 0 h) (concat-append le32 (take i ws) (get_or ws i 0 ∷ []) ∙ rw append-nil)

pub put_more : (out ws : List ℕ) (at i : ℕ) → i < length ws → at + length ws * 4 ≤ length out
    → splice (splice out at (in_bytes (take i ws))) (at + i * 4) (le32 (get_or ws i 0)) ≡ splice out at (in_bytes (take (i + 1) ws))
put_more out ws at i h l =
    let e : length (in_bytes (take i ws)) ≡ i * 4 = length-in_bytes (take i ws) ∙ rw (length-take-le i ws (omega arith)) in
    rw (in_bytes_more ws i h)
    (splice-splice out at (in_bytes (take i ws)) (le32 (get_or ws i 0)) (i * 4) e (omega (arith, length-le32 (get_or ws i 0))))
