-- The length of a file, its parts written one behind the other, and the whole outcome of writing. Assumes nothing.
use mathlib.Core.Path.{◌≡◌, refl}
use mathlib.Core.Bool.{Bool, true, false}
use mathlib.Core.List.{List, [], ◌∷◌, ◌++◌, append_assoc}
use Prim.Native.Nat.{ℕ, ◌+◌, ◌*◌, ◌≤◌, ◌<◌}
use native.Mathlib.Nat.{zero-add}
use native.Mathlib.Omega.{arith}
use lib.Dec.{leb}
use lib.ListN.{length, take, length-append}
use lib.Seq.{length-take-le}
use borrow.Author.Tests.{le-leb, lt-leb, lt-ltb, le-ltb}
use Rattle.std.specs.Prelude.{Some, None}
use Rattle.lists.specs.Below.{all_of}
use Rattle.lists.specs.Splice.{splice}
use Rattle.lists.proofs.SpliceLaws.{splice-splice}
use Rattle.formats.specs.Words.{word_limit, in_bytes}
use Rattle.formats.specs.Files.{shelf_kind, version, file_of, image_file, shelf_file}
use Rattle.formats.specs.Writing.{written, sayable, write_image, write_shelf}
use Rattle.formats.proofs.WordLaws.{length-in_bytes}

-- where the words and the bytes of a file begin
abbrev pub words_from : List ℕ → List ℕ → ℕ
words_from magic numbers = length magic + length numbers * 4

abbrev pub bytes_from : List ℕ → List ℕ → List ℕ → ℕ
bytes_from magic numbers ws = words_from magic numbers + length ws * 4

module _ (magic numbers ws bs : List ℕ) where
  pub length_file : length (file_of magic numbers ws bs) ≡ bytes_from magic numbers ws + length bs
  unfolding file_of
  length_file = simp (length-append, length-in_bytes) (omega arith)

-- one part more
put_behind : (out us vs : List ℕ) (n : ℕ) → length us ≡ n → n + length vs ≤ length out
    → splice (splice out 0 us) n vs ≡ splice out 0 (us ++ vs)
put_behind out us vs n e h = rw zero-add at (splice-splice out 0 us vs n e (omega arith))

module _ (magic numbers ws bs out : List ℕ) where
  -- `out` with the four parts of a file written one by one
  abbrev with_file : List ℕ
  with_file = splice (splice (splice (splice out 0 magic) (length magic) (in_bytes numbers)) (words_from magic numbers) (in_bytes ws)) (bytes_from magic numbers ws) bs

  pub put_file : length (file_of magic numbers ws bs) ≤ length out → with_file ≡ splice out 0 (file_of magic numbers ws bs)
  unfolding file_of
  put_file h =
      let l = length_file magic numbers ws bs in
      let ln = length-in_bytes numbers in
      let lw = length-in_bytes ws in
      let l1 = length-append magic (in_bytes numbers) in
      let l2 = length-append (magic ++ in_bytes numbers) (in_bytes ws) in
      rw (put_behind out magic (in_bytes numbers) (length magic) refl (omega arith))
      (rw (put_behind out (magic ++ in_bytes numbers) (in_bytes ws) (words_from magic numbers) (omega arith) (omega arith))
      (rw (put_behind out ((magic ++ in_bytes numbers) ++ in_bytes ws) bs (bytes_from magic numbers ws) (omega arith) (omega arith))
      (simp append_assoc)))

-- ---- the whole outcome of writing

pub write_short : (file out : List ℕ) → length out < length file → record { answer = None; out = out } ≡ written true file out
unfolding written
write_short file out h = simp (lt-leb (length file) (length out) h)

pub write_fits : (file out : List ℕ) (n : ℕ) (o : List ℕ) → length file ≤ length out → n ≡ length file → o ≡ splice out 0 file
    → record { answer = Some n; out = o } ≡ written true file out
unfolding written
write_fits file out n o h p q = simp (p, q, le-leb (length file) (length out) h)

-- two conditions: the first fails, the second does, or both hold
module _ (file out : List ℕ) (a b : Bool) where
  first_fails : a ≡ false → record { answer = None; out = out } ≡ written (all_of (a ∷ b ∷ [])) file out
  unfolding written
  first_fails p = simp p

  second_fails : a ≡ true → b ≡ false → record { answer = None; out = out } ≡ written (all_of (a ∷ b ∷ [])) file out
  unfolding written
  second_fails p q = simp (p, q)

  both_hold : a ≡ true → b ≡ true → written true file out ≡ written (all_of (a ∷ b ∷ [])) file out
  both_hold p q = simp (p, q)

module _ (ws pool out : List ℕ) where
  pub many_words : word_limit ≤ length ws → record { answer = None; out = out } ≡ write_image ws pool out
  unfolding write_image
  many_words h = first_fails (image_file ws pool) out (sayable (length ws)) (sayable (length pool)) (le-ltb (length ws) word_limit h)

  module _ (w : length ws < word_limit) where
    pub many_bytes : word_limit ≤ length pool → record { answer = None; out = out } ≡ write_image ws pool out
    unfolding write_image
    many_bytes h =
        second_fails (image_file ws pool) out (sayable (length ws)) (sayable (length pool))
        (lt-ltb (length ws) word_limit w) (le-ltb (length pool) word_limit h)

    pub image-written : length pool < word_limit → written true (image_file ws pool) out ≡ write_image ws pool out
    unfolding write_image
    image-written h =
        both_hold (image_file ws pool) out (sayable (length ws)) (sayable (length pool))
        (lt-ltb (length ws) word_limit w) (lt-ltb (length pool) word_limit h)

module _ (ws bs : List ℕ) (w b files : ℕ) (out : List ℕ) where
  pub past_words : length ws < w → record { answer = None; out = out } ≡ write_shelf ws bs w b files out
  unfolding write_shelf
  past_words h =
      first_fails (shelf_file files (take w ws) (take b bs)) out (leb w (length ws)) (leb b (length bs)) (lt-leb w (length ws) h)

  module _ (hw : w ≤ length ws) where
    pub past_bytes : length bs < b → record { answer = None; out = out } ≡ write_shelf ws bs w b files out
    unfolding write_shelf
    past_bytes h =
        second_fails (shelf_file files (take w ws) (take b bs)) out (leb w (length ws)) (leb b (length bs))
        (le-leb w (length ws) hw) (lt-leb b (length bs) h)

    -- the code has the used numbers in the head, the definition the lengths of what is written
    pub shelf_written : b ≤ length bs
        → written true (file_of shelf_kind.magic (version ∷ w ∷ b ∷ files ∷ []) (take w ws) (take b bs)) out ≡ write_shelf ws bs w b files out
    unfolding write_shelf
    shelf_written hb =
        let same : file_of shelf_kind.magic (version ∷ w ∷ b ∷ files ∷ []) (take w ws) (take b bs) ≡ shelf_file files (take w ws) (take b bs) =
        rw (length-take-le w ws hw, length-take-le b bs hb) in
        rw same
        (both_hold (shelf_file files (take w ws) (take b bs)) out (leb w (length ws)) (leb b (length bs))
        (le-leb w (length ws) hw) (le-leb b (length bs) hb))
