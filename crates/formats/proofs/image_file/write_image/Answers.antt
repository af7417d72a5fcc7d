-- `formats::image_file::write_image` meets its contract: a head says so many words and bytes, or nothing is written. Assumes nothing.
use native.Mathlib.Omega.{arith}
use mathlib.Core.Path.{◌≡◌, sym, ◌∙◌}
use Prim.Native.Nat.{ℕ, ◌<◌, ◌≤◌}
use Rattle.std.specs.Prelude.{Some, None, Result, Ok, Err}
use Rattle.std.specs.Result.{OkIff, result_ok}
use Rattle.formats.specs.Words.{word_limit}
use Rattle.formats.proofs.WriteLaws.{many_words, many_bytes, image-written}
use Rattle.formats.proofs.image_file.write_image.Goals as goal

-- what `u32::try_from` answers of a length, by what `ok` makes of it
sayable : {E : Type 0} (r : Result ℕ E) (n k : ℕ) → OkIff r (n < word_limit) n → result_ok r ≡ Some k → (n < word_limit) × (k ≡ n)
sayable (Ok m) n k h e = let q : m ≡ k = cc in (h.0, sym q ∙ h.1)
sayable (Err f) n k h e = absurd (cc)

unsayable : {E : Type 0} (r : Result ℕ E) (n : ℕ) → OkIff r (n < word_limit) n → result_ok r ≡ None → word_limit ≤ n
unsayable (Ok m) n h e = absurd (cc)
unsayable (Err f) n h e = omega arith

pub returns-in_err-word_count : goal.returns-in_err-word_count
returns-in_err-word_count c =
    let a = c.args in
    rw c.from_residual.ensures
    (many_words a.words.now a.pool.now a.out.now (unsayable _ _ c.try_from.ensures (sym c.ok.ensures.value ∙ c.in_err-word_count.was)))

pub returns-in_err-byte_count : goal.returns-in_err-byte_count
returns-in_err-byte_count c =
    let a = c.args in
    let w = sayable _ _ _ c.try_from.ensures (sym c.ok.ensures.value ∙ c.in_ok-word_count.was) in
    rw c.from_residual-in_err-byte_count.ensures
    (many_bytes a.words.now a.pool.now a.out.now w.0 (unsayable _ _ c.try_from-2.ensures (sym c.ok-2.ensures.value ∙ c.in_err-byte_count.was)))

pub write_file-requires : goal.write_file-requires
write_file-requires c =
    let w = sayable _ _ _ c.try_from.ensures (sym c.ok.ensures.value ∙ c.in_ok-word_count.was) in
    let b = sayable _ _ _ c.try_from-2.ensures (sym c.ok-2.ensures.value ∙ c.in_ok-byte_count.was) in
    record { magic_len_bound = omega arith; numbers_len_bound = omega arith; words_len_bound = w.0; bytes_len_bound = b.0 }

pub returns : goal.returns
returns c =
    let a = c.args in
    let w = sayable _ _ _ c.try_from.ensures (sym c.ok.ensures.value ∙ c.in_ok-word_count.was) in
    let b = sayable _ _ _ c.try_from-2.ensures (sym c.ok-2.ensures.value ∙ c.in_ok-byte_count.was) in
    (rw (w.1, b.1) at c.write_file.ensures) ∙ image-written a.words.now a.pool.now a.out.now w.0 b.0
