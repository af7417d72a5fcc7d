-- `formats::shelf_file::write_shelf` meets its contract: there are so many words and bytes, or nothing is written. Assumes nothing.
use native.Mathlib.Omega.{arith}
use mathlib.Core.Path.{◌≡◌, ◌∙◌}
use lib.ListN.{take}
use Rattle.std.proofs.lemmas.Slice.{between_from_start}
use Rattle.lists.proofs.Cases.{either}
use Rattle.formats.proofs.WriteLaws.{past_words, past_bytes, shelf_written}
use Rattle.formats.proofs.shelf_file.write_shelf.Goals as goal

pub returns-in_err-words : goal.returns-in_err-words
returns-in_err-words c =
    let a = c.args in
    rw c.from_residual.ensures
    (past_words a.words.now a.bytes.now a.used_words a.used_bytes a.files a.out.now (either c.in_err-words.ensures.lookup.0 (λ h. omega arith) (λ h. h)))

pub returns-in_err-bytes : goal.returns-in_err-bytes
returns-in_err-bytes c =
    let a = c.args in
    rw c.from_residual-in_err-bytes.ensures
    (past_bytes a.words.now a.bytes.now a.used_words a.used_bytes a.files a.out.now (c.in_ok-words.ensures.lookup.0.1) (either c.in_err-bytes.ensures.lookup.0 (λ h. omega arith) (λ h. h)))

pub returns : goal.returns
returns c =
    let a = c.args in
    let w = c.in_ok-words.ensures.lookup.0 in
    let b = c.in_ok-bytes.ensures.lookup.0 in
    let ws : c.in_ok-words.words.now ≡ take a.used_words a.words.now = w.2 ∙ between_from_start a.words.now a.used_words in
    let bs : c.in_ok-bytes.bytes.now ≡ take a.used_bytes a.bytes.now = b.2 ∙ between_from_start a.bytes.now a.used_bytes in
    (rw (ws, bs) at c.write_file.ensures) ∙ shelf_written a.words.now a.bytes.now a.used_words a.used_bytes a.files a.out.now w.1 b.1
