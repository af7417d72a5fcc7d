-- `formats::file::write_file` meets its contract: four parts, one behind the other. Assumes nothing.
use native.Mathlib.Omega.{arith}
use mathlib.Core.Path.{sym}
use Prim.Native.Nat.{◌+◌, ◌-◌, ◌≤◌}
use lib.ListN.{length}
use Rattle.lists.proofs.StdLaws.{put_mid_splice}
use Rattle.lists.proofs.SpliceLaws.{splice_front}
use Rattle.formats.specs.Files.{file_of}
use Rattle.formats.proofs.WriteLaws.{bytes_from, length_file, put_file, write_short, write_fits}
use Rattle.formats.proofs.file.write_file.Goals as goal

pub returns-then-out-size : goal.returns-then-out-size
returns-then-out-size c =
    let a = c.args in
    let l = length_file a.magic.now a.numbers.now a.words.now a.bytes.now in
    write_short (file_of a.magic.now a.numbers.now a.words.now a.bytes.now) a.out.now (omega arith)

pub returns : goal.returns
returns c =
    let a = c.args in
    let file = file_of a.magic.now a.numbers.now a.words.now a.bytes.now in
    let l = length_file a.magic.now a.numbers.now a.words.now a.bytes.now in
    let room : length file ≤ length a.out.now = omega (arith, c.if-out-size.false) in
    let at = bytes_from a.magic.now a.numbers.now a.words.now in
    write_fits file a.out.now (at + length a.bytes.now) _ room (sym l)
    (rw (c.copy_from_slice-2.ensures.after, put_mid_splice at (at + length a.bytes.now - at) c.put_words-2.new.out a.bytes.now (omega arith), c.put_words-2.ensures, c.put_words.ensures, c.copy_from_slice.ensures.after, ← splice_front a.out.now a.magic.now)
    (put_file a.magic.now a.numbers.now a.words.now a.bytes.now a.out.now room))
