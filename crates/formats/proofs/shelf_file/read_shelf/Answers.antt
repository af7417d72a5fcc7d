-- `formats::shelf_file::read_shelf` meets its contract: a file without a fault is long enough for the number of files. Assumes nothing.
use native.Mathlib.Omega.{arith}
use mathlib.Core.Path.{sym, ap, ◌∙◌}
use Rattle.formats.specs.Files.{shelf_kind}
use Rattle.formats.proofs.ReadLaws.{read_sound}
use Rattle.formats.proofs.shelf_file.read_shelf.Goals as goal

pub word_at-requires : goal.word_at-requires
word_at-requires c =
    let a = c.args in
    let e = ap (λ o. o.answer) c.read_file.ensures in
    let fine = read_sound shelf_kind a.file.now a.words.now a.bytes.now c.in_ok-sizes.sizes (omega arith) (sym e ∙ c.in_ok-sizes.was) in
    omega (arith, fine.size)
