-- `image::link_tests::image_by` meets its contract. Assumes nothing.
use mathlib.Core.Path.{sym, ap, ◌∙◌}
use native.Mathlib.Omega.{arith}
use Rattle.image.specs.Record.{File}
use Rattle.image.specs.Places.{shelf_file}
use Rattle.image.proofs.FileLaws.{by_none, by_past, by_word}
use Rattle.image.proofs.link_tests.image_by.Goals as goal
use Rattle.image.proofs.link_tests.image_by.Goals.{then-word-eq0-via-then-word-eq0, then-word-eq0-via-else-word-eq0+then-n-word}

pub returns-then-word-eq0 : goal.returns-then-word-eq0
returns-then-word-eq0 c = let a = c.args in
    elim c.then-word-eq0.branch [
      | then-word-eq0-via-then-word-eq0 w ↦ sym (ap (λ (x : File). x.image) (by_none (shelf_file a.shelf.now) a.n a.word w.if-word-eq0.true))
      | then-word-eq0-via-else-word-eq0+then-n-word w ↦ sym (ap (λ (x : File). x.image) (by_past (shelf_file a.shelf.now) a.n a.word w.if-n-word.true))
    ]

pub returns : goal.returns
returns c = let a = c.args in
    c.image.ensures ∙ sym (ap (λ (x : File). x.image) (by_word (shelf_file a.shelf.now) a.n a.word (omega (arith, c.if-word-eq0.false)) c.if-n-word.false))
