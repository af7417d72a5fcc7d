-- `image::shelf::walk_back` meets its contract: its loop keeps `Walking`. Assumes nothing.
use mathlib.Core.Path.{◌≡◌, sym, ◌∙◌}
use mathlib.Core.Bool.{true}
use Prim.Native.Nat.{◌-◌}
use native.Mathlib.Omega.{arith}
use Rattle.image.specs.Shelf.{record_fits}
use Rattle.image.proofs.ShelfLaws.{shelf_in, walking_start, walking_step, walking_fails, walking_words, walking_bytes, walking_end}
use Rattle.image.proofs.shelf.walk_back.Goals as goal
use Rattle.image.proofs.shelf.walk_back.Goals.{Else-not-record_fits, then-w-ne0-via-then-w-ne0, then-w-ne0-via-else-w-ne0+then-b-ne0}

fits : (c : Else-not-record_fits) → record_fits (shelf_in c.args.words.now c.args.bytes.now c.loop-k.w c.loop-k.b) ≡ true
fits c = sym c.record_fits.ensures ∙ c.if-not-record_fits.false

pub loop-k-init : goal.loop-k-init
loop-k-init c = let a = c.args in
    walking_start a.words.now a.bytes.now a.used.files a.used.words a.used.bytes c.requires.files_bound c.requires.words_in_bounds c.requires.bytes_in_bounds

pub returns-then-not-record_fits : goal.returns-then-not-record_fits
returns-then-not-record_fits c =
    walking_fails c.loop-k.invariant (c.loop-k.k - 1) (omega arith) (sym c.record_fits.ensures ∙ c.if-not-record_fits.true)

pub loop-k-preserved : goal.loop-k-preserved
loop-k-preserved c = rw (c.end_word-w.ensures ∙ sym c.end_word.ensures, c.end_word-b.ensures ∙ sym c.end_word-in-loop-k-2.ensures)
    (walking_step c.loop-k.invariant (c.loop-k.k - 1) (omega arith) (fits (goal.at.loop-k-preserved c).Else-not-record_fits) c.end_word.ensures c.end_word-in-loop-k.ensures c.end_word-in-loop-k-2.ensures c.end_word-in-loop-k-3.ensures)

pub returns-then-w-ne0 : goal.returns-then-w-ne0
returns-then-w-ne0 c = elim c.then-w-ne0.branch [
  | then-w-ne0-via-then-w-ne0 w ↦ walking_words c.loop-k.invariant (omega arith) w.if-w-ne0.true
  | then-w-ne0-via-else-w-ne0+then-b-ne0 w ↦ walking_bytes c.loop-k.invariant (omega arith) w.if-b-ne0.true
]

pub returns : goal.returns
returns c = walking_end c.loop-k.invariant (omega arith) c.if-w-ne0.false c.if-b-ne0.false
