-- `image::shelf::record_fits` meets its contract. Assumes nothing.
use borrow.Author.Tests.{le-leb, eq-eqb, ne_eqb}
use Prim.Native.Nat.{◌+◌}
use mathlib.Core.Path.{◌≡◌, sym, ap, ◌∙◌}
use mathlib.Core.Bool.{true}
use mathlib.Core.List.{[], ◌∷◌}
use lib.Dec.{leb, eqb}
use lib.ListN.{length}
use Rattle.lists.specs.Below.{all_of}
use Rattle.image.specs.Words.{sections_of}
use Rattle.image.specs.Shelf.{shelf_of, end_word, record_fits}
use Rattle.lists.proofs.Cases.{and-true}
use Rattle.image.proofs.ShelfLaws.{row_words, record_by, record_short}
use Rattle.image.proofs.shelf.record_fits.Goals as goal
use Rattle.image.proofs.shelf.record_fits.Goals.{After-link_row_words, Else-end_word-bytes, Else-end_word-s, Else-end_word-s-2, Else-end_word-s-3, Else-start-size}

-- the tests over those sections
tests : (c : After-link_row_words) → record_fits (shelf_of (c.args.words.now) (c.args.bytes.now))
    ≡ all_of
    (leb 8 (length (c.args.words.now))
    ∷ eqb (end_word (c.args.words.now) 0 + end_word (c.args.words.now) 1 + row_words c.read-s.result + 8) (length (c.args.words.now))
    ∷ eqb (end_word (c.args.words.now) 2 + end_word (c.args.words.now) 3) (length (c.args.bytes.now))
    ∷ eqb (end_word (c.args.words.now) 4) c.read-s.result.messages.count
    ∷ eqb (end_word (c.args.words.now) 5) c.read-s.result.enums.count
    ∷ eqb (end_word (c.args.words.now) 6) c.read-s.result.oneofs.count
    ∷ eqb (end_word (c.args.words.now) 7) c.read-s.result.fields.count
    ∷ [])
tests c =
    record_by (c.args.words.now) (c.args.bytes.now)
    (c.read-s.ensures ∙ ap sections_of (rw (c.end_word-start.ensures, c.end_word-size.ensures) at c.part.ensures))

-- what has passed at each test
eight : (c : After-link_row_words) → leb 8 (length (c.args.words.now)) ≡ true
eight c = le-leb 8 (length (c.args.words.now)) c.if-words-lt8.false

size : (c : Else-start-size) → eqb (end_word (c.args.words.now) 0 + end_word (c.args.words.now) 1 + row_words c.read-s.result + 8) (length (c.args.words.now)) ≡ true
size c = rw (c.end_word-start.ensures, c.end_word-size.ensures, c.link_row_words.ensures) at (eq-eqb _ _ c.if-start-size.false)

pool : (c : Else-end_word-bytes) → eqb (end_word (c.args.words.now) 2 + end_word (c.args.words.now) 3) (length (c.args.bytes.now)) ≡ true
pool c = rw (c.end_word.ensures, c.end_word-2.ensures) at (eq-eqb _ _ c.if-end_word-bytes.false)

messages : (c : Else-end_word-s) → eqb (end_word (c.args.words.now) 4) c.read-s.result.messages.count ≡ true
messages c = rw c.end_word-3.ensures at (eq-eqb _ _ c.if-end_word-s.false)

enums : (c : Else-end_word-s-2) → eqb (end_word (c.args.words.now) 5) c.read-s.result.enums.count ≡ true
enums c = rw c.end_word-4.ensures at (eq-eqb _ _ c.if-end_word-s-2.false)

oneofs : (c : Else-end_word-s-3) → eqb (end_word (c.args.words.now) 6) c.read-s.result.oneofs.count ≡ true
oneofs c = rw c.end_word-5.ensures at (eq-eqb _ _ c.if-end_word-s-3.false)

pub returns-then-words-lt8 : goal.returns-then-words-lt8
returns-then-words-lt8 c = sym (record_short c.args.words.now c.args.bytes.now c.if-words-lt8.true)

pub returns-then-start-size : goal.returns-then-start-size
returns-then-start-size c = sym (tests (goal.at.returns-then-start-size c).After-link_row_words ∙ simp (
  eight (goal.at.returns-then-start-size c).After-link_row_words,
  rw (c.end_word-start.ensures, c.end_word-size.ensures, c.link_row_words.ensures) at (ne_eqb _ _ c.if-start-size.true),
))

pub returns-then-end_word-bytes : goal.returns-then-end_word-bytes
returns-then-end_word-bytes c = sym (tests (goal.at.returns-then-end_word-bytes c).After-link_row_words ∙ simp (
  eight (goal.at.returns-then-end_word-bytes c).After-link_row_words,
  size (goal.at.returns-then-end_word-bytes c).Else-start-size,
  rw (c.end_word.ensures, c.end_word-2.ensures) at (ne_eqb _ _ c.if-end_word-bytes.true),
))

pub returns-then-end_word-s : goal.returns-then-end_word-s
returns-then-end_word-s c = sym (tests (goal.at.returns-then-end_word-s c).After-link_row_words ∙ simp (
  eight (goal.at.returns-then-end_word-s c).After-link_row_words,
  size (goal.at.returns-then-end_word-s c).Else-start-size,
  pool (goal.at.returns-then-end_word-s c).Else-end_word-bytes,
  rw c.end_word-3.ensures at (ne_eqb _ _ c.if-end_word-s.true),
))

pub returns-then-end_word-s-2 : goal.returns-then-end_word-s-2
returns-then-end_word-s-2 c = sym (tests (goal.at.returns-then-end_word-s-2 c).After-link_row_words ∙ simp (
  eight (goal.at.returns-then-end_word-s-2 c).After-link_row_words,
  size (goal.at.returns-then-end_word-s-2 c).Else-start-size,
  pool (goal.at.returns-then-end_word-s-2 c).Else-end_word-bytes,
  messages (goal.at.returns-then-end_word-s-2 c).Else-end_word-s,
  rw c.end_word-4.ensures at (ne_eqb _ _ c.if-end_word-s-2.true),
))

pub returns-then-end_word-s-3 : goal.returns-then-end_word-s-3
returns-then-end_word-s-3 c = sym (tests (goal.at.returns-then-end_word-s-3 c).After-link_row_words ∙ simp (
  eight (goal.at.returns-then-end_word-s-3 c).After-link_row_words,
  size (goal.at.returns-then-end_word-s-3 c).Else-start-size,
  pool (goal.at.returns-then-end_word-s-3 c).Else-end_word-bytes,
  messages (goal.at.returns-then-end_word-s-3 c).Else-end_word-s,
  enums (goal.at.returns-then-end_word-s-3 c).Else-end_word-s-2,
  rw c.end_word-5.ensures at (ne_eqb _ _ c.if-end_word-s-3.true),
))

pub returns : goal.returns
returns c = rw c.end_word-6.ensures (sym (tests (goal.at.returns c).After-link_row_words ∙ simp (
  eight (goal.at.returns c).After-link_row_words,
  size (goal.at.returns c).Else-start-size,
  pool (goal.at.returns c).Else-end_word-bytes,
  messages (goal.at.returns c).Else-end_word-s,
  enums (goal.at.returns c).Else-end_word-s-2,
  oneofs (goal.at.returns c).Else-end_word-s-3,
  and-true,
)))
