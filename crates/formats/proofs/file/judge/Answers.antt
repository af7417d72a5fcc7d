-- `formats::file::judge` meets its contract: each return is the first fault by the tests that led there. Assumes nothing.
use native.Mathlib.Omega.{arith}
use mathlib.Core.Path.{◌≡◌, sym, ◌∙◌}
use mathlib.Core.Bool.{Bool, true}
use mathlib.Core.List.{List}
use Prim.Native.Nat.{ℕ}
use lib.Dec.{eqb}
use Rattle.std.specs.List.{starts_with}
use Rattle.lists.specs.Lists.{is_prefix_of}
use Rattle.lists.proofs.StdLaws.{prefix_starts}
use Rattle.formats.specs.declared.file.Kind.{Kind}
use Rattle.formats.proofs.ReadLaws.{Asked, foreign, short, other_version, damaged, many_words, many_bytes, sound}
use Rattle.formats.proofs.file.judge.Goals as goal
use Rattle.formats.proofs.file.judge.Goals.{then-word_room-words-via-then-word_room-words, then-word_room-words-via-else-word_room-words+then-byte_room-bytes}

-- what is asked
abbrev asked : Kind → List ℕ → ℕ → ℕ → Asked
asked kind file word_room byte_room =
    record { kind = record { magic = kind.magic; head = kind.head }; file = file; word_room = word_room; byte_room = byte_room }

begins : (p s : List ℕ) (r b : Bool) → r ≡ starts_with eqb s p → r ≡ b → is_prefix_of p s ≡ b
begins p s r b e h = sym (prefix_starts p s) ∙ sym e ∙ h

pub returns-then-not-starts_with : goal.returns-then-not-starts_with
returns-then-not-starts_with c =
    let a = c.args in
    sym (foreign (asked a.kind a.file.now a.word_room a.byte_room) (begins _ _ _ _ c.starts_with.ensures.value c.if-not-starts_with.true))

pub returns-then-file-lt12 : goal.returns-then-file-lt12
returns-then-file-lt12 c =
    let a = c.args in
    sym (short (asked a.kind a.file.now a.word_room a.byte_room) (begins _ _ _ _ c.starts_with.ensures.value c.if-not-starts_with.false) c.if-file-lt12.true (λ q. omega arith))

pub returns-then-word_at-ne1 : goal.returns-then-word_at-ne1
returns-then-word_at-ne1 c =
    let a = c.args in
    sym (other_version (asked a.kind a.file.now a.word_room a.byte_room) (begins _ _ _ _ c.starts_with.ensures.value c.if-not-starts_with.false) c.if-file-lt12.false (λ q. omega arith))

pub returns-then-file-kind : goal.returns-then-file-kind
returns-then-file-kind c =
    let a = c.args in
    sym (damaged (asked a.kind a.file.now a.word_room a.byte_room) (begins _ _ _ _ c.starts_with.ensures.value c.if-not-starts_with.false) (omega arith) (λ q. omega arith))

pub returns-then-file-kind-2 : goal.returns-then-file-kind-2
returns-then-file-kind-2 c =
    let a = c.args in
    sym (damaged (asked a.kind a.file.now a.word_room a.byte_room) (begins _ _ _ _ c.starts_with.ensures.value c.if-not-starts_with.false) (omega arith) (λ q. omega arith))

pub returns-then-word_room-words : goal.returns-then-word_room-words
returns-then-word_room-words c =
    let a = c.args in
    let g = asked a.kind a.file.now a.word_room a.byte_room in
    let m : is_prefix_of a.kind.magic a.file.now ≡ true = begins _ _ _ _ c.starts_with.ensures.value c.if-not-starts_with.false in
    elim c.then-word_room-words.branch [
      | then-word_room-words-via-then-word_room-words w ↦ sym (many_words g m (omega arith) (omega arith) (omega arith))
      | then-word_room-words-via-else-word_room-words+then-byte_room-bytes w ↦ sym (many_bytes g m (omega arith) (omega arith) (omega arith))
    ]

pub returns : goal.returns
returns c =
    let a = c.args in
    rw (c.word_at-words.ensures, c.word_at-bytes.ensures)
    (sym (sound (asked a.kind a.file.now a.word_room a.byte_room) (begins _ _ _ _ c.starts_with.ensures.value c.if-not-starts_with.false) (omega arith) (omega arith) (omega arith) (omega arith)))
