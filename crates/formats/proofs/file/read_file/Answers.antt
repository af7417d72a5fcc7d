-- `formats::file::read_file` meets its contract: a file without a fault has all that is read, and there is room for it. Assumes nothing.
use native.Mathlib.Omega.{arith}
use mathlib.Core.Path.{◌≡◌, sym, ap, ◌∙◌}
use mathlib.Core.List.{List, ◌++◌}
use Prim.Native.Nat.{ℕ, ◌+◌, ◌*◌}
use lib.ListN.{length, drop, length-drop}
use lib.Seq.{length-take-le}
use Rattle.std.specs.Prelude.{Result, Ok, Err}
use Rattle.lists.specs.Splice.{splice}
use Rattle.lists.proofs.ListLaws.{part_all}
use Rattle.lists.proofs.SpliceLaws.{splice_front}
use borrow.Author.Rules.{rules}
use Rattle.formats.specs.Reading.{judged}
use Rattle.formats.specs.declared.file.Sizes.{Sizes}
use Rattle.formats.specs.declared.file.Fault.{Fault}
use Rattle.formats.specs.declared.file.Kind.{Kind}
use Rattle.formats.proofs.ReadLaws.{Sound, asked_of, whole-sound, read_unread, read_whole}
use Rattle.formats.proofs.file.read_file.Goals as goal

-- the file has no fault
fine : (k : Kind) (file words bytes : List ℕ) (r : Result Sizes Fault) (s : Sizes)
    → r ≡ judged (record { magic = k.magic; head = k.head }) file (length words) (length bytes) → r ≡ Ok s
    → Sound (asked_of (record { magic = k.magic; head = k.head }) file words bytes) s
fine k file words bytes r s e h =
    whole-sound (asked_of (record { magic = k.magic; head = k.head }) file words bytes) s (omega arith) (sym e ∙ h)

pub returns-in_err-sizes : goal.returns-in_err-sizes
returns-in_err-sizes c =
    let a = c.args in
    let e : c.from_residual.result ≡ Err c.in_err-sizes.field-0.0 = search rules in
    rw e
    (read_unread (record { magic = a.kind.magic; head = a.kind.head }) a.file.now a.words.now a.bytes.now c.in_err-sizes.field-0.0 (sym c.judge.ensures ∙ c.in_err-sizes.was))

pub read_words-requires : goal.read_words-requires
read_words-requires c =
    let a = c.args in
    let w = fine a.kind a.file.now a.words.now a.bytes.now _ _ c.judge.ensures c.in_ok-sizes.was in
    record { n_in_bounds = omega arith; n_in_bounds_2 = omega arith }

pub slice_bounds-copy_from_slice-end : goal.slice_bounds-copy_from_slice-end
slice_bounds-copy_from_slice-end c =
    let a = c.args in
    let w = fine a.kind a.file.now a.words.now a.bytes.now _ _ c.judge.ensures c.in_ok-sizes.was in
    omega arith

pub slice_bounds-copy_from_slice-end-2 : goal.slice_bounds-copy_from_slice-end-2
slice_bounds-copy_from_slice-end-2 c =
    let a = c.args in
    let w = fine a.kind a.file.now a.words.now a.bytes.now _ _ c.judge.ensures c.in_ok-sizes.was in
    sym (length-take-le c.in_ok-sizes.sizes.bytes a.bytes.now (omega arith))

pub slice_bounds-copy_from_slice-count : goal.slice_bounds-copy_from_slice-count
slice_bounds-copy_from_slice-count c =
    let a = c.args in
    let w = fine a.kind a.file.now a.words.now a.bytes.now _ _ c.judge.ensures c.in_ok-sizes.was in
    omega arith

pub slice_bounds-copy_from_slice-start : goal.slice_bounds-copy_from_slice-start
slice_bounds-copy_from_slice-start c =
    let a = c.args in
    let w = fine a.kind a.file.now a.words.now a.bytes.now _ _ c.judge.ensures c.in_ok-sizes.was in
    omega arith

pub copy_from_slice-requires : goal.copy_from_slice-requires
copy_from_slice-requires c =
    let a = c.args in
    let s = c.in_ok-sizes.sizes in
    let w = fine a.kind a.file.now a.words.now a.bytes.now _ _ c.judge.ensures c.in_ok-sizes.was in
    let from = a.kind.head + s.words * 4 in
    length-take-le s.bytes a.bytes.now (omega arith)
    ∙ sym (ap length (part_all a.file.now from) ∙ length-drop from a.file.now ∙ omega arith)

pub returns : goal.returns
returns c =
    let a = c.args in
    let s = c.in_ok-sizes.sizes in
    let w = fine a.kind a.file.now a.words.now a.bytes.now _ _ c.judge.ensures c.in_ok-sizes.was in
    let from = a.kind.head + s.words * 4 in
    let stored = drop from a.file.now in
    let e : c.copy_from_slice.new.self ≡ stored = c.copy_from_slice.ensures.after ∙ part_all a.file.now from in
    let n : s.bytes ≡ length stored = omega (arith, length-drop from a.file.now) in
    let front : c.copy_from_slice.new.self ++ drop s.bytes a.bytes.now ≡ splice a.bytes.now 0 stored = rw (e, n) (sym (splice_front a.bytes.now stored)) in
    rw (front, c.read_words.ensures)
    (read_whole (record { magic = a.kind.magic; head = a.kind.head }) a.file.now a.words.now a.bytes.now s (omega arith) (sym c.judge.ensures ∙ c.in_ok-sizes.was))
