-- `formats::words::put_words` meets its contract: what is written so far are the bytes of the first words. Assumes nothing.
use native.Mathlib.Omega.{arith}
use mathlib.Core.Path.{◌≡◌, sym, ap, ◌∙◌}
use mathlib.Core.List.{List}
use Prim.Native.Nat.{ℕ, ◌+◌, ◌*◌}
use lib.ListN.{get_or}
use lib.Seq.{take_all}
use Rattle.lists.specs.Lists.{concat_map}
use Rattle.lists.specs.Splice.{splice}
use Rattle.lists.proofs.StdLaws.{put_mid_splice}
use Rattle.lists.proofs.SpliceLaws.{splice_nil}
use Rattle.formats.specs.Words.{le32, in_bytes}
use Rattle.formats.proofs.WordLaws.{length-le32, to_le_bytes-le32, put_more}
use Rattle.formats.proofs.words.put_words.Goals as goal

pub loop-i-init : goal.loop-i-init
unfolding concat_map
loop-i-init c = sym (splice_nil c.args.out.now c.args.at)

pub loop-i-preserved : goal.loop-i-preserved
loop-i-preserved c =
    let a = c.args in
    let i = c.loop-i.i in
    let from = a.at + i * 4 in
    let word = get_or a.words.now i 0 in
    let bytes : c.copy_from_slice.new.self ≡ le32 word = c.copy_from_slice.ensures.after ∙ c.to_le_bytes.ensures ∙ to_le_bytes-le32 word in
    rw (bytes, c.loop-i.invariant)
    (put_mid_splice from _ _ (le32 word) (omega (arith, length-le32 word)) ∙ put_more a.out.now a.words.now a.at i (omega arith) (omega arith))

pub returns : goal.returns
returns c =
    let a = c.args in
    c.loop-i.invariant ∙ ap (λ (v : List ℕ). splice a.out.now a.at (in_bytes v)) (take_all c.loop-i.i a.words.now (omega arith))
