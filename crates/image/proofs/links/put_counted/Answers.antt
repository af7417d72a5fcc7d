-- `image::links::put_counted` meets its contract: the link rows of the first k oneofs are written. Assumes nothing.
use mathlib.Core.Path.{◌≡◌, refl, sym, ap, ◌∙◌}
use Prim.Native.Nat.{ℕ, ◌+◌, ◌*◌}
use native.Mathlib.Nat.{zero-add}
use native.Mathlib.Omega.{arith}
use lib.ListN.{length}
use Rattle.lists.specs.Splice.{splice}
use Rattle.lists.proofs.SpliceLaws.{splice_nil}
use Rattle.image.specs.Walk.{counted_row}
use Rattle.image.proofs.LinkLaws.{run, run_none, run_put}
use Rattle.image.proofs.links.put_counted.Goals as goal

pub loop-k-init : goal.loop-k-init
loop-k-init c = let a = c.args in (refl, sym (ap (splice a.links.now a.at) (run_none (counted_row c.args.m.0 c.args.members.now c.args.optionals.now) 0) ∙ splice_nil a.links.now a.at))

pub put_words-requires : goal.put_words-requires
put_words-requires c = let n = ap length c.oneof_link-link.ensures in
    omega (arith, c.requires, c.loop-k-test.true, c.loop-k.invariant.0)

pub loop-k-preserved : goal.loop-k-preserved
loop-k-preserved c = let a = c.args in
    let k = c.loop-k.k in
    let put = c.put_words in
    let h = c.loop-k.invariant in
    let row = c.oneof_link-link.ensures ∙ ap (counted_row c.args.m.0 c.args.members.now c.args.optionals.now) (sym (zero-add k)) in
    (put.auto.words ∙ h.0, run_put (counted_row c.args.m.0 c.args.members.now c.args.optionals.now) 4 (λ x. refl) a.links.now a.at 0 k (omega (arith, c.requires, c.loop-k-test.true)) h.1 (put.ensures ∙ ap (splice c.loop-k.links (a.at + k * 4)) row))

pub returns : goal.returns
returns c = let a = c.args in
    let e : c.loop-k.k ≡ a.n = omega (arith, c.loop-k-test.false) in
    c.loop-k.invariant.1 ∙ ap (λ (n : ℕ). splice a.links.now a.at (run (counted_row c.args.m.0 c.args.members.now c.args.optionals.now) 0 n)) e
