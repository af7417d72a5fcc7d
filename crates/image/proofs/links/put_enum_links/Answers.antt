-- `image::links::put_enum_links` meets its contract: the link rows of the first k enums are written. Assumes nothing.
use mathlib.Core.Path.{◌≡◌, refl, sym, ap, ◌∙◌}
use native.Mathlib.Omega.{arith}
use Rattle.lists.specs.Splice.{splice}
use Rattle.lists.proofs.SpliceLaws.{splice_nil}
use Rattle.image.specs.Links.{enum_link}
use Rattle.image.proofs.LinkLaws.{run_none, run_put}
use Rattle.image.proofs.links.put_enum_links.Goals as goal

pub loop-k-init : goal.loop-k-init
loop-k-init c = let a = c.args in (refl, sym (ap (splice a.links.now a.at) (run_none (enum_link a.outside) a.g.first) ∙ splice_nil a.links.now a.at))

pub overflow_add-link : goal.overflow_add-link
overflow_add-link c = omega (arith, c.requires.count_bound, c.loop-k-test.true)

pub put_words-requires : goal.put_words-requires
put_words-requires c = omega (arith, c.requires.enum_link_width_in_bounds, c.loop-k-test.true, c.loop-k.invariant.0)

pub loop-k-preserved : goal.loop-k-preserved
loop-k-preserved c = let a = c.args in
    let put = c.put_words in
    let h = c.loop-k.invariant in
    (put.auto.words ∙ h.0, run_put (enum_link a.outside) 2 (λ x. refl) a.links.now a.at a.g.first c.loop-k.k (omega (arith, c.requires.enum_link_width_in_bounds, c.loop-k-test.true)) h.1 put.ensures)

pub returns : goal.returns
returns c = let e : c.loop-k.k ≡ c.args.g.count = omega arith in rw e at c.loop-k.invariant.1
