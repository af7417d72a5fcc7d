-- `image::full_name::is_path_beneath` meets its contract: the name is the last segment, and what stands in front of it is compared one
-- level up. Assumes nothing.
use native.Mathlib.Omega.{arith}
use mathlib.Core.Path.{sym, ◌∙◌}
use borrow.Author.Tests.{eqb-true, eqb-false}
use Rattle.lists.proofs.StdLaws.{same_pointwise}
use Rattle.image.specs.Schema.{schema}
use Rattle.image.specs.Links.{message_up}
use Rattle.image.specs.Climb.{name_of, message_above}
use Rattle.image.proofs.PathLaws.{step, no_step, joined_nameless, joined_alone, joined-not, joined-front}
use Rattle.image.proofs.full_name.+is_path_beneath.Goals as goal

pub returns-then-is_empty : goal.returns-then-is_empty
returns-then-is_empty t c =
    let a = c.args in
    c.is_empty-then-is_empty.ensures ∙ joined_nameless a.wanted.now (message_above (schema c.args.image.now) a.links.now a.levels a.up) a.name.now (eqb-true _ 0 (sym c.is_empty.ensures ∙ c.if-is_empty.true))

pub returns-then-above-eq0 : goal.returns-then-above-eq0
returns-then-above-eq0 t c =
    let a = c.args in
    c.eq.ensures ∙ same_pointwise a.wanted.now a.name.now ∙ joined_alone a.wanted.now (message_above (schema c.args.image.now) a.links.now a.levels a.up) a.name.now (no_step (name_of (schema c.args.image.now) c.args.links.now) (message_up c.args.links.now) c.args.levels c.args.up c.named_up-above.ensures c.if-above-eq0.true)

pub returns-then-not-ends_in : goal.returns-then-not-ends_in
returns-then-not-ends_in t c =
    let a = c.args in
    let rising = step (name_of (schema c.args.image.now) c.args.links.now) (message_up c.args.links.now) c.args.levels c.args.up c.named_up-above.ensures c.if-above-eq0.false in
    joined-not a.wanted.now (message_above (schema c.args.image.now) a.links.now a.levels a.up) a.name.now rising.given (eqb-false _ 0 (sym c.is_empty.ensures ∙ c.if-is_empty.false)) (sym c.ends_in.ensures ∙ c.if-not-ends_in.true)

pub overflow_sub-levels : goal.overflow_sub-levels
overflow_sub-levels t c = let rising = step (name_of (schema c.args.image.now) c.args.links.now) (message_up c.args.links.now) c.args.levels c.args.up c.named_up-above.ensures c.if-above-eq0.false in omega (arith, rising.levels)

pub is_path_beneath-requires : goal.is_path_beneath-requires
is_path_beneath-requires t c = let rising = step (name_of (schema c.args.image.now) c.args.links.now) (message_up c.args.links.now) c.args.levels c.args.up c.named_up-above.ensures c.if-above-eq0.false in (omega (arith, c.decreases, rising.levels), tt)

pub returns : goal.returns
returns t c =
    let a = c.args in
    let rising = step (name_of (schema c.args.image.now) c.args.links.now) (message_up c.args.links.now) c.args.levels c.args.up c.named_up-above.ensures c.if-above-eq0.false in
    rw (c.message_up-over.ensures, c.message_name-outer.ensures) at c.is_path_beneath.ensures
    ∙ joined-front a.wanted.now (message_above (schema c.args.image.now) a.links.now a.levels a.up) a.name.now rising.given (eqb-false _ 0 (sym c.is_empty.ensures ∙ c.if-is_empty.false)) rising.is (sym c.ends_in.ensures ∙ c.if-not-ends_in.false)
