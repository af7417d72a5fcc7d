-- `image::flat::levels_within` meets its contract: the depth falls at each call, and the rows before row k of the range are within it.
-- Assumes nothing.
use mathlib.Core.Path.{◌≡◌, refl, sym, ap, ◌∙◌}
use mathlib.Core.Bool.{Bool}
use Prim.Native.Nat.{ℕ, ◌+◌, ◌-◌}
use native.Mathlib.Omega.{arith}
use Rattle.lists.specs.Lists.{span, all}
use Rattle.lists.proofs.SpanLaws.{all_span_end}
use Rattle.image.specs.Schema.{Schema, schema}
use Rattle.image.specs.Flat.{rows_of, within}
use Rattle.image.specs.declared.rows.Range.{Range}
use Rattle.image.proofs.SchemaLaws.{messages_in, nested_in}
use Rattle.image.proofs.DepthLaws.{within_none, within_step, all_rows_more, all_rows_fail}
use Rattle.image.proofs.flat.+levels_within.Goals as goal

-- what the call for a row's nested messages answers says whether the row is within the depth
judged : (g : Schema) (depth row : ℕ) (inner : Range) (called : Bool)
    → (depth ≡ 0 → ⊥)
    → inner ≡ g.nested row
    → called ≡ all (within (depth - 1) g) (span inner.first inner.count)
    → within depth g row ≡ called
judged g depth row inner called deep is answered =
    within_step g depth row deep ∙ sym (answered ∙ ap (λ (x : Range). all (within (depth - 1) g) (rows_of x)) is)

-- no level is left
pub returns-then-depth-eq0 : goal.returns-then-depth-eq0
returns-then-depth-eq0 t c = sym (within_none (schema c.args.image.now) c.args.depth c.args.g.first c.args.g.count c.if-depth-eq0.true)

pub loop-k-init : goal.loop-k-init
loop-k-init t c = all_span_end (within c.args.depth (schema c.args.image.now)) c.args.g.first 0 refl

-- the nested range lies in the section
pub levels_within-requires : goal.levels_within-requires
levels_within-requires t c =
    let a = c.args.image.now in
    let row = c.args.g.first + c.loop-k.k in
    let n = messages_in a.rows.words.now a.rows.sections a.pool.now in
    let inner = c.nested_messages-inner.ensures ∙ nested_in a.rows.words.now a.rows.sections a.pool.now row in
    let inside = c.requires.laid_out.nested-inside row (omega (arith, c.requires.count_bound, c.loop-k-test.true)) in
    let pf = ap (λ (x : Range). x.first) inner in
    let pc = ap (λ (x : Range). x.count) inner in
    (omega (arith, c.decreases, c.if-depth-eq0.false), (c.requires.laid_out, omega arith))

-- a row is too deep
pub returns-then-not-levels_within : goal.returns-then-not-levels_within
returns-then-not-levels_within t c =
    let a = c.args.image.now in
    let g = schema a in
    let row = c.args.g.first + c.loop-k.k in
    sym (all_rows_fail (within c.args.depth g) c.args.g.first c.args.g.count c.loop-k.k c.loop-k-test.true
    (judged g c.args.depth row c.nested_messages-inner.result c.levels_within.result c.if-depth-eq0.false (c.nested_messages-inner.ensures ∙ nested_in a.rows.words.now a.rows.sections a.pool.now row) c.levels_within.ensures
    ∙ c.if-not-levels_within.true))

-- the row is not
pub loop-k-preserved : goal.loop-k-preserved
loop-k-preserved t c =
    let a = c.args.image.now in
    let g = schema a in
    let row = c.args.g.first + c.loop-k.k in
    all_rows_more (within c.args.depth g) c.args.g.first c.args.g.count c.loop-k.k c.loop-k.invariant
    (judged g c.args.depth row c.nested_messages-inner.result c.levels_within.result c.if-depth-eq0.false (c.nested_messages-inner.ensures ∙ nested_in a.rows.words.now a.rows.sections a.pool.now row) c.levels_within.ensures
    ∙ c.if-not-levels_within.false)

pub returns : goal.returns
returns t c =
    let e : c.loop-k.k ≡ c.args.g.count = omega arith in
    sym (rw e at c.loop-k.invariant)
