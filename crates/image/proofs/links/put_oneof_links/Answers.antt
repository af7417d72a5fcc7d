-- `image::links::put_oneof_links` meets its contract: the rows of members that are counted are those of the message. Assumes nothing.
use mathlib.Core.Path.{◌≡◌, sym, ap, ◌∙◌}
use mathlib.Core.List.{List}
use Prim.Native.Nat.{ℕ}
use native.Mathlib.Omega.{arith}
use Rattle.lists.specs.Splice.{splice}
use Rattle.lists.proofs.SpliceLaws.{splice_nil}
use Rattle.image.specs.Schema.{schema_in}
use Rattle.image.specs.Walk.{oneof_row}
use Rattle.image.specs.declared.rows.Range.{Range}
use Rattle.image.proofs.SchemaLaws.{oneofs_in_lem}
use Rattle.image.proofs.LinkLaws.{run, run_none}
use Rattle.image.proofs.OneofLaws.{counted_rows}
use Rattle.image.proofs.links.put_oneof_links.Goals as goal
use Rattle.image.proofs.links.put_oneof_links.Goals.{After-oneofs_of-g}

own : (c : After-oneofs_of-g) → c.oneofs_of-g.result.count ≡ ((schema_in c.args.image.now.rows.words.now c.args.image.now.rows.sections c.args.image.now.pool.now).oneofs_in c.args.row.0).count
own c =
    let a = c.args in
    ap (λ (x : Range). x.count) (c.oneofs_of-g.ensures ∙ oneofs_in_lem a.image.now.rows.words.now a.image.now.rows.sections a.image.now.pool.now a.row.0)

pub returns-then-g-eq0 : goal.returns-then-g-eq0
returns-then-g-eq0 c = let a = c.args in
    let row : ℕ → List ℕ = oneof_row (schema_in c.args.image.now.rows.words.now c.args.image.now.rows.sections c.args.image.now.pool.now) a.m.0 a.row.0 in
    let e : ((schema_in c.args.image.now.rows.words.now c.args.image.now.rows.sections c.args.image.now.pool.now).oneofs_in a.row.0).count ≡ 0 = omega (arith, own (goal.at.returns-then-g-eq0 c).After-oneofs_of-g, c.if-g-eq0.true) in
    sym (ap (λ (n : ℕ). splice a.links.now a.at (run row 0 n)) e ∙ ap (splice a.links.now a.at) (run_none row 0) ∙ splice_nil a.links.now a.at)

pub put_counted-requires : goal.put_counted-requires
put_counted-requires c = omega (arith, own (goal.at.put_counted-requires c).After-oneofs_of-g, c.requires.oneof_link_width_in_bounds)

pub returns : goal.returns
returns c = let put = c.put_counted in
    let count = c.count_members in
    let a = c.args in
    put.ensures
    ∙ ap (splice a.links.now a.at) (counted_rows (schema_in c.args.image.now.rows.words.now c.args.image.now.rows.sections c.args.image.now.pool.now) a.m.0 a.row.0 c.oneofs_of-g.result.count _ _ (omega (arith, own (goal.at.returns c).After-oneofs_of-g, c.requires.row_bound)) count.ensures.members_after count.ensures.optionals_after)
    ∙ ap (λ (n : ℕ). splice a.links.now a.at (run (oneof_row (schema_in c.args.image.now.rows.words.now c.args.image.now.rows.sections c.args.image.now.pool.now) a.m.0 a.row.0) 0 n)) (own (goal.at.returns c).After-oneofs_of-g)
