-- `link::is_initialized_is_always_true::push_rows` meets its contract: the references of the first k rows are put. Assumes nothing.
use mathlib.Core.Path.{◌≡◌}
use native.Mathlib.Omega.{arith}
use Rattle.link.proofs.EdgeLaws.{rows_none, rows_next}
use Rattle.link.proofs.is_initialized_is_always_true.push_rows.Goals as goal

pub loop-k-init : goal.loop-k-init
loop-k-init c = let a = c.args in rows_none a.home a.own a.fields.now a.first a.edges.now a.m a.n

pub push_row-to-requires-clause-m_in_bounds : goal.push_row-to-requires-clause-m_in_bounds
push_row-to-requires-clause-m_in_bounds c = omega (arith, c.requires.count_in_bounds, c.loop-k.auto.edges, c.loop-k.invariant.few, c.loop-k-test.true)

pub loop-k-preserved : goal.loop-k-preserved
loop-k-preserved c = let a = c.args in rows_next a.home a.own a.fields.now a.first c.loop-k.k c.loop-k.invariant c.field_row_at-row.ensures c.push_row-to.ensures

pub returns : goal.returns
returns c = let e : c.loop-k.k ≡ c.args.count = omega (arith, c.loop-k.auto.k-end, c.loop-k-test.false) in rw e at c.loop-k.invariant
