-- `names::bytes::is_identifier_list` meets its contract: a machine that reads a byte at a time answers for the whole. Assumes nothing.
use Prim.Native.Nat.{◌+◌}
use mathlib.Core.Path.{sym, ◌∙◌}
use borrow.Author.Tests.{ne_eqb, eq-eqb}
use lib.ListN.{get_or, drop}
use Rattle.names.proofs.BytesLaws.{list_from, list_at, list_end, list_lower, list_whole}
use Rattle.names.proofs.bytes.is_identifier_list.Goals as goal
use Rattle.names.proofs.bytes.is_identifier_list.Goals.{then-is_ascii_lowercase, else-is_ascii_lowercase+then-fresh+else-not-starts_identifier, else-is_ascii_lowercase+else-fresh+then-b-eq46, else-is_ascii_lowercase+else-fresh+else-b-eq46+else-not-continues_identifier}

pub loop-b-init : goal.loop-b-init
loop-b-init c = list_whole _

pub returns-then-not-starts_identifier : goal.returns-then-not-starts_identifier
unfolding list_from
returns-then-not-starts_identifier c = simp (c.loop-b.invariant, list_at, c.loop-b-test.true, c.if-fresh.true, ← c.starts_identifier.ensures, c.if-not-starts_identifier.true)

pub returns-then-not-continues_identifier : goal.returns-then-not-continues_identifier
unfolding list_from
returns-then-not-continues_identifier c = simp (c.loop-b.invariant, list_at, c.loop-b-test.true, c.if-fresh.false, ne_eqb _ _ c.if-b-eq46.false, ← c.continues_identifier.ensures, c.if-not-continues_identifier.true)

pub loop-b-preserved : goal.loop-b-preserved
unfolding list_from
loop-b-preserved c =
    let s = c.args.s.now in
    let l = c.loop-b in
    let h = c.loop-b-test.true in
    elim c.if-is_ascii_lowercase.branch [
      | then-is_ascii_lowercase w ↦ rw (l.invariant, list_at, h, w.fresh-is) (list_lower l.fresh (get_or s l.b-index 0) (drop (l.b-index + 1) s) (sym c.is_ascii_lowercase.ensures.value ∙ w.if-is_ascii_lowercase.true))
      | else-is_ascii_lowercase+then-fresh+else-not-starts_identifier w ↦ simp (l.invariant, list_at, h, w.if-fresh.true, ← w.starts_identifier.ensures, w.if-not-starts_identifier.false, w.fresh-is)
      | else-is_ascii_lowercase+else-fresh+then-b-eq46 w ↦ simp (l.invariant, list_at, h, w.if-fresh.false, eq-eqb _ _ w.if-b-eq46.true, w.fresh-is)
      | else-is_ascii_lowercase+else-fresh+else-b-eq46+else-not-continues_identifier w ↦ simp (l.invariant, list_at, h, w.if-fresh.false, ne_eqb _ _ w.if-b-eq46.false, ← w.continues_identifier.ensures, w.if-not-continues_identifier.false, w.fresh-is)
    ]

pub returns : goal.returns
returns c = simp (c.loop-b.invariant, list_end, c.loop-b-test.false)
