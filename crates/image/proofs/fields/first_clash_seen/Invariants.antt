-- `image::fields::first_clash_seen` meets its contract: no field before the present one clashes with an earlier one, and each
-- has left its marks. Assumes nothing.
use lib.ListN.{length}
use Rattle.image.specs.Clash.{clashes_earlier}
use Rattle.image.specs.Schema.{schema_in}
use Rattle.image.proofs.SearchLaws.{Searching}
use Rattle.image.proofs.SeenLaws.{FieldSeen, Marked}
use Rattle.image.proofs.fields.first_clash_seen.Given as goal

abbrev pub invariant-loop-j : goal.invariant-loop-j
invariant-loop-j l = Searching l.g.count (clashes_earlier (schema_in l.image.rows.words.now l.image.rows.sections l.image.pool.now) l.row.0) l.j × Marked (FieldSeen l.image.rows.words.now l.image.rows.sections l.image.pool.now l.g) (length l.initial.seen) l.seen l.j
