-- `image::oneofs::count_members` meets its contract: its loop keeps `Counting` of both lists. Assumes nothing.
use lib.ListN.{length}
use Rattle.image.proofs.MemberLaws.{Counting, joins, joins_optional}
use Rattle.image.proofs.oneofs.count_members.Given as goal

abbrev pub invariant-loop-j : goal.invariant-loop-j
invariant-loop-j l =
    Counting (length l.initial.members) (joins l.image.rows.words.now l.image.rows.sections l.image.pool.now l.g) l.members l.j × Counting (length l.initial.optionals) (joins_optional l.image.rows.words.now l.image.rows.sections l.image.pool.now l.g) l.optionals l.j
