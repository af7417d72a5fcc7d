-- `image::flat::index_messages_and_inners` meets its contract: the depth falls at each call, and each turn of the loop goes on with
-- the link rows that the definitions give. All that is said of rows and numbers is in proofs/WalkLaws. Assumes nothing.
use Rattle.image.specs.Schema.{schema_in}
use Rattle.image.proofs.WalkLaws.{Going}
use Rattle.image.proofs.flat.+index_messages_and_inners.Given as goal

-- the depth
abbrev pub decreases-index_messages_and_inners : goal.decreases-index_messages_and_inners
decreases-index_messages_and_inners l = l.depth

abbrev pub invariant-loop-k : goal.invariant-loop-k
invariant-loop-k l = Going (schema_in l.image.rows.words.now l.image.rows.sections l.image.pool.now) l.g.first l.g.count l.depth l.initial.u l.initial.links l.k l.u l.links
