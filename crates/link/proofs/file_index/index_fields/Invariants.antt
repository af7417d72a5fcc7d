-- `link::file_index::index_fields` meets its contract: the first j fields are linked, and their rows written. Assumes nothing.
use Rattle.link.specs.Scope.{seen}
use Rattle.link.specs.Search.{list_of}
use Rattle.link.proofs.FileIndexLaws.{Linking}
use Rattle.link.proofs.file_index.index_fields.Given as goal

abbrev pub invariant-loop-j : goal.invariant-loop-j
invariant-loop-j l = Linking (seen l.scope) (list_of l.scope.list) l.file l.container l.g.first l.g.count l.at l.initial.rows l.j l.rows
