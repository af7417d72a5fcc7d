-- `link::file_index::index_messages` meets its contract: the messages below m are linked, and the rows of their fields written. Assumes nothing.
use Rattle.link.specs.Scope.{seen}
use Rattle.link.specs.Search.{list_of}
use Rattle.link.proofs.FileIndexLaws.{Indexing}
use Rattle.link.proofs.file_index.index_messages.Given as goal

abbrev pub invariant-loop-m : goal.invariant-loop-m
invariant-loop-m l = Indexing (seen l.scope) (list_of l.scope.list) l.initial.rows l.m l.rows
