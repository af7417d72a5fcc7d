-- What the struct of a scope says of a sight: its shelved files and its own file. Assumes nothing.
use Rattle.link.specs.Sight.{Sight, seen_with}
use Rattle.link.specs.declared.sight.Scope.{Scope}

abbrev pub seen : Scope → Sight
seen scope = seen_with scope.shelf scope.n scope.own
