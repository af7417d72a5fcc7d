-- `link::field_index::index_extendee` meets its contract. Assumes nothing.
use mathlib.Core.Path.{◌≡◌, sym, ap, ◌∙◌}
use Rattle.lists.specs.Lists.{is_empty}
use Rattle.lists.proofs.StdLaws.{empty_length}
use Rattle.image.specs.Schema.{field_of}
use Rattle.link.specs.Scope.{seen}
use Rattle.link.specs.Search.{list_of}
use Rattle.link.specs.Resolve.{target}
use Rattle.link.specs.declared.building.Wanted.TheVariants.{Message}
use Rattle.link.proofs.LinkedLaws.{extendee_absent, extendee_none, extendee_found, extendee_missing}
use Rattle.link.proofs.field_index.index_extendee.Goals.{After-is_empty, After-resolve}
use Rattle.link.proofs.field_index.index_extendee.Goals as goal

-- whether there is one
empty : (c : After-is_empty) → c.is_empty.result ≡ is_empty (field_of c.args.row.now c.args.texts.now).extendee
empty c = c.is_empty.ensures ∙ empty_length _ ∙ ap is_empty c.text_of-name.ensures

-- what was sought
sought : (c : After-resolve) → c.resolve.result ≡ target Message (seen c.args.scope.now) (list_of c.args.scope.now.list) (field_of c.args.row.now c.args.texts.now).extendee
sought c = c.resolve.ensures ∙ ap (target Message (seen c.args.scope.now) (list_of c.args.scope.now.list)) c.text_of-name.ensures

pub returns-then-file : goal.returns-then-file
returns-then-file c = rw c.at.ensures (extendee_absent (seen c.args.scope.now) (list_of c.args.scope.now.list) (field_of c.args.row.now c.args.texts.now) c.args.file c.args.at (sym (empty (goal.at.returns-then-file c).After-is_empty) ∙ c.if-is_empty.true) c.if-file.true)

pub returns-then-is_empty : goal.returns-then-is_empty
returns-then-is_empty c = extendee_none (seen c.args.scope.now) (list_of c.args.scope.now.list) (field_of c.args.row.now c.args.texts.now) c.args.file c.args.at (sym (empty (goal.at.returns-then-is_empty c).After-is_empty) ∙ c.if-is_empty.true) c.if-file.false

pub returns-in-Some : goal.returns-in-Some
returns-in-Some c =
    let r = goal.at.returns-in-Some c in
    extendee_found (seen c.args.scope.now) (list_of c.args.scope.now.list) (field_of c.args.row.now c.args.texts.now) c.args.file c.args.at (sym (empty r.After-is_empty) ∙ c.if-is_empty.false) (sought r.After-resolve) c.in-Some.target c.in-Some.is

pub returns-in-None : goal.returns-in-None
returns-in-None c =
    let r = goal.at.returns-in-None c in
    rw c.at-in-None.ensures (extendee_missing (seen c.args.scope.now) (list_of c.args.scope.now.list) (field_of c.args.row.now c.args.texts.now) c.args.file c.args.at (sym (empty r.After-is_empty) ∙ c.if-is_empty.false) (sought r.After-resolve) c.in-None.is)
