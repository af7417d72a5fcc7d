-- `link::field_index::enum_default` meets its contract. Assumes nothing.
use mathlib.Core.Path.{◌≡◌, sym, ap, ◌∙◌}
use mathlib.Core.List.{List}
use Prim.Native.Nat.{ℕ}
use Rattle.image.specs.LinkTests.{file_by}
use Rattle.image.specs.Schema.{field_of}
use Rattle.link.specs.Scope.{seen}
use Rattle.link.specs.Search.{list_of}
use Rattle.link.specs.Sight.{in_sight}
use Rattle.link.specs.Resolve.{target}
use Rattle.link.specs.Field.{value_in, value_default}
use Rattle.link.specs.declared.building.Wanted.TheVariants.{Enum}
use Rattle.link.proofs.SearchLaws.{all_below}
use Rattle.link.proofs.TargetLaws.{target-reach}
use Rattle.link.proofs.DefaultLaws.{enum_found, enum_missing}
use Rattle.link.proofs.field_index.enum_default.Goals.{After-resolve}
use Rattle.link.proofs.field_index.enum_default.Goals as goal

-- what was sought
sought : (c : After-resolve) → c.resolve.result ≡ target Enum (seen c.args.scope.now) (list_of c.args.scope.now.list) (field_of c.args.row.now c.args.texts.now).type_name
sought c = c.resolve.ensures ∙ ap (target Enum (seen c.args.scope.now) (list_of c.args.scope.now.list)) c.text_of-name.ensures

pub named_default-requires : goal.named_default-requires
named_default-requires c =
    let s = c.args.scope.now in
    target-reach s.shelf.words.now s.shelf.bytes.now s.shelf.places s.n s.own.image.now s.own.pool.now s.own.links.now (list_of s.list) (field_of c.args.row.now c.args.texts.now).type_name (all_below s.n (list_of s.list) s.below) Enum (sym (sought (goal.at.named_default-requires c).After-resolve) ∙ c.in-Some.is)

pub returns-in-Some : goal.returns-in-Some
returns-in-Some c =
    let t = c.in-Some.target in
    c.named_default.ensures
    ∙ ap (λ (x : List ℕ). value_default (value_in (file_by (in_sight (seen c.args.scope.now)) t.file) t.index x) c.args.at) c.text_of-text.ensures
    ∙ sym (enum_found (seen c.args.scope.now) (list_of c.args.scope.now.list) (field_of c.args.row.now c.args.texts.now) c.args.at (sought (goal.at.returns-in-Some c).After-resolve) t c.in-Some.is)

pub returns-in-None : goal.returns-in-None
returns-in-None c = rw c.at.ensures (sym (enum_missing (seen c.args.scope.now) (list_of c.args.scope.now.list) (field_of c.args.row.now c.args.texts.now) c.args.at (sought (goal.at.returns-in-None c).After-resolve) c.in-None.is))
