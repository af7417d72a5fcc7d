-- `link::sight::Scope::file_by` meets its contract. Assumes nothing.
use native.Mathlib.Omega.{arith}
use mathlib.Core.Path.{sym, ◌∙◌}
use Rattle.image.specs.Places.{file_of, shelf_file}
use Rattle.link.proofs.FieldLaws.{sight_own, sight_shelved}
use Rattle.link.proofs.sight.Scope.file_by.Goals as goal

pub returns-then-word-self : goal.returns-then-word-self
returns-then-word-self c = let s = c.args.self.now in sym (sight_own (shelf_file s.shelf) s.n (file_of s.own) c.args.word c.if-word-self.true)

pub returns : goal.returns
returns c =
    let s = c.args.self.now in
    let r = c.requires in
    c.file.ensures ∙ sym (sight_shelved (shelf_file s.shelf) s.n (file_of s.own) c.args.word r.0 (omega (arith, r.1, c.if-word-self.false)))
