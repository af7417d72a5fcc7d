-- `link::field_index::index_default` meets its contract. Assumes nothing.
use mathlib.Core.Path.{sym, ◌∙◌}
use borrow.Author.Tests.{eq-eqb, ne_eqb}
use Rattle.image.specs.Schema.{field_of}
use Rattle.link.specs.Scope.{seen}
use Rattle.link.specs.Search.{list_of}
use Rattle.link.proofs.DefaultLaws.{default_absent, default_integer, default_text, default_name, default_unreadable, default_unsupported}
use Rattle.link.proofs.field_index.index_default.Goals as goal

pub returns-then-word_at-eq0 : goal.returns-then-word_at-eq0
returns-then-word_at-eq0 c = default_absent (seen c.args.scope.now) (list_of c.args.scope.now.list) (field_of c.args.row.now c.args.texts.now) c.args.at (rw c.word_at.ensures at (eq-eqb _ _ c.if-word_at-eq0.true))

pub returns-in-Ok-Integer : goal.returns-in-Ok-Integer
returns-in-Ok-Integer c = default_integer (seen c.args.scope.now) (list_of c.args.scope.now.list) (field_of c.args.row.now c.args.texts.now) c.args.at (rw c.word_at.ensures at (ne_eqb _ _ c.if-word_at-eq0.false)) c.in-Ok-Integer.w (rw c.in-Ok-Integer.field-0-is at (sym c.read_default.ensures ∙ c.in-Ok-Integer.is))

pub returns-in-Ok-Text : goal.returns-in-Ok-Text
returns-in-Ok-Text c = default_text (seen c.args.scope.now) (list_of c.args.scope.now.list) (field_of c.args.row.now c.args.texts.now) c.args.at (rw c.word_at.ensures at (ne_eqb _ _ c.if-word_at-eq0.false)) c.in-Ok-Text.w (rw c.in-Ok-Text.field-0-is at (sym c.read_default.ensures ∙ c.in-Ok-Text.is))

pub returns-in-Ok-ValueName : goal.returns-in-Ok-ValueName
returns-in-Ok-ValueName c = c.enum_default.ensures ∙ default_name (seen c.args.scope.now) (list_of c.args.scope.now.list) (field_of c.args.row.now c.args.texts.now) c.args.at (rw c.word_at.ensures at (ne_eqb _ _ c.if-word_at-eq0.false)) (rw c.in-Ok-ValueName.field-0-is at (sym c.read_default.ensures ∙ c.in-Ok-ValueName.is))

pub returns-in-Err-Unreadable : goal.returns-in-Err-Unreadable
returns-in-Err-Unreadable c = rw c.at.ensures (default_unreadable (seen c.args.scope.now) (list_of c.args.scope.now.list) (field_of c.args.row.now c.args.texts.now) c.args.at (rw c.word_at.ensures at (ne_eqb _ _ c.if-word_at-eq0.false)) (rw c.in-Err-Unreadable.field-0-is at (sym c.read_default.ensures ∙ c.in-Err-Unreadable.is)))

pub returns-in-Err-Unsupported : goal.returns-in-Err-Unsupported
returns-in-Err-Unsupported c = rw c.at-in-Err-Unsupported.ensures (default_unsupported (seen c.args.scope.now) (list_of c.args.scope.now.list) (field_of c.args.row.now c.args.texts.now) c.args.at (rw c.word_at.ensures at (ne_eqb _ _ c.if-word_at-eq0.false)) (rw c.in-Err-Unsupported.field-0-is at (sym c.read_default.ensures ∙ c.in-Err-Unsupported.is)))
