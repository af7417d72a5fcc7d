-- `link::field_index::index_repeated` meets its contract. Assumes nothing.
use mathlib.Core.Path.{sym, ap, ◌∙◌}
use Rattle.image.specs.Record.{File}
use Rattle.image.specs.Verdict.{first}
use Rattle.link.specs.Field.{entry_in}
use Rattle.link.proofs.field_index.index_repeated.Goals as goal

pub returns-then-not-is_message_type : goal.returns-then-not-is_message_type
unfolding first
returns-then-not-is_message_type c = rw (sym c.is_message_type.ensures ∙ c.if-not-is_message_type.true)

pub returns-then-not-entry_in : goal.returns-then-not-entry_in
unfolding first
returns-then-not-entry_in c =
    rw (sym c.is_message_type.ensures ∙ c.if-not-is_message_type.false, sym (c.entry_in.ensures ∙ ap (λ (x : File). entry_in x c.args.own.index) c.file_by.ensures) ∙ c.if-not-entry_in.true)
