-- `link::file_lookup::flat_field` meets its contract. Assumes nothing.
use mathlib.Core.Path.{sym, ap, ◌∙◌}
use Rattle.link.specs.Lookup.{first_field_word, flat_field}
use Rattle.link.proofs.FileLookupLaws.{field_at}
use Rattle.link.proofs.file_lookup.flat_field.Goals as goal

pub returns : goal.returns
returns c = let a = c.args in
    field_at a.links.now a.m.0 c.in_ok-found.field-0 a.fields c.message_link_row-link.ensures c.sum_below.ensures
    ∙ sym (ap (flat_field a.fields (first_field_word a.links.now a.m.0)) c.in_ok-found.was)
