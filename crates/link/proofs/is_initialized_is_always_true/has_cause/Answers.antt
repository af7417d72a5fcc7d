-- `link::is_initialized_is_always_true::has_cause` meets its contract. Assumes nothing.
use Rattle.image.specs.Schema.{schema}
use Rattle.image.specs.Places.{shelf_files}
use Rattle.link.proofs.CauseLaws.{own-here, fields_here}
use Rattle.link.proofs.is_initialized_is_always_true.has_cause.Goals as goal

pub returns-then-has_own_cause : goal.returns-then-has_own_cause
returns-then-has_own_cause c = let a = c.args in
    own-here (schema a.image.now) c.requires.indexed a.m.0 c.requires.m_bound c.message_link_row-link.ensures (shelf_files a.shelf.now a.n) a.fields.now c.has_own_cause.ensures c.if-has_own_cause.true

pub returns : goal.returns
returns c = let a = c.args in
    fields_here (schema a.image.now) c.requires.indexed a.m.0 c.requires.m_bound c.message_link_row-link.ensures (shelf_files a.shelf.now a.n) a.fields.now c.has_own_cause.ensures c.if-has_own_cause.false c.rows_refer_marked.ensures
