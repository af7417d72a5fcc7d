-- `link::is_initialized_is_always_true::push_reference` meets its contract. Assumes nothing.
use mathlib.Core.Path.{refl, sym, ◌∙◌}
use Rattle.link.proofs.EdgeLaws.{put_one}
use Rattle.link.proofs.is_initialized_is_always_true.push_reference.Goals as goal

pub returns : goal.returns
returns c = let a = c.args in
    put_one a.edges.now a.m a.home a.n a.own a.t a.word a.index
    (sym c.is_message_type.ensures ∙ c.if-not-is_message_type.false) c.if-word-own.false c.if-n-index.false c.requires.home_lt_n c.requires.m_in_bounds refl
