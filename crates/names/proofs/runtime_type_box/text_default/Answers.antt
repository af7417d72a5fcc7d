-- `names::runtime_type_box::text_default` meets its contract. Assumes nothing.
use mathlib.Core.Path.{refl}
use Rattle.names.specs.Default.{default_of}
use Rattle.names.proofs.runtime_type_box.text_default.Goals as goal

pub returns : goal.returns
unfolding default_of
returns c = refl
