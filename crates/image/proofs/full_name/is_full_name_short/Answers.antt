-- `image::full_name::is_full_name_short` meets its contract. Assumes nothing.
use native.Mathlib.Omega.{arith}
use mathlib.Core.Path.{ap}
use lib.ListN.{length, get_or}
use Prim.Native.Nat.{◌<◌}
use Rattle.std.proofs.Common.{rules, tests}
use Rattle.image.specs.FullName.{full_name}
use Rattle.image.proofs.ShortLaws.{item_name_short}
use Rattle.image.proofs.full_name.is_full_name_short.Goals as goal

pub full_length-requires : goal.full_length-requires
full_length-requires c = let a = c.args in
    omega (arith, ap length c.item_name-name.ensures, item_name_short a.image.now.rows.words.now a.image.now.rows.sections a.image.now.pool.now (λ k. let h : get_or c.held-held.result.now k 0 < 4294967296 = omega (arith, c.held-held.items_fit k) in rw c.held-held.ensures at h) a.links.now a.i)

pub returns : goal.returns
unfolding full_name
returns c = rw (← c.item_up-up.ensures, ← c.item_name-name.ensures, ← c.full_length.ensures) (search (rules, tests))
