-- `image::full_name::is_enum_name_short` meets its contract. Assumes nothing.
use native.Mathlib.Omega.{arith}
use mathlib.Core.Path.{ap}
use lib.ListN.{length, get_or}
use Prim.Native.Nat.{◌<◌}
use Rattle.std.proofs.Common.{rules, tests}
use Rattle.image.specs.Schema.{schema}
use Rattle.image.specs.Links.{enum_row}
use Rattle.image.proofs.ItemLaws.{enum_full_as}
use Rattle.image.proofs.ShortLaws.{enum_name_short}
use Rattle.image.proofs.full_name.is_enum_name_short.Goals as goal

pub full_length-requires : goal.full_length-requires
full_length-requires c = let a = c.args in
    omega (arith, ap length c.enum_name-name.ensures, enum_name_short a.image.now.rows.words.now a.image.now.rows.sections a.image.now.pool.now (λ k. let h : get_or c.held-held.result.now k 0 < 4294967296 = omega (arith, c.held-held.items_fit k) in rw c.held-held.ensures at h) (enum_row (schema a.image.now) a.links.now a.e.0))

pub returns : goal.returns
returns c = rw (enum_full_as (schema c.args.image.now) c.args.links.now c.args.e.0, ← c.enum_up-up.ensures, ← c.enum_name-name.ensures, ← c.full_length.ensures) (search (rules, tests))
