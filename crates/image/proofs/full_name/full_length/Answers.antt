-- `image::full_name::full_length` meets its contract. Assumes nothing.
use Prim.Native.Nat.{ℕ, ◌<◌}
use native.Mathlib.Omega.{arith}
use mathlib.Core.Path.{◌≡◌, ap}
use lib.ListN.{length, get_or}
use Rattle.image.specs.Schema.{schema_in}
use Rattle.image.specs.Climb.{path_above, message_above, joined_length}
use Rattle.image.proofs.ShortLaws.{package_short, levels_short, joined_short, full_joined}
use Rattle.image.proofs.full_name.full_length.Goals as goal

pub joined_length-n-requires : goal.joined_length-n-requires
joined_length-n-requires c = let a = c.args in
    omega (arith, c.requires, c.length_above-outer.ensures, levels_short a.image.now.rows.words.now a.image.now.rows.sections a.image.now.pool.now (λ k. let h : get_or c.held-held.result.now k 0 < 4294967296 = omega (arith, c.held-held.items_fit k) in rw c.held-held.ensures at h) a.links.now 16 a.up)

pub joined_length-requires : goal.joined_length-requires
joined_length-requires c = let a = c.args in
    let g = schema_in a.image.now.rows.words.now a.image.now.rows.sections a.image.now.pool.now in
    let words : (k : ℕ) → get_or a.image.now.rows.words.now k 0 < 4294967296 = λ k. let h : get_or c.held-held.result.now k 0 < 4294967296 = omega (arith, c.held-held.items_fit k) in rw c.held-held.ensures at h in
    let n : c.joined_length-n.result ≡ joined_length (length (message_above g a.links.now 16 a.up)) (length a.name.now) = rw (← c.length_above-outer.ensures) c.joined_length-n.ensures in
    omega (arith, c.requires, n, ap length c.package_name-package.ensures, package_short a.image.now.rows.words.now a.image.now.rows.sections a.image.now.pool.now words, levels_short a.image.now.rows.words.now a.image.now.rows.sections a.image.now.pool.now words a.links.now 16 a.up, joined_short (message_above g a.links.now 16 a.up) a.name.now)

pub returns : goal.returns
unfolding path_above
returns c = let a = c.args in
    let g = schema_in a.image.now.rows.words.now a.image.now.rows.sections a.image.now.pool.now in
    rw (full_joined g.«package» (message_above g a.links.now 16 a.up) a.name.now, ← c.length_above-outer.ensures, ← c.joined_length-n.ensures, ← c.package_name-package.ensures)
    c.joined_length.ensures
