-- `image::full_name::length_above` meets its contract: a level has the name of a message behind what is above that. Assumes nothing.
use Prim.Native.Nat.{ℕ, ◌-◌, ◌<◌}
use native.Mathlib.Omega.{arith}
use mathlib.Core.Path.{sym, ap, ◌∙◌}
use lib.ListN.{length, get_or}
use Rattle.image.specs.Schema.{schema_in}
use Rattle.image.specs.Links.{message_up, message_row}
use Rattle.image.specs.Climb.{name_of, message_above}
use Rattle.image.proofs.PathTexts.{concat-length}
use Rattle.image.proofs.PathLaws.{step, no_step}
use Rattle.image.proofs.ShortLaws.{name_short, levels_short}
use Rattle.image.proofs.full_name.+length_above.Goals as goal

pub returns-then-above-eq0 : goal.returns-then-above-eq0
returns-then-above-eq0 t c = sym (ap length (no_step (name_of (schema_in c.args.image.now.rows.words.now c.args.image.now.rows.sections c.args.image.now.pool.now) c.args.links.now) (message_up c.args.links.now) c.args.levels c.args.up c.named_up-above.ensures c.if-above-eq0.true))

pub overflow_sub-levels : goal.overflow_sub-levels
overflow_sub-levels t c = let rising = step (name_of (schema_in c.args.image.now.rows.words.now c.args.image.now.rows.sections c.args.image.now.pool.now) c.args.links.now) (message_up c.args.links.now) c.args.levels c.args.up c.named_up-above.ensures c.if-above-eq0.false in omega (arith, rising.levels)

pub length_above-outer-requires : goal.length_above-outer-requires
length_above-outer-requires t c = let rising = step (name_of (schema_in c.args.image.now.rows.words.now c.args.image.now.rows.sections c.args.image.now.pool.now) c.args.links.now) (message_up c.args.links.now) c.args.levels c.args.up c.named_up-above.ensures c.if-above-eq0.false in (omega (arith, c.decreases, rising.levels), omega (arith, c.requires))

pub joined_length-requires : goal.joined_length-requires
joined_length-requires t c =
    let a = c.args in
    let words : (k : ℕ) → get_or a.image.now.rows.words.now k 0 < 4294967296 = λ k. let h : get_or c.held-held.result.now k 0 < 4294967296 = omega (arith, c.held-held.items_fit k) in rw c.held-held.ensures at h in
    omega (
      arith,
      c.requires,
      c.length_above-outer.ensures,
      levels_short a.image.now.rows.words.now a.image.now.rows.sections a.image.now.pool.now words a.links.now (a.levels - 1) c.message_up-over.result,
      ap length c.message_name-name.ensures,
      name_short a.image.now.rows.words.now a.image.now.rows.sections a.image.now.pool.now words (message_row a.links.now (c.named_up-above.result - 1)),
    )

pub returns : goal.returns
returns t c =
    let a = c.args in
    let g = schema_in c.args.image.now.rows.words.now c.args.image.now.rows.sections c.args.image.now.pool.now in
    let w = c.named_up-above.result in
    let rising = step (name_of (schema_in c.args.image.now.rows.words.now c.args.image.now.rows.sections c.args.image.now.pool.now) c.args.links.now) (message_up c.args.links.now) c.args.levels c.args.up c.named_up-above.ensures c.if-above-eq0.false in
    c.joined_length.ensures
    ∙ rw (rising.is, concat-length (message_above g a.links.now (a.levels - 1) (message_up a.links.now (w - 1))) (name_of g a.links.now (w - 1)), ← c.message_name-name.ensures, ← c.message_up-over.ensures, c.length_above-outer.ensures)
