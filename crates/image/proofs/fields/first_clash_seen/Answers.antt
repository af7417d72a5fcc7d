-- `image::fields::first_clash_seen` meets its contract: no field before the present one clashes with an earlier one, and each
-- has left its marks. Assumes nothing.
use mathlib.Core.Path.{◌≡◌, sym, ◌∙◌}
use mathlib.Core.Bool.{false}
use Rattle.image.specs.Clash.{clashes_earlier, first_clash}
use Rattle.image.specs.Schema.{schema_in}
use Rattle.image.specs.Seen.{keys_of}
use Rattle.image.proofs.FieldLaws.{first_clash_is, says}
use Rattle.image.proofs.SearchLaws.{first_end, first_hit, first_in, searching_more, searching_start}
use Rattle.image.proofs.SeenLaws.{marked_start, seeing_clear, seeing_more}
use Rattle.image.proofs.fields.first_clash_seen.Goals as goal
use Rattle.image.proofs.fields.first_clash_seen.Goals.{then-any_seen+else-clashes_earlier, else-any_seen, After-fields_of-g, After-keys_of-k, Joined-any_seen}

whole : (c : After-fields_of-g)
    → let a = c.args in
    first_clash (schema_in a.image.now.rows.words.now a.image.now.rows.sections a.image.now.pool.now) a.row.0 ≡ first_in c.fields_of-g.result.count (clashes_earlier (schema_in a.image.now.rows.words.now a.image.now.rows.sections a.image.now.pool.now) a.row.0)
whole c =
    let a = c.args in
    first_clash_is a.image.now.rows.words.now a.image.now.rows.sections a.image.now.pool.now a.row.0 c.fields_of-g.result c.fields_of-g.ensures

-- the keys of a turn are those of its field
keys : (c : After-keys_of-k)
    → let a = c.args in
    c.keys_of-k.result ≡ keys_of (says a.image.now.rows.words.now a.image.now.rows.sections a.image.now.pool.now c.fields_of-g.result c.loop-j.j)
keys c = rw c.nth_field.ensures at c.keys_of-k.ensures

-- where the code goes on, the field of the turn clashes with no earlier one
clear : (c : Joined-any_seen)
    → let a = c.args in
    clashes_earlier (schema_in a.image.now.rows.words.now a.image.now.rows.sections a.image.now.pool.now) a.row.0 c.loop-j.j ≡ false
clear c =
    let a = c.args in
    elim c.if-any_seen.branch [
      | then-any_seen+else-clashes_earlier w ↦ sym w.clashes_earlier.ensures ∙ w.if-clashes_earlier.false
      | else-any_seen w ↦ seeing_clear a.image.now.rows.words.now a.image.now.rows.sections a.image.now.pool.now c.fields_of-g.result c.loop-j.invariant.1 c.keys_of-k.result (keys (goal.at.Joined-any_seen c).After-keys_of-k) a.row.0 c.fields_of-g.ensures (sym c.any_seen.ensures ∙ w.if-any_seen.false)
    ]

pub loop-j-init : goal.loop-j-init
loop-j-init c = let a = c.args in
    (searching_start _ (clashes_earlier (schema_in a.image.now.rows.words.now a.image.now.rows.sections a.image.now.pool.now) a.row.0), marked_start a.seen.now c.requires)

pub returns-then-clashes_earlier : goal.returns-then-clashes_earlier
returns-then-clashes_earlier c = first_hit c.loop-j.invariant.0 c.loop-j-test.true (sym c.clashes_earlier.ensures ∙ c.if-clashes_earlier.true) ∙ sym (whole (goal.at.returns-then-clashes_earlier c).After-fields_of-g)

pub loop-j-preserved : goal.loop-j-preserved
loop-j-preserved c = let a = c.args in (
  searching_more c.loop-j.invariant.0 c.loop-j-test.true (clear (goal.at.loop-j-preserved c).Joined-any_seen),
  seeing_more a.image.now.rows.words.now a.image.now.rows.sections a.image.now.pool.now c.fields_of-g.result c.loop-j.invariant.1 c.keys_of-k.result (keys (goal.at.loop-j-preserved c).After-keys_of-k) _ c.see_all.ensures,
)

pub returns : goal.returns
returns c = first_end c.loop-j.invariant.0 c.loop-j-test.false ∙ sym (whole (goal.at.returns c).After-fields_of-g)
