-- `image::siblings::shares_name_seen` meets its contract: no item before the present one has a twin, and each has left its mark; rule 8 is that
-- none has a twin. Assumes nothing.
use Prim.Native.Nat.{ℕ, ◌+◌, ◌≤◌}
use native.Mathlib.Omega.{arith}
use mathlib.Core.Path.{◌≡◌, refl, sym, ap, ◌∙◌}
use mathlib.Core.Bool.{false}
use mathlib.Core.List.{List}
use Rattle.lists.specs.Below.{any_below}
use Rattle.lists.proofs.BelowLaws.{any_below_start, any_below_more, any_below_hit}
use Rattle.image.specs.Schema.{schema_in}
use Rattle.image.specs.FullName.{items}
use Rattle.image.specs.Chained.{Chained, siblings_share}
use Rattle.image.specs.declared.rows.Sections.{Sections}
use Rattle.image.proofs.SiblingLaws.{shares_siblings}
use Rattle.image.proofs.SeenLaws.{marked_start}
use Rattle.image.proofs.TwinLaws.{twins_clear, twins_more}
use Rattle.image.proofs.siblings.shares_name_seen.Invariants.{twin}
use Rattle.image.proofs.siblings.shares_name_seen.Goals as goal
use Rattle.image.proofs.siblings.shares_name_seen.Goals.{then-is_seen+else-has_twin, else-is_seen, Joined-is_seen}

-- the items are the rows of two sections, and few
items-are : (image : List ℕ) (s : Sections) (pool : List ℕ) → items (schema_in image s pool) ≡ s.messages.count + s.enums.count
unfolding schema_in
items-are image s pool = refl

items-few : (image : List ℕ) (s : Sections) (pool links : List ℕ) → Chained (schema_in image s pool) links → s.messages.count + s.enums.count ≤ 512
items-few image s pool links chained = rw (← items-are image s pool) chained.few

-- where the code goes on, the item of the turn has no twin before it
clear : (c : Joined-is_seen)
    → let a = c.args in
    twin a.image.now.rows.words.now a.image.now.rows.sections a.image.now.pool.now a.links.now c.loop-i.i ≡ false
clear c =
    let a = c.args in
    elim c.if-is_seen.branch [
      | then-is_seen+else-has_twin w ↦ sym w.has_twin.ensures ∙ w.if-has_twin.false
      | else-is_seen w ↦ twins_clear (schema_in a.image.now.rows.words.now a.image.now.rows.sections a.image.now.pool.now) a.links.now c.loop-i.invariant.1 c.item_key-k.result c.item_key-k.ensures (sym c.is_seen.ensures ∙ w.if-is_seen.false)
    ]

pub overflow_add-n : goal.overflow_add-n
overflow_add-n c = let a = c.args in omega (arith, items-few a.image.now.rows.words.now a.image.now.rows.sections a.image.now.pool.now a.links.now c.requires.chained)

pub loop-i-init : goal.loop-i-init
loop-i-init c = let a = c.args in (
  any_below_start (twin a.image.now.rows.words.now a.image.now.rows.sections a.image.now.pool.now a.links.now),
  marked_start a.seen.now c.requires.seen_nonzero,
)

pub returns-then-has_twin : goal.returns-then-has_twin
unfolding siblings_share
returns-then-has_twin c = let a = c.args in
    sym (shares_siblings c.requires.named c.requires.chained
    ∙ any_below_hit (items (schema_in a.image.now.rows.words.now a.image.now.rows.sections a.image.now.pool.now)) (twin a.image.now.rows.words.now a.image.now.rows.sections a.image.now.pool.now a.links.now) c.loop-i.i
    (rw (items-are a.image.now.rows.words.now a.image.now.rows.sections a.image.now.pool.now) c.loop-i-test.true) (sym c.has_twin.ensures ∙ c.if-has_twin.true))

pub loop-i-preserved : goal.loop-i-preserved
loop-i-preserved c = let a = c.args in (
  any_below_more c.loop-i.i (twin a.image.now.rows.words.now a.image.now.rows.sections a.image.now.pool.now a.links.now) c.loop-i.invariant.0 (clear (goal.at.loop-i-preserved c).Joined-is_seen),
  twins_more (schema_in a.image.now.rows.words.now a.image.now.rows.sections a.image.now.pool.now) a.links.now c.loop-i.invariant.1 c.item_key-k.result c.item_key-k.ensures _ c.see.ensures,
)

pub returns : goal.returns
unfolding siblings_share
returns c = let a = c.args in
    let e : c.loop-i.i ≡ a.image.now.rows.sections.messages.count + a.image.now.rows.sections.enums.count = omega (arith, c.loop-i.auto.i-end) in
    sym (shares_siblings c.requires.named c.requires.chained
    ∙ ap (λ (n : ℕ). any_below n (twin a.image.now.rows.words.now a.image.now.rows.sections a.image.now.pool.now a.links.now)) (items-are a.image.now.rows.words.now a.image.now.rows.sections a.image.now.pool.now ∙ sym e)
    ∙ c.loop-i.invariant.0)
