-- `image::oneofs::count_members` meets its contract: its loop keeps `Counting` of both lists. Assumes nothing.
use Prim.Native.Nat.{ℕ, ◌+◌}
use native.Mathlib.Omega.{arith}
use mathlib.Core.Path.{◌≡◌, refl, ap, ◌∙◌}
use lib.Dec.{eqb}
use lib.ListN.{length}
use Rattle.lists.specs.Lists.{table}
use Rattle.image.specs.Members.{member_count, optional_members}
use Rattle.image.specs.Schema.{field_row, schema_in}
use Rattle.image.specs.Words.{word_at}
use Rattle.image.proofs.MemberLaws.{counting_end, counting_more, counting_room, counting_start, joins, joins_optional, members_are, optional_joins, optionals_are}
use Rattle.image.proofs.OwnerLaws.{filled_free}
use Rattle.image.proofs.oneofs.count_members.Goals as goal

pub loop-j-init : goal.loop-j-init
loop-j-init c = let a = c.args in
    let g = c.fields_of-g.result in (
      counting_start _ (joins a.image.now.rows.words.now a.image.now.rows.sections a.image.now.pool.now g) c.fill.new.self refl (filled_free _ (c.fill.ensures.after (λ y e. e))),
      counting_start _ (joins_optional a.image.now.rows.words.now a.image.now.rows.sections a.image.now.pool.now g) c.fill-2.new.self refl (filled_free _ (c.fill-2.ensures.after (λ y e. e))),
    )

pub join-requires : goal.join-requires
join-requires c = counting_room c.loop-j.invariant.0 (omega arith)

pub join-requires-in-loop-j : goal.join-requires-in-loop-j
join-requires-in-loop-j c = counting_room c.loop-j.invariant.1 (omega arith)

pub loop-j-preserved : goal.loop-j-preserved
loop-j-preserved c = let a = c.args in
    let f = field_row a.image.now.rows.words.now a.image.now.rows.sections (c.fields_of-g.result.first + c.loop-j.j) in (
      counting_more c.loop-j.invariant.0 c.join.auto.counts c.join.ensures (λ k. rw c.nth_field-f.ensures),
      counting_more c.loop-j.invariant.1 c.join-in-loop-j.auto.counts c.join-in-loop-j.ensures
          (λ k. rw (c.optional_oneof.ensures, c.nth_field-f.ensures) (optional_joins (eqb (word_at f 15) 1) (word_at f 14) k)),
    )

pub returns : goal.returns
returns c =
    let a = c.args in
    let g = c.fields_of-g.result in
    let l = c.loop-j in
    let e : l.j ≡ g.count = omega (arith, c.loop-j.auto.j-end) in record { members_after = counting_end l.invariant.0 g.count e ∙ members_are a.image.now.rows.words.now a.image.now.rows.sections a.image.now.pool.now a.row.0 (length c.fill.new.self) g c.fields_of-g.ensures ∙ ap (λ (m : ℕ). table m (member_count (schema_in a.image.now.rows.words.now a.image.now.rows.sections a.image.now.pool.now) a.row.0)) c.fill.auto.self; optionals_after = counting_end l.invariant.1 g.count e ∙ optionals_are a.image.now.rows.words.now a.image.now.rows.sections a.image.now.pool.now a.row.0 (length c.fill-2.new.self) g c.fields_of-g.ensures ∙ ap (λ (m : ℕ). table m (optional_members (schema_in a.image.now.rows.words.now a.image.now.rows.sections a.image.now.pool.now) a.row.0)) c.fill-2.auto.self }
