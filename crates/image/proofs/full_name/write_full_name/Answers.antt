-- `image::full_name::write_full_name` meets its contract: the own name, joined with what leads to it, which was written first. Assumes nothing.
use Prim.Native.Nat.{◌≤◌, ◌<◌}
use native.Mathlib.Omega.{arith}
use mathlib.Core.Path.{◌≡◌, sym, ap, ◌∙◌}
use mathlib.Core.List.{[]}
use lib.ListN.{length, get_or}
use borrow.Author.Tests.{eqb-true, eqb-false}
use Rattle.lists.proofs.SpliceLaws.{fronted_short}
use Rattle.names.specs.Package.{concat_paths}
use Rattle.names.proofs.PackageLaws.{front_fits, front_short, fronted_nil}
use Rattle.image.specs.Schema.{schema_in}
use Rattle.image.specs.FullName.{full_name, item_name, item_up}
use Rattle.image.specs.Climb.{message_above, lead}
use Rattle.image.proofs.ItemLaws.{full_none, full_lead}
use Rattle.image.proofs.ShortLaws.{item_name_short}
use Rattle.image.proofs.WriteLaws.{concat_le, front_answer_lem, front-written}
use Rattle.image.proofs.full_name.write_full_name.Goals as goal
use Rattle.image.proofs.full_name.write_full_name.Goals.{After-full_length, Else-is_empty}

-- the length that was found
found : (c : After-full_length) → c.full_length.result ≡ length (full_name (schema_in c.args.image.now.rows.words.now c.args.image.now.rows.sections c.args.image.now.pool.now) c.args.links.now c.args.i)
unfolding full_name
found c = rw (← c.item_up-up.ensures, ← c.item_name-name.ensures) c.full_length.ensures

-- the own name is given, and there is room for what leads to it and for itself
given : (c : Else-is_empty) → 0 < length (item_name (schema_in c.args.image.now.rows.words.now c.args.image.now.rows.sections c.args.image.now.pool.now) c.args.links.now c.args.i)
given c = omega (arith, ap length c.item_name-name.ensures, eqb-false _ 0 (sym c.is_empty.ensures ∙ c.if-is_empty.false))

room : (c : Else-is_empty)
    → let a = c.args in
    let g = schema_in a.image.now.rows.words.now a.image.now.rows.sections a.image.now.pool.now in
    length (concat_paths (lead g.«package» (message_above g a.links.now 16 (item_up g a.links.now a.i))) (item_name g a.links.now a.i)) ≤ length a.out.now
room c =
    let a = c.args in
    rw (← full_lead (schema_in a.image.now.rows.words.now a.image.now.rows.sections a.image.now.pool.now) a.links.now a.i (given c)) (omega (arith, found (goal.at.Else-is_empty c).After-full_length, c.if-out-full_length.false))

pub full_length-requires : goal.full_length-requires
full_length-requires c = let a = c.args in
    omega (arith, ap length c.item_name-name.ensures, item_name_short a.image.now.rows.words.now a.image.now.rows.sections a.image.now.pool.now (λ k. let h : get_or c.held-held.result.now k 0 < 4294967296 = omega (arith, c.held-held.items_fit k) in rw c.held-held.ensures at h) a.links.now a.i)

pub returns-then-out-full_length : goal.returns-then-out-full_length
returns-then-out-full_length c =
    let a = c.args in
    let f = full_name (schema_in a.image.now.rows.words.now a.image.now.rows.sections a.image.now.pool.now) a.links.now a.i in
    let h : length a.out.now < length f = omega (arith, found (goal.at.returns-then-out-full_length c).After-full_length, c.if-out-full_length.true) in
    record { value = sym (front_short a.out.now f h); out_after = sym (fronted_short a.out.now f h) }

pub returns-then-is_empty : goal.returns-then-is_empty
returns-then-is_empty c =
    let a = c.args in
    let g = schema_in a.image.now.rows.words.now a.image.now.rows.sections a.image.now.pool.now in
    let e = full_none g a.links.now a.i (sym (ap length c.item_name-name.ensures) ∙ eqb-true _ 0 (sym c.is_empty.ensures ∙ c.if-is_empty.true)) in
    record { value = rw e (sym (front_fits a.out.now [] (omega arith))); out_after = rw e (sym (fronted_nil a.out.now)) }

pub write_lead-requires : goal.write_lead-requires
write_lead-requires c = let a = c.args in
    let g = schema_in a.image.now.rows.words.now a.image.now.rows.sections a.image.now.pool.now in
    let l = lead g.«package» (message_above g a.links.now 16 (item_up g a.links.now a.i)) in
    let h : length l ≤ length a.out.now = omega (arith, room (goal.at.write_lead-requires c).Else-is_empty, concat_le l (item_name g a.links.now a.i) (given (goal.at.write_lead-requires c).Else-is_empty)) in
    rw c.item_up-up.ensures h

pub returns : goal.returns
returns c =
    let a = c.args in
    let g = schema_in a.image.now.rows.words.now a.image.now.rows.sections a.image.now.pool.now in
    let t = item_name g a.links.now a.i in
    let l = lead g.«package» (message_above g a.links.now 16 (item_up g a.links.now a.i)) in
    let e = full_lead g a.links.now a.i (given (goal.at.returns c).Else-is_empty) in
    let first = rw c.item_up-up.ensures at c.write_lead.ensures.value in
    let second = rw c.item_up-up.ensures at c.write_lead.ensures.out_after in record { value = rw e (rw c.item_name-name.ensures at c.concat_paths.ensures.value ∙ front_answer_lem a.out.now l t (given (goal.at.returns c).Else-is_empty) (room (goal.at.returns c).Else-is_empty) second first c.unwrap_or-n.ensures); out_after = rw e (rw c.item_name-name.ensures at c.concat_paths.ensures.out_after ∙ front-written a.out.now l t (given (goal.at.returns c).Else-is_empty) (room (goal.at.returns c).Else-is_empty) second first c.unwrap_or-n.ensures) }
