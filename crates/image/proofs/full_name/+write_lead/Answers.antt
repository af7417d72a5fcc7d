-- `image::full_name::write_lead` meets its contract: a level is the name of a message, joined with what leads to it. Assumes nothing.
use Prim.Native.Nat.{ℕ, ◌-◌, ◌≤◌}
use native.Mathlib.Omega.{arith}
use mathlib.Core.Path.{◌≡◌, ◌∙◌}
use lib.ListN.{length}
use mathlib.Core.List.{List}
use Rattle.names.specs.Package.{concat_paths}
use Rattle.image.specs.Schema.{Schema, schema_in}
use Rattle.image.specs.Links.{message_up}
use Rattle.image.specs.Climb.{name_of, message_above, lead}
use Rattle.image.proofs.PathTexts.{lead_none, lead_some}
use Rattle.image.proofs.PathLaws.{Step, step, no_step}
use Rattle.image.proofs.WriteLaws.{concat_le, front_answer_lem, front-written}
use Rattle.image.proofs.full_name.+write_lead.Goals as goal

pub returns-then-above-eq0 : goal.returns-then-above-eq0
returns-then-above-eq0 t c =
    let a = c.args in
    let g = schema_in c.args.image.now.rows.words.now c.args.image.now.rows.sections c.args.image.now.pool.now in
    let e = lead_none g.«package» (message_above g a.links.now a.levels a.up) (no_step (name_of (schema_in c.args.image.now.rows.words.now c.args.image.now.rows.sections c.args.image.now.pool.now) c.args.links.now) (message_up c.args.links.now) c.args.levels c.args.up c.named_up-above.ensures c.if-above-eq0.true) in
    record { value = rw (e, ← c.package_name-package.ensures) c.put_front.ensures.value; out_after = rw (e, ← c.package_name-package.ensures) c.put_front.ensures.out_after }

pub overflow_sub-levels : goal.overflow_sub-levels
overflow_sub-levels t c = let rising = step (name_of (schema_in c.args.image.now.rows.words.now c.args.image.now.rows.sections c.args.image.now.pool.now) c.args.links.now) (message_up c.args.links.now) c.args.levels c.args.up c.named_up-above.ensures c.if-above-eq0.false in omega (arith, rising.levels)

-- what is to be written is its name, joined with what leads to it
leads : (g : Schema) (links : List ℕ) (levels up above : ℕ) → Step (name_of g links) (message_up links) levels up above
    → lead g.«package» (message_above g links levels up) ≡ concat_paths (lead g.«package» (message_above g links (levels - 1) (message_up links (above - 1)))) (name_of g links (above - 1))
leads g links levels up above rising =
    lead_some g.«package» (message_above g links levels up) (message_above g links (levels - 1) (message_up links (above - 1))) (name_of g links (above - 1)) rising.named rising.is

pub write_lead-requires : goal.write_lead-requires
write_lead-requires t c =
    let a = c.args in
    let g = schema_in c.args.image.now.rows.words.now c.args.image.now.rows.sections c.args.image.now.pool.now in
    let w = c.named_up-above.result in
    let rising = step (name_of (schema_in c.args.image.now.rows.words.now c.args.image.now.rows.sections c.args.image.now.pool.now) c.args.links.now) (message_up c.args.links.now) c.args.levels c.args.up c.named_up-above.ensures c.if-above-eq0.false in
    let l = lead g.«package» (message_above g a.links.now (a.levels - 1) (message_up a.links.now (w - 1))) in
    let r : length (concat_paths l (name_of g a.links.now (w - 1))) ≤ length a.out.now = rw (← leads g a.links.now a.levels a.up w rising) c.requires in
    (omega (arith, c.decreases, rising.levels), rw c.message_up-over.ensures (omega (arith, r, concat_le l (name_of g a.links.now (w - 1)) rising.named)))

pub returns : goal.returns
returns t c =
    let a = c.args in
    let g = schema_in c.args.image.now.rows.words.now c.args.image.now.rows.sections c.args.image.now.pool.now in
    let w = c.named_up-above.result in
    let m = name_of g a.links.now (w - 1) in
    let l = lead g.«package» (message_above g a.links.now (a.levels - 1) (message_up a.links.now (w - 1))) in
    let rising = step (name_of (schema_in c.args.image.now.rows.words.now c.args.image.now.rows.sections c.args.image.now.pool.now) c.args.links.now) (message_up c.args.links.now) c.args.levels c.args.up c.named_up-above.ensures c.if-above-eq0.false in
    let is = leads g a.links.now a.levels a.up w rising in
    let room : length (concat_paths l m) ≤ length a.out.now = rw (← is) c.requires in
    let first = rw c.message_up-over.ensures at c.write_lead.ensures.value in
    let second = rw c.message_up-over.ensures at c.write_lead.ensures.out_after in
    record {
      value = rw is (rw c.message_name-name.ensures at c.concat_paths.ensures.value ∙ front_answer_lem a.out.now l m rising.named room second first c.unwrap_or-n.ensures);
      out_after = rw is (rw c.message_name-name.ensures at c.concat_paths.ensures.out_after ∙ front-written a.out.now l m rising.named room second first c.unwrap_or-n.ensures);
    }
