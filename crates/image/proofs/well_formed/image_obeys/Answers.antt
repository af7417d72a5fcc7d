-- `image::well_formed::image_obeys` meets its contract. Assumes nothing.
use mathlib.Core.Path.{◌≡◌, sym, ap, ◌∙◌}
use mathlib.Core.Bool.{false, false≢true}
use Rattle.std.specs.Prelude.{Ok}
use Rattle.image.specs.Schema.{schema, schema_of}
use Rattle.image.specs.Links.{links_of}
use Rattle.image.specs.Verdict.{first}
use Rattle.image.specs.Judge.{opening, naming_lines}
use Rattle.image.specs.Shelf.{clash_free}
use Rattle.image.specs.declared.schema.Image.{Image}
use Rattle.image.proofs.ObeyLaws.{disobeys_opening, disobeys_naming, obeys, own-links}
use Rattle.image.proofs.VerdictLaws.{judged_stop, judged_go, refused, unrefused}
use Rattle.image.proofs.well_formed.image_obeys.Goals as goal
use Rattle.image.proofs.well_formed.image_obeys.Goals.{In-Ok}

-- 3 to 5 are not given, and what was answered is the verdict of 8 to 11
passed : (c : In-Ok)
    → let a = c.args in
    let g = schema_of a.image.now a.pool.now in
    (opening a.image.now a.pool.now false ≡ Ok tt) × (c.in-Ok.naming ≡ first (naming_lines g (links_of g)))
passed c = judged_go (opening c.args.image.now c.args.pool.now false) (sym c.in-Ok.is ∙ c.judge_image.ensures.value)

pub returns-in_default : goal.returns-in_default
returns-in_default c =
    let a = c.args in
    let v = opening a.image.now a.pool.now false in
    record { value = sym (disobeys_opening a.image.now a.pool.now _ (judged_stop v _ (sym c.in_default.is ∙ c.judge_image.ensures.value))); own_after = λ q. absurd (false≢true q) }

pub returns-then-is_err : goal.returns-then-is_err
returns-then-is_err c =
    let a = c.args in
    let r = refused c.in-Ok.naming (sym c.is_err.ensures.value ∙ c.if-is_err.true) in
    record { value = sym (disobeys_naming a.image.now a.pool.now r.0 (sym (passed (goal.at.returns-then-is_err c).In-Ok).1 ∙ r.1)); own_after = λ q. absurd (false≢true q) }

pub returns : goal.returns
unfolding schema_of
returns c =
    let a = c.args in
    let p = passed (goal.at.returns c).In-Ok in
    let v = unrefused c.in-Ok.naming (sym c.is_err.ensures.value ∙ c.if-is_err.false) in
    record {
      value = c.clash_free.ensures ∙ ap (λ (x : Image). clash_free (schema x)) c.read.ensures ∙ sym (obeys a.image.now a.pool.now p.0 (sym p.1 ∙ v));
      own_after = λ q. own-links a.image.now a.pool.now p.0 a.own.now _ c.requires c.judge_image.ensures.links_after;
    }
