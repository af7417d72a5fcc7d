-- `image::judge::judge_image` meets its contract. Assumes nothing.
use mathlib.Core.Path.{◌≡◌, sym, ap, ◌∙◌, subst}
use mathlib.Core.Bool.{true}
use Prim.Native.Nat.{◌≤◌}
use native.Mathlib.Omega.{arith}
use lib.ListN.{length}
use Rattle.image.specs.Words.{sections_of}
use Rattle.image.specs.Layout.{laid_out_within_limit}
use Rattle.image.specs.Schema.{schema, schema_in, schema_of}
use Rattle.image.specs.Flat.{shallow}
use Rattle.image.specs.Laid.{LaidOut, Sound}
use Rattle.image.specs.Links.{link_words}
use Rattle.image.specs.Limits.{counts_within}
use Rattle.image.specs.Judge.{opening, judged_by, links_by, numbered_verdict}
use Rattle.image.specs.Verdict.{Verdict}
use Rattle.image.specs.declared.schema.Image.{Image}
use Rattle.image.specs.declared.verdict.Refused.{Refused}
use Rattle.std.specs.Prelude.{Err}
use Rattle.image.proofs.JudgeLaws.{opening_broken, opening_full, opening_counts, opening-deep, opening_numbered, sound_by, laid_by, words_in, links-few}
use Rattle.image.proofs.judge.judge_image.Goals as goal
use Rattle.image.proofs.judge.judge_image.Goals.{After-counts_within, After-is_shallow, After-link_words, After-read-image, Else-not-counts_within, Else-not-is_laid_out, Else-not-is_shallow}

read-sections : (c : After-read-image) → c.read-image.result.rows.sections ≡ sections_of c.read-image.result.rows.words.now
read-sections c = let p = c.read-image.ensures in ap (λ (x : Image). x.rows.sections) p ∙ sym (ap (λ (x : Image). sections_of x.rows.words.now) p)

laid-is : (c : Else-not-is_laid_out) →
    let a = c.args in
    laid_out_within_limit a.image.now (length a.pool.now) ≡ true
laid-is c = sym c.is_laid_out.ensures ∙ c.if-not-is_laid_out.false

-- what the calls say, of the sections of the image
counts-say : (c : After-counts_within) → c.counts_within.result ≡ counts_within (sections_of c.args.image.now)
counts-say c = c.counts_within.ensures ∙ ap (λ (x : Image). counts_within x.rows.sections) c.read-image.ensures

counts-are : (c : Else-not-counts_within) → counts_within (sections_of c.args.image.now) ≡ true
counts-are c = sym (counts-say (goal.at.Else-not-counts_within c).After-counts_within) ∙ c.if-not-counts_within.false

depth-says : (c : After-is_shallow) →
    let a = c.args in
    c.is_shallow.result ≡ shallow (schema_in a.image.now (sections_of a.image.now) a.pool.now)
depth-says c =
    let a = c.args in
    c.is_shallow.ensures ∙ ap (λ (x : Image). shallow (schema x)) c.read-image.ensures

depth_is : (c : Else-not-is_shallow) →
    let a = c.args in
    shallow (schema_in a.image.now (sections_of a.image.now) a.pool.now) ≡ true
depth_is c = sym (depth-says (goal.at.Else-not-is_shallow c).After-is_shallow) ∙ c.if-not-is_shallow.false

-- the image can be numbered
sound-is : (c : Else-not-is_shallow) → Sound (schema c.read-image.result)
sound-is c =
    let a = c.args in
    subst (λ (x : Image). Sound (schema x)) (sym c.read-image.ensures) (sound_by a.image.now (length a.pool.now) a.pool.now (laid-is (goal.at.Else-not-is_shallow c).Else-not-is_laid_out) (counts-are (goal.at.Else-not-is_shallow c).Else-not-counts_within) (depth_is c))

words_are : (c : After-link_words) → c.link_words.result ≡ link_words (schema c.read-image.result)
words_are c = let g = c.read-image.result in c.link_words.ensures ∙ sym (words_in g.rows.words.now g.rows.sections g.pool.now)

-- the verdict of what was read
abbrev was : Image → Verdict
was x = numbered_verdict x.rows.words.now x.rows.sections x.pool.now

-- what is said of it is said of the image
opened : (c : Else-not-is_shallow) →
    let a = c.args in
    let x = c.read-image.result in
    let is = opening a.image.now a.pool.now a.full in
    let h = schema_of a.image.now a.pool.now in
    (judged_by (was x) (schema x) ≡ judged_by is h) × (links_by (was x) (schema x) a.links.now ≡ links_by is h a.links.now)
unfolding schema_of
opened c =
    let a = c.args in
    let p = c.read-image.ensures in
    let g = schema_in a.image.now (sections_of a.image.now) a.pool.now in
    let e = opening_numbered a.image.now a.pool.now a.full (laid-is (goal.at.Else-not-is_shallow c).Else-not-is_laid_out) c.if-full.false (counts-are (goal.at.Else-not-is_shallow c).Else-not-counts_within) (depth_is c) in
    (ap (λ (x : Image). judged_by (was x) (schema x)) p ∙ ap (λ (v : Verdict). judged_by v g) (sym e), ap (λ (x : Image). links_by (was x) (schema x) a.links.now) p ∙ ap (λ (v : Verdict). links_by v g a.links.now) (sym e))

pub returns-then-not-is_laid_out : goal.returns-then-not-is_laid_out
returns-then-not-is_laid_out c =
    let a = c.args in
    let g = schema_of a.image.now a.pool.now in
    let e = opening_broken a.image.now a.pool.now a.full (sym c.is_laid_out.ensures ∙ c.if-not-is_laid_out.true) in
    record { value = ap (λ (r : Refused). Err r) c.at.ensures ∙ ap (λ (v : Verdict). judged_by v g) (sym e); links_after = sym (ap (λ (v : Verdict). links_by v g a.links.now) e) }

pub returns-then-full : goal.returns-then-full
returns-then-full c =
    let a = c.args in
    let g = schema_of a.image.now a.pool.now in
    let e = opening_full a.image.now a.pool.now a.full (laid-is (goal.at.returns-then-full c).Else-not-is_laid_out) c.if-full.true in
    record { value = ap (λ (r : Refused). Err r) c.at-then-full.ensures ∙ ap (λ (v : Verdict). judged_by v g) (sym e); links_after = sym (ap (λ (v : Verdict). links_by v g a.links.now) e) }

pub returns-then-not-counts_within : goal.returns-then-not-counts_within
returns-then-not-counts_within c =
    let a = c.args in
    let g = schema_of a.image.now a.pool.now in
    let e = opening_counts a.image.now a.pool.now a.full (laid-is (goal.at.returns-then-not-counts_within c).Else-not-is_laid_out) c.if-full.false (sym (counts-say (goal.at.returns-then-not-counts_within c).After-counts_within) ∙ c.if-not-counts_within.true) in
    record { value = ap (λ (r : Refused). Err r) c.at-then-not-counts_within.ensures ∙ ap (λ (v : Verdict). judged_by v g) (sym e); links_after = sym (ap (λ (v : Verdict). links_by v g a.links.now) e) }

pub is_shallow-requires : goal.is_shallow-requires
is_shallow-requires c = let a = c.args in
    subst (λ (x : Image). LaidOut (schema x)) (sym c.read-image.ensures) (laid_by a.image.now (length a.pool.now) a.pool.now (laid-is (goal.at.is_shallow-requires c).Else-not-is_laid_out))

pub returns-then-not-is_shallow : goal.returns-then-not-is_shallow
returns-then-not-is_shallow c =
    let a = c.args in
    let g = schema_of a.image.now a.pool.now in
    let e = opening-deep a.image.now a.pool.now a.full (laid-is (goal.at.returns-then-not-is_shallow c).Else-not-is_laid_out) c.if-full.false (counts-are (goal.at.returns-then-not-is_shallow c).Else-not-counts_within) (sym (depth-says (goal.at.returns-then-not-is_shallow c).After-is_shallow) ∙ c.if-not-is_shallow.true) in
    record { value = ap (λ (r : Refused). Err r) c.at-then-not-is_shallow.ensures ∙ ap (λ (v : Verdict). judged_by v g) (sym e); links_after = sym (ap (λ (v : Verdict). links_by v g a.links.now) e) }

pub invariant_of-laid : goal.invariant_of-laid
invariant_of-laid c = record { sound = sound-is (goal.at.invariant_of-laid c).Else-not-is_shallow }

pub invariant_of-laid-2 : goal.invariant_of-laid-2
invariant_of-laid-2 c = record { sound = sound-is (goal.at.invariant_of-laid-2 c).Else-not-is_shallow }

pub judge_within-requires : goal.judge_within-requires
judge_within-requires c =
    let few : link_words (schema c.read-image.result) ≤ 512 = omega (arith, words_are (goal.at.judge_within-requires c).After-link_words) in
    record { sections_value = read-sections (goal.at.judge_within-requires c).After-read-image; size_bound = omega arith; own_in_bounds = few }

pub returns-then-link_words-le512 : goal.returns-then-link_words-le512
returns-then-link_words-le512 c = record { value = c.judge_within.ensures.value ∙ (opened (goal.at.returns-then-link_words-le512 c).Else-not-is_shallow).0; links_after = c.judge_within.ensures.links_after ∙ (opened (goal.at.returns-then-link_words-le512 c).Else-not-is_shallow).1 }

pub judge_within-requires-2 : goal.judge_within-requires-2
judge_within-requires-2 c = record { sections_value = read-sections (goal.at.judge_within-requires-2 c).After-read-image; size_bound = omega arith; own_in_bounds = links-few _ (sound-is (goal.at.judge_within-requires-2 c).Else-not-is_shallow) }

pub returns : goal.returns
returns c = record { value = c.judge_within-2.ensures.value ∙ (opened (goal.at.returns c).Else-not-is_shallow).0; links_after = c.judge_within-2.ensures.links_after ∙ (opened (goal.at.returns c).Else-not-is_shallow).1 }
