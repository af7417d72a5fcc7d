-- The verdict of 3, 4 and 5, test by test, and what the tests before numbering tell. Assumes nothing.
use mathlib.Core.Path.{◌≡◌, refl, ap, ◌∙◌}
use mathlib.Core.List.{List}
use mathlib.Core.Bool.{Bool, true, false, ◌&&◌}
use Prim.Native.Nat.{ℕ, ◌+◌, ◌*◌, ◌≤◌}
use native.Mathlib.Omega.{arith}
use lib.Dec.{leb}
use lib.ListN.{length, take, drop}
use lib.Seq.{take_at}
use borrow.Author.Tests.{leb-true}
use Rattle.lists.specs.Below.{all_of}
use Rattle.lists.specs.Splice.{splice}
use Rattle.lists.proofs.SpliceLaws.{splice_front}
use Rattle.lists.proofs.Cases.{by, right, each, and-true}
use Rattle.image.specs.Words.{sections_of}
use Rattle.image.specs.Layout.{image_limit, laid_out, laid_out_within_limit}
use Rattle.image.specs.Texts.{file_text_tests, rows_text_tests, texts_right}
use Rattle.image.specs.Schema.{Schema, schema_in}
use Rattle.image.specs.Flat.{shallow}
use Rattle.image.specs.Laid.{LaidOut, Sound}
use Rattle.image.specs.Links.{links_of, link_words}
use Rattle.image.specs.FullName.{full_names_short}
use Rattle.image.specs.Chained.{Named}
use Rattle.image.specs.Limits.{count_tests, counts_within, texts_short, within_limits}
use Rattle.image.specs.Judge.{opening, numbered_verdict}
use Rattle.image.specs.declared.rows.Sections.{Sections}
use Rattle.image.specs.declared.verdict.Refusal.TheVariants.{LayoutBroken, LimitPassed, TextWrong}
use Rattle.std.specs.Prelude.{Ok}
use Rattle.image.specs.Verdict.{stopped}
use Rattle.image.proofs.LaidLaws.{laid_out_lem}
use Rattle.image.proofs.NamedLaws.{texts_named}
use Rattle.image.proofs.ChainLaws.{message_row_below, enum_row_below}

module _ (image : List ℕ) (s : Sections) (pool : List ℕ) where
  abbrev names_short : Bool
  names_short = full_names_short (schema_in image s pool) (links_of (schema_in image s pool))

  pub numbered_long : texts_short image s pool ≡ false → numbered_verdict image s pool ≡ stopped LimitPassed 0
  unfolding numbered_verdict
  numbered_long p = rw p

  pub numbered_names : texts_short image s pool ≡ true → names_short ≡ false → numbered_verdict image s pool ≡ stopped LimitPassed 0
  unfolding numbered_verdict
  numbered_names p q = rw (p, q)

  pub numbered_text : texts_short image s pool ≡ true → names_short ≡ true → texts_right image pool ≡ false → numbered_verdict image s pool ≡ stopped TextWrong 0
  unfolding numbered_verdict
  numbered_text p q r = rw (p, q, r)

  pub numbered_fine : texts_short image s pool ≡ true → names_short ≡ true → texts_right image pool ≡ true → numbered_verdict image s pool ≡ Ok tt
  unfolding numbered_verdict
  numbered_fine p q r = rw (p, q, r)

module _ (image pool : List ℕ) (full : Bool) where
  abbrev laid : Bool
  laid = laid_out_within_limit image (length pool)

  abbrev parts : Sections
  parts = sections_of image

  pub opening_broken : laid ≡ false → opening image pool full ≡ stopped LayoutBroken 0
  unfolding opening
  opening_broken p = rw p

  pub opening_full : laid ≡ true → full ≡ true → opening image pool full ≡ stopped LimitPassed 0
  unfolding opening
  opening_full p q = rw (p, q)

  module _ (p : laid ≡ true) (q : full ≡ false) where
    past : within_limits image pool ≡ false → opening image pool full ≡ stopped LimitPassed 0
    unfolding opening
    past r = rw (p, q, r)

    pub opening_counts : counts_within parts ≡ false → opening image pool full ≡ stopped LimitPassed 0
    unfolding within_limits
    opening_counts r = past (rw r)

    pub opening-deep : counts_within parts ≡ true → shallow (schema_in image parts pool) ≡ false → opening image pool full ≡ stopped LimitPassed 0
    unfolding within_limits
    opening-deep r t = past (rw (r, t))

    limits_left : counts_within parts ≡ true → shallow (schema_in image parts pool) ≡ true → within_limits image pool ≡ texts_short image parts pool && names_short image parts pool
    unfolding within_limits
    limits_left r t = simp (r, t, and-true)

    pub opening_numbered : counts_within parts ≡ true → shallow (schema_in image parts pool) ≡ true → opening image pool full ≡ numbered_verdict image parts pool
    unfolding opening numbered_verdict
    opening_numbered r t =
        let e = limits_left r t in
        by (texts_short image parts pool)
        (λ a. by (names_short image parts pool) (λ b. rw (p, q, e, a, b)) (λ b. rw (p, q, e, a, b)))
        (λ a. rw (p, q, e, a))

-- an image that obeys rule 3 with its counts and nesting within the limits can be numbered
pub sound_by : (image : List ℕ) (n : ℕ) (pool : List ℕ) → laid_out_within_limit image n ≡ true → counts_within (sections_of image) ≡ true → shallow (schema_in image (sections_of image) pool) ≡ true
    → Sound (schema_in image (sections_of image) pool)
unfolding laid_out_within_limit counts_within schema_in
sound_by image n pool p q r =
    let s = sections_of image in
    let few = each (count_tests s) q in
    record {
      layout = laid_out_lem image n pool (right (leb (length image) image_limit) (laid_out image n) p);
      depth = r;
      few-messages = leb-true s.messages.count 256 few.1.0;
      few-enums = leb-true s.enums.count 256 few.1.1.0;
      few-oneofs = leb-true s.oneofs.count 256 few.1.1.1.1.0;
      few_fields = leb-true s.fields.count 2048 few.1.1.1.1.1.0;
    }

pub laid_by : (image : List ℕ) (n : ℕ) (pool : List ℕ) → laid_out_within_limit image n ≡ true → LaidOut (schema_in image (sections_of image) pool)
unfolding laid_out_within_limit
laid_by image n pool p = laid_out_lem image n pool (right (leb (length image) image_limit) (laid_out image n) p)

-- the names of its items are given and have no dot, where it obeys rule 5 as well
pub named_links : (image : List ℕ) (s : Sections) (pool : List ℕ) → s ≡ sections_of image → texts_right image pool ≡ true → Sound (schema_in image s pool)
    → Named (schema_in image s pool) (links_of (schema_in image s pool))
unfolding texts_right
named_links image s pool p t ok =
    let rows : all_of (rows_text_tests image s pool) ≡ true = rw p (right (all_of (file_text_tests image pool)) (all_of (rows_text_tests image (sections_of image) pool)) t) in
    texts_named image s pool rows (links_of (schema_in image s pool)) (message_row_below (schema_in image s pool) ok) (enum_row_below (schema_in image s pool) ok)

-- how many words its link rows have, by the sections
pub words_in : (image : List ℕ) (s : Sections) (pool : List ℕ) → link_words (schema_in image s pool) ≡ s.messages.count * 10 + (s.enums.count * 2 + s.oneofs.count * 4)
unfolding schema_in
words_in image s pool = refl

-- 4,096 words are enough for them
pub links-few : (g : Schema) → Sound g → link_words g ≤ 4096
links-few g ok = omega (arith, ok.few-messages, ok.few-enums, ok.few-oneofs)

-- they stand in front of the words that they were written into
pub front-links : (ws vs : List ℕ) {us : List ℕ} (n : ℕ) → us ≡ splice ws 0 vs → length vs ≡ n → take n us ≡ vs
front-links ws vs {us} n p q = ap (take n) (p ∙ splice_front ws vs) ∙ take_at vs (drop (length vs) ws) n q
