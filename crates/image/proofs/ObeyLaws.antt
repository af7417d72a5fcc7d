-- What the two verdicts of an image say of the rules that a shelved image must obey. Assumes nothing.
use mathlib.Core.Path.{◌≡◌, refl, sym, ap, ◌∙◌}
use mathlib.Core.List.{List}
use mathlib.Core.Bool.{true, false}
use Prim.Native.Nat.{ℕ, ◌≤◌}
use native.Mathlib.Omega.{arith}
use lib.Dec.{leb}
use lib.ListN.{length, take}
use borrow.Author.Tests.{le-leb, not-true}
use Rattle.lists.specs.Splice.{fronted}
use Rattle.lists.proofs.SpliceLaws.{fronted_fits}
use Rattle.lists.proofs.Cases.{by, clash, both, right, each, and-true}
use Rattle.image.specs.Words.{sections_of}
use Rattle.image.specs.Layout.{image_limit, laid_out, laid_out_within_limit}
use Rattle.image.specs.Texts.{texts_right}
use Rattle.image.specs.Schema.{Schema, schema_of}
use Rattle.image.specs.Laid.{Sound}
use Rattle.image.specs.Links.{links_of, link_words}
use Rattle.image.specs.FullName.{shares_name}
use Rattle.image.specs.Limits.{counts_within, limit_tests, within_limits}
use Rattle.image.specs.Verdict.{Verdict, first, passes}
use Rattle.image.specs.Judge.{opening, map_entry_lines, naming_lines, links_by}
use Rattle.image.specs.Shelf.{clash_free, image_tests, image_obeys}
use Rattle.image.specs.declared.verdict.Refusal.TheVariants.{LayoutBroken, LimitPassed, TextWrong, NameShared}
use Rattle.image.specs.declared.verdict.Refused.{Refused}
use Rattle.std.specs.Prelude.{Ok, Err}
use Rattle.image.proofs.FewLaws.{few_words}
use Rattle.image.proofs.JudgeLaws.{sound_by, links-few, front-links}
use Rattle.image.proofs.IndexLaws.{links-length}

-- a verdict that passes is no refusal
pub passed : (v : Verdict) → passes v ≡ true → v ≡ Ok tt
passed (Ok u) h = refl
passed (Err r) h = clash false h refl

never : {C : Type 0} (v : Verdict) (r : Refused) → v ≡ Ok tt → v ≡ Err r → C
never v r a b = clash (passes v) (ap passes a) (ap passes b)

module _ (image pool : List ℕ) where
  abbrev g : Schema
  g = schema_of image pool

  counts : within_limits image pool ≡ true → counts_within (sections_of image) ≡ true
  unfolding within_limits
  counts q = (each (limit_tests image (sections_of image) pool) q).0

  laid : laid_out image (length pool) ≡ true → within_limits image pool ≡ true → laid_out_within_limit image (length pool) ≡ true
  unfolding laid_out_within_limit
  laid p q =
      both (leb (length image) image_limit) (laid_out image (length pool)) (le-leb (length image) image_limit (few_words image (length pool) p (counts q))) p

  -- 3 to 5 hold exactly where their verdict is none
  opens : laid_out image (length pool) ≡ true → within_limits image pool ≡ true → texts_right image pool ≡ true → opening image pool false ≡ Ok tt
  unfolding opening
  opens p q r = rw (laid p q, q, r)

  pub record Opened : Type 0 where
    pub laid_within : laid_out_within_limit image (length pool) ≡ true
    pub within : within_limits image pool ≡ true
    pub texts : texts_right image pool ≡ true

  pub opened : opening image pool false ≡ Ok tt → Opened
  unfolding opening
  opened e =
      by (laid_out_within_limit image (length pool))
      (λ p. by (within_limits image pool)
      (λ q. by (texts_right image pool)
      (λ r. record { laid_within = p; within = q; texts = r })
      (λ r. never (opening image pool false) (record { refusal = TextWrong; place = 0 }) e (rw (p, q, r))))
      (λ q. never (opening image pool false) (record { refusal = LimitPassed; place = 0 }) e (rw (p, q))))
      (λ p. never (opening image pool false) (record { refusal = LayoutBroken; place = 0 }) e (rw p))

  -- a refusal of 3 to 5, or of 8 to 11, is one of a rule that the image must obey
  pub disobeys_opening : (r : Refused) → opening image pool false ≡ Err r → image_obeys image pool ≡ false
  unfolding image_obeys
  disobeys_opening r e =
      by (image_obeys image pool)
      (λ t. let h = each (image_tests image pool) t in never _ r (opens h.0 h.1.0 h.1.1.0) e)
      (λ f. f)

  shared_fails : shares_name g (links_of g) ≡ true → image_obeys image pool ≡ false
  unfolding image_obeys
  shared_fails s =
      by (image_obeys image pool)
      (λ t. let h = each (image_tests image pool) t in clash (shares_name g (links_of g)) s (not-true (shares_name g (links_of g)) h.1.1.1.0))
      (λ f. f)

  entry_fails : (r : Refused) → first (map_entry_lines g (links_of g)) ≡ Err r → image_obeys image pool ≡ false
  unfolding image_obeys
  entry_fails r q =
      by (image_obeys image pool)
      (λ t. let h = each (image_tests image pool) t in never _ r (passed (first (map_entry_lines g (links_of g))) h.1.1.1.1.0) q)
      (λ f. f)

  pub disobeys_naming : (r : Refused) → first (naming_lines g (links_of g)) ≡ Err r → image_obeys image pool ≡ false
  unfolding naming_lines first
  disobeys_naming r e = by (shares_name g (links_of g)) shared_fails (λ s. entry_fails r (sym (rw s) ∙ e))

  names_fine : first (naming_lines g (links_of g)) ≡ Ok tt → (shares_name g (links_of g) ≡ false) × (first (map_entry_lines g (links_of g)) ≡ Ok tt)
  unfolding naming_lines first
  names_fine e = by (shares_name g (links_of g)) (λ s. never (first (naming_lines g (links_of g))) (record { refusal = NameShared; place = 0 }) e (rw s)) (λ s. (s, sym (rw s) ∙ e))

  -- with both verdicts passed, 17 is left
  pub obeys : opening image pool false ≡ Ok tt → first (naming_lines g (links_of g)) ≡ Ok tt → image_obeys image pool ≡ clash_free g
  unfolding image_obeys laid_out_within_limit
  obeys e n =
      let o = opened e in
      let l = right (leb (length image) image_limit) (laid_out image (length pool)) o.laid_within in
      let f = names_fine n in
      simp (l, o.within, o.texts, f.0, f.1, and-true)

  -- and the image can be numbered
  pub sound_opened : Opened → Sound g
  unfolding schema_of within_limits
  sound_opened o = let h = each (limit_tests image (sections_of image) pool) o.within in sound_by image (length pool) pool o.laid_within h.0 h.1.0

  -- and the link rows in front of words that have room for them are its own
  pub own-links : opening image pool false ≡ Ok tt → (own ws : List ℕ) → 4096 ≤ length own → ws ≡ links_by (opening image pool false) g own → take (link_words g) ws ≡ links_of g
  own-links e own ws room w =
      let ok = sound_opened (opened e) in
      let size = links-length g ok in
      let q : ws ≡ fronted own (links_of g) = w ∙ ap (λ (v : Verdict). links_by v g own) e in
      front-links own (links_of g) (link_words g) (q ∙ fronted_fits own (links_of g) (omega (arith, size, links-few g ok, room))) size

  -- an image that obeys all can be numbered
  pub sound_obeys : image_obeys image pool ≡ true → Sound g
  unfolding image_obeys
  sound_obeys t = let h = each (image_tests image pool) t in sound_opened (opened (opens h.0 h.1.0 h.1.1.0))
