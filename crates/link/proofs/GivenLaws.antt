-- The link rows of a shelved file say of its messages and enums what its image gives, so that their full names are those of the image:
-- short, and no two alike. Assumes nothing.
use mathlib.Core.Path.{◌≡◌, refl, sym, ap, ◌∙◌}
use mathlib.Core.Bool.{true, false}
use mathlib.Core.List.{List, [], ◌∷◌, ◌++◌}
use Prim.Native.Nat.{ℕ, zero, suc, ◌+◌, ◌*◌, ◌-◌, ◌<◌, ◌≤◌}
use native.Mathlib.Nat.{add_assoc, add-zero}
use native.Mathlib.Omega.{arith}
use lib.ListN.{length, drop, get_or}
use lib.Seq.{get_or-drop, get_or-take}
use lib.Dec.{leb}
use borrow.Author.Tests.{leb-true, not-true}
use Rattle.lists.specs.Lists.{same, part}
use Rattle.lists.proofs.Cases.{order, equal, each}
use Rattle.lists.proofs.BelowLaws.{all_below_elim, any_below_agree}
use Rattle.lists.proofs.ListLaws.{same_is}
use Rattle.lists.proofs.TableLaws.{get_or_table}
use Rattle.names.specs.Package.{concat_paths}
use Rattle.image.specs.Words.{sections_of}
use Rattle.image.specs.Texts.{texts_right}
use Rattle.image.specs.Schema.{Schema, schema_of}
use Rattle.image.specs.Flat.{row_of, first_field}
use Rattle.image.specs.Laid.{Sound}
use Rattle.image.specs.Links.{links_of, message_row, message_up, enum_row, enum_up}
use Rattle.image.specs.FullName.{inside, path, message_path, items, item_name, item_up, full_name, full_names_short, shares_name}
use Rattle.image.specs.Climb.{name_of}
use Rattle.image.specs.Chained.{Chained, Named, dotless}
use Rattle.image.specs.Limits.{limit_tests, within_limits}
use Rattle.image.specs.Record.{File, says}
use Rattle.image.specs.LinkTests.{are_given, messages_given, others_given, link_tests, links_fit}
use Rattle.image.specs.Shelf.{image_tests, image_obeys, file_fits}
use Rattle.image.proofs.PathLaws.{inside_none, inside_of}
use Rattle.image.proofs.ItemLaws.{message_name_as, message_up_as, enum_name_as, enum_up_as}
use Rattle.image.proofs.ChainLaws.{message_row_is, links-chained}
use Rattle.image.proofs.JudgeLaws.{named_links}
use Rattle.link.specs.Lookup.{count_of}
use Rattle.link.specs.declared.building.Wanted.{Wanted}
use Rattle.link.specs.declared.building.Wanted.TheVariants.{Message, Enum}
use Rattle.link.proofs.FileIndexLaws.{link_first_is}
use Rattle.link.proofs.ShelfFacts.{fit_obeys, fit_sound, fit_links}

-- ---- two lists of link rows that say the same of messages and enums

record Alike (g : Schema) (a b : List ℕ) : Type 0 where
  message_row_lem : (m : ℕ) → m < g.messages → message_row a m ≡ message_row b m
  message_up_lem : (m : ℕ) → m < g.messages → message_up a m ≡ message_up b m
  enum_row_lem : (e : ℕ) → e < g.enums → enum_row g a e ≡ enum_row g b e
  enum_up_lem : (e : ℕ) → e < g.enums → enum_up g a e ≡ enum_up g b e

module _ {g : Schema} {a b : List ℕ} (alike : Alike g a b) (chained : Chained g b) where
  name_alike : (m : ℕ) → m < g.messages → name_of g a m ≡ name_of g b m
  name_alike m h = ap g.message_name (alike.message_row_lem m h)

  -- what stands in front of a name
  above_alike : (d : ℕ) → ((m : ℕ) → m < g.messages → message_path g a d m ≡ message_path g b d m)
      → (x y : ℕ) → x ≡ y → y ≤ g.messages → inside (message_path g a d) x ≡ inside (message_path g b d) y
  above_alike d paths x y e l =
      ap (inside (message_path g a d)) e
      ∙ equal y 0
      (λ z. inside_none (message_path g a d) y z ∙ sym (inside_none (message_path g b d) y z))
      (λ n. inside_of (message_path g a d) y n ∙ paths (y - 1) (omega (arith, n)) ∙ sym (inside_of (message_path g b d) y n))

  path_alike : (d m : ℕ) → m < g.messages → message_path g a d m ≡ message_path g b d m
  unfolding path
  path_alike zero m h = name_alike m h
  path_alike (suc d) m h =
      ap (λ (l : List ℕ). concat_paths l (name_of g a m)) (above_alike d (path_alike d) (message_up a m) (message_up b m) (alike.message_up_lem m h) (omega (arith, chained.message_up_lem m h)))
      ∙ ap (concat_paths (inside (message_path g b d) (message_up b m))) (name_alike m h)

  item_name_alike : (i : ℕ) → i < items g → item_name g a i ≡ item_name g b i
  item_name_alike i h =
      order i g.messages
      (λ l. message_name_as g a i l ∙ name_alike i l ∙ sym (message_name_as g b i l))
      (λ l. let e : i ≡ g.messages + (i - g.messages) = omega arith in
      rw (e, enum_name_as g a (i - g.messages), enum_name_as g b (i - g.messages)) (ap g.enum_name (alike.enum_row_lem (i - g.messages) (omega arith))))

  item_up_alike : (i : ℕ) → i < items g → (item_up g a i ≡ item_up g b i) × (item_up g b i ≤ g.messages)
  item_up_alike i h =
      order i g.messages
      (λ l. (message_up_as g a i l ∙ alike.message_up_lem i l ∙ sym (message_up_as g b i l), rw (message_up_as g b i l) (omega (arith, chained.message_up_lem i l))))
      (λ l. let e : i ≡ g.messages + (i - g.messages) = omega arith in
      rw (e, enum_up_as g a (i - g.messages), enum_up_as g b (i - g.messages)) (alike.enum_up_lem (i - g.messages) (omega arith), chained.enum_up_lem (i - g.messages) (omega arith)))

  full_alike : (i : ℕ) → i < items g → full_name g a i ≡ full_name g b i
  unfolding full_name
  full_alike i h =
      let u = item_up_alike i h in
      ap (concat_paths g.«package»)
      (ap (λ (l : List ℕ). concat_paths l (item_name g a i)) (above_alike 15 (path_alike 15) (item_up g a i) (item_up g b i) u.0 u.1)
      ∙ ap (concat_paths (inside (message_path g b 15) (item_up g b i))) (item_name_alike i h))

  shares_alike : shares_name g a ≡ shares_name g b
  unfolding shares_name
  shares_alike =
      any_below_agree (items g) _ _
      (λ i l. any_below_agree i _ _ (λ j k. ap (λ (x : List ℕ). same x (full_name g a j)) (full_alike i l) ∙ ap (same (full_name g b i)) (full_alike j (omega arith))))

  named_alike : Named g b → Named g a
  named_alike n =
      record {
        given = λ i h. rw (item_name_alike i h) (n.given i h);
        no_dot = λ i h. ap dotless (item_name_alike i h) ∙ n.no_dot i h;
      }

-- ---- words that are given

part_word : (l : List ℕ) (at n k : ℕ) → k < n → get_or (part at n l) k 0 ≡ get_or l (at + k) 0
part_word l at n k h = get_or-take n (drop at l) k 0 h ∙ get_or-drop at l k 0

given_word : (g : Schema) (links : List ℕ) (at n k : ℕ) → are_given g links at n ≡ true → k < n → get_or links (at + k) 0 ≡ get_or (links_of g) (at + k) 0
given_word g links at n k t h =
    sym (part_word links at n k h)
    ∙ ap (λ (l : List ℕ). get_or l k 0) (same_is (part at n links) (part at n (links_of g)) t)
    ∙ part_word (links_of g) at n k h

-- ---- a file that is in order behind others

few_wanted : (wanted : Wanted) (g : Schema) → Sound g → count_of wanted g ≤ 256
few_wanted Message g ok = ok.few-messages
few_wanted Enum g ok = ok.few-enums

module _ (earlier : List File) (x : File) (h : file_fits earlier x ≡ true) where
  -- words of a message's link row in front of its mark
  message_given : (m k : ℕ) → m < (says x).messages → k < 8 → get_or x.links (m * 10 + k) 0 ≡ get_or (links_of (says x)) (m * 10 + k) 0
  unfolding links_fit messages_given
  message_given m k l q =
      let t = (each (link_tests (earlier ++ (x ∷ [])) x) (fit_links earlier x h)).0 in
      given_word (says x) x.links (m * 10) 8 k (all_below_elim (says x).messages (λ i. are_given (says x) x.links (i * 10) 8) t m l) q

  -- words of an enum's link row
  enum_given : (e k : ℕ) → e < (says x).enums → k < 2
      → get_or x.links ((says x).messages * 10 + (e * 2 + k)) 0 ≡ get_or (links_of (says x)) ((says x).messages * 10 + (e * 2 + k)) 0
  unfolding links_fit others_given
  enum_given e k l q =
      let t = (each (link_tests (earlier ++ (x ∷ [])) x) (fit_links earlier x h)).1.0 in
      given_word (says x) x.links ((says x).messages * 10) ((says x).enums * 2 + (says x).oneofs * 4) (e * 2 + k) t (omega arith)

  links_alike : Alike (says x) x.links (links_of (says x))
  links_alike =
      record {
        message_row_lem = λ m l. rw (add-zero (m * 10)) at (message_given m 0 l (omega arith));
        message_up_lem = λ m l. message_given m 1 l (omega arith);
        enum_row_lem = λ e l. rw (add-zero (e * 2)) at (enum_given e 0 l (omega arith));
        enum_up_lem = λ e l. rw (← add_assoc ((says x).messages * 10) (e * 2) 1) at (enum_given e 1 l (omega arith));
      }

  -- the image row of a message, and its first field
  pub fit_row : (m : ℕ) → m < (says x).messages → message_row x.links m ≡ row_of (says x) m
  fit_row m l = links_alike.message_row_lem m l ∙ message_row_is (says x) (fit_sound earlier x h) m l

  pub fit_first : (m : ℕ) → m < (says x).messages → get_or x.links (m * 10 + 4) 0 ≡ first_field (says x) m
  fit_first m l =
      let own = links_of (says x) in
      message_given m 4 l (omega arith)
      ∙ sym (get_or_table 10 (λ j. get_or own (m * 10 + j) 0) 4 0 (omega arith))
      ∙ link_first_is (says x) refl m l refl

  own-chained : Chained (says x) (links_of (says x))
  own-chained = links-chained (says x) (fit_sound earlier x h)

  fit_texts : texts_right x.image x.pool ≡ true
  unfolding image_obeys
  fit_texts = (each (image_tests x.image x.pool) (fit_obeys earlier x h)).1.1.0

  own_named : Named (says x) (links_of (says x))
  unfolding schema_of
  own_named = named_links x.image (sections_of x.image) x.pool refl fit_texts (fit_sound earlier x h)

  -- its messages and enums have names without a dot
  pub fit_named : Named (says x) x.links
  fit_named = named_alike links_alike own-chained own_named

  own_unshared : shares_name (says x) (links_of (says x)) ≡ false
  unfolding image_obeys
  own_unshared = not-true (shares_name (says x) (links_of (says x))) (each (image_tests x.image x.pool) (fit_obeys earlier x h)).1.1.1.0

  -- no two of them share a full name
  pub fit_unshared : shares_name (says x) x.links ≡ false
  fit_unshared = shares_alike links_alike own-chained ∙ own_unshared

  own_short : full_names_short (says x) (links_of (says x)) ≡ true
  unfolding image_obeys within_limits schema_of
  own_short = (each (limit_tests x.image (sections_of x.image) x.pool) (each (image_tests x.image x.pool) (fit_obeys earlier x h)).1.0).1.1.1.0

  -- their full names are those that its image gives
  pub fit_full : (i : ℕ) → i < items (says x) → full_name (says x) x.links i ≡ full_name (says x) (links_of (says x)) i
  fit_full = full_alike links_alike own-chained

  -- and are short
  pub fit_short : (i : ℕ) → i < items (says x) → length (full_name (says x) x.links i) ≤ 512
  unfolding full_names_short
  fit_short i l =
      rw (fit_full i l)
      (leb-true (length (full_name (says x) (links_of (says x)) i)) 512 (all_below_elim (items (says x)) (λ j. leb (length (full_name (says x) (links_of (says x)) j)) 512) own_short i l))

  -- an index of it added to its messages is small
  pub fit_small : (wanted : Wanted) (i : ℕ) → i < count_of wanted (says x) → (says x).messages + i < 512
  fit_small wanted i l = let ok = fit_sound earlier x h in omega (arith, few_wanted wanted (says x) ok, ok.few-messages)
