-- Lengths of names: a text of an image is shorter than 2^32 bytes, since its length is one word, so that the lengths of a full name's parts
-- can be added. Assumes nothing.
use mathlib.Core.Path.{◌≡◌, ap, ◌∙◌}
use mathlib.Core.Bool.{Bool, true, false}
use mathlib.Core.List.{List}
use Prim.Native.Nat.{ℕ, zero, suc, ◌+◌, ◌*◌, ◌<◌, ◌≤◌}
use Rattle.lists.proofs.Cases.{by, clash}
use Rattle.lists.proofs.BelowLaws.{all_below_intro, all_below_elim}
use native.Mathlib.Nat.{add-zero, add-suc}
use native.Mathlib.Omega.{arith}
use lib.Dec.{ltb}
use lib.ListN.{length, get_or, length-take}
use Rattle.lists.specs.Below.{all_below}
use Rattle.names.specs.Package.{concat_paths}
use Rattle.image.specs.Texts.{text_of}
use Rattle.image.specs.Schema.{schema_in}
use Rattle.image.specs.Links.{message_up}
use Rattle.image.specs.FullName.{item_name}
use Rattle.image.specs.Climb.{name_of, message_above, joined_length}
use Rattle.image.specs.declared.rows.Sections.{Sections}
use Rattle.image.proofs.PathTexts.{concat-length, joined_le}
use Rattle.image.proofs.PathLaws.{above_short}

module _ (image : List ℕ) (s : Sections) (pool : List ℕ) (words : (k : ℕ) → get_or image k 0 < 4294967296) where
  text_short_lem : (k : ℕ) → length (text_of image pool k) < 4294967296
  unfolding text_of
  text_short_lem k = simp length-take (omega (arith, words (k + 1)))

  pub name_short : (r : ℕ) → length ((schema_in image s pool).message_name r) < 4294967296
  unfolding schema_in
  name_short r = text_short_lem _

  pub enum_name_short : (r : ℕ) → length ((schema_in image s pool).enum_name r) < 4294967296
  unfolding schema_in
  enum_name_short r = text_short_lem _

  pub item_name_short : (links : List ℕ) (i : ℕ) → length (item_name (schema_in image s pool) links i) < 4294967296
  unfolding item_name
  item_name_short links i =
      by (ltb i (schema_in image s pool).messages) (λ t. rw t (name_short _)) (λ t. rw t (enum_name_short _))

  pub package_short : length (schema_in image s pool).«package» < 4294967296
  unfolding schema_in
  package_short = text_short_lem _

  pub levels_short : (links : List ℕ) (levels a : ℕ) → length (message_above (schema_in image s pool) links levels a) ≤ 4294967296 * levels
  levels_short links levels a =
      above_short (name_of (schema_in image s pool) links) (message_up links) (λ m. name_short _) levels a

pub joined_short : (s t : List ℕ) → joined_length (length s) (length t) ≤ length s + 1 + length t
joined_short s t = omega (arith, concat-length s t, joined_le s t)

-- two joins, by lengths
pub full_joined : (k x t : List ℕ) → length (concat_paths k (concat_paths x t)) ≡ joined_length (length k) (joined_length (length x) (length t))
full_joined k x t = concat-length k (concat_paths x t) ∙ ap (λ (n : ℕ). joined_length (length k) n) (concat-length x t)

-- all of so many numbers, and of so many more behind them
pub all_below_first : (a b : ℕ) (p : ℕ → Bool) → all_below a p ≡ false → all_below (a + b) p ≡ false
all_below_first a b p h =
    by (all_below (a + b) p) (λ t. clash (all_below a p) (all_below_intro a p (λ i l. all_below_elim (a + b) p t i (omega arith))) h) (λ t. t)

pub all_below_rest : (a b : ℕ) (p : ℕ → Bool) → all_below a p ≡ true → all_below (a + b) p ≡ all_below b (λ i. p (a + i))
unfolding all_below
all_below_rest a zero p h = rw (add-zero a) h
all_below_rest a (suc b) p h = rw (add-suc a b, all_below_rest a b p h)
