-- The lookups of values, by the range of an enum that was read. Assumes nothing.
use Prim.Native.Nat.{ℕ, ◌+◌}
use mathlib.Core.Path.{◌≡◌}
use mathlib.Core.List.{List}
use lib.Dec.{eqb}
use Rattle.lists.specs.Lists.{same}
use Rattle.image.specs.Schema.{schema_in}
use Rattle.image.specs.Texts.{text_of}
use Rattle.image.specs.Values.{value_by_name, value_by_number}
use Rattle.image.specs.Words.{number_at, row_at, values_of, word_at}
use Rattle.image.proofs.SearchLaws.{last_in}
use Rattle.image.specs.declared.rows.Range.{Range}
use Rattle.image.specs.declared.rows.Sections.{Sections}
use Rattle.image.specs.declared.rows.Kind.TheVariants.{Value}

module _ (image : List ℕ) (s : Sections) (pool : List ℕ) (r : ℕ) (g : Range) (at : g ≡ values_of image s r) where
  pub value_number_is : (number : ℕ) → value_by_number (schema_in image s pool) r number ≡ last_in g.count (λ k. eqb (word_at image (number_at (row_at s Value (g.first + k)))) number)
  unfolding value_by_number schema_in
  value_number_is number = rw at

  pub value_name_is : (text : List ℕ) → value_by_name (schema_in image s pool) r text ≡ last_in g.count (λ k. same (text_of image pool (row_at s Value (g.first + k))) text)
  unfolding value_by_name schema_in
  value_name_is text = rw at
