-- Laws of field rows: what the words of a row say, and how a field is called. Assumes nothing.
use Prim.Native.Nat.{ℕ, ◌+◌}
use mathlib.Core.Path.{◌≡◌}
use mathlib.Core.List.{List}
use mathlib.Core.Bool.{true, false}
use lib.Dec.{eqb}
use Rattle.lists.specs.Below.{any_below}
use Rattle.lists.specs.Lists.{same}
use Rattle.image.specs.Clash.{clash, clashes_earlier, field_by_name, field_by_name_or_json, field_by_number, first_clash, is_called, json_name_of}
use Rattle.image.specs.Schema.{FieldSays, field_of, field_row, schema_in}
use Rattle.image.specs.Words.{fields_of}
use Rattle.image.proofs.SearchLaws.{first_in}
use Rattle.image.specs.declared.rows.Range.{Range}
use Rattle.image.specs.declared.rows.Sections.{Sections}

-- ---- regular fields, by the range of a message that was read

-- what field row j of a range says
abbrev pub says : List ℕ → Sections → List ℕ → Range → ℕ → FieldSays
says image s pool g j = field_of (field_row image s (g.first + j)) pool

module _ (image : List ℕ) (s : Sections) (pool : List ℕ) (r : ℕ) (g : Range) (at : g ≡ fields_of image s r) where
  pub earlier_is : (j : ℕ) (f : List ℕ) → f ≡ field_row image s (g.first + j)
      → clashes_earlier (schema_in image s pool) r j ≡ any_below j (λ i. clash (field_of f pool) (says image s pool g i))
  unfolding clashes_earlier schema_in
  earlier_is j f is = rw (is, at)

  pub first_clash_is : first_clash (schema_in image s pool) r ≡ first_in g.count (clashes_earlier (schema_in image s pool) r)
  unfolding first_clash schema_in
  first_clash_is = rw at

  pub by_number_is : (number : ℕ) → field_by_number (schema_in image s pool) r number ≡ first_in g.count (λ j. eqb (says image s pool g j).number number)
  unfolding field_by_number schema_in
  by_number_is number = rw at

  pub by_name_is : (text : List ℕ) → field_by_name (schema_in image s pool) r text ≡ first_in g.count (λ j. same (says image s pool g j).name text)
  unfolding field_by_name schema_in
  by_name_is text = rw at

  pub by_either_is : (text : List ℕ) → field_by_name_or_json (schema_in image s pool) r text ≡ first_in g.count (λ j. is_called (says image s pool g j) text)
  unfolding field_by_name_or_json schema_in
  by_either_is text = rw at

-- ---- how two fields clash

module _ (f e : FieldSays) where
  pub clash-number : eqb f.number e.number ≡ true → clash f e ≡ true
  unfolding clash
  clash-number n = simp n

  pub clash_name : eqb f.number e.number ≡ false → is_called e f.name ≡ true → clash f e ≡ true
  unfolding clash
  clash_name n c = simp (n, c)

  pub clash_json : eqb f.number e.number ≡ false → is_called e f.name ≡ false → clash f e ≡ is_called e (json_name_of f)
  unfolding clash
  clash_json n c = simp (n, c)
