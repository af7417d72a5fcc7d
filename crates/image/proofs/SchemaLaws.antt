-- What the readers of rows answer, in the words of `schema_in`. Assumes nothing.
use mathlib.Core.Path.{◌≡◌, refl}
use mathlib.Core.List.{List}
use Prim.Native.Nat.{ℕ}
use Rattle.image.specs.Words.{sections_of, top_enums, nested_messages, enums_of, fields_of, extensions_of, oneofs_of, values_of, file_extensions}
use Rattle.image.specs.Schema.{schema_in, schema_of}
use Rattle.image.specs.declared.rows.Sections.{Sections}

module _ (image : List ℕ) (s : Sections) (pool : List ℕ) where
  pub messages_in : (schema_in image s pool).messages ≡ s.messages.count
  unfolding schema_in
  messages_in = refl

  pub enum_count_in : (schema_in image s pool).enums ≡ s.enums.count
  unfolding schema_in
  enum_count_in = refl

  pub oneof_count_in : (schema_in image s pool).oneofs ≡ s.oneofs.count
  unfolding schema_in
  oneof_count_in = refl

  pub field_count_in : (schema_in image s pool).fields ≡ s.fields.count
  unfolding schema_in
  field_count_in = refl

  pub top_enums_in : (schema_in image s pool).top_enums ≡ top_enums image
  unfolding schema_in
  top_enums_in = refl

  pub nested_in : (r : ℕ) → nested_messages image s r ≡ (schema_in image s pool).nested r
  unfolding schema_in
  nested_in r = refl

  pub enums_in_lem : (r : ℕ) → enums_of image s r ≡ (schema_in image s pool).enums_in r
  unfolding schema_in
  enums_in_lem r = refl

  pub values_in_lem : (r : ℕ) → values_of image s r ≡ (schema_in image s pool).values_in r
  unfolding schema_in
  values_in_lem r = refl

  pub oneofs_in_lem : (r : ℕ) → oneofs_of image s r ≡ (schema_in image s pool).oneofs_in r
  unfolding schema_in
  oneofs_in_lem r = refl

  pub fields_in_lem : (r : ℕ) → fields_of image s r ≡ (schema_in image s pool).fields_in r
  unfolding schema_in
  fields_in_lem r = refl

  pub extensions_in_lem : (r : ℕ) → extensions_of image s r ≡ (schema_in image s pool).extensions_in r
  unfolding schema_in
  extensions_in_lem r = refl

  pub file_extensions_in : file_extensions image ≡ (schema_in image s pool).file_extensions
  unfolding schema_in
  file_extensions_in = refl

pub schema_of_lem : (image pool : List ℕ) → schema_of image pool ≡ schema_in image (sections_of image) pool
unfolding schema_of
schema_of_lem image pool = refl
