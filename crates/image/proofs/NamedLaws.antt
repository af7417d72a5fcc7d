-- What rule 5 gives for rule 8: the names of messages and enums are identifiers, so they are given and have no dot. Assumes nothing.
use mathlib.Core.Path.{◌≡◌}
use mathlib.Core.Bool.{true}
use mathlib.Core.List.{List}
use Prim.Native.Nat.{ℕ, ◌+◌, ◌-◌, ◌<◌}
use native.Mathlib.Omega.{arith}
use Rattle.lists.proofs.Cases.{order, each}
use Rattle.lists.proofs.BelowLaws.{all_below_elim}
use Rattle.lists.specs.Below.{all_of}
use Rattle.names.specs.Bytes.{is_identifier}
use Rattle.image.specs.Words.{row_at}
use Rattle.image.specs.Texts.{text_of, row_texts_right, kind_texts_right, rows_text_tests}
use Rattle.image.specs.Schema.{Schema, schema_in}
use Rattle.image.specs.Links.{message_row, enum_row}
use Rattle.image.specs.FullName.{items, item_name}
use Rattle.image.specs.Chained.{Named}
use Rattle.image.specs.declared.rows.Sections.{Sections}
use Rattle.image.specs.declared.rows.Kind.TheVariants.{Message, Enum}
use Rattle.image.proofs.DotLaws.{identifier_given, identifier_dotless}
use Rattle.image.proofs.ItemLaws.{message_name_as, enum_name_as}

module _ (g : Schema) (links : List ℕ)
    (messages : (r : ℕ) → r < g.messages → is_identifier (g.message_name r) ≡ true)
    (enums : (r : ℕ) → r < g.enums → is_identifier (g.enum_name r) ≡ true)
    (message-rows : (m : ℕ) → m < g.messages → message_row links m < g.messages)
    (enum-rows : (e : ℕ) → e < g.enums → enum_row g links e < g.enums)
  where
    item_identifier : (i : ℕ) → i < items g → is_identifier (item_name g links i) ≡ true
    item_identifier i h =
        order i g.messages
        (λ l. rw (message_name_as g links i l) (messages (message_row links i) (message-rows i l)))
        (λ l. let e : i ≡ g.messages + (i - g.messages) = omega arith in
        rw (e, enum_name_as g links (i - g.messages)) (enums (enum_row g links (i - g.messages)) (enum-rows (i - g.messages) (omega arith))))

    pub named_by : Named g links
    named_by =
        record {
          given = λ i h. identifier_given (item_name g links i) (item_identifier i h);
          no_dot = λ i h. identifier_dotless (item_name g links i) (item_identifier i h);
        }

-- the premises, from rule 5 of all rows
module _ (image : List ℕ) (s : Sections) (pool : List ℕ) (right : all_of (rows_text_tests image s pool) ≡ true) where
  pub message_identifier : (r : ℕ) → r < (schema_in image s pool).messages → is_identifier ((schema_in image s pool).message_name r) ≡ true
  unfolding schema_in kind_texts_right row_texts_right
  message_identifier r h =
      all_below_elim s.messages.count (λ r. is_identifier (text_of image pool (row_at s Message r))) (each (rows_text_tests image s pool) right).1.0 r h

  pub enum_identifier : (r : ℕ) → r < (schema_in image s pool).enums → is_identifier ((schema_in image s pool).enum_name r) ≡ true
  unfolding schema_in kind_texts_right row_texts_right
  enum_identifier r h =
      all_below_elim s.enums.count (λ r. is_identifier (text_of image pool (row_at s Enum r))) (each (rows_text_tests image s pool) right).1.1.0 r h

  pub texts_named : (links : List ℕ)
      → ((m : ℕ) → m < (schema_in image s pool).messages → message_row links m < (schema_in image s pool).messages)
      → ((e : ℕ) → e < (schema_in image s pool).enums → enum_row (schema_in image s pool) links e < (schema_in image s pool).enums)
      → Named (schema_in image s pool) links
  texts_named links message-rows enum-rows =
      named_by (schema_in image s pool) links message_identifier enum_identifier message-rows enum-rows
