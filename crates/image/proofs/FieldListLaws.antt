-- The fields of a file listed in flat order, and the containing word of each: how loops write both lists. Assumes nothing.
use mathlib.Core.Path.{◌≡◌, refl, sym, ap, ◌∙◌}
use mathlib.Core.List.{List, [], ◌∷◌, ◌++◌, append_assoc, append-nil}
use Prim.Native.Nat.{ℕ, zero, suc, ◌+◌, ◌<◌, ◌≤◌, ◌^◌}
use native.Mathlib.Nat.{add-zero, zero-add, add-suc}
use native.Mathlib.Numerals.{add-one}
use native.Mathlib.Omega.{arith}
use lib.ListN.{length, get_or, take, set, length-append}
use lib.Seq.{take_at, get_or_at}
use Rattle.lists.specs.Lists.{span, concat_map, table, total}
use Rattle.lists.specs.Splice.{splice}
use Rattle.lists.proofs.SpanLaws.{length-span, span_add}
use Rattle.lists.proofs.SpliceLaws.{splice_nil, splice_more, splice_all, splice-splice}
use Rattle.lists.proofs.TableLaws.{length_table}
use Rattle.image.specs.Schema.{Schema}
use Rattle.image.specs.Flat.{rows_of, flat_messages, row_of, field_rows, flat_fields, first_field}
use Rattle.image.specs.Laid.{Sound}
use Rattle.image.specs.Walk.{field_part}
use Rattle.image.specs.Record.{repeated, containers_in, containers}
use Rattle.image.specs.declared.rows.Range.{Range}
use Rattle.image.proofs.Numbers.{row_in, flat_length}
use Rattle.image.proofs.Owned.{fields_length, fields_end_lem, fields_next, fields_mono}
use Rattle.image.proofs.LinkLaws.{run, Parts, parts_length}

-- ---- the rows of one range, and the same word for each

module _ (o₀ : List ℕ) where
  -- a word is written behind n others
  written_next : (at : ℕ) (us : List ℕ) (n v : ℕ) → length us ≡ n → at + n < length o₀
      → set (splice o₀ at us) (at + n) v ≡ splice o₀ at (us ++ (v ∷ []))
  written_next at us n v e h =
      let vs = us ++ (v ∷ []) in
      let len : length vs ≡ n + 1 = omega (arith, length-append us (v ∷ [])) in
      ap (λ (l : List ℕ). set (splice o₀ at l) (at + n) v) (sym (take_at us (v ∷ []) n e))
      ∙ ap (λ (w : ℕ). set (splice o₀ at (take n vs)) (at + n) w) (sym (get_or_at us v [] 0 n e))
      ∙ splice_more o₀ at vs n 0 h (omega arith)
      ∙ splice_all o₀ at vs (n + 1) (omega arith)

  pub rows_none : (at first : ℕ) → o₀ ≡ splice o₀ at (span first 0)
  unfolding span
  rows_none at first = sym (splice_nil o₀ at)

  pub rows_next : {o : List ℕ} (at first k : ℕ) → at + k < length o₀ → o ≡ splice o₀ at (span first k)
      → set o (at + k) (first + k) ≡ splice o₀ at (span first (k + 1))
  unfolding span
  rows_next at first k h p =
      ap (λ (l : List ℕ). set l (at + k) (first + k)) p
      ∙ written_next at (span first k) k (first + k) (length-span first k) h
      ∙ ap (splice o₀ at) (sym (span_add first k 1))

  pub words_none : (at word : ℕ) → o₀ ≡ splice o₀ at (repeated 0 word)
  unfolding table
  words_none at word = sym (splice_nil o₀ at)

  pub words_next : {o : List ℕ} (at word k : ℕ) → at + k < length o₀ → o ≡ splice o₀ at (repeated k word)
      → set o (at + k) word ≡ splice o₀ at (repeated (k + 1) word)
  unfolding table
  words_next at word k h p =
      ap (λ (l : List ℕ). set l (at + k) word) p
      ∙ written_next at (repeated k word) k word (length_table k (λ _. word)) h
      ∙ ap (λ (n : ℕ). splice o₀ at (repeated n word)) (sym (add-one k))

-- ---- one range behind another

words_add : (a b word : ℕ) → repeated (a + b) word ≡ repeated a word ++ repeated b word
unfolding table
words_add a zero word = rw (add-zero a) (sym (append-nil (repeated a word)))
words_add a (suc b) word =
    rw (add-suc a b, words_add a b word) (append_assoc (repeated a word) (repeated b word) (word ∷ []))

module _ (o₀ : List ℕ) {o₁ o₂ : List ℕ} (at : ℕ) where
  pub rows_both : (a b : Range) → at + (a.count + b.count) ≤ length o₀ → o₁ ≡ splice o₀ at (rows_of a) → o₂ ≡ splice o₁ (at + a.count) (rows_of b)
      → o₂ ≡ splice o₀ at (rows_of a ++ rows_of b)
  rows_both a b h p q =
      q
      ∙ ap (λ (l : List ℕ). splice l (at + a.count) (rows_of b)) p
      ∙ splice-splice o₀ at (rows_of a) (rows_of b) a.count (length-span a.first a.count) (omega (arith, length-span b.first b.count))

  pub words_both : (a b n word : ℕ) → n ≡ a + b → at + n ≤ length o₀ → o₁ ≡ splice o₀ at (repeated a word) → o₂ ≡ splice o₁ (at + a) (repeated b word)
      → o₂ ≡ splice o₀ at (repeated n word)
  words_both a b n word e h p q =
      q
      ∙ ap (λ (l : List ℕ). splice l (at + a) (repeated b word)) p
      ∙ splice-splice o₀ at (repeated a word) (repeated b word) a (length_table a (λ _. word)) (omega (arith, length_table b (λ _. word)))
      ∙ ap (splice o₀ at) (sym (words_add a b word))
      ∙ ap (λ (k : ℕ). splice o₀ at (repeated k word)) (sym e)

-- ---- what comes of the elements of a list, taken by their places

by_places : (f : ℕ → List ℕ) (at : ℕ → ℕ) (l : List ℕ) (k : ℕ) → ((i : ℕ) → i < length l → at (k + i) ≡ get_or l i 0)
    → run (λ i. f (at i)) k (length l) ≡ concat_map f l
unfolding span concat_map
by_places f at [] k h = refl
by_places f at (x ∷ l) k h =
    let here : at k ≡ x = ap at (sym (add-zero k)) ∙ h 0 (omega arith) in
    let rest = by_places f at l (k + 1) (λ i m. let e : k + 1 + i ≡ k + suc i = omega arith in ap at e ∙ h (suc i) (omega arith)) in
    rw (here, rest)

module _ (g : Schema) (ok : Sound g) where
  -- ---- the fields of each message

  pub field_count_lem : (m : ℕ) → length (field_part g m) ≡ (g.fields_in (row_of g m)).count + (g.extensions_in (row_of g m)).count
  field_count_lem m = fields_length g (row_of g m)

  container_count : (m : ℕ) → length (containers_in g m) ≡ length (field_part g m)
  container_count m = length_table (length (field_part g m)) (λ _. m + 1)

  pub field_parts : Parts (field_part g) (first_field g) g.messages
  field_parts m l = omega (arith, fields_next g ok m l, field_count_lem m)

  pub container_parts : Parts (containers_in g) (first_field g) g.messages
  container_parts m l = omega (arith, field_parts m l, container_count m)

  pub fields_start : first_field g 0 ≡ 0
  unfolding total
  fields_start = refl

  pub fields_within : (m : ℕ) → m ≤ g.messages → first_field g m ≤ g.fields
  fields_within m l = omega (arith, fields_mono g ok m g.messages l, fields_end_lem g ok)

  pub fields_fit : (m : ℕ) → m < g.messages → (g.fields_in (row_of g m)).first + (g.fields_in (row_of g m)).count < 2 ^ 32
  fields_fit m l = omega (arith, ok.layout.fields_inside (row_of g m) (row_in g ok m l), ok.few_fields)

  pub extensions_fit : (m : ℕ) → m < g.messages → (g.extensions_in (row_of g m)).first + (g.extensions_in (row_of g m)).count < 2 ^ 32
  extensions_fit m l = omega (arith, ok.layout.extensions_inside (row_of g m) (row_in g ok m l), ok.few_fields)

  pub file_fits_lem : g.file_extensions.first + g.file_extensions.count < 2 ^ 32
  file_fits_lem = omega (arith, ok.layout.file_inside, ok.few_fields)

  -- ---- and those of the file behind them

  own_fields_lem : run (field_part g) 0 g.messages ≡ concat_map (field_rows g) (flat_messages g)
  own_fields_lem =
      ap (run (field_part g) 0) (sym (flat_length g ok))
      ∙ by_places (field_rows g) (row_of g) (flat_messages g) 0 (λ i l. ap (row_of g) (zero-add i))

  pub fields_all : (o₀ : List ℕ) {o₁ o₂ : List ℕ} → g.fields ≤ length o₀ → o₁ ≡ splice o₀ 0 (run (field_part g) 0 g.messages)
      → o₂ ≡ splice o₁ (first_field g g.messages) (rows_of g.file_extensions) → o₂ ≡ splice o₀ 0 (flat_fields g)
  unfolding flat_fields
  fields_all o₀ {o₁} {o₂} h p q =
      let n = parts_length (field_part g) (first_field g) g.messages field_parts g.messages (omega arith) in
      let len : length (run (field_part g) 0 g.messages) ≡ first_field g g.messages = omega (arith, fields_start) in
      q
      ∙ ap (λ (k : ℕ). splice o₁ k (rows_of g.file_extensions)) (sym (zero-add (first_field g g.messages)))
      ∙ ap (λ (l : List ℕ). splice l (0 + first_field g g.messages) (rows_of g.file_extensions)) p
      ∙ splice-splice o₀ 0 (run (field_part g) 0 g.messages) (rows_of g.file_extensions) (first_field g g.messages) len
      (omega (arith, fields_end_lem g ok, length-span g.file_extensions.first g.file_extensions.count))
      ∙ ap (λ (l : List ℕ). splice o₀ 0 (l ++ rows_of g.file_extensions)) own_fields_lem

  pub containers_all : (o₀ : List ℕ) {o₁ o₂ : List ℕ} → g.fields ≤ length o₀ → o₁ ≡ splice o₀ 0 (run (containers_in g) 0 g.messages)
      → o₂ ≡ splice o₁ (first_field g g.messages) (repeated g.file_extensions.count 0) → o₂ ≡ splice o₀ 0 (containers g)
  unfolding containers
  containers_all o₀ {o₁} {o₂} h p q =
      let n = parts_length (containers_in g) (first_field g) g.messages container_parts g.messages (omega arith) in
      let len : length (run (containers_in g) 0 g.messages) ≡ first_field g g.messages = omega (arith, fields_start) in
      q
      ∙ ap (λ (k : ℕ). splice o₁ k (repeated g.file_extensions.count 0)) (sym (zero-add (first_field g g.messages)))
      ∙ ap (λ (l : List ℕ). splice l (0 + first_field g g.messages) (repeated g.file_extensions.count 0)) p
      ∙ splice-splice o₀ 0 (run (containers_in g) 0 g.messages) (repeated g.file_extensions.count 0) (first_field g g.messages) len
      (omega (arith, fields_end_lem g ok, length_table {A = ℕ} g.file_extensions.count (λ _. 0)))
