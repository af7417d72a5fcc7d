-- What messages own, listed in flat order: each enum, oneof and field row has one flat number, and where it stands. Assumes nothing.
use mathlib.Core.Path.{◌≡◌, refl, sym, ap, ◌∙◌, fun_ext}
use mathlib.Core.List.{List, ◌++◌}
use mathlib.Core.Bool.{Bool, true}
use Prim.Native.Nat.{ℕ, zero, suc, ◌+◌, ◌<◌, ◌≤◌}
use native.Mathlib.Omega.{arith}
use lib.ListN.{length, get_or, take, length-append, get_or-append}
use lib.Seq.{take_all, get_or-append-add}
use lib.Dec.{ltb}
use borrow.Author.Tests.{ltb-true}
use Rattle.lists.specs.Below.{bit, count_below, sum_below}
use Rattle.lists.specs.Lists.{span, concat_map, all, total, occurs}
use Rattle.lists.proofs.Cases.{both}
use Rattle.lists.proofs.ListLaws.{all_append}
use Rattle.lists.proofs.SpanLaws.{length-span, get_or-span, all_concat, length-concat, get_or-concat, occurs-append, occurs-span}
use Rattle.lists.proofs.SumLaws.{sum_agree, sum_add, total_next, total_mono}
use Rattle.image.specs.Layout.{covers}
use Rattle.image.specs.Schema.{Schema}
use Rattle.image.specs.Flat.{rows_of, flat_messages, row_of, flat_enums, flat_oneofs, field_rows, flat_fields, first_enum, first_oneof, first_field}
use Rattle.image.specs.Laid.{Inside, Sound}
use Rattle.image.specs.OneToOne.{EachOnce, OneToOne}
use Rattle.image.specs.declared.rows.Range.{Range}
use Rattle.image.proofs.Once.{span_below, flat_inside}
use Rattle.image.proofs.Numbers.{each-once, flat_each, flat_length, flat_owned, enclosing_top, enclosing-nested, enclosing_le}

sum_count : (n : ℕ) (p : ℕ → Bool) → sum_below n (λ i. bit (p i)) ≡ count_below n p
unfolding sum_below count_below
sum_count zero p = refl
sum_count (suc n) p = rw (sum_count n p)

module _ (g : Schema) where
  -- the rows of a range that each message owns
  abbrev pub ranges : (ℕ → Range) → ℕ → List ℕ
  ranges own r = rows_of (own r)

  range_length : (own : ℕ → Range) (r : ℕ) → length (ranges own r) ≡ (own r).count
  range_length own r = length-span (own r).first (own r).count

  range_below : (own : ℕ → Range) (n : ℕ) → Inside g own n → (p : ℕ) → ltb p g.messages ≡ true → all (λ x. ltb x n) (ranges own p) ≡ true
  range_below own n inside p h = span_below n (own p).first (own p).count (inside p (ltb-true p g.messages h))

  pub fields_length : (r : ℕ) → length (field_rows g r) ≡ (g.fields_in r).count + (g.extensions_in r).count
  fields_length r =
      length-append (ranges g.fields_in r) (ranges g.extensions_in r)
      ∙ rw (range_length g.fields_in r, range_length g.extensions_in r)

  module _ (ok : Sound g) where
    abbrev f : List ℕ
    f = flat_messages g

    -- ---- lists of rows that messages own, of known sizes

    module _ (own : ℕ → List ℕ) (size : ℕ → ℕ) (sized : (r : ℕ) → length (own r) ≡ size r) where
      owned_length : length (concat_map own f) ≡ total size (take g.messages f)
      owned_length =
          length-concat own f
          ∙ ap (λ (h : ℕ → ℕ). total h f) (fun_ext sized)
          ∙ ap (total size) (sym (take_all g.messages f (omega (arith, flat_length g ok))))

      owned_next : (m : ℕ) → m < g.messages → total size (take (m + 1) f) ≡ total size (take m f) + size (row_of g m)
      owned_next m l = total_next size f m 0 (omega (arith, flat_length g ok))

      owned_fits : (m : ℕ) → m < g.messages → total size (take m f) + size (row_of g m) ≤ length (concat_map own f)
      owned_fits m l = omega (arith, owned_length, owned_next m l, total_mono size f (m + 1) g.messages (omega arith))

      owned_at : (m k : ℕ) → m < g.messages → k < size (row_of g m)
          → get_or (concat_map own f) (total size (take m f) + k) 0 ≡ get_or (own (row_of g m)) k 0
      owned_at m k l h =
          ap (λ (s : ℕ → ℕ). get_or (concat_map own f) (total s (take m f) + k) 0) (sym (fun_ext sized))
          ∙ get_or-concat own f m k 0 0 (omega (arith, flat_length g ok)) (omega (arith, sized (row_of g m)))

    -- how often a row is owned, and that no row leaves its section

    owned_count : (own : ℕ → Range) (r : ℕ) → occurs r (concat_map (ranges own) f) ≡ count_below g.messages (λ p. covers (own p) r)
    owned_count own r =
        flat_owned g ok (ranges own) r
        ∙ sum_agree g.messages (λ p. occurs r (ranges own p)) (λ p. bit (covers (own p) r)) (λ p h. occurs-span r (own p).first (own p).count)
        ∙ sum_count g.messages (λ p. covers (own p) r)

    owned_below : (own : ℕ → List ℕ) (n : ℕ) → ((p : ℕ) → ltb p g.messages ≡ true → all (λ x. ltb x n) (own p) ≡ true)
        → all (λ x. ltb x n) (concat_map own f) ≡ true
    owned_below own n inside = all_concat (λ x. ltb x n) (λ p. ltb p g.messages) own f (flat_inside g ok) inside

    range_at_lem : (own : ℕ → Range) (m k : ℕ) → m < g.messages → k < (own (row_of g m)).count
        → get_or (concat_map (ranges own) f) (total (λ r. (own r).count) (take m f) + k) 0 ≡ (own (row_of g m)).first + k
    range_at_lem own m k l h =
        owned_at (ranges own) (λ r. (own r).count) (range_length own) m k l h ∙ get_or-span (own (row_of g m)).first (own (row_of g m)).count k 0 h

    append_below : (n : ℕ) (a b : List ℕ) → all (λ x. ltb x n) a ≡ true → all (λ x. ltb x n) b ≡ true → all (λ x. ltb x n) (a ++ b) ≡ true
    append_below n a b p q = all_append (λ x. ltb x n) a b ∙ both (all (λ x. ltb x n) a) (all (λ x. ltb x n) b) p q

    -- ---- enums

    abbrev own_enums : List ℕ
    own_enums = concat_map (ranges g.enums_in) f

    pub enums-each : EachOnce (flat_enums g) g.enums
    unfolding flat_enums
    enums-each =
        each-once (flat_enums g) g.enums
        (append_below g.enums (span 0 g.top_enums) own_enums
        (span_below g.enums 0 g.top_enums (omega (arith, ok.layout.top_enums-inside)))
        (owned_below (ranges g.enums_in) g.enums (range_below g.enums_in g.enums ok.layout.enums-inside)))
        (λ r h. omega (arith, occurs-append r (span 0 g.top_enums) own_enums, occurs-span r 0 g.top_enums, owned_count g.enums_in r, ok.layout.enum_owner r h))

    pub enums_end_lem : first_enum g g.messages ≡ g.enums
    unfolding flat_enums
    enums_end_lem =
        omega
        (arith, enums-each.size, length-append (span 0 g.top_enums) own_enums, length-span 0 g.top_enums, owned_length (ranges g.enums_in) (λ r. (g.enums_in r).count) (range_length g.enums_in))

    pub enums_next : (m : ℕ) → m < g.messages → first_enum g (m + 1) ≡ first_enum g m + (g.enums_in (row_of g m)).count
    enums_next m l = omega (arith, owned_next (ranges g.enums_in) (λ r. (g.enums_in r).count) (range_length g.enums_in) m l)

    pub enums_mono : (m n : ℕ) → m ≤ n → first_enum g m ≤ first_enum g n
    enums_mono m n h = omega (arith, total_mono (λ r. (g.enums_in r).count) f m n h)

    top_enum : (k : ℕ) → k < g.top_enums → get_or (flat_enums g) k 0 ≡ k
    unfolding flat_enums
    top_enum k h =
        get_or-append (span 0 g.top_enums) own_enums 0 k (omega (arith, length-span 0 g.top_enums))
        ∙ get_or-span 0 g.top_enums k 0 h
        ∙ omega arith

    own_enum : (m k : ℕ) → m < g.messages → k < (g.enums_in (row_of g m)).count
        → get_or (flat_enums g) (first_enum g m + k) 0 ≡ (g.enums_in (row_of g m)).first + k
    unfolding flat_enums
    own_enum m k l h =
        let t = total (λ r. (g.enums_in r).count) (take m f) in
        let e : first_enum g m + k ≡ length (span 0 g.top_enums) + (t + k) = omega (arith, length-span 0 g.top_enums) in
        ap (λ (i : ℕ). get_or (flat_enums g) i 0) e
        ∙ get_or-append-add (span 0 g.top_enums) own_enums (t + k) 0
        ∙ range_at_lem g.enums_in m k l h

    -- ---- oneofs

    pub oneofs-each : EachOnce (flat_oneofs g) g.oneofs
    unfolding flat_oneofs
    oneofs-each =
        each-once (flat_oneofs g) g.oneofs
        (owned_below (ranges g.oneofs_in) g.oneofs (range_below g.oneofs_in g.oneofs ok.layout.oneofs-inside))
        (λ r h. owned_count g.oneofs_in r ∙ ok.layout.oneof-owner r h)

    pub oneofs_end : first_oneof g g.messages ≡ g.oneofs
    unfolding flat_oneofs
    oneofs_end = sym (owned_length (ranges g.oneofs_in) (λ r. (g.oneofs_in r).count) (range_length g.oneofs_in)) ∙ oneofs-each.size

    pub oneofs_next : (m : ℕ) → m < g.messages → first_oneof g (m + 1) ≡ first_oneof g m + (g.oneofs_in (row_of g m)).count
    oneofs_next = owned_next (ranges g.oneofs_in) (λ r. (g.oneofs_in r).count) (range_length g.oneofs_in)

    pub oneofs_mono : (m n : ℕ) → m ≤ n → first_oneof g m ≤ first_oneof g n
    oneofs_mono m n h = total_mono (λ r. (g.oneofs_in r).count) f m n h

    own-oneof : (m k : ℕ) → m < g.messages → k < (g.oneofs_in (row_of g m)).count
        → get_or (flat_oneofs g) (first_oneof g m + k) 0 ≡ (g.oneofs_in (row_of g m)).first + k
    unfolding flat_oneofs
    own-oneof m k l h = range_at_lem g.oneofs_in m k l h

    -- ---- fields

    abbrev file_rows : List ℕ
    file_rows = rows_of g.file_extensions

    abbrev own_fields : List ℕ
    own_fields = concat_map (field_rows g) f

    abbrev field_count : ℕ → ℕ
    field_count r = (g.fields_in r).count + (g.extensions_in r).count

    fields_count : (r : ℕ) → occurs r own_fields ≡ count_below g.messages (λ p. covers (g.fields_in p) r) + count_below g.messages (λ p. covers (g.extensions_in p) r)
    fields_count r =
        let a : ℕ → ℕ = λ p. bit (covers (g.fields_in p) r) in
        let b : ℕ → ℕ = λ p. bit (covers (g.extensions_in p) r) in
        flat_owned g ok (field_rows g) r
        ∙ sum_agree g.messages (λ p. occurs r (field_rows g p)) (λ p. a p + b p)
        (λ p h.
        occurs-append r (ranges g.fields_in p) (ranges g.extensions_in p)
        ∙ rw (occurs-span r (g.fields_in p).first (g.fields_in p).count, occurs-span r (g.extensions_in p).first (g.extensions_in p).count))
        ∙ sum_add g.messages a b
        ∙ rw (sum_count g.messages (λ p. covers (g.fields_in p) r), sum_count g.messages (λ p. covers (g.extensions_in p) r))

    pub fields_each : EachOnce (flat_fields g) g.fields
    unfolding flat_fields
    fields_each =
        each-once (flat_fields g) g.fields
        (append_below g.fields own_fields file_rows
        (owned_below (field_rows g) g.fields
        (λ p h. append_below g.fields (ranges g.fields_in p) (ranges g.extensions_in p)
        (range_below g.fields_in g.fields ok.layout.fields_inside p h)
        (range_below g.extensions_in g.fields ok.layout.extensions_inside p h)))
        (span_below g.fields g.file_extensions.first g.file_extensions.count ok.layout.file_inside))
        (λ r h. omega (arith, occurs-append r own_fields file_rows, occurs-span r g.file_extensions.first g.file_extensions.count, fields_count r, ok.layout.field-owner r h))

    own_fields-length : length own_fields ≡ first_field g g.messages
    own_fields-length = owned_length (field_rows g) field_count fields_length

    pub fields_end_lem : first_field g g.messages + g.file_extensions.count ≡ g.fields
    unfolding flat_fields
    fields_end_lem =
        omega
        (arith, fields_each.size, length-append own_fields file_rows, length-span g.file_extensions.first g.file_extensions.count, own_fields-length)

    pub fields_next : (m : ℕ) → m < g.messages → first_field g (m + 1) ≡ first_field g m + field_count (row_of g m)
    fields_next = owned_next (field_rows g) field_count fields_length

    pub fields_mono : (m n : ℕ) → m ≤ n → first_field g m ≤ first_field g n
    fields_mono m n h = total_mono field_count f m n h

    file_extension : (k : ℕ) → k < g.file_extensions.count → get_or (flat_fields g) (first_field g g.messages + k) 0 ≡ g.file_extensions.first + k
    unfolding flat_fields
    file_extension k h =
        ap (λ (n : ℕ). get_or (flat_fields g) (n + k) 0) (sym own_fields-length)
        ∙ get_or-append-add own_fields file_rows k 0
        ∙ get_or-span g.file_extensions.first g.file_extensions.count k 0 h

    -- field j of those of a message, regular and extensions together
    field_at : (m j : ℕ) → m < g.messages → j < field_count (row_of g m) → get_or (flat_fields g) (first_field g m + j) 0 ≡ get_or (field_rows g (row_of g m)) j 0
    unfolding flat_fields
    field_at m j l h =
        get_or-append own_fields file_rows 0 (first_field g m + j) (omega (arith, owned_fits (field_rows g) field_count fields_length m l))
        ∙ owned_at (field_rows g) field_count fields_length m j l h

    own-field : (m k : ℕ) → m < g.messages → k < (g.fields_in (row_of g m)).count
        → get_or (flat_fields g) (first_field g m + k) 0 ≡ (g.fields_in (row_of g m)).first + k
    own-field m k l h =
        let r = row_of g m in
        field_at m k l (omega arith)
        ∙ get_or-append (ranges g.fields_in r) (ranges g.extensions_in r) 0 k (omega (arith, range_length g.fields_in r))
        ∙ get_or-span (g.fields_in r).first (g.fields_in r).count k 0 h

    own_extension : (m k : ℕ) → m < g.messages → k < (g.extensions_in (row_of g m)).count
        → get_or (flat_fields g) (first_field g m + (g.fields_in (row_of g m)).count + k) 0 ≡ (g.extensions_in (row_of g m)).first + k
    own_extension m k l h =
        let r = row_of g m in
        let n = (g.fields_in r).count in
        let e : first_field g m + n + k ≡ first_field g m + (n + k) = omega arith in
        ap (λ (i : ℕ). get_or (flat_fields g) i 0) e
        ∙ field_at m (n + k) l (omega arith)
        ∙ ap (λ (i : ℕ). get_or (field_rows g r) (i + k) 0) (sym (range_length g.fields_in r))
        ∙ get_or-append-add (ranges g.fields_in r) (ranges g.extensions_in r) k 0
        ∙ get_or-span (g.extensions_in r).first (g.extensions_in r).count k 0 h

    -- ---- all together

    pub one_to_one : OneToOne g
    one_to_one =
        record {
          messages = flat_each g ok;
          enums = enums-each;
          oneofs = oneofs-each;
          fields = fields_each;
          at_top = λ m l t. enclosing_top g ok m t;
          enclosed = enclosing-nested g ok;
          enclosing-before = enclosing_le g ok;
          enums_end_lem = enums_end_lem;
          oneofs_end = oneofs_end;
          fields_end_lem = fields_end_lem;
          top_enum = top_enum;
          file_extension = file_extension;
          own_enum = own_enum;
          own-oneof = own-oneof;
          own-field = own-field;
          own_extension = own_extension;
        }
