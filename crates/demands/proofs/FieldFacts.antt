-- All fields of a file that draws no refusal: their link rows meet the tests of rule 2, and no field clashes. Assumes nothing.
use mathlib.Core.Path.{◌≡◌, refl, sym, ap, subst, ◌∙◌}
use mathlib.Core.Bool.{Bool, true, false, not}
use mathlib.Core.List.{List, [], ◌∷◌, ◌++◌, append_assoc}
use Prim.Native.Nat.{ℕ, zero, suc, ◌+◌, ◌*◌, ◌-◌, ◌<◌, ◌≤◌}
use native.Mathlib.Nat.{zero-add, add-zero}
use native.Mathlib.Omega.{arith}
use lib.ListN.{length, get_or, get_or-append}
use lib.Seq.{get_or-append-add}
use Rattle.std.specs.Prelude.{Ok, is_none}
use Rattle.lists.specs.Lists.{span, concat_map, table}
use Rattle.lists.proofs.Cases.{order}
use Rattle.lists.proofs.BelowLaws.{all_below_intro}
use Rattle.lists.proofs.SpanLaws.{length-span, get_or-span}
use Rattle.lists.proofs.TableLaws.{as_table}
use Rattle.image.specs.Words.{word_at}
use Rattle.image.specs.Flat.{rows_of, flat_messages, row_of, flat_of, field_rows, flat_fields, first_field}
use Rattle.image.specs.Laid.{Sound}
use Rattle.image.specs.Links.{link_words}
use Rattle.image.specs.Clash.{first_clash}
use Rattle.image.specs.Record.{link_row, field_link_at, field_link_of, repeated, containers_in, containers}
use Rattle.image.specs.LinkTests.{field_link_fits, field_links_fit}
use Rattle.image.specs.Shelf.{clash_free}
use Rattle.image.specs.Verdict.{Line, first, in_order}
use Rattle.image.specs.declared.rows.Range.{Range}
use Rattle.image.proofs.Numbers.{flat_length, row_in, flat_in, row_of_flat}
use Rattle.image.proofs.Owned.{fields_each, fields_length}
use Rattle.image.proofs.LinkLaws.{run}
use Rattle.link.specs.Sight.{Sight, own_says}
use Rattle.link.specs.Rows.{field_links_in, field_links, all_links}
use Rattle.link.specs.Refusals.{range_lines, clash_at, message_lines, all_field_lines}
use Rattle.link.proofs.TableLaws.{none_given}
use Rattle.link.proofs.ShelfFacts.{order_passed}
use Rattle.link.proofs.FileIndexLaws.{link_of, links_wide, message_part, lines_of}
use Rattle.link.proofs.PhaseLaws.{both_passed}
use Rattle.demands.proofs.FitFacts.{with_links, shelf_with, EnumsKept, field_fits_lem}
use Rattle.demands.proofs.RowFacts.{field-word}

-- ---- three lists in step: fields, the message that holds each, and sixteen words for each

-- `row r h` are the words of a field r in h, and each field is fine
data InStep (row : ℕ → ℕ → List ℕ) (fine : ℕ → Type 0) : List ℕ → List ℕ → List ℕ → Type 0 where
  none : InStep row fine [] [] []
  next : {r h : ℕ} {rows holders words : List ℕ} → fine r → InStep row fine rows holders words → InStep row fine (r ∷ rows) (h ∷ holders) (row r h ++ words)

repeated_more : (n word : ℕ) → repeated (suc n) word ≡ word ∷ repeated n word
unfolding table
repeated_more zero word = refl
repeated_more (suc n) word = ap (λ (l : List ℕ). l ++ (word ∷ [])) (repeated_more n word)

module _ {row : ℕ → ℕ → List ℕ} {fine : ℕ → Type 0} where
  step-append : {rows holders words rows' holders' words' : List ℕ} → InStep row fine rows holders words → InStep row fine rows' holders' words'
      → InStep row fine (rows ++ rows') (holders ++ holders') (words ++ words')
  step-append none t = t
  step-append {rows' = rows'} {holders' = holders'} {words' = words'} (next {r = r} {h = h} {rows = rows} {holders = holders} {words = words} f s) t =
      subst (λ (l : List ℕ). InStep row fine (r ∷ (rows ++ rows')) (h ∷ (holders ++ holders')) l) (sym (append_assoc (row r h) words words')) (next f (step-append s t))

  -- some fields in one message
  step_one : (h : ℕ) (rows : List ℕ) → ((k : ℕ) → k < length rows → fine (get_or rows k 0)) → InStep row fine rows (repeated (length rows) h) (concat_map (λ r. row r h) rows)
  unfolding concat_map table
  step_one h [] f = none
  step_one h (r ∷ rows) f =
      subst (λ (l : List ℕ). InStep row fine (r ∷ rows) l (row r h ++ concat_map (λ r. row r h) rows)) (sym (repeated_more (length rows) h))
      (next (f 0 (omega arith)) (step_one h rows (λ k l. f (suc k) (omega arith))))

  step_fine : {rows holders words : List ℕ} → InStep row fine rows holders words → (k : ℕ) → k < length rows → fine (get_or rows k 0)
  step_fine none k l = absurd (omega arith)
  step_fine (next f s) zero l = f
  step_fine (next f s) (suc k) l = step_fine s k (omega arith)

  -- the words of field k
  step_words : ((r h : ℕ) → length (row r h) ≡ 16) → {rows holders words : List ℕ} → InStep row fine rows holders words → (k j : ℕ) → k < length rows → j < 16
      → get_or words (k * 16 + j) 0 ≡ get_or (row (get_or rows k 0) (get_or holders k 0)) j 0
  step_words wide none k j l m = absurd (omega arith)
  step_words wide (next {r = r} {h = h} {words = words} f s) zero j l m =
      let e : zero * 16 + j ≡ j = omega arith in
      ap (λ (i : ℕ). get_or (row r h ++ words) i 0) e ∙ get_or-append (row r h) words 0 j (omega (arith, wide r h))
  step_words wide (next {r = r} {h = h} {words = words} f s) (suc k) j l m =
      let e : suc k * 16 + j ≡ length (row r h) + (k * 16 + j) = omega (arith, wide r h) in
      ap (λ (i : ℕ). get_or (row r h ++ words) i 0) e ∙ get_or-append-add (row r h) words (k * 16 + j) 0 ∙ step_words wide s k j (omega arith) m

-- ---- the fields of all messages, and those of the file

-- the link row of field r in message h
abbrev words_of : Sight → List ℕ → ℕ → ℕ → List ℕ
words_of s list r h = link_of s list h r

module _ (s : Sight) (list : List ℕ) (fine : ℕ → Type 0) where
  -- messages whose rows are l, from flat number k on
  step-messages : (l : List ℕ) (k : ℕ) → ((i : ℕ) → i < length l → row_of (own_says s) (k + i) ≡ get_or l i 0)
      → ((i : ℕ) → i < length l → (j : ℕ) → j < length (field_rows (own_says s) (get_or l i 0)) → fine (get_or (field_rows (own_says s) (get_or l i 0)) j 0))
      → InStep (words_of s list) fine (concat_map (field_rows (own_says s)) l) (run (containers_in (own_says s)) k (length l)) (run (message_part s list) k (length l))
  unfolding concat_map span
  step-messages [] k rows f = none
  step-messages (x ∷ l) k rows f =
      let here : row_of (own_says s) k ≡ x = ap (row_of (own_says s)) (sym (add-zero k)) ∙ rows 0 (omega arith) in
      let one : InStep (words_of s list) fine (field_rows (own_says s) x) (containers_in (own_says s) k) (message_part s list k) = rw here (step_one (k + 1) (field_rows (own_says s) x) (f 0 (omega arith))) in
      step-append one
      (step-messages l (k + 1) (λ i m. let e : k + 1 + i ≡ k + suc i = omega arith in ap (row_of (own_says s)) e ∙ rows (suc i) (omega arith)) (λ i m. f (suc i) (omega arith)))

  step_all : Sound (own_says s)
      → ((m : ℕ) → m < (own_says s).messages → (j : ℕ) → j < length (field_rows (own_says s) (row_of (own_says s) m)) → fine (get_or (field_rows (own_says s) (row_of (own_says s) m)) j 0))
      → ((j : ℕ) → j < (own_says s).file_extensions.count → fine ((own_says s).file_extensions.first + j))
      → InStep (words_of s list) fine (flat_fields (own_says s)) (containers (own_says s)) (field_links s list)
  unfolding flat_fields containers field_links
  step_all ok own file =
      let g = own_says s in
      let x = g.file_extensions in
      let size = flat_length g ok in
      let count = length-span x.first x.count in
      let messages =
      subst (λ (n : ℕ). InStep (words_of s list) fine (concat_map (field_rows g) (flat_messages g)) (run (containers_in g) 0 n) (run (message_part s list) 0 n)) size
      (step-messages (flat_messages g) 0 (λ i m. ap (row_of g) (zero-add i)) (λ i m. own i (omega (arith, size)))) in
      let extensions =
      subst (λ (n : ℕ). InStep (words_of s list) fine (rows_of x) (repeated n 0) (field_links_in s list 0 (rows_of x))) count
      (step_one 0 (rows_of x) (λ k l. subst fine (sym (get_or-span x.first x.count k 0 (omega (arith, count)))) (file k (omega (arith, count))))) in
      step-append messages extensions

-- ---- a file whose fields draw no refusal

module _ (s : Sight) (list : List ℕ) (ok : Sound (own_says s)) (passed : first (all_field_lines s list) ≡ Ok tt) where
  module _ (m : ℕ) (h : m < (own_says s).messages) where
    abbrev regular_lines : List Line
    regular_lines = range_lines s list false ((own_says s).fields_in (row_of (own_says s) m)) (first_field (own_says s) m)

    abbrev clash_lines : List Line
    clash_lines = clash_at (own_says s) (row_of (own_says s) m) (first_field (own_says s) m)

    abbrev extension_lines : List Line
    extension_lines =
        range_lines s list false ((own_says s).extensions_in (row_of (own_says s) m)) (first_field (own_says s) m + ((own_says s).fields_in (row_of (own_says s) m)).count)

    message_passed : first (message_lines s list m) ≡ Ok tt
    unfolding all_field_lines
    message_passed = order_passed (own_says s).messages (message_lines s list) (both_passed (in_order (own_says s).messages (message_lines s list)) _ passed).0 m h

    regular_passed : first regular_lines ≡ Ok tt
    unfolding message_lines
    regular_passed = (both_passed regular_lines (clash_lines ++ extension_lines) message_passed).0

    clash_passed : first clash_lines ≡ Ok tt
    unfolding message_lines
    clash_passed = (both_passed clash_lines extension_lines (both_passed regular_lines (clash_lines ++ extension_lines) message_passed).1).0

    extensions_passed : first extension_lines ≡ Ok tt
    unfolding message_lines
    extensions_passed = (both_passed clash_lines extension_lines (both_passed regular_lines (clash_lines ++ extension_lines) message_passed).1).1

  file_passed : first (range_lines s list true (own_says s).file_extensions (first_field (own_says s) (own_says s).messages)) ≡ Ok tt
  unfolding all_field_lines
  file_passed = (both_passed (in_order (own_says s).messages (message_lines s list)) _ passed).1

  -- 17: every row is that of a flat message
  pub clash_free_lem : clash_free (own_says s) ≡ true
  unfolding clash_free clash_at
  clash_free_lem =
      let g = own_says s in
      all_below_intro g.messages (λ r. is_none (first_clash g r))
      (λ r l. let m = flat_of g r in
      let lines = none_given (clash_at g (row_of g m) (first_field g m)) (clash_passed m (flat_in g ok r l)) in
      ap (λ (x : ℕ). is_none (first_clash g x)) (sym (row_of_flat g ok r l)) ∙ ap not lines.0)

  -- the link row of every field
  module _ (inside : (r : ℕ) → r < (own_says s).fields → ((own_says s).field r).default_start + length ((own_says s).field r).default ≤ length s.own.pool)
      (kept : EnumsKept s (all_links s list))
    where
      abbrev fits : ℕ → ℕ → List ℕ → Bool
      fits r h words = field_link_fits (shelf_with s (all_links s list)) (length s.own.pool) r h (field_link_of words)

      abbrev Fine : ℕ → Type 0
      Fine r = (h : ℕ) → fits r h (link_of s list h r) ≡ true

      range_fine : (x : Range) (ofFile : Bool) (at : ℕ) → x.first + x.count ≤ (own_says s).fields → first (range_lines s list ofFile x at) ≡ Ok tt
          → (j : ℕ) → j < x.count → Fine (x.first + j)
      range_fine x ofFile at low p j l h =
          field_fits_lem s list (all_links s list) ((own_says s).field (x.first + j)) (x.first + j) h (length s.own.pool) ofFile (at + j)
          (order_passed x.count (lines_of s list ofFile x.first at) p j l) (inside (x.first + j) (omega arith)) kept

      message_fine : (m : ℕ) → m < (own_says s).messages → (j : ℕ) → j < length (field_rows (own_says s) (row_of (own_says s) m)) → Fine (get_or (field_rows (own_says s) (row_of (own_says s) m)) j 0)
      message_fine m l j h =
          let g = own_says s in
          let x = g.fields_in (row_of g m) in
          let y = g.extensions_in (row_of g m) in
          let below = row_in g ok m l in
          let size = length-span x.first x.count in
          order j x.count
          (λ k. subst Fine
          (sym (get_or-append (rows_of x) (rows_of y) 0 j (omega (arith, size)) ∙ get_or-span x.first x.count j 0 k))
          (range_fine x false (first_field g m) (ok.layout.fields_inside (row_of g m) below) (regular_passed m l) j k))
          (λ k. let i = j - x.count in
          let e : j ≡ length (rows_of x) + i = omega (arith, size) in
          let less : i < y.count = omega (arith, fields_length g (row_of g m)) in
          subst Fine
          (sym (ap (λ (z : ℕ). get_or (field_rows g (row_of g m)) z 0) e ∙ get_or-append-add (rows_of x) (rows_of y) i 0 ∙ get_or-span y.first y.count i 0 less))
          (range_fine y false (first_field g m + x.count) (ok.layout.extensions_inside (row_of g m) below) (extensions_passed m l) i less))

      in_step : InStep (words_of s list) Fine (flat_fields (own_says s)) (containers (own_says s)) (field_links s list)
      in_step =
          let g = own_says s in
          step_all s list Fine ok message_fine (range_fine g.file_extensions true (first_field g g.messages) ok.layout.file_inside file_passed)

      module _ (k : ℕ) (h : k < (own_says s).fields) where
        abbrev row : ℕ
        row = get_or (flat_fields (own_says s)) k 0

        abbrev holder : ℕ
        holder = get_or (containers (own_says s)) k 0

        listed : k < length (flat_fields (own_says s))
        listed = omega (arith, (fields_each (own_says s) ok).size)

        word-there : (j : ℕ) → j < 16 → get_or (link_of s list holder row) j 0 ≡ word_at (all_links s list) (field_link_at (own_says s) k + j)
        word-there j l =
            let e : field_link_at (own_says s) k + j ≡ link_words (own_says s) + (k * 16 + j) = omega arith in
            sym (ap (word_at (all_links s list)) e ∙ field-word s list ok (k * 16 + j) ∙ step_words (λ r h. links_wide s list h r) in_step k j listed l)

        row_there : link_row (all_links s list) (field_link_at (own_says s) k) 16 ≡ link_of s list holder row
        row_there = sym (as_table (link_of s list holder row) 16 (λ j. word_at (all_links s list) (field_link_at (own_says s) k + j)) 0 (links_wide s list holder row) word-there)

        field-there : fits row holder (link_row (all_links s list) (field_link_at (own_says s) k) 16) ≡ true
        field-there = ap (fits row holder) row_there ∙ step_fine in_step k listed holder

      pub fields_fit : field_links_fit (shelf_with s (all_links s list)) (with_links s (all_links s list)) ≡ true
      unfolding field_links_fit
      fields_fit = all_below_intro (own_says s).fields (λ k. fits (get_or (flat_fields (own_says s)) k 0) (get_or (containers (own_says s)) k 0) (link_row (all_links s list) (field_link_at (own_says s) k) 16)) field-there
