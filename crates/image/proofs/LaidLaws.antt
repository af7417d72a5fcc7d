-- An image that is laid out gives the facts that stand above rule 3. Assumes nothing.
use mathlib.Core.Path.{◌≡◌}
use mathlib.Core.List.{List}
use mathlib.Core.Bool.{Bool, true, false, ◌&&◌, ◌||◌}
use Prim.Native.Nat.{ℕ, ◌<◌}
use native.Mathlib.Omega.{arith}
use lib.Dec.{eqb, ltb}
use borrow.Author.Tests.{eqb-true, leb-true, ltb-true}
use Rattle.lists.proofs.Cases.{by, left, right, each}
use Rattle.lists.proofs.BelowLaws.{all_below_elim}
use Rattle.lists.proofs.SpanLaws.{range_ends}
use Rattle.image.specs.Words.{top_messages, top_enums, sections_of, section_of, nested_messages, file_extensions}
use Rattle.image.specs.Layout.{frame_tests, frame_fits, file_tests, file_ranges_fit, rows_tests, all_rows_fit, owners, owned_once, covers, stands_lower, parents_lower, owner_tests, all_owned, laid_out}
use Rattle.image.specs.Schema.{schema_in}
use Rattle.image.specs.Laid.{LaidOut}
use Rattle.image.specs.declared.rows.Sections.{Sections}
use Rattle.image.specs.declared.rows.Kind.{Kind}
use Rattle.image.specs.declared.rows.Kind.TheVariants.{Message, Enum, Oneof, Field}
use Rattle.image.proofs.RangeLaws.{range_inside, held_messages, held_enums, held_fields, held_extensions, held_oneofs}

-- the second of two conditions, one of which holds, where the first does not
or_other : (a b : Bool) → (a || b) ≡ true → a ≡ false → b ≡ true
or_other a b h e = simp e at h

module _ (image : List ℕ) (s : Sections) (n : ℕ) where
  file_parts : frame_fits image n s ≡ true → file_ranges_fit image s ≡ true
  unfolding frame_fits
  file_parts e = (each (frame_tests image n s) e).1.1.1.0

  owned_at : (kind : Kind) → owned_once image s kind ≡ true → (r : ℕ) → r < (section_of s kind).count → owners image s kind r ≡ 1
  unfolding owned_once
  owned_at kind e r l = eqb-true (owners image s kind r) 1 (all_below_elim (section_of s kind).count (λ i. eqb (owners image s kind i) 1) e r l)

  lower_at : parents_lower image s ≡ true → (p r : ℕ) → p < s.messages.count → covers (nested_messages image s p) r ≡ true → p < r
  unfolding parents_lower
  lower_at e p r l o =
      let g = nested_messages image s p in
      let ends = range_ends g.first g.count r o in
      let t = all_below_elim s.messages.count (stands_lower image s) e p l in
      by (eqb g.count 0)
      (λ z. absurd (omega (arith, eqb-true g.count 0 z, ends.0, ends.1)))
      (λ z. omega (arith, ends.0, ltb-true p g.first (or_other (eqb g.count 0) (ltb p g.first) t z)))

  pub laid_out_by : (pool : List ℕ) → frame_fits image n s ≡ true → all_rows_fit image n s ≡ true → all_owned image s ≡ true → LaidOut (schema_in image s pool)
  unfolding schema_in file_ranges_fit all_rows_fit all_owned
  laid_out_by pool frame rows owned =
      let file = each (file_tests image s) (file_parts frame) in
      let fit = (each (rows_tests image n s) rows).1.0 in
      let once = each (owner_tests image s) owned in
      record {
        top_inside = leb-true (top_messages image) s.messages.count file.0;
        nested-inside = (held_messages image s n fit).inside;
        message_owner = owned_at Message once.0;
        higher = lower_at once.1.1.1.1.1.0;
        top_enums-inside = leb-true (top_enums image) s.enums.count file.1.0;
        enums-inside = (held_enums image s n fit).inside;
        enum_owner = owned_at Enum once.1.0;
        oneofs-inside = (held_oneofs image s n fit).inside;
        oneof-owner = owned_at Oneof once.1.1.1.0;
        fields_inside = (held_fields image s n fit).inside;
        extensions_inside = (held_extensions image s n fit).inside;
        file_inside = range_inside s.fields.count (file_extensions image) file.1.1.0;
        field-owner = owned_at Field once.1.1.1.1.0;
      }

-- an image that obeys rule 3
pub laid_out_lem : (image : List ℕ) (n : ℕ) (pool : List ℕ) → laid_out image n ≡ true → LaidOut (schema_in image (sections_of image) pool)
unfolding laid_out
laid_out_lem image n pool e =
    let s = sections_of image in
    let both = right (frame_fits image n s) (all_rows_fit image n s && all_owned image s) e in
    laid_out_by image s n pool
    (left (frame_fits image n s) (all_rows_fit image n s && all_owned image s) e)
    (left (all_rows_fit image n s) (all_owned image s) both)
    (right (all_rows_fit image n s) (all_owned image s) both)
