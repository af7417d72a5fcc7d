-- Laws of oneofs: counting their members in one pass, and what a synthetic one is. Assumes nothing.
use Prim.Native.Nat.{ℕ, ◌+◌, ◌<◌, ◌^◌}
use native.Mathlib.Omega.{arith}
use mathlib.Core.Path.{◌≡◌, sym, ap, ◌∙◌}
use mathlib.Core.List.{List}
use mathlib.Core.Bool.{Bool, true, false, cond, ◌&&◌}
use lib.Dec.{eqb}
use lib.ListN.{length, get_or}
use borrow.Author.Tests.{eq-eqb, ne_eqb, eqb-true}
use Rattle.lists.specs.Below.{bit, count_below}
use Rattle.lists.specs.Lists.{table}
use Rattle.image.specs.Counts.{Growable, Joined}
use Rattle.image.specs.Marks.{Free}
use Rattle.image.specs.Members.{is_member, member_count, optional_members, regular, synthetic}
use Rattle.image.specs.Schema.{Schema, schema_in}
use Rattle.image.specs.Words.{fields_of}
use Rattle.lists.proofs.BelowLaws.{count_le, count_mono, count_next, count_one, count_start, count_zero}
use Rattle.lists.proofs.Cases.{and-false, and-true, both, clash, left, right}
use Rattle.lists.proofs.TableLaws.{as_table}
use Rattle.image.proofs.FieldLaws.{says}
use Rattle.image.specs.declared.rows.Range.{Range}
use Rattle.image.specs.declared.rows.Sections.{Sections}

-- ---- the loop: the first j fields are counted; p k i says that field i counts at place k

pub record Counting (n : ℕ) (p : ℕ → ℕ → Bool) (counts : List ℕ) (j : ℕ) : Type 0 where
  pub size : length counts ≡ n
  pub each : (k : ℕ) → k < n → get_or counts k 0 ≡ count_below j (p k)

pub counting_start : (n : ℕ) (p : ℕ → ℕ → Bool) (counts : List ℕ) → length counts ≡ n → Free counts → Counting n p counts 0
counting_start n p counts size z = record { size = size; each = λ k l. z.free k (omega arith) ∙ sym (count_start (p k)) }

module _ {n : ℕ} {p : ℕ → ℕ → Bool} {counts : List ℕ} {j : ℕ} (h : Counting n p counts j) where
  pub counting_room : j + 1 < 2 ^ 32 → Growable counts
  counting_room l = record { each = λ k m. omega (arith, h.each k (omega (arith, h.size)), count_le j (p k)) }

  pub counting_more : {after : List ℕ} {oneof : ℕ} → length after ≡ length counts → Joined counts after oneof → ((k : ℕ) → eqb oneof (k + 1) ≡ p k j)
      → Counting n p after (j + 1)
  counting_more {after} {oneof} size m q =
      record {
        size = size ∙ h.size;
        each = λ k l.
            let a : get_or after k 0 ≡ get_or counts k 0 + bit (p k j) = rw (← q k) (m.each k (omega (arith, h.size))) in
            omega (arith, a, h.each k l, count_next j (p k));
      }

  pub counting_end : (m : ℕ) → j ≡ m → counts ≡ table n (λ k. count_below m (p k))
  counting_end m e = as_table counts n (λ k. count_below m (p k)) 0 h.size (λ k l. h.each k l ∙ ap (λ (i : ℕ). count_below i (p k)) e)

-- the oneof word of a proto3_optional field, or 0, names a place exactly if the field is a member there and proto3_optional
pub optional_joins : (b : Bool) (oneof k : ℕ) → eqb (cond b oneof 0) (k + 1) ≡ eqb oneof (k + 1) && b
optional_joins true oneof k = sym (and-true (eqb oneof (k + 1)))
optional_joins false oneof k = ne_eqb 0 (k + 1) (λ e. omega arith) ∙ sym (and-false (eqb oneof (k + 1)))

-- ---- the counts, by the range of a message that was read

-- regular field i is a member at place k, or a proto3_optional one
abbrev pub joins : List ℕ → Sections → List ℕ → Range → ℕ → ℕ → Bool
joins image s pool g k i = eqb (says image s pool g i).oneof (k + 1)

abbrev pub joins_optional : List ℕ → Sections → List ℕ → Range → ℕ → ℕ → Bool
joins_optional image s pool g k i = joins image s pool g k i && eqb (says image s pool g i).optional 1

module _ (image : List ℕ) (s : Sections) (pool : List ℕ) (r n : ℕ) (g : Range) (at : g ≡ fields_of image s r) where
  pub members_are : table n (λ k. count_below g.count (joins image s pool g k)) ≡ table n (member_count (schema_in image s pool) r)
  unfolding schema_in
  members_are = rw at

  pub optionals_are : table n (λ k. count_below g.count (joins_optional image s pool g k)) ≡ table n (optional_members (schema_in image s pool) r)
  unfolding schema_in
  optionals_are = rw at

-- ---- a oneof is synthetic exactly if it has one member, and that member is proto3_optional

pub record Sole (g : Schema) (r k : ℕ) : Type 0 where
  pub one : member_count g r k ≡ 1
  pub at : ℕ
  pub below : at < (g.fields_in r).count
  pub member : is_member g r k at ≡ true
  pub optional : (regular g r at).optional ≡ 1

module _ (g : Schema) (r k : ℕ) where
  pub synthetic_sole : synthetic g r k ≡ true → Sole g r k
  synthetic_sole e =
      let a = eqb-true (member_count g r k) 1 (left (eqb (member_count g r k) 1) (eqb (optional_members g r k) 1) e) in
      let b = eqb-true (optional_members g r k) 1 (right (eqb (member_count g r k) 1) (eqb (optional_members g r k) 1) e) in
      let o = count_one (g.fields_in r).count (λ j. is_member g r k j && eqb (regular g r j).optional 1) b in
      record {
        one = a;
        at = o.at;
        below = o.below;
        member = left (is_member g r k o.at) (eqb (regular g r o.at).optional 1) o.has;
        optional = eqb-true (regular g r o.at).optional 1 (right (is_member g r k o.at) (eqb (regular g r o.at).optional 1) o.has);
      }

  pub sole_synthetic : Sole g r k → synthetic g r k ≡ true
  sole_synthetic o =
      let has : (is_member g r k o.at && eqb (regular g r o.at).optional 1) ≡ true = both (is_member g r k o.at) (eqb (regular g r o.at).optional 1) o.member (eq-eqb (regular g r o.at).optional 1 o.optional) in
      let most = count_mono (g.fields_in r).count (λ j. is_member g r k j && eqb (regular g r j).optional 1) (is_member g r k) (λ i l t. left (is_member g r k i) (eqb (regular g r i).optional 1) t) in
      let some : optional_members g r k ≡ 0 → ⊥ = λ z. clash (is_member g r k o.at && eqb (regular g r o.at).optional 1) has (count_zero (g.fields_in r).count (λ j. is_member g r k j && eqb (regular g r j).optional 1) z o.at o.below) in
      both (eqb (member_count g r k) 1) (eqb (optional_members g r k) 1) (eq-eqb (member_count g r k) 1 o.one) (eq-eqb (optional_members g r k) 1 (omega (arith, o.one, most, some)))
