-- No section of an image within its limit has more rows than there are marks for, and no image whose counts are within their limits passes
-- its own. Assumes nothing.
use Prim.Native.Nat.{ℕ, ◌+◌, ◌*◌, ◌≤◌}
use native.Mathlib.Omega.{arith}
use mathlib.Core.Path.{◌≡◌}
use mathlib.Core.List.{List}
use mathlib.Core.Bool.{true, ◌&&◌}
use lib.ListN.{length}
use borrow.Author.Tests.{eqb-true, leb-true}
use Rattle.lists.proofs.Cases.{left, each}
use Rattle.image.specs.Words.{trailer_at, sections_of, section_of, row_at, section_end}
use Rattle.image.specs.Layout.{image_limit, follows, section_tests, sections_follow, frame_tests, frame_fits, all_rows_fit, all_owned, laid_out}
use Rattle.image.specs.Limits.{count_tests, counts_within}
use Rattle.image.specs.Marks.{row_limit, Roomy, room_tests, rows_within}
use Rattle.image.specs.declared.rows.Sections.{Sections}
use Rattle.image.specs.declared.rows.Kind.{Kind}
use Rattle.image.specs.declared.rows.Kind.TheVariants.{Import, Message, Enum, Value, Oneof, Field}

-- where sections start that follow without gap from word 0 up to the trailer
pub record Followed (end : ℕ) (s : Sections) : Type 0 where
  pub imports : s.imports.start ≡ 0
  pub messages : s.messages.start ≡ s.imports.start + s.imports.count * 3
  pub enums : s.enums.start ≡ s.messages.start + s.messages.count * 14
  pub values : s.values.start ≡ s.enums.start + s.enums.count * 4
  pub oneofs : s.oneofs.start ≡ s.values.start + s.values.count * 3
  pub fields : s.fields.start ≡ s.oneofs.start + s.oneofs.count * 2
  pub trailer : end ≡ s.fields.start + s.fields.count * 16

pub followed : (image : List ℕ) (s : Sections) → sections_follow image s ≡ true → Followed (trailer_at image) s
unfolding sections_follow follows section_end row_at
followed image s e =
    let t = each (section_tests image s) e in
    record {
      imports = eqb-true s.imports.start 0 t.0;
      messages = eqb-true s.messages.start (section_end s Import) t.1.0;
      enums = eqb-true s.enums.start (section_end s Message) t.1.1.0;
      values = eqb-true s.values.start (section_end s Enum) t.1.1.1.0;
      oneofs = eqb-true s.oneofs.start (section_end s Value) t.1.1.1.1.0;
      fields = eqb-true s.fields.start (section_end s Oneof) t.1.1.1.1.1.0;
      trailer = eqb-true (trailer_at image) (section_end s Field) t.1.1.1.1.1.1.0;
    }

few_by : (end : ℕ) (s : Sections) → Followed end s → end ≤ image_limit → (kind : Kind) → (section_of s kind).count ≤ row_limit
few_by end s f few Import = omega (arith, f, few)
few_by end s f few Message = omega (arith, f, few)
few_by end s f few Enum = omega (arith, f, few)
few_by end s f few Value = omega (arith, f, few)
few_by end s f few Oneof = omega (arith, f, few)
few_by end s f few Field = omega (arith, f, few)

pub few-rows : (image : List ℕ) (s : Sections) → length image ≤ image_limit → sections_follow image s ≡ true → Roomy s row_limit
unfolding trailer_at
few-rows image s h e = record { few = few_by (trailer_at image) s (followed image s e) (omega arith) }

-- the test for few marks tells the same of them
few_tested : (s : Sections) (n : ℕ) → rows_within s n ≡ true → (kind : Kind) → (section_of s kind).count ≤ n
unfolding rows_within
few_tested s n e Import = leb-true s.imports.count n (each (room_tests s n) e).0
few_tested s n e Message = leb-true s.messages.count n (each (room_tests s n) e).1.0
few_tested s n e Enum = leb-true s.enums.count n (each (room_tests s n) e).1.1.0
few_tested s n e Value = leb-true s.values.count n (each (room_tests s n) e).1.1.1.0
few_tested s n e Oneof = leb-true s.oneofs.count n (each (room_tests s n) e).1.1.1.1.0
few_tested s n e Field = leb-true s.fields.count n (each (room_tests s n) e).1.1.1.1.1.0

pub rows_tested : (s : Sections) (n : ℕ) → rows_within s n ≡ true → Roomy s n
rows_tested s n e = record { few = few_tested s n e }

-- more marks are enough as well
pub roomy_in : {s : Sections} {m n : ℕ} → Roomy s m → m ≤ n → Roomy s n
roomy_in room h = record { few = λ kind. omega (arith, room.few kind, h) }

-- an image that obeys rule 3, and whose counts are within their limits, has at most 50,296 words
pub few_words : (image : List ℕ) (n : ℕ) → laid_out image n ≡ true → counts_within (sections_of image) ≡ true → length image ≤ image_limit
unfolding laid_out frame_fits counts_within trailer_at
few_words image n p q =
    let s = sections_of image in
    let frame = left (frame_fits image n s) (all_rows_fit image n s && all_owned image s) p in
    let f = followed image s (each (frame_tests image n s) frame).1.1.0 in
    let c = each (count_tests s) q in
    let imports = leb-true s.imports.count 32 c.0 in
    let messages = leb-true s.messages.count 256 c.1.0 in
    let enums = leb-true s.enums.count 256 c.1.1.0 in
    let values = leb-true s.values.count 4096 c.1.1.1.0 in
    let oneofs = leb-true s.oneofs.count 256 c.1.1.1.1.0 in
    let fields = leb-true s.fields.count 2048 c.1.1.1.1.1.0 in
    omega (arith, f, imports, messages, enums, values, oneofs, fields)
