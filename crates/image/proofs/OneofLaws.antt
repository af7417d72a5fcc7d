-- The link rows of oneofs, from members that are counted. Assumes nothing.
use mathlib.Core.Path.{◌≡◌}
use mathlib.Core.List.{List}
use Prim.Native.Nat.{ℕ, ◌+◌, ◌≤◌}
use native.Mathlib.Omega.{arith}
use lib.Dec.{ltb}
use borrow.Author.Tests.{lt-ltb, ltb-true}
use Rattle.lists.specs.Lists.{span, concat_map, table}
use Rattle.lists.proofs.SpanLaws.{concat_agree, all_span_intro}
use Rattle.lists.proofs.TableLaws.{get_or_table}
use Rattle.image.specs.Schema.{Schema}
use Rattle.image.specs.Members.{member_count, optional_members}
use Rattle.image.specs.Walk.{oneof_row, counted_row}

-- where 256 places are counted, the rows of the first n oneofs are those of the message
pub counted_rows : (g : Schema) (m r n : ℕ) (ms os : List ℕ) → n ≤ 256 → ms ≡ table 256 (member_count g r) → os ≡ table 256 (optional_members g r)
    → concat_map (counted_row m ms os) (span 0 n) ≡ concat_map (oneof_row g m r) (span 0 n)
counted_rows g m r n ms os h p q =
    concat_agree (λ k. ltb k 256) (counted_row m ms os) (oneof_row g m r) (span 0 n)
    (all_span_intro (λ k. ltb k 256) 0 n (λ k l. lt-ltb (0 + k) 256 (omega arith)))
    (λ k t. rw (p, q, get_or_table 256 (member_count g r) k 0 (ltb-true k 256 t), get_or_table 256 (optional_members g r) k 0 (ltb-true k 256 t)))
