-- The whole outcome of linking, for every input: the answer, and what the two lent slices of the shelf then hold. Assumes nothing.
use Rattle.std.specs.Prelude.{List, ℕ, Result, Ok, Err}
use Rattle.lists.specs.Splice.{splice}
use Rattle.image.specs.Shelf.{used_with}
use Rattle.image.specs.Verdict.{Verdict, number, first}
use Rattle.image.specs.declared.shelf.Used.{Used}
use Rattle.image.specs.declared.verdict.Refused.{Refused}
use Rattle.link.specs.Refusals.{Call, new_file, new_record, table}

-- the answer: a refusal with its place, or the three numbers of the shelf then
abbrev pub Linked : Type 0
Linked = Result Used Refused

-- the number of each answer: 0 where the file is accepted, else that of the refusal; its place; and the three numbers of the shelf then,
-- which a refusal leaves
abbrev pub answer_number : Linked → ℕ
answer_number (Ok used) = 0
answer_number (Err r) = number r.refusal

abbrev pub answer_place : Linked → ℕ
answer_place (Ok used) = 0
answer_place (Err r) = r.place

abbrev pub answer_used : Used → Linked → Used
answer_used was (Ok used) = used
answer_used was (Err r) = was

pub record Outcome : Type 0 where
  pub answer : Linked
  pub words : List ℕ
  pub bytes : List ℕ

-- a refusal leaves all as it was; an acceptance writes the record just behind the used words, the pool just behind the used bytes
unfoldable pub outcome : Call → Verdict → Outcome
outcome c (Err r) = record { answer = Err r; words = c.words; bytes = c.bytes }
outcome c (Ok u) =
    record {
      answer = Ok (used_with c.used (new_file c));
      words = splice c.words c.used.words (new_record c);
      bytes = splice c.bytes c.used.bytes c.pool;
    }

unfoldable pub linked : Call → Outcome
unfolding outcome first
linked c = outcome c (first (table c))
