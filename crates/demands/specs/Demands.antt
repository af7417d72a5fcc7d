-- What linking owes its callers: demands 1 to 3, over the outcome `linked` that the code is proved to have. Assumes nothing.
use Rattle.std.specs.Prelude.{◌≡◌, ◌↔◌, true, List, [], ◌∷◌, ◌++◌, ℕ, ◌+◌, ◌<◌, ◌≤◌, length, get_or, Some, Ok, Err}
use Rattle.names.specs.Bytes.{dot}
use Rattle.image.specs.Words.{word_at}
use Rattle.image.specs.Links.{links_of}
use Rattle.image.specs.FullName.{items, full_name}
use Rattle.image.specs.Record.{message_link_at}
use Rattle.image.specs.LinkTests.{mark_at, no_distance}
use Rattle.image.specs.Shelf.{used_with, used_part, files_of, well_formed}
use Rattle.image.specs.declared.shelf.Used.{Used}
use Rattle.image.specs.declared.verdict.Refused.{Refused}
use Rattle.link.specs.Search.{searched}
use Rattle.link.specs.Chain.{Graph, Marked, Distance}
use Rattle.link.specs.Marks.{graph_of}
use Rattle.link.specs.Rows.{field_links}
use Rattle.link.specs.Given.{Given, NoneGiven}
use Rattle.link.specs.Refusals.{Call, said, seen, shelved_files, new_file, new_record, table}
use Rattle.link.specs.Link.{answer_used, Outcome, linked}
use Rattle.link.specs.Lookup.{item_named, asked, shelf_verdict, shelved_file, looked_up}
use Rattle.link.specs.Audit.{read_mark}
use Rattle.link.specs.declared.audit.Mark.TheVariants.{AlwaysInitialised, MayBeIncomplete}
use Rattle.link.specs.declared.building.Wanted.TheVariants.{Message, Enum}

-- the three numbers that a call leaves, and its shelf, as lookups are asked over it
abbrev pub used_after : Call → Used
used_after c = answer_used c.used (linked c).answer

abbrev pub shelf_after : Call → Call
shelf_after c = asked (linked c).words (linked c).bytes (used_after c)

-- ---- demand 1: refusals, each given exactly if its line decides; what a refusal leaves, and what an acceptance writes

-- "Given exactly if": with this place, and no earlier line of the table is given
abbrev pub RefusedExactlyIf : Call → Type 0
RefusedExactlyIf c = (r : Refused) → ((linked c).answer ≡ Err r) ↔ Given (table c) r.refusal r.place

-- a file is accepted exactly if no line is given
abbrev pub AcceptedExactlyIf : Call → Type 0
AcceptedExactlyIf c = ((linked c).answer ≡ Ok (used_with c.used (new_file c))) ↔ NoneGiven (table c)

-- "shelf slices and the three numbers stay"
pub record Unchanged (c : Call) : Type 0 where
  pub words : (linked c).words ≡ c.words
  pub bytes : (linked c).bytes ≡ c.bytes
  pub numbers : used_after c ≡ c.used

abbrev pub RefusalLeaves : Call → Type 0
RefusalLeaves c = (r : Refused) → (linked c).answer ≡ Err r → Unchanged c

-- `vs` has room in `was` from place `at` on, and stands there in `now`; before it, behind it and in length all is as in `was`
pub record Written (was now vs : List ℕ) (at : ℕ) : Type 0 where
  pub room : at + length vs ≤ length was
  pub size : length now ≡ length was
  pub before : (k : ℕ) → k < at → get_or now k 0 ≡ get_or was k 0
  pub there : (k : ℕ) → k < length vs → get_or now (at + k) 0 ≡ get_or vs k 0
  pub behind : (k : ℕ) → at + length vs ≤ k → get_or now k 0 ≡ get_or was k 0

-- the record stands behind the used words; "the image's pool is copied behind the shelf's used bytes"; the three numbers count both, and
-- one file more
pub record Appended (c : Call) : Type 0 where
  pub words : Written c.words (linked c).words (new_record c) c.used.words
  pub bytes : Written c.bytes (linked c).bytes c.pool c.used.bytes
  pub numbers : used_after c ≡ used_with c.used (new_file c)

abbrev pub AcceptanceAppends : Call → Type 0
AcceptanceAppends c = (u : Used) → (linked c).answer ≡ Ok u → Appended c

-- the shelf that an acceptance leaves is well formed, with the three numbers of the answer
abbrev pub AcceptanceFits : Call → Type 0
AcceptanceFits c = (u : Used) → (linked c).answer ≡ Ok u → well_formed (linked c).words (linked c).bytes u ≡ true

-- and its files are those that were there, and the new one
abbrev pub AcceptanceAdds : Call → Type 0
AcceptanceAdds c = (u : Used) → (linked c).answer ≡ Ok u → files_of u.files (used_part (linked c).words (linked c).bytes u) ≡ shelved_files c ++ (new_file c ∷ [])

-- "two outcomes allowed by one promise are equal"
abbrev pub OneOutcome : Call → Type 0
OneOutcome c = (o p : Outcome) → o ≡ linked c → p ≡ linked c → o ≡ p

-- ---- demand 2: full names, and what they find. As items the messages come first, in flat order, then the enums

-- the full name that the image gives item i
abbrev pub given_name : Call → ℕ → List ℕ
given_name c i = full_name (said c) (links_of (said c)) i

-- no two items of an accepted file have one full name
abbrev pub NamesDiffer : Call → Type 0
NamesDiffer c = (u : Used) → (linked c).answer ≡ Ok u → (i j : ℕ) → i < items (said c) → j < items (said c) → given_name c i ≡ given_name c j → i ≡ j

-- a lookup goes on in file f: neither 1 nor 2 is given, and the shelf has that file
abbrev pub GoesOn : Call → ℕ → Type 0
GoesOn c f = (shelf_verdict c ≡ Ok tt) × (f < c.used.files)

-- what linking numbered is found by its full name behind a dot, and nothing else is: in the new file, whose number is that of the files
-- before it
pub record FoundByName (c shelf : Call) : Type 0 where
  pub goes_on : GoesOn shelf c.used.files
  pub is_new : shelved_file shelf c.used.files ≡ new_file c
  pub messages : (name : List ℕ) (m : ℕ)
      → (looked_up shelf c.used.files (λ x. item_named Message x name) ≡ Ok (Some m)) ↔ ((m < (said c).messages) × (name ≡ dot ∷ given_name c m))
  pub enums : (name : List ℕ) (e : ℕ)
      → (looked_up shelf c.used.files (λ x. item_named Enum x name) ≡ Ok (Some e)) ↔ ((e < (said c).enums) × (name ≡ dot ∷ given_name c ((said c).messages + e)))

abbrev pub NumberedIsFound : Call → Type 0
NumberedIsFound c = (u : Used) → (linked c).answer ≡ Ok u → FoundByName c (shelf_after c)

-- ---- demand 3: marks, over the words that the shelf holds after an accepted call

-- the messages of the file that a call links: which have a cause of their own, and which refers to which
abbrev pub graph_of_call : Call → Graph
graph_of_call c = graph_of (seen c) (field_links (seen c) (searched (seen c)))

-- where the link row of flat message m is written: behind the words that were used, and those of the image
abbrev pub message_written_at : Call → ℕ → ℕ
message_written_at c m = c.used.words + length c.image + message_link_at m

-- the two words of its mark, as the shelf holds them after the call
abbrev pub always_word : Call → ℕ → ℕ
always_word c m = word_at (linked c).words (message_written_at c m + mark_at)

abbrev pub distance_word : Call → ℕ → ℕ
distance_word c m = word_at (linked c).words (message_written_at c m + (mark_at + 1))

-- The mark of flat message m is true. Always initialised is 0 exactly if a chain of references leads from it to a message with a cause of its
-- own (a reference to a marked message of another file is one). The distance is then the length of the shortest such chain, at most the
-- file's messages less one. Where none leads to one, always initialised is 1 and the distance 4,294,967,295
pub record MarksTrue (c : Call) (m : ℕ) : Type 0 where
  pub marked : (always_word c m ≡ 0) ↔ Marked (graph_of_call c) m
  pub shortest : always_word c m ≡ 0 → Distance (graph_of_call c) m (distance_word c m)
  pub below : always_word c m ≡ 0 → distance_word c m < (said c).messages
  pub unmarked : (always_word c m ≡ 0 → ⊥) → (always_word c m ≡ 1) × (distance_word c m ≡ no_distance)

abbrev pub EachMarkTrue : Call → Type 0
EachMarkTrue c = (u : Used) → (linked c).answer ≡ Ok u → (m : ℕ) → m < (said c).messages → MarksTrue c m

-- and so is what is read of it, off the link rows of the new file
pub record ReadTrue (c : Call) (m : ℕ) : Type 0 where
  pub incomplete : (d : ℕ) → (read_mark (new_file c).links m ≡ MayBeIncomplete d) ↔ Distance (graph_of_call c) m d
  pub always : (read_mark (new_file c).links m ≡ AlwaysInitialised) ↔ (Marked (graph_of_call c) m → ⊥)

abbrev pub EachMarkRead : Call → Type 0
EachMarkRead c = (u : Used) → (linked c).answer ≡ Ok u → (m : ℕ) → m < (said c).messages → ReadTrue c m
