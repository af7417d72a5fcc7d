-- Lookups for a shelved file, refusing as 1 or 2, or answering nothing for a bad file or index. First what is found in one file: its image,
-- pool and link rows; then for a file of a shelf. Messages, enums and fields are told by their flat numbers, a value by its place in its
-- enum. Assumes nothing.
use Rattle.std.specs.Prelude.{List, [], ◌++◌, Bool, cond, ℕ, ◌+◌, eqb, ltb, get_or, Option, Some, None, option_map, Result, Ok, Err}
use Rattle.lists.specs.Below.{found_below}
use Rattle.lists.specs.Splice.{fronted}
use Rattle.names.specs.Answers.{front_answer}
use Rattle.image.specs.Words.{word_at}
use Rattle.image.specs.Schema.{Schema}
use Rattle.image.specs.Links.{message_row, enum_row}
use Rattle.image.specs.FullName.{full_name}
use Rattle.image.specs.Clash.{field_by_number, field_by_name, field_by_name_or_json}
use Rattle.image.specs.Values.{value_by_number, value_by_name}
use Rattle.image.specs.Record.{File, no_file, says, message_link_at}
use Rattle.image.specs.Shelf.{used_part}
use Rattle.image.specs.Places.{file_of, places_of, read_shelf}
use Rattle.image.specs.Verdict.{Verdict, judged, number, first}
use Rattle.image.specs.declared.shelf.Used.{Used}
use Rattle.image.specs.declared.shelf.File as lent_file
use Rattle.image.specs.declared.shelf.Places.{Places}
use Rattle.image.specs.declared.verdict.Refusal.{Refusal}
use Rattle.image.specs.declared.verdict.Refused.{Refused}
use Rattle.link.specs.Resolve.{item_in}
use Rattle.link.specs.Refusals.{Call, shelved_files, length_lines, shelf_lines}
use Rattle.link.specs.declared.building.Wanted.{Wanted}
use Rattle.link.specs.declared.building.Wanted.TheVariants.{Message, Enum}
use Rattle.link.specs.declared.lookup.Lent.{Lent}
use Rattle.link.specs.declared.lookup.Checked.{Checked}

-- ---- in one file: a message or an enum, by its full name behind a dot

abbrev pub item_named : Wanted → File → List ℕ → Option ℕ
item_named wanted file name = option_map (λ m. m.0) (item_in wanted file name)

-- ---- in one file: a value of an enum, by number or name; the last index wins

-- what `seek` finds for the image row of enum e, or nothing for a bad index
abbrev pub in_enum : File → ℕ → (ℕ → Option ℕ) → Option ℕ
in_enum file e seek = cond (ltb e (says file).enums) (seek (enum_row (says file) file.links e)) None

unfoldable pub value_numbered : File → ℕ → ℕ → Option ℕ
value_numbered file e sought = in_enum file e (λ r. value_by_number (says file) r sought)

unfoldable pub value_named : File → ℕ → List ℕ → Option ℕ
value_named file e name = in_enum file e (λ r. value_by_name (says file) r name)

-- ---- in one file: a regular field of a message, by number or name

-- the flat number of the first field of message m, as its link row says
abbrev pub first_field_word : List ℕ → ℕ → ℕ
first_field_word links m = word_at links (message_link_at m + 4)

-- the flat number of the field at a place of a message, by that of its first. A number that is not below the file's fields is nothing; on
-- a well-formed shelf each is (`place_below`, in FieldTheorems of the crate demands)
abbrev pub flat_field : ℕ → ℕ → Option ℕ → Option ℕ
flat_field fields start (Some k) = found_below fields (start + k)
flat_field fields start None = None

-- the flat number of what `seek` finds for the image row of message m, or nothing for a bad index
abbrev pub in_message : File → ℕ → (ℕ → Option ℕ) → Option ℕ
in_message file m seek =
    cond (ltb m (says file).messages) (flat_field (says file).fields (first_field_word file.links m) (seek (message_row file.links m))) None

unfoldable pub field_numbered : File → ℕ → ℕ → Option ℕ
field_numbered file m sought = in_message file m (λ r. field_by_number (says file) r sought)

-- the mode that 0 stands for
abbrev pub usual_mode : ℕ
usual_mode = 1

abbrev pub mode_of : ℕ → ℕ
mode_of mode = cond (eqb mode 0) usual_mode mode

-- mode 1 seeks own names, 2 own or JSON names, others nothing
unfoldable pub by_mode : ℕ → Schema → ℕ → List ℕ → Option ℕ
by_mode mode g r name = cond (eqb mode 1) (field_by_name g r name) (cond (eqb mode 2) (field_by_name_or_json g r name) None)

unfoldable pub field_named : File → ℕ → ℕ → List ℕ → Option ℕ
unfolding by_mode
field_named file m mode name = in_message file m (λ r. by_mode (mode_of mode) (says file) r name)

-- ---- for a file of a shelf

-- a number, or nothing; or a refusal of the shelf
abbrev pub Looked : Type 0
Looked = Result (Option ℕ) Refusal

-- the number of each answer, 0 where something is found, else 4,294,967,295 or that of the refusal; and what was found, else 0
abbrev pub looked_number : Looked → ℕ
looked_number (Ok (Some k)) = 0
looked_number (Ok None) = 4294967295
looked_number (Err r) = number r

abbrev pub looked_value : Looked → ℕ
looked_value (Ok (Some k)) = k
looked_value (Ok None) = 0
looked_value (Err r) = 0

-- a call that lends a shelf and no image
abbrev pub asked : List ℕ → List ℕ → Used → Call
asked words bytes used = record { words = words; bytes = bytes; used = used; image = []; pool = [] }

-- 1 or 2, or neither
unfoldable pub shelf_verdict : Call → Verdict
unfolding first length_lines shelf_lines
shelf_verdict c = first (length_lines c ++ shelf_lines c)

-- or else where the files stand
abbrev pub placed_shelf : Call → Result Places Refused
placed_shelf c = judged (shelf_verdict c) (places_of c.used.files (used_part c.words c.bytes c.used))

-- the verdict with where the files stand, if the shelf is well formed
abbrev pub checked_shelf : Call → Checked
checked_shelf c = record { verdict = shelf_verdict c; places = read_shelf c.words c.bytes c.used }

-- file f of the shelf
abbrev pub shelved_file : Call → ℕ → File
shelved_file c f = get_or (shelved_files c) f no_file

-- refused as 1 or 2; nothing for a bad file; else the file
abbrev pub opened_by : Verdict → Bool → File → Result (Option File) Refusal
opened_by (Err r) there file = Err r.refusal
opened_by (Ok u) there file = Ok (cond there (Some file) None)

unfoldable pub opened_file : Call → ℕ → Result (Option File) Refusal
unfolding shelf_verdict
opened_file c f = opened_by (shelf_verdict c) (ltb f c.used.files) (shelved_file c f)

-- what a lookup answers that finds what `seek` says in one file
abbrev pub looked_in : Result (Option File) Refusal → (File → Option ℕ) → Looked
looked_in (Ok (Some file)) seek = Ok (seek file)
looked_in (Ok None) seek = Ok None
looked_in (Err r) seek = Err r

unfoldable pub looked_up : Call → ℕ → (File → Option ℕ) → Looked
unfolding opened_file
looked_up c f seek = looked_in (opened_file c f) seek

-- ---- full names: written to the front of a lent buffer

-- the answer, and what the buffer then holds
pub record Naming : Type 0 where
  pub answer : Looked
  pub out : List ℕ

abbrev pub unwritten : List ℕ → Looked → Naming
unwritten out answer = record { answer = answer; out = out }

-- a text in front of the buffer, whose other bytes stay, and its length; or nothing where the buffer is too short
abbrev pub written : List ℕ → List ℕ → Naming
written out text = record { answer = Ok (front_answer out text); out = fronted out text }

-- how many messages, or enums, a file has; and the number of one among its items, where enums stand behind the messages
abbrev pub count_of : Wanted → Schema → ℕ
count_of Message g = g.messages
count_of Enum g = g.enums

abbrev pub item_of : Wanted → Schema → ℕ → ℕ
item_of Message g m = m
item_of Enum g e = g.messages + e

-- the full name, without the dot, of a message or an enum of one file; nothing for a bad index
unfoldable pub item_written : Wanted → ℕ → List ℕ → File → Naming
item_written wanted i out file =
    cond (ltb i (count_of wanted (says file))) (written out (full_name (says file) file.links (item_of wanted (says file) i))) (unwritten out (Ok None))

-- what is answered and written for file f, where `write` says it for one file
abbrev pub written_in : Result (Option File) Refusal → List ℕ → (List ℕ → File → Naming) → Naming
written_in (Ok (Some file)) out write = write out file
written_in (Ok None) out write = unwritten out (Ok None)
written_in (Err r) out write = unwritten out (Err r)

unfoldable pub name_written : Call → ℕ → List ℕ → (List ℕ → File → Naming) → Naming
unfolding opened_file
name_written c f out write = written_in (opened_file c f) out write

-- ---- as the code has it

-- what a caller lends, as a call
abbrev pub asked_of : Lent → Call
asked_of lent = asked lent.words.now lent.bytes.now lent.used

-- a file that was opened, as what it is
abbrev pub open_as : Result (Option lent_file.File) Refusal → Result (Option File) Refusal
open_as (Ok (Some file)) = Ok (Some (file_of file))
open_as (Ok None) = Ok None
open_as (Err r) = Err r
