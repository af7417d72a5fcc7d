-- The whole case and the worked table, over the definitions that contracts cite: what linking leaves on a shelf, and what is found there.
-- Assumes nothing.
use Rattle.std.specs.Prelude.{ℕ, ◌+◌, ◌≤◌, ◌≡◌, List, [], ◌∷◌, ◌++◌, map, length, get_or, drop, replicate, Some, Ok}
use Rattle.lists.specs.Lists.{part}
use Rattle.names.specs.Worked.{NameRows}
use Rattle.image.specs.Record.{File, FieldLink, no_file, says, message_link_at, field_link_at, field_link_width, link_row, field_link_of}
use Rattle.image.specs.LinkTests.{mark_at}
use Rattle.image.specs.Shelf.{used_part, last_file}
use Rattle.image.specs.declared.shelf.Used.{Used}
use Rattle.link.specs.Search.{searched}
use Rattle.link.specs.Refusals.{Call, shelved_files, seen, word_limit, byte_limit}
use Rattle.link.specs.Link.{answer_number, linked}
use Rattle.link.specs.Lookup.{value_numbered, value_named, looked_up}
use Rattle.link.specs.Phases.{call_of}
use Rattle.demands.specs.Demands.{used_after, shelf_after}
use Rattle.demands.specs.WorkedFiles.{Source, image_of, whole_file, value_file, chain_file, self_file, file_p, file_q, file_r, file_s, import_file, A, p, q, r, s}

abbrev nothing_used : Used
nothing_used = record { words = 0; bytes = 0; files = 0 }

-- ---- the whole case: file `f`, proto3, with one empty message `A`, onto an empty shelf

-- `fA`
abbrev pub whole_pool : List ℕ
whole_pool = 102 ∷ 65 ∷ []

abbrev pub whole_image : List ℕ
whole_image =
    -- the message's row
    (1 ∷ 1 ∷ 0 ∷ 0 ∷ 0 ∷ 0 ∷ 0 ∷ 0 ∷ 0 ∷ 0 ∷ 0 ∷ 0 ∷ 0 ∷ 0 ∷ [])
    -- the trailer
    ++ (1 ∷ 0 ∷ 1 ∷ 0 ∷ 0 ∷ 3 ∷ 0 ∷ 0 ∷ 0 ∷ 1 ∷ 14 ∷ 0 ∷ 14 ∷ 0 ∷ 14 ∷ 0 ∷ 14 ∷ 0 ∷ 1 ∷ 0 ∷ 0 ∷ 0 ∷ 2 ∷ 14 ∷ [])

abbrev pub whole_record : List ℕ
whole_record =
    whole_image
    -- the message's link row
    ++ (0 ∷ 0 ∷ 0 ∷ 0 ∷ 0 ∷ 0 ∷ 0 ∷ 0 ∷ 1 ∷ 4294967295 ∷ [])
    -- the last 8 words
    ++ (0 ∷ 38 ∷ 0 ∷ 2 ∷ 1 ∷ 0 ∷ 0 ∷ 0 ∷ [])

-- Whatever the shelf's slices hold, if they have room: the record and the pool come to their front, and what is behind stays.
abbrev pub WholeCase : Type 0
WholeCase =
    (words bytes : List ℕ) → 56 ≤ length words → length words ≤ word_limit → 2 ≤ length bytes → length bytes ≤ byte_limit
    → linked (call_of words bytes nothing_used whole_image whole_pool)
    ≡ record {
      answer = Ok (record { words = 56; bytes = 2; files = 1 });
      words = whole_record ++ drop 56 words;
      bytes = whole_pool ++ drop 2 bytes;
    }

-- The files of the table below are written by rows. The whole case, written so, is the same image.
abbrev pub WholeByRows : Type 0
WholeByRows = image_of whole_file ≡ whole_image

-- ---- calls that link the files of the table, and what they leave

-- onto an empty shelf of 200 words and 16 bytes
abbrev first_call : Source → Call
first_call file = call_of (replicate 200 0) (replicate 16 0) nothing_used (image_of file) file.pool

-- onto the shelf that an earlier call left
abbrev next_call : Call → Source → Call
next_call c file = call_of (linked c).words (linked c).bytes (used_after c) (image_of file) file.pool

abbrev IsAccepted : Call → Type 0
IsAccepted c = answer_number (linked c).answer ≡ 0

-- the file that stands last on the shelf then, as it is read back
abbrev shelved_by : Call → File
shelved_by c = last_file (used_part (linked c).words (linked c).bytes (used_after c))

-- ---- values A=0, B=1, A=1

abbrev value_call : Call
value_call = first_call value_file

-- the link row of a file's first field
abbrev first_link : File → FieldLink
first_link file = field_link_of (link_row file.links (field_link_at (says file) 0) field_link_width)

abbrev pub ValueRows : Type 0
ValueRows =
    IsAccepted value_call
    -- number 1 finds 2
    × (looked_up (shelf_after value_call) 0 (λ x. value_numbered x 0 1) ≡ Ok (Some 2))
    -- name A finds 2
    × (looked_up (shelf_after value_call) 0 (λ x. value_named x 0 A) ≡ Ok (Some 2))
    -- default A is 0; default kind 4 is an enum
    × ((first_link (shelved_by value_call)).default_kind ≡ 4)
    × ((first_link (shelved_by value_call)).low ≡ 0)
    × ((first_link (shelved_by value_call)).high ≡ 0)

-- ---- imports p, q where p publicly imports r, s

abbrev import_call : Call
import_call = next_call (next_call (next_call (next_call (first_call file_r) file_s) file_p) file_q) import_file

-- the names of the files of a call's search list
abbrev searched_names : Call → List (List ℕ)
searched_names c = map (λ k. (says (get_or (shelved_files c) k no_file)).file_name) (searched (seen c))

abbrev pub ImportRows : Type 0
ImportRows = IsAccepted import_call × (searched_names import_call ≡ p ∷ s ∷ r ∷ q ∷ [])

-- ---- marks

abbrev chain_call : Call
chain_call = first_call chain_file

abbrev self_call : Call
self_call = first_call self_file

-- of a file's message m: always initialised, and distance
abbrev mark : File → ℕ → List ℕ
mark file m = part (message_link_at m + mark_at) 2 file.links

abbrev pub MarkRows : Type 0
MarkRows =
    -- proto2 A with a required field, B to A, C to B: 0, 1, 2
    IsAccepted chain_call
    × (mark (shelved_by chain_call) 0 ≡ 0 ∷ 0 ∷ [])
    × (mark (shelved_by chain_call) 1 ≡ 0 ∷ 1 ∷ [])
    × (mark (shelved_by chain_call) 2 ≡ 0 ∷ 2 ∷ [])
    -- a message referring only to itself: always initialised
    × IsAccepted self_call
    × (mark (shelved_by self_call) 0 ≡ 1 ∷ 4294967295 ∷ [])

-- ---- the worked table, all rows together

abbrev pub WorkedTable : Type 0
WorkedTable = NameRows × ValueRows × ImportRows × MarkRows
