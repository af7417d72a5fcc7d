-- The table of refusals from each phase on, what the phases rely on, and how marks come into link rows. Assumes nothing.
use Rattle.std.specs.Prelude.{◌≡◌, List, [], ◌∷◌, ◌++◌, true, ℕ, zero, suc, ◌+◌, ◌*◌, ◌≤◌, leb, eqb, get_or, Some, Ok}
use Rattle.lists.specs.Below.{bit}
use Rattle.lists.specs.Splice.{splice}
use Rattle.image.specs.Links.{links_of, link_words}
use Rattle.image.specs.Record.{field_link_width}
use Rattle.image.specs.Places.{read_shelf}
use Rattle.image.specs.Shelf.{file_limit, well_formed}
use Rattle.image.specs.Verdict.{Line, first}
use Rattle.image.specs.Judge.{opening_lines, naming_lines, opening}
use Rattle.image.specs.declared.shelf.Used.{Used}
use Rattle.image.specs.declared.shelf.Places.{Places}
use Rattle.link.specs.declared.link.New.{New}
use Rattle.link.specs.Chain.{no_chain}
use Rattle.link.specs.Search.{searched}
use Rattle.link.specs.Rows.{field_links}
use Rattle.link.specs.Refusals.{Call, said, shelved_files, seen, length_lines, name_lines, import_lines, all_field_lines, room_lines}

abbrev pub call_of : List ℕ → List ℕ → Used → List ℕ → List ℕ → Call
call_of words bytes used image pool = record { words = words; bytes = bytes; used = used; image = image; pool = pool }

-- the call of what is to be linked
abbrev pub call_to : List ℕ → List ℕ → New → Call
call_to words bytes new = call_of words bytes new.used new.image.now new.pool.now

-- ---- the table from a phase on

abbrev pub from_fields : Call → List Line
from_fields c = all_field_lines (seen c) (searched (seen c)) ++ room_lines c

abbrev pub from_naming : Call → List Line
from_naming c = naming_lines (said c) (links_of (said c)) ++ from_fields c

abbrev pub from_imports : Call → List Line
from_imports c = import_lines (shelved_files c) (said c) ++ from_naming c

abbrev pub from_name : Call → List Line
from_name c = name_lines (shelved_files c) (said c) ++ from_imports c

abbrev pub from_opening : Call → List Line
from_opening c = opening_lines c.image c.pool (leb file_limit c.used.files) ++ from_name c

-- ---- what the phases behind 2 rely on: no slice is too long, and the shelf is well formed, with its files at places p

pub record Standing (c : Call) (p : Places) : Type 0 where
  pub lengths : first (length_lines c) ≡ Ok tt
  pub formed : well_formed c.words c.bytes c.used ≡ true
  pub places : Some p ≡ read_shelf c.words c.bytes c.used

-- scratch words have room for the link rows of the new file: `links` for those of messages, enums and oneofs, `rows` for those of fields. Of an
-- image that 3 to 5 refuse nothing is asked
pub record RoomForLinks (c : Call) (links rows : ℕ) : Type 0 where
  pub link_room : opening c.image c.pool (leb file_limit c.used.files) ≡ Ok tt → link_words (said c) ≤ links
  pub field_room : opening c.image c.pool (leb file_limit c.used.files) ≡ Ok tt → (said c).fields * field_link_width ≤ rows

-- the link rows of the new file's fields
abbrev pub new_fields : Call → List ℕ
new_fields c = field_links (seen c) (searched (seen c))

-- ---- marks

-- the two words of a message's mark, where d holds the distances
abbrev pub mark_in : List ℕ → ℕ → List ℕ
mark_in d m = bit (eqb (get_or d m 0) no_chain) ∷ get_or d m 0 ∷ []

-- link rows with the marks of the first n messages written into them
unfoldable pub marked_to : List ℕ → ℕ → List ℕ → List ℕ
marked_to d zero links = links
marked_to d (suc m) links = splice (marked_to d m links) (m * 10 + 8) (mark_in d m)
