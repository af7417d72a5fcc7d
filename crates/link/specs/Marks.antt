-- Which messages of a file have a cause of their own to be incomplete, and which refers to which: read off the link rows of its fields. A map
-- field refers to its key's and value's types, not to its entry. Regular fields count, rows owned as extensions do not. Assumes nothing.
use Rattle.std.specs.Prelude.{List, Bool, not, ◌&&◌, ◌||◌, ℕ, ◌+◌, ◌*◌, eqb, leb, ltb, length}
use Rattle.lists.specs.Below.{any_below}
use Rattle.image.specs.Words.{word_at}
use Rattle.image.specs.Schema.{Schema}
use Rattle.image.specs.Flat.{row_of, first_field}
use Rattle.image.specs.Members.{regular}
use Rattle.image.specs.Record.{File, field_link_width, link_row, message_link_at, FieldLink, field_link_of}
use Rattle.image.specs.LinkTests.{file_by, mark_at}
use Rattle.link.specs.Sight.{Sight, own_says}
use Rattle.link.specs.Resolve.{is_message_type}
use Rattle.link.specs.Chain.{Graph}

-- the link row of regular field k of flat message m; `rows` are the link rows of all fields of the file
abbrev pub regular_link : Schema → List ℕ → ℕ → ℕ → FieldLink
regular_link g rows m k = field_link_of (link_row rows ((first_field g m + k) * field_link_width) field_link_width)

-- a message that a row refers to, by its type or by the type of a map's value, has p; p takes file word and index
abbrev pub refers_to : FieldLink → (ℕ → ℕ → Bool) → Bool
refers_to l p =
    (is_message_type l.«type» && p l.type_file l.type_index) || (eqb l.shape 2 && (is_message_type l.value_type && p l.value_file l.value_index))

-- some regular field of flat message m refers to such a message
unfoldable pub message_refers : Schema → List ℕ → ℕ → (ℕ → ℕ → Bool) → Bool
unfolding any_below
message_refers g rows m p = any_below (g.fields_in (row_of g m)).count (λ k. refers_to (regular_link g rows m k) p)

-- a shelved message that is marked: its always-initialised word is 0
abbrev pub is_marked : List File → ℕ → ℕ → Bool
is_marked files word index = ltb 0 word && (leb word (length files) && eqb (word_at (file_by files word).links (message_link_at index + mark_at)) 0)

-- of the message on row r: outside proto3 an extension range or a required field
unfoldable pub own_cause : Schema → ℕ → Bool
unfolding any_below
own_cause g r =
    not (eqb g.syntax 3) && (not (eqb (g.extension_ranges r) 0) || any_below (g.fields_in r).count (λ k. eqb (regular g r k).label 2))

-- the graph of the file that is linked: a marked message of another file is a cause too
unfoldable pub graph_of : Sight → List ℕ → Graph
graph_of s rows =
    record {
      n = (own_says s).messages;
      cause = λ m. own_cause (own_says s) (row_of (own_says s) m) || message_refers (own_says s) rows m (is_marked s.files);
      refers = λ i j. message_refers (own_says s) rows i (λ word index. eqb word (length s.files + 1) && eqb index j);
    }
