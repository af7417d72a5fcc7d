-- What the link words of a shelved file must meet. `files` are those in sight: the files before it on the shelf, and itself as the last. A
-- file word is a shelf number + 1. Words that no test names are free. Assumes nothing.
use Rattle.std.specs.Prelude.{List, [], ◌∷◌, Bool, cond, ◌&&◌, ◌||◌, ℕ, zero, suc, ◌+◌, ◌*◌, eqb, leb, ltb, length, get_or}
use Rattle.lists.specs.Below.{all_below, all_of}
use Rattle.lists.specs.Lists.{same, part}
use Rattle.image.specs.Words.{word_at}
use Rattle.image.specs.Schema.{Schema}
use Rattle.image.specs.Flat.{flat_fields}
use Rattle.image.specs.Links.{message_link_width, enum_link_width, oneof_link_width, links_of}
use Rattle.image.specs.Record.{File, no_file, says, field_link_width, message_link_at, field_link_at, link_row, FieldLink, field_link_of, containers, value_count}

-- ---- targets: in this or an earlier file

-- the file that a file word names; a word that names none stands for a file without rows
unfoldable pub file_by : List File → ℕ → File
file_by files zero = no_file
file_by files (suc f) = get_or files f no_file

abbrev pub message_exists : List File → ℕ → ℕ → Bool
message_exists files word index = ltb index (says (file_by files word)).messages

abbrev pub enum_exists : List File → ℕ → ℕ → Bool
enum_exists files word index = ltb index (says (file_by files word)).enums

-- no target: file word and index 0
abbrev pub is_absent : ℕ → ℕ → Bool
is_absent word index = eqb word 0 && eqb index 0

-- the target of a type: types 10 and 11 have a message, 14 an enum, others none
unfoldable pub target_fits : List File → ℕ → ℕ → ℕ → Bool
unfolding file_by
target_fits files «type» word index =
    cond (eqb «type» 10 || eqb «type» 11) (message_exists files word index) (cond (eqb «type» 14) (enum_exists files word index) (is_absent word index))

-- an extension (kind 1) has an extendee, a message field none
unfoldable pub extendee_fits : List File → FieldLink → Bool
unfolding file_by
extendee_fits files l = cond (eqb l.kind 1) (message_exists files l.extendee_file l.extendee_index) (is_absent l.extendee_file l.extendee_index)

-- a map (shape 2) has the target of its value's type, others none
unfoldable pub value_fits : List File → FieldLink → Bool
unfolding target_fits
value_fits files l = cond (eqb l.shape 2) (target_fits files l.value_type l.value_file l.value_index) (is_absent l.value_file l.value_index)

-- ---- defaults

-- of an enum: the type is one, and the low word a place among the values of the enum that the type's file and index name
unfoldable pub enum_default_fits : List File → FieldLink → Bool
unfolding file_by
enum_default_fits files l = eqb l.«type» 14 && ltb l.low (value_count (file_by files l.type_file) l.type_index)

-- kind 3, a text: start and length lie in the file's pool, which has `pool` bytes. Kind 4, an enum. Kinds 0 and 1: none, and an integer or
-- bool. There are no others
unfoldable pub default_fits : List File → ℕ → FieldLink → Bool
unfolding enum_default_fits
default_fits files pool l =
    cond (eqb l.default_kind 3) (leb (l.low + l.high) pool) (cond (eqb l.default_kind 4) (enum_default_fits files l) (leb l.default_kind 1))

-- ---- fields

-- a field on image row `row`, in the message that the word `container` stands for; `pool` is the length of the file's pool
abbrev pub field_link_tests : List File → ℕ → ℕ → ℕ → FieldLink → List Bool
field_link_tests files pool row container l =
    eqb l.row row
    ∷ eqb l.container container
    ∷ leb l.kind 1
    ∷ leb l.shape 2
    ∷ extendee_fits files l
    ∷ target_fits files l.«type» l.type_file l.type_index
    ∷ value_fits files l
    ∷ default_fits files pool l
    ∷ []

unfoldable pub field_link_fits : List File → ℕ → ℕ → ℕ → FieldLink → Bool
field_link_fits files pool row container l = all_of (field_link_tests files pool row container l)

-- the link row of every field
unfoldable pub field_links_fit : List File → File → Bool
unfolding all_below
field_links_fit files file =
    all_below
    (says file).fields
    (λ k.
    field_link_fits
    files
    (length file.pool)
    (get_or (flat_fields (says file)) k 0)
    (get_or (containers (says file)) k 0)
    (field_link_of (link_row file.links (field_link_at (says file) k) field_link_width)))

-- ---- messages, enums and oneofs

-- how many words of a message's link row stand in front of its mark, which is two words: always initialised, and distance
abbrev pub mark_at : ℕ
mark_at = 8

abbrev pub no_distance : ℕ
no_distance = 4294967295

-- always initialised is 0 with a distance below the file's messages, or 1 with no distance
unfoldable pub mark_fits : ℕ → ℕ → ℕ → Bool
mark_fits messages always distance = cond (eqb always 0) (ltb distance messages) (eqb always 1 && eqb distance no_distance)

unfoldable pub marks_fit : Schema → List ℕ → Bool
unfolding all_below
marks_fit g links =
    all_below g.messages (λ m. mark_fits g.messages (word_at links (message_link_at m + mark_at)) (word_at links (message_link_at m + (mark_at + 1))))

-- n words from word k on are those that the image gives
abbrev pub are_given : Schema → List ℕ → ℕ → ℕ → Bool
are_given g links k n = same (part k n links) (part k n (links_of g))

-- of messages all words but the marks; of enums and oneofs all words
unfoldable pub messages_given : Schema → List ℕ → Bool
unfolding all_below
messages_given g links = all_below g.messages (λ m. are_given g links (message_link_at m) mark_at)

unfoldable pub others_given : Schema → List ℕ → Bool
others_given g links = are_given g links (g.messages * message_link_width) (g.enums * enum_link_width + g.oneofs * oneof_link_width)

-- ---- all link words of a file

abbrev pub link_tests : List File → File → List Bool
link_tests files file =
    messages_given (says file) file.links
    ∷ others_given (says file) file.links
    ∷ marks_fit (says file) file.links
    ∷ field_links_fit files file
    ∷ []

unfoldable pub links_fit : List File → File → Bool
links_fit files file = all_of (link_tests files file)
