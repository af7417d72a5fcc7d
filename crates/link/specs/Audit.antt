-- What the audit listing says of a message: whether it is always initialised, what it carries under a field's own name, and whether the
-- completeness check can pass without that field. Assumes nothing.
use Rattle.std.specs.Prelude.{List, [], Bool, false, cond, not, ◌||◌, ℕ, ◌+◌, eqb, ltb, Option, Some, None}
use Rattle.image.specs.Words.{word_at}
use Rattle.image.specs.Schema.{Schema, schema_of}
use Rattle.image.specs.Links.{message_row}
use Rattle.image.specs.Clash.{field_by_name}
use Rattle.image.specs.Record.{File, says, field_link_width, link_row, message_link_at, field_link_at, field_link_of}
use Rattle.image.specs.LinkTests.{mark_at, no_distance}
use Rattle.link.specs.Field.{field_in}
use Rattle.link.specs.Lookup.{first_field_word}
use Rattle.link.specs.declared.audit.Mark.{Mark}
use Rattle.link.specs.declared.audit.Mark.TheVariants.{AlwaysInitialised, MayBeIncomplete}
use Rattle.link.specs.declared.audit.Carried.{Carried}
use Rattle.link.specs.declared.audit.Carried.TheVariants.{Required, Optional, Repeated, Map}

-- what an image says without its pool: its counts and its syntax need none
abbrev pub says_alone : List ℕ → Schema
says_alone image = schema_of image []

-- ---- marks

-- the two words of each mark, as a record has them: always initialised, and distance
abbrev pub always_of : Mark → ℕ
always_of AlwaysInitialised = 1
always_of (MayBeIncomplete distance) = 0

abbrev pub distance_of : Mark → ℕ
distance_of AlwaysInitialised = no_distance
distance_of (MayBeIncomplete distance) = distance

-- the mark that two words say: the first decides
abbrev pub mark_by : ℕ → ℕ → Mark
mark_by always distance = cond (eqb always (always_of (MayBeIncomplete distance))) (MayBeIncomplete distance) AlwaysInitialised

-- the mark of flat message m, off its link row. An m that is not below the file's messages reads whatever words stand there, 0 past the end
unfoldable pub read_mark : List ℕ → ℕ → Mark
read_mark links m = mark_by (word_at links (message_link_at m + mark_at)) (word_at links (message_link_at m + (mark_at + 1)))

-- ---- what a message carries: the numbers of each case

-- its label, as descriptor.proto numbers them. A map is a repeated field
abbrev pub label_of : Carried → ℕ
label_of (Optional number) = 1
label_of (Required number) = 2
label_of (Repeated number) = 3
label_of (Map number) = 3

-- its shape, as link rows number them: 0 singular, 1 repeated, 2 map
abbrev pub shape_of : Carried → ℕ
shape_of (Optional number) = 0
shape_of (Required number) = 0
shape_of (Repeated number) = 1
shape_of (Map number) = 2

-- the field's number, the word that its image has, which is two's complement
abbrev pub number_of : Carried → ℕ
number_of (Optional number) = number
number_of (Required number) = number
number_of (Repeated number) = number
number_of (Map number) = number

-- ---- what a message carries under an own name

-- a repeated field by the shape in its link row
abbrev pub by_shape : ℕ → ℕ → Carried
by_shape shape number = cond (eqb shape (shape_of (Map number))) (Map number) (Repeated number)

-- a field by its label. The label decides whether it is required, whatever shape a link row has. An image that obeys rule 3 has labels 1 to
-- 3; any other is taken for optional
abbrev pub by_label : ℕ → ℕ → ℕ → Carried
by_label label shape number =
    cond (eqb label (label_of (Required number))) (Required number) (cond (eqb label (label_of (Repeated number))) (by_shape shape number) (Optional number))

-- the shape of the field with flat number k. A number past the file's fields has no link row, and counts as singular, 0
unfoldable pub shape_at : File → ℕ → ℕ
shape_at file k = cond (ltb k (says file).fields) (field_link_of (link_row file.links (field_link_at (says file) k) field_link_width)).shape 0

-- what was found among the regular fields of flat message m. A field's flat number is its place behind the message's first field
abbrev pub carried_at : File → ℕ → Option ℕ → Option Carried
carried_at file m (Some j) = Some (by_label (field_in file m j).label (shape_at file (first_field_word file.links m + j)) (field_in file m j).number)
carried_at file m None = None

-- what flat message m carries under an own name: the first regular field of that name. A number past the file's messages carries nothing
unfoldable pub carried_under : File → ℕ → List ℕ → Option Carried
unfolding field_by_name shape_at
carried_under file m name =
    cond (ltb m (says file).messages) (carried_at file m (field_by_name (says file) (message_row file.links m) name)) None

-- ---- the completeness check

-- a required field
abbrev pub is_required : Carried → Bool
is_required c = eqb (label_of c) 2

-- the check can pass without the field that is carried, if there is one: it is not required, or the file is proto3, where a required label is no
-- cause of a mark
abbrev pub passes_without : Schema → Option Carried → Bool
passes_without g None = false
passes_without g (Some c) = not (is_required c) || eqb g.syntax 3
