-- The link rows that linking writes: messages with their marks, enums, oneofs, fields. Assumes nothing.
use Rattle.std.specs.Prelude.{List, [], ◌∷◌, ◌++◌, ℕ, ◌+◌, ◌*◌, eqb, take, drop}
use Rattle.lists.specs.Below.{bit}
use Rattle.lists.specs.Lists.{span, concat_map}
use Rattle.image.specs.Schema.{Schema}
use Rattle.image.specs.Flat.{rows_of, row_of, field_rows}
use Rattle.image.specs.Links.{message_link_width, message_link, links_of}
use Rattle.image.specs.LinkTests.{mark_at}
use Rattle.link.specs.Sight.{Sight, own_says}
use Rattle.link.specs.Field.{field_words}
use Rattle.link.specs.Chain.{Graph, no_chain, distance}
use Rattle.link.specs.Marks.{graph_of}

-- the link rows of some fields in a message, or in none (container 0)
abbrev pub field_links_in : Sight → List ℕ → ℕ → List ℕ → List ℕ
field_links_in s list container rows = concat_map (λ r. field_words s list ((own_says s).field r) r container) rows

-- those of all fields in flat order
unfoldable pub field_links : Sight → List ℕ → List ℕ
unfolding concat_map
field_links s list =
    concat_map (λ m. field_links_in s list (m + 1) (field_rows (own_says s) (row_of (own_says s) m))) (span 0 (own_says s).messages)
    ++ field_links_in s list 0 (rows_of (own_says s).file_extensions)

-- a message's mark: always initialised 0 with its distance, or 1 with none
abbrev pub mark_of : Graph → ℕ → List ℕ
mark_of graph m = bit (eqb (distance graph m) no_chain) ∷ distance graph m ∷ []

abbrev pub marked_link : Schema → Graph → ℕ → List ℕ
marked_link g graph m = take mark_at (message_link g m) ++ mark_of graph m

-- all link rows
unfoldable pub all_links : Sight → List ℕ → List ℕ
unfolding concat_map
all_links s list =
    concat_map (marked_link (own_says s) (graph_of s (field_links s list))) (span 0 (own_says s).messages)
    ++ (drop ((own_says s).messages * message_link_width) (links_of (own_says s)) ++ field_links s list)
