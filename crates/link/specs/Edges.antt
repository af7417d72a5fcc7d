-- Marks as they are computed: references as a list of pairs, causes as a list, in rounds. Cited by inner functions alone. Assumes nothing.
use Rattle.std.specs.Prelude.{◌≡◌, Bool, cond, not, ◌&&◌, ◌||◌, List, ℕ, ◌+◌, ◌*◌, ◌<◌, ◌≤◌, eqb, ltb, get_or}
use Rattle.lists.specs.Below.{any_below}
use Rattle.lists.specs.Lists.{table}
use Rattle.image.specs.Schema.{Schema}
use Rattle.image.specs.Flat.{row_of}
use Rattle.image.specs.Record.{File, field_link_of, link_row, field_link_width}
use Rattle.link.specs.Marks.{refers_to, message_refers, is_marked, own_cause}
use Rattle.link.specs.Chain.{Graph, no_chain, distance}

-- the two ends of reference x
abbrev pub from : List ℕ → ℕ → ℕ
from edges x = get_or edges (2 * x) 0

abbrev pub to : List ℕ → ℕ → ℕ
to edges x = get_or edges (2 * x + 1) 0

-- both ends of the first m references are below n
pub record InFile (edges : List ℕ) (m n : ℕ) : Type 0 where
  pub ends : (x : ℕ) → x < m → (from edges x < n) × (to edges x < n)

-- one of the first m references is from i to j
abbrev pub has_edge : List ℕ → ℕ → ℕ → ℕ → Bool
has_edge edges m i j = any_below m (λ x. eqb (from edges x) i && eqb (to edges x) j)

-- the graph of n messages that m references and a list of causes give
abbrev pub graph_by : List ℕ → ℕ → List ℕ → ℕ → Graph
graph_by edges m causes n =
    record {
      n = n;
      cause = λ i. not (eqb (get_or causes i 0) 0);
      refers = has_edge edges m;
    }

-- round 0: distance 0 for each of the n messages with a cause
unfoldable pub seeded : List ℕ → ℕ → ℕ → ℕ
seeded causes n i = cond (ltb i n && not (eqb (get_or causes i 0) 0)) 0 no_chain

-- a reference from i to a message whose word is k
unfoldable pub hit : List ℕ → List ℕ → ℕ → ℕ → ℕ → Bool
hit edges d k i x = eqb (from edges x) i && eqb (get_or d (to edges x) 0) k

-- the words after a round over the first m references
unfoldable pub stepped : List ℕ → List ℕ → ℕ → ℕ → ℕ → ℕ
unfolding hit any_below
stepped edges d k m i = cond (eqb (get_or d i 0) no_chain && any_below m (hit edges d k i)) (k + 1) (get_or d i 0)

-- the 256 words
unfoldable pub distance_table : List ℕ → ℕ → List ℕ → ℕ → List ℕ
unfolding table
distance_table edges m causes n = table 256 (λ i. cond (ltb i n) (distance (graph_by edges m causes n) i) no_chain)

-- ---- causes and references, read off link rows

-- some of `count` link rows of fields, from number `first` on, refers to a message that has p
abbrev pub rows_refer : List ℕ → ℕ → ℕ → (ℕ → ℕ → Bool) → Bool
rows_refer rows first count p = any_below count (λ k. refers_to (field_link_of (link_row rows ((first + k) * field_link_width) field_link_width)) p)

-- flat message m has a cause: its own, or a marked message of a shelved file
abbrev pub has_cause : Schema → List File → List ℕ → ℕ → Bool
has_cause g files rows m = own_cause g (row_of g m) || message_refers g rows m (is_marked files)

-- message j of the file with that word
abbrev pub is_in : ℕ → ℕ → ℕ → ℕ → Bool
is_in own j word index = eqb word own && eqb index j

-- some flat message below m is i and refers to message j of the file with word `own`
abbrev pub refers_below : Schema → List ℕ → ℕ → ℕ → ℕ → ℕ → Bool
refers_below g rows own m i j = any_below m (λ x. eqb x i && message_refers g rows x (is_in own j))

-- `new` references between n messages, at most so many (`most`), were put behind the first m, and there are m' now
pub record Pushed (edges : List ℕ) (m : ℕ) (edges' : List ℕ) (m' n most : ℕ) (new : ℕ → ℕ → Bool) : Type 0 where
  pub few : m' ≤ m + most
  pub inside : InFile edges m n → InFile edges' m' n
  pub has : (i j : ℕ) → j < n → has_edge edges' m' i j ≡ new i j || has_edge edges m i j
