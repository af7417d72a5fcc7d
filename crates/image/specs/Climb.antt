-- How full names are gone through: up the enclosing chain, level by level, as long as there are names. A message without a name has an
-- empty path, so that what stands in it is joined with nothing. Assumes nothing.
use Rattle.std.specs.Prelude.{List, [], Bool, cond, ◌&&◌, ◌||◌, ℕ, zero, suc, ◌+◌, ◌-◌, eqb, leb, length, get_or}
use Rattle.lists.specs.Lists.{is_empty}
use Rattle.names.specs.Package.{concat_paths}
use Rattle.image.specs.Schema.{Schema}
use Rattle.image.specs.Links.{message_row, message_up}
use Rattle.image.specs.FullName.{inside, path}

-- the name of flat message m
abbrev pub name_of : Schema → List ℕ → ℕ → List ℕ
name_of g links m = g.message_name (message_row links m)

-- what stands in front of a name: the path that its enclosing word stands for, in which so many levels are looked at
unfoldable pub path_above : (ℕ → List ℕ) → (ℕ → ℕ) → ℕ → ℕ → List ℕ
unfolding inside path
path_above name up zero a = []
path_above name up (suc d) a = inside (path name up d) a

abbrev pub message_above : Schema → List ℕ → ℕ → ℕ → List ℕ
message_above g links = path_above (name_of g links) (message_up links)

-- an enclosing word, or 0 where nothing stands in front
unfoldable pub named_up : (ℕ → List ℕ) → (ℕ → ℕ) → ℕ → ℕ → ℕ
unfolding path_above is_empty
named_up name up levels a = cond (is_empty (path_above name up levels a)) 0 a

-- the last byte of a text, or 0 where it is empty
abbrev pub last_byte : List ℕ → ℕ
last_byte s = get_or s (length s - 1) 0

-- a text may end in a name: the name is empty, or the text is not shorter and ends in the same byte
unfoldable pub may_end_in : List ℕ → List ℕ → Bool
unfolding is_empty
may_end_in text name = is_empty name || (leb (length name) (length text) && eqb (last_byte text) (last_byte name))

-- how long two joined names are, by their lengths
abbrev pub joined_length : ℕ → ℕ → ℕ
joined_length first second = cond (eqb second 0) 0 (cond (eqb first 0) second (first + 1 + second))

-- the package, and behind it what stands in front of a name
unfoldable pub lead : List ℕ → List ℕ → List ℕ
unfolding is_empty concat_paths
lead «package» front = cond (is_empty front) «package» (concat_paths «package» front)
