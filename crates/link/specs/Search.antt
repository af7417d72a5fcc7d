-- The search list: the files in which a name is sought that the file itself does not have. Direct imports in order; each file followed at
-- once by its public imports, last one first, deeply; a file once. Files are shelf numbers. Assumes nothing.
use Rattle.std.specs.Prelude.{List, [], ◌∷◌, ◌++◌, Bool, false, ◌||◌, cond, ℕ, zero, suc, ◌-◌, ◌<◌, ◌≤◌, eqb, length, get_or, take, replicate, unwrap_or}
use Rattle.lists.specs.Lists.{table}
use Rattle.image.specs.Schema.{Schema}
use Rattle.image.specs.Record.{File, no_file, says}
use Rattle.image.specs.Shelf.{file_named}
use Rattle.link.specs.Sight.{Sight}
use Rattle.link.specs.declared.fds.SearchList.{SearchList}

-- ---- imports

-- the number of the file that import row i names; where none of the files has that name, how many there are
abbrev pub import_number : List File → Schema → ℕ → ℕ
import_number files g i = unwrap_or (file_named files (g.import_name i)) (length files)

-- the files that a file imports, in the order of its import rows
abbrev pub imports_of : List File → Schema → List ℕ
imports_of files g = table g.imports (import_number files g)

-- the public ones among its first k import rows
unfoldable pub publics_to : List File → Schema → ℕ → List ℕ
publics_to files g zero = []
publics_to files g (suc k) = publics_to files g k ++ cond (eqb (g.import_public k) 0) [] (import_number files g k ∷ [])

-- all its public imports
abbrev pub publics_by : List File → Schema → List ℕ
publics_by files g = publics_to files g g.imports

-- those of file f
abbrev pub publics_of : List File → ℕ → List ℕ
publics_of files f = publics_by files (says (get_or files f no_file))

-- ---- the walk

-- a file is in a list
unfoldable pub has : ℕ → List ℕ → Bool
has f [] = false
has f (g ∷ gs) = eqb f g || has f gs

-- two ways through a list of files. A step takes the list so far and a file, and gives the list from then on. The first file first:
unfoldable pub first_to_last : (List ℕ → ℕ → List ℕ) → List ℕ → List ℕ → List ℕ
first_to_last step l [] = l
first_to_last step l (f ∷ fs) = first_to_last step (step l f) fs

-- the last file first
unfoldable pub last_to_first : (List ℕ → ℕ → List ℕ) → List ℕ → List ℕ → List ℕ
last_to_first step l [] = l
last_to_first step l (f ∷ fs) = step (last_to_first step l fs) f

-- one file, with the list so far: a file that is in it adds nothing; any other is added and followed at once by its public imports, the
-- last one first, each with its own. The depth only bounds the recursion: imports name earlier files
unfoldable pub visit : (ℕ → List ℕ) → ℕ → List ℕ → ℕ → List ℕ
unfolding has last_to_first
visit publics zero l f = l
visit publics (suc depth) l f = cond (has f l) l (last_to_first (visit publics depth) (l ++ (f ∷ [])) (publics f))

-- from a file's direct imports, over a shelf of so many files
unfoldable pub search_list : (ℕ → List ℕ) → ℕ → List ℕ → List ℕ
unfolding first_to_last visit
search_list publics files direct = first_to_last (visit publics files) [] direct

-- the search list of the file that is linked
unfoldable pub searched : Sight → List ℕ
unfolding search_list
searched s = search_list (publics_of s.files) (length s.files) (imports_of s.files (says s.own))

-- ---- as the code has it

-- every file of a list is below n
abbrev pub Below : ℕ → List ℕ → Type 0
Below n [] = Unit
Below n (f ∷ fs) = (f < n) × Below n fs

-- a struct's 32 words: the list, then 0s; and its length
abbrev pub listed : List ℕ → SearchList
listed l = record { files = l ++ replicate (32 - length l) 0; count = length l }

-- the list that such a struct holds
abbrev pub list_of : SearchList → List ℕ
list_of l = take l.count l.files

-- what rule 2, and 4 and 7 for the file that is linked, give: few files and imports, and imports that name earlier files
pub record Searchable (files : List File) (g : Schema) : Type 0 where
  pub few : length files ≤ 32
  pub few-imports : (f : ℕ) → f < length files → (says (get_or files f no_file)).imports ≤ 32
  pub earlier : (f k : ℕ) → f < length files → k < (says (get_or files f no_file)).imports → import_number files (says (get_or files f no_file)) k < f
  pub own-few : g.imports ≤ 32
  pub own_found : (k : ℕ) → k < g.imports → import_number files g k < length files
