-- Full names: the name up the enclosing chain behind the package. `links` are the words of the file's link rows, and messages and enums
-- are given by their flat numbers; as items, an enum's number is that behind the last message. Names are joined from the outermost
-- message inward, and the package is put in front last. Assumes nothing.
use Rattle.std.specs.Prelude.{List, [], Bool, cond, ℕ, zero, suc, ◌+◌, ◌-◌, ltb, leb, length}
use Rattle.lists.specs.Below.{any_below, all_below}
use Rattle.lists.specs.Lists.{same}
use Rattle.names.specs.Package.{concat_paths}
use Rattle.image.specs.Schema.{Schema}
use Rattle.image.specs.Links.{message_row, message_up, enum_row, enum_up}

-- what an enclosing word stands for, given the path of each message: none, or the path of the message whose number it is, plus 1
unfoldable pub inside : (ℕ → List ℕ) → ℕ → List ℕ
inside path zero = []
inside path (suc p) = path p

-- The path of message m: the names of the messages that enclose it, the outermost first, and its own, joined by dots. The depth is
-- the number of enclosing messages that are looked at; nesting of 16 has 15 at most.
unfoldable pub path : (ℕ → List ℕ) → (ℕ → ℕ) → ℕ → ℕ → List ℕ
unfolding concat_paths inside
path name up zero m = name m
path name up (suc depth) m = concat_paths (inside (path name up depth) (up m)) (name m)

abbrev pub message_path : Schema → List ℕ → ℕ → ℕ → List ℕ
message_path g links = path (λ m. g.message_name (message_row links m)) (message_up links)

-- the path of anything that has a name and stands where an enclosing word says: a message or an enum
abbrev pub path_beneath : Schema → List ℕ → ℕ → List ℕ → List ℕ
path_beneath g links up name = concat_paths (inside (message_path g links 15) up) name

abbrev pub enum_path : Schema → List ℕ → ℕ → List ℕ
enum_path g links e = path_beneath g links (enum_up g links e) (g.enum_name (enum_row g links e))

-- ---- messages and enums as one row of items: the messages in flat order, then the enums

unfoldable pub item_name : Schema → List ℕ → ℕ → List ℕ
item_name g links i = cond (ltb i g.messages) (g.message_name (message_row links i)) (g.enum_name (enum_row g links (i - g.messages)))

unfoldable pub item_up : Schema → List ℕ → ℕ → ℕ
item_up g links i = cond (ltb i g.messages) (message_up links i) (enum_up g links (i - g.messages))

abbrev pub item_path : Schema → List ℕ → ℕ → List ℕ
item_path g links i = path_beneath g links (item_up g links i) (item_name g links i)

abbrev pub items : Schema → ℕ
items g = g.messages + g.enums

unfoldable pub full_name : Schema → List ℕ → ℕ → List ℕ
unfolding item_up item_name
full_name g links i = concat_paths g.«package» (item_path g links i)

-- ---- the rules of full names

abbrev pub full_name_limit : ℕ
full_name_limit = 512

-- rule 4: the full names of messages and enums are at most 512 bytes long
unfoldable pub full_names_short : Schema → List ℕ → Bool
unfolding all_below
full_names_short g links = all_below (items g) (λ i. leb (length (full_name g links i)) full_name_limit)

-- rule 8: some item has the full name of an earlier one
unfoldable pub shares_name : Schema → List ℕ → Bool
unfolding any_below
shares_name g links = any_below (items g) (λ i. any_below i (λ j. same (full_name g links i) (full_name g links j)))
