-- What rule 8 may rely on: link rows whose enclosing words lead upwards to the top level, as numbering gives them (rules 3 and 4), and
-- names that are given and have no dot (rule 5). Assumes nothing.
use Rattle.std.specs.Prelude.{◌≡◌, List, Bool, true, not, ◌&&◌, ℕ, zero, suc, ◌<◌, ◌≤◌, eqb, length}
use Rattle.lists.specs.Below.{any_below}
use Rattle.lists.specs.Lists.{all, same}
use Rattle.names.specs.Bytes.{dot}
use Rattle.image.specs.Schema.{Schema}
use Rattle.image.specs.Links.{message_up, enum_up}
use Rattle.image.specs.FullName.{items, item_name, item_up}

-- a text has no dot
unfoldable pub dotless : List ℕ → Bool
unfolding all
dotless s = all (λ b. not (eqb b dot)) s

-- what an enclosing word stands for is fine: nothing at top level, else the message whose number it is, plus 1
unfoldable pub outside : (ℕ → Bool) → ℕ → Bool
outside fine zero = true
outside fine (suc p) = fine p

-- a message stands in at most so many others
unfoldable pub stands_in : (ℕ → ℕ) → ℕ → ℕ → Bool
unfolding outside
stands_in up zero m = eqb (up m) 0
stands_in up (suc depth) m = outside (stands_in up depth) (up m)

-- a message stands in one with a lower number, and in at most 15; an enum stands in a message of the file
pub record Chained (g : Schema) (links : List ℕ) : Type 0 where
  pub few : items g ≤ 512
  pub message_up_lem : (m : ℕ) → m < g.messages → message_up links m ≤ m
  pub enum_up_lem : (e : ℕ) → e < g.enums → enum_up g links e ≤ g.messages
  pub deep : (m : ℕ) → m < g.messages → stands_in (message_up links) 15 m ≡ true

-- every message and enum has a name without a dot
pub record Named (g : Schema) (links : List ℕ) : Type 0 where
  pub given : (i : ℕ) → i < items g → 0 < length (item_name g links i)
  pub no_dot : (i : ℕ) → i < items g → dotless (item_name g links i) ≡ true

-- items i and j stand in the same place and have the same own name
unfoldable pub siblings : Schema → List ℕ → ℕ → ℕ → Bool
siblings g links i j = eqb (item_up g links i) (item_up g links j) && same (item_name g links i) (item_name g links j)

-- an item has the place and the own name of an earlier one: rule 8, where the above is known
unfoldable pub siblings_share : Schema → List ℕ → Bool
unfolding any_below siblings
siblings_share g links = any_below (items g) (λ i. any_below i (siblings g links i))
