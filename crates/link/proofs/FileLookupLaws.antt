-- Lookups in one file, as the code seeks. Assumes nothing.
use mathlib.Core.Path.{◌≡◌, ap, ◌∙◌}
use mathlib.Core.List.{List}
use Prim.Native.Nat.{ℕ, ◌+◌, ◌≤◌, ◌<◌}
use native.Mathlib.Omega.{arith}
use lib.ListN.{get_or}
use borrow.Author.Tests.{lt-ltb, le-ltb}
use Rattle.std.specs.Prelude.{Option, None, Ok}
use Rattle.lists.specs.Below.{found_below}
use Rattle.lists.proofs.TableLaws.{get_or_table}
use Rattle.image.specs.Words.{word_at}
use Rattle.image.specs.Schema.{Schema}
use Rattle.image.specs.FullName.{items, full_name}
use Rattle.image.specs.Record.{File, says, link_row, message_link_at}
use Rattle.link.specs.Lookup.{first_field_word, Naming, count_of, item_of, unwritten, written, item_written}
use Rattle.link.specs.declared.building.Wanted.{Wanted}
use Rattle.link.specs.declared.building.Wanted.TheVariants.{Message, Enum}

-- the flat number of a field by the words of its message's link row
pub field_at : (links : List ℕ) (m k n : ℕ) {row : List ℕ} {r : Option ℕ} → row ≡ link_row links (message_link_at m) 10 → r ≡ found_below n (get_or row 4 0 + k)
    → r ≡ found_below n (first_field_word links m + k)
field_at links m k n w e =
    e ∙ ap (λ (x : ℕ). found_below n (x + k)) (ap (λ (x : List ℕ). get_or x 4 0) w ∙ get_or_table 10 (λ j. word_at links (message_link_at m + j)) 4 0 (omega arith))

-- what is wanted is one of the items
pub item_in_lem : (wanted : Wanted) (g : Schema) (i : ℕ) → i < count_of wanted g → item_of wanted g i < items g
item_in_lem Message g i h = omega arith
item_in_lem Enum g i h = omega arith

-- its number among the items, enums behind messages
pub item_most : (wanted : Wanted) (g : Schema) (i : ℕ) → item_of wanted g i ≤ g.messages + i
item_most Message g i = omega arith
item_most Enum g i = omega arith

-- its name, where there is one of that index
module _ (wanted : Wanted) (i : ℕ) (out : List ℕ) (file : File) where
  pub item_bad : count_of wanted (says file) ≤ i → unwritten out (Ok None) ≡ item_written wanted i out file
  unfolding item_written
  item_bad h = rw (le-ltb i (count_of wanted (says file)) h)

  pub item_good : i < count_of wanted (says file) → {n : Naming} → n ≡ written out (full_name (says file) file.links (item_of wanted (says file) i))
      → n ≡ item_written wanted i out file
  unfolding item_written
  item_good h e = rw (lt-ltb i (count_of wanted (says file)) h) e
