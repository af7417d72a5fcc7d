-- Messages and enums as items. Assumes nothing.
use mathlib.Core.Path.{◌≡◌, refl, ◌∙◌}
use mathlib.Core.List.{List, []}
use Prim.Native.Nat.{ℕ, ◌+◌, ◌-◌, ◌<◌}
use native.Mathlib.Omega.{arith}
use lib.ListN.{length}
use borrow.Author.Tests.{lt-ltb, le-ltb}
use Rattle.names.specs.Package.{concat_paths}
use Rattle.image.specs.Schema.{Schema}
use Rattle.image.specs.Links.{message_up, enum_row, enum_up}
use Rattle.image.specs.FullName.{path, message_path, enum_path, item_name, item_up, item_path, full_name}
use Rattle.image.specs.Climb.{name_of, path_above, message_above, lead}
use Rattle.image.proofs.PathTexts.{concat_nil, concat-lead}

module _ (g : Schema) (links : List ℕ) where
  module _ (m : ℕ) (h : m < g.messages) where
    pub message_name_as : item_name g links m ≡ name_of g links m
    unfolding item_name
    message_name_as = rw (lt-ltb m g.messages h)

    pub message_up_as : item_up g links m ≡ message_up links m
    unfolding item_up
    message_up_as = rw (lt-ltb m g.messages h)

    pub message_path_as : item_path g links m ≡ message_path g links 16 m
    unfolding path
    message_path_as = rw (message_name_as, message_up_as)

  module _ (e : ℕ) where
    back : g.messages + e - g.messages ≡ e
    back = omega arith

    pub enum_name_as : item_name g links (g.messages + e) ≡ g.enum_name (enum_row g links e)
    unfolding item_name
    enum_name_as = rw (le-ltb (g.messages + e) g.messages (omega arith), back)

    pub enum_up_as : item_up g links (g.messages + e) ≡ enum_up g links e
    unfolding item_up
    enum_up_as = rw (le-ltb (g.messages + e) g.messages (omega arith), back)

    pub enum_path_as : item_path g links (g.messages + e) ≡ enum_path g links e
    enum_path_as = rw (enum_name_as, enum_up_as)

    pub enum_full_as : full_name g links (g.messages + e) ≡ concat_paths g.«package» (enum_path g links e)
    unfolding full_name
    enum_full_as = rw (enum_name_as, enum_up_as)

  -- the full name of an item, level by level
  module _ (i : ℕ) where
    full_above : full_name g links i ≡ concat_paths g.«package» (concat_paths (message_above g links 16 (item_up g links i)) (item_name g links i))
    unfolding full_name path_above
    full_above = refl

    pub full_none : length (item_name g links i) ≡ 0 → full_name g links i ≡ []
    full_none e = full_above ∙ rw (concat_nil (message_above g links 16 (item_up g links i)) (item_name g links i) e) (concat_nil g.«package» [] refl)

    pub full_lead : 0 < length (item_name g links i) → full_name g links i ≡ concat_paths (lead g.«package» (message_above g links 16 (item_up g links i))) (item_name g links i)
    full_lead h = full_above ∙ concat-lead g.«package» (message_above g links 16 (item_up g links i)) (item_name g links i) h
