-- A message or an enum by its full name, in one file and in the files of a list, as the code seeks it. Assumes nothing.
use mathlib.Core.Path.{◌≡◌, sym, ap, ◌∙◌}
use mathlib.Core.List.{List}
use mathlib.Core.Bool.{true, false}
use Prim.Native.Nat.{ℕ, ◌+◌, ◌<◌, ◌≤◌}
use native.Mathlib.Numerals.{add-one}
use lib.ListN.{length, get_or, drop, drop_of_length-le}
use lib.Seq.{drop-cons}
use Rattle.std.specs.Prelude.{Option, Some, None}
use Rattle.names.specs.Package.{lies_beneath, rest_beneath}
use Rattle.image.specs.Record.{File, says}
use Rattle.image.specs.Lookup.{message_by_path, enum_by_path}
use Rattle.image.specs.declared.rows.Flat.{Flat}
use Rattle.link.specs.Resolve.{item_in, found_or, first_in}
use Rattle.link.specs.declared.building.Wanted.{Wanted}
use Rattle.link.specs.declared.building.Wanted.TheVariants.{Message, Enum}

-- ---- in one file: whether the name lies beneath its package

module _ (file : File) (full : List ℕ) where
  pub item_not : (wanted : Wanted) → lies_beneath full (says file).«package» ≡ false → None ≡ item_in wanted file full
  unfolding item_in
  item_not wanted l = rw l

  module _ (l : lies_beneath full (says file).«package» ≡ true) {found : Option Flat} (wanted : Wanted) where
    pub item_message : wanted ≡ Message → found ≡ message_by_path (says file) file.links (rest_beneath full (says file).«package») → found ≡ item_in wanted file full
    unfolding item_in
    item_message w e = rw (w, l) e

    pub item_enum : wanted ≡ Enum → found ≡ enum_by_path (says file) file.links (rest_beneath full (says file).«package») → found ≡ item_in wanted file full
    unfolding item_in
    item_enum w e = rw (w, l) e

-- ---- in the files of a list: where none of the first i has it, what is left decides

module _ (look : ℕ → Option Flat) (l : List ℕ) (i : ℕ) where
  first_at : i < length l → first_in look (drop i l) ≡ found_or (get_or l i 0) (look (get_or l i 0)) (first_in look (drop (i + 1) l))
  unfolding first_in
  first_at h = rw (add-one, drop-cons l i 0)

  module _ {found : Option Flat} (h : i < length l) (e : found ≡ look (get_or l i 0)) (w : first_in look l ≡ first_in look (drop i l)) where
    pub first_here : (m : Flat) → found ≡ Some m → Some (record { file = get_or l i 0 + 1; index = m.0 }) ≡ first_in look l
    first_here m g =
        sym (w ∙ first_at h ∙ ap (λ (x : Option Flat). found_or (get_or l i 0) x (first_in look (drop (i + 1) l))) (sym e ∙ g))

    pub first_further : found ≡ None → first_in look l ≡ first_in look (drop (i + 1) l)
    first_further g =
        w ∙ first_at h ∙ ap (λ (x : Option Flat). found_or (get_or l i 0) x (first_in look (drop (i + 1) l))) (sym e ∙ g)

  pub first_none : length l ≤ i → first_in look l ≡ first_in look (drop i l) → None ≡ first_in look l
  unfolding first_in
  first_none h w = sym (w ∙ rw drop_of_length-le)
