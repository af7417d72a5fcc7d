-- What a name or a type leads to: as the code seeks it, and which files it can lie in. Assumes nothing.
use mathlib.Core.Path.{◌≡◌, refl, sym, ap, subst, ◌∙◌}
use mathlib.Core.List.{List, [], ◌∷◌}
use mathlib.Core.Bool.{true}
use Prim.Native.Nat.{ℕ, ◌+◌, ◌<◌, ◌≤◌}
use native.Mathlib.Omega.{arith}
use lib.ListN.{length, get_or, get_or-append}
use lib.Seq.{get_or_at}
use Rattle.lists.specs.Lists.{table}
use Rattle.lists.proofs.TableLaws.{length_table, get_or_table}
use Rattle.std.specs.Prelude.{Option, Some, None}
use Rattle.image.specs.Record.{File, no_file}
use Rattle.image.specs.Places.{file_in, files_in}
use Rattle.image.specs.declared.rows.Flat.{Flat}
use Rattle.image.specs.declared.shelf.Places.{Places}
use Rattle.link.specs.Sight.{Sight, in_sight, sight_of, InReach}
use Rattle.link.specs.Search.{Below}
use Rattle.link.specs.Resolve.{item_in, found_or, first_in, target, type_target, is_message_type}
use Rattle.link.specs.declared.building.Wanted.{Wanted}
use Rattle.link.specs.declared.building.Wanted.TheVariants.{Message}
use Rattle.link.specs.declared.building.Target.{Target}

-- ---- a list of files is looked through by what is found in each of them

first_agree : (look seek : ℕ → Option Flat) (n : ℕ) (l : List ℕ) → ((f : ℕ) → f < n → look f ≡ seek f) → Below n l → first_in look l ≡ first_in seek l
unfolding first_in
first_agree look seek n [] h b = refl
first_agree look seek n (f ∷ fs) h b = rw (h f b.0, first_agree look seek n fs h b.1)

-- ---- n shelved files, and the file that is linked

module _ (file : ℕ → File) (n : ℕ) (own : File) where
  abbrev sight : Sight
  sight = record { files = table n file; own = own }

  sight_own : get_or (in_sight sight) (length (table n file)) no_file ≡ own
  sight_own = get_or_at (table n file) own [] no_file (length (table n file)) refl

  sight_file : (f : ℕ) → f < n → get_or (in_sight sight) f no_file ≡ file f
  sight_file f h = get_or-append (table n file) (own ∷ []) no_file f (rw (length_table n file) h) ∙ get_or_table n file f no_file h

  module _ (wanted : Wanted) (list full : List ℕ) where
    -- what is found in a file in sight
    abbrev seen : ℕ → Option Flat
    seen f = item_in wanted (get_or (in_sight sight) f no_file) full

    -- what is found in a shelved file
    abbrev shelved : ℕ → Option Flat
    shelved f = item_in wanted (file f) full

    -- this file, then the list
    target_by : Below n list → target wanted sight list full ≡ found_or n (item_in wanted own full) (first_in shelved list)
    unfolding target first_in
    target_by b =
        rw (sight_own, length_table n file)
        (ap (found_or n (item_in wanted own full)) (first_agree seen shelved n list (λ f h. ap (λ (x : File). item_in wanted x full) (sight_file f h)) b))

    module _ (b : Below n list) {found : Option Flat} (e : found ≡ item_in wanted own full) where
      pub target-own : (m : Flat) → found ≡ Some m → Some (record { file = n + 1; index = m.0 }) ≡ target wanted sight list full
      target-own m g = sym (target_by b ∙ ap (λ (x : Option Flat). found_or n x (first_in shelved list)) (sym e ∙ g))

      pub target-listed : {r : Option Target} → found ≡ None → r ≡ first_in shelved list → r ≡ target wanted sight list full
      target-listed g q = q ∙ sym (target_by b ∙ ap (λ (x : Option Flat). found_or n x (first_in shelved list)) (sym e ∙ g))

-- ---- a target lies in a file in reach

abbrev Reaching : ℕ → Option Target → Type 0
Reaching n (Some t) = InReach n t.file
Reaching n None = Unit

found_reaching : (n f : ℕ) (x : Option Flat) (t : Option Target) → f ≤ n → Reaching n t → Reaching n (found_or f x t)
found_reaching n f (Some m) t h r = (omega arith, omega arith)
found_reaching n f None t h r = r

first_reaching : (look : ℕ → Option Flat) (n : ℕ) (l : List ℕ) → Below n l → Reaching n (first_in look l)
unfolding first_in
first_reaching look n [] b = tt
first_reaching look n (f ∷ fs) b =
    found_reaching n f (look f) (first_in look fs) (omega (arith, b.0)) (first_reaching look n fs b.1)

module _ (words bytes : List ℕ) (p : Places) (n : ℕ) (image pool links list name : List ℕ) (b : Below n list) where
  abbrev in_view : Sight
  in_view = sight_of words bytes p n image pool links

  -- by a name
  pub target-reach : (wanted : Wanted) {t : Target} → target wanted in_view list name ≡ Some t → InReach n t.file
  unfolding target first_in
  target-reach wanted e =
      let look : ℕ → Option Flat = λ f. item_in wanted (get_or (in_sight in_view) f no_file) name in
      let k = length (files_in words bytes p n) in
      subst (Reaching n) e (found_reaching n k (look k) (first_in look list) (omega (arith, length_table n (file_in words bytes p))) (first_reaching look n list b))

  -- by a message type
  pub type_reach : («type» : ℕ) {t : Target} → is_message_type «type» ≡ true → type_target in_view list «type» name ≡ Some t → InReach n t.file
  unfolding type_target
  type_reach «type» h e = target-reach Message (rw h at e)
