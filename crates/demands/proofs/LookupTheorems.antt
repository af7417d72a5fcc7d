-- On a well-formed shelf each message and enum of a file is found by its full name behind a dot, and by nothing else. Assumes nothing.
use mathlib.Core.Path.{◌≡◌, refl, sym, ap, ◌∙◌}
use mathlib.Core.Logic.{◌↔◌}
use mathlib.Core.Bool.{Bool, true, false}
use mathlib.Core.List.{List, ◌∷◌}
use Prim.Native.Nat.{ℕ, ◌+◌, ◌<◌}
use native.Mathlib.Omega.{arith}
use lib.Dec.{ltb}
use lib.ListN.{length, take}
use borrow.Author.Tests.{lt-ltb, le-ltb, ltb-true}
use Rattle.std.specs.Prelude.{Option, Some, None, option_map, Ok, Err}
use Rattle.lists.specs.Below.{found_below}
use Rattle.lists.specs.Lists.{same}
use Rattle.lists.proofs.Cases.{by}
use Rattle.lists.proofs.BelowLaws.{searched}
use Rattle.lists.proofs.ListLaws.{same_is}
use Rattle.names.specs.Bytes.{dot}
use Rattle.names.specs.Package.{concat_paths, lies_beneath, rest_beneath}
use Rattle.image.specs.Schema.{Schema}
use Rattle.image.specs.FullName.{inside, message_path, enum_path, items, item_name, item_up, item_path, full_name, shares_name}
use Rattle.image.specs.Lookup.{first_flat, message_by_path, enum_by_path}
use Rattle.image.specs.Chained.{Named}
use Rattle.image.specs.Record.{File, says}
use Rattle.image.specs.Shelf.{file_fits}
use Rattle.image.specs.Verdict.{Verdict}
use Rattle.image.specs.declared.rows.Flat.{Flat}
use Rattle.image.proofs.PathTexts.{concat_some}
use Rattle.image.proofs.ItemLaws.{message_path_as, enum_path_as}
use Rattle.image.proofs.LookupLaws.{found_by_path, enum_by_path_lem}
use Rattle.link.specs.Resolve.{by_path, item_in}
use Rattle.link.specs.Refusals.{Call, shelved_files}
use Rattle.link.specs.Lookup.{item_named, count_of, item_of, shelf_verdict, shelved_file, opened_by, opened_file, looked_in, looked_up}
use Rattle.link.specs.declared.building.Wanted.{Wanted}
use Rattle.link.specs.declared.building.Wanted.TheVariants.{Message, Enum}
use Rattle.link.proofs.ShelfFacts.{formed_fits}
use Rattle.link.proofs.FileLookupLaws.{item_in_lem}
use Rattle.link.proofs.GivenLaws.{fit_named, fit_unshared}
use Rattle.link.proofs.LookupLaws.{passed_formed}
use Rattle.demands.specs.Demands.{GoesOn}
use Rattle.demands.proofs.BeneathLaws.{full_lies, full_rest, full_only}

-- ---- what was found

pub none_not : {A C : Type 0} (x : A) → None ≡ Some x → C
none_not x q = cc

-- the number that a search came to
pub found_told : (n k j : ℕ) → found_below n k ≡ Some j → (k ≡ j) × (j < n)
found_told n k j h =
    by (ltb k n)
    (λ t. let q : ◌≡◌ {A = Option ℕ} (Some k) (Some j) = rw t at h in
    let z : k ≡ j = cc in
    (z, rw z at (ltb-true k n t)))
    (λ t. none_not j (rw t at h))

-- by its number
flat_at : (found : Option Flat) (i : ℕ) → option_map (λ m. m.0) found ≡ Some i → found ≡ Some (record { 0 = i })
flat_at (Some m) i h = let z : m.0 ≡ i = cc in rw z
flat_at None i h = none_not i h

-- a found number is one that has p
flat_has : (n : ℕ) (p : ℕ → Bool) (k : Flat) → first_flat n p ≡ Some k → (k.0 < n) × (p k.0 ≡ true)
unfolding first_flat
flat_has n p k h =
    searched n p n
    (λ r e. let q : ◌≡◌ {A = Option Flat} (Some (record { 0 = r.at })) (Some k) = sym (rw (e, lt-ltb r.at n r.below)) ∙ h in
    let z : r.at ≡ k.0 = cc in
    (rw z at r.below, rw z at r.has))
    (λ none e. none_not k (sym (rw (e, le-ltb n n (omega arith))) ∙ h))

-- ---- in one file, by path: messages and enums as items

-- what is found by a path has it
path_only : (wanted : Wanted) (g : Schema) (links wish : List ℕ) (k : Flat) → by_path wanted g links wish ≡ Some k
    → (k.0 < count_of wanted g) × (wish ≡ item_path g links (item_of wanted g k.0))
unfolding message_by_path enum_by_path
path_only Message g links wish k h =
    let f = flat_has g.messages (λ m. same wish (message_path g links 16 m)) k h in
    (f.0, same_is wish (message_path g links 16 k.0) f.1 ∙ sym (message_path_as g links k.0 f.0))
path_only Enum g links wish k h =
    let f = flat_has g.enums (λ e. same wish (enum_path g links e)) k h in
    (f.0, same_is wish (enum_path g links k.0) f.1 ∙ sym (enum_path_as g links k.0))

module _ {g : Schema} {links : List ℕ} (named : Named g links) where
  -- no path is empty
  path-given : (i : ℕ) → i < items g → 0 < length (item_path g links i)
  path-given i h = concat_some (inside (message_path g links 15) (item_up g links i)) (item_name g links i) (named.given i h)

  -- and where rule 8 is kept, each finds its own item
  path_found : shares_name g links ≡ false → (wanted : Wanted) (i : ℕ) → i < count_of wanted g → by_path wanted g links (item_path g links (item_of wanted g i)) ≡ Some (record { 0 = i })
  path_found kept Message i h = ap (message_by_path g links) (message_path_as g links i h) ∙ found_by_path named kept i h
  path_found kept Enum i h = ap (enum_by_path g links) (enum_path_as g links i) ∙ enum_by_path_lem named kept i h

-- ---- in one file, by full name

full_is : (g : Schema) (links : List ℕ) (i : ℕ) → full_name g links i ≡ concat_paths g.«package» (item_path g links i)
unfolding full_name
full_is g links i = refl

module _ (earlier : List File) (x : File) (fits : file_fits earlier x ≡ true) (wanted : Wanted) where
  abbrev behind_dot : ℕ → List ℕ
  behind_dot i = dot ∷ full_name (says x) x.links (item_of wanted (says x) i)

  item_found : (i : ℕ) → i < count_of wanted (says x) → item_in wanted x (behind_dot i) ≡ Some (record { 0 = i })
  unfolding item_in
  item_found i h =
      let g = says x in
      let k = item_of wanted g i in
      let path = item_path g x.links k in
      let given = path-given (fit_named earlier x fits) k (item_in_lem wanted g i h) in
      rw (full_is g x.links k, full_lies g.«package» path given, full_rest g.«package» path given)
      (path_found (fit_named earlier x fits) (fit_unshared earlier x fits) wanted i h)

  item_only : (name : List ℕ) (k : Flat) → item_in wanted x name ≡ Some k → (k.0 < count_of wanted (says x)) × (name ≡ behind_dot k.0)
  unfolding item_in
  item_only name k h =
      let g = says x in
      by (lies_beneath name g.«package»)
      (λ l. let f = path_only wanted g x.links (rest_beneath name g.«package») k (simp l at h) in
      let path = item_path g x.links (item_of wanted g k.0) in (
        f.0,
        full_only name g.«package» path l f.1 (path-given (fit_named earlier x fits) (item_of wanted g k.0) (item_in_lem wanted g k.0 f.0))
            ∙ ap (λ (l : List ℕ). dot ∷ l) (sym (full_is g x.links (item_of wanted g k.0))),
      ))
      (λ l. none_not k (simp l at h))

  -- the two together, with the flat number as a plain one
  number_found : (i : ℕ) (name : List ℕ) → (item_named wanted x name ≡ Some i) ↔ ((i < count_of wanted (says x)) × (name ≡ behind_dot i))
  number_found i name = (
    (λ h. let e = flat_at (item_in wanted x name) i h in item_only name (record { 0 = i }) e),
    (λ h. rw h.1 (ap (option_map (λ m. m.0)) (item_found i h.0))),
  )

-- ---- for a file of a shelf

opened_found : (v : Verdict) (there : Bool) (x : File) (seek : File → Option ℕ) (k : ℕ) → looked_in (opened_by v there x) seek ≡ Ok (Some k)
    → (v ≡ Ok tt) × (there ≡ true) × (seek x ≡ Some k)
opened_found (Err r) there x seek k h = cc
opened_found (Ok u) false x seek k h = cc
opened_found (Ok u) true x seek k h = (refl, refl, cc)

module _ (c : Call) (f : ℕ) where
  abbrev file : File
  file = shelved_file c f

  -- A lookup finds something exactly if it goes on in the file and finds that there.
  pub found_exactly_if : (seek : File → Option ℕ) (k : ℕ) → (looked_up c f seek ≡ Ok (Some k)) ↔ (GoesOn c f × (seek file ≡ Some k))
  unfolding looked_up opened_file
  found_exactly_if seek k = (
    (λ h. let p = opened_found (shelf_verdict c) (ltb f c.used.files) file seek k h in ((p.0, ltb-true f c.used.files p.1), p.2)),
    (λ h. rw (h.0.0, lt-ltb f c.used.files h.0.1, h.1)),
  )

  -- such a file is in order behind those before it
  pub on_fits : GoesOn c f → file_fits (take f (shelved_files c)) file ≡ true
  on_fits h = formed_fits c.words c.bytes c.used (passed_formed c h.0) f h.1

  pub item_found_if : (wanted : Wanted) (name : List ℕ) (i : ℕ)
      → (looked_up c f (λ x. item_named wanted x name) ≡ Ok (Some i))
      ↔ (GoesOn c f × (i < count_of wanted (says file)) × (name ≡ dot ∷ full_name (says file) file.links (item_of wanted (says file) i)))
  item_found_if wanted name i = (
    (λ h. let p = (found_exactly_if (λ x. item_named wanted x name) i).0 h in
        let q = (number_found (take f (shelved_files c)) file (on_fits p.0) wanted i name).0 p.1 in
        (p.0, q.0, q.1)),
    (λ h. (found_exactly_if (λ x. item_named wanted x name) i).1
        (h.0, (number_found (take f (shelved_files c)) file (on_fits h.0) wanted i name).1 (h.1, h.2))),
  )

  -- Message m is found by a name exactly if the file has a message m, and the name is its full name behind a dot.
  pub message_exactly_if : (name : List ℕ) (m : ℕ)
      → (looked_up c f (λ x. item_named Message x name) ≡ Ok (Some m))
      ↔ (GoesOn c f × (m < (says file).messages) × (name ≡ dot ∷ full_name (says file) file.links m))
  message_exactly_if = item_found_if Message

  -- The same of enums.
  pub enum_exactly_if : (name : List ℕ) (e : ℕ)
      → (looked_up c f (λ x. item_named Enum x name) ≡ Ok (Some e))
      ↔ (GoesOn c f × (e < (says file).enums) × (name ≡ dot ∷ full_name (says file) file.links ((says file).messages + e)))
  enum_exactly_if = item_found_if Enum
