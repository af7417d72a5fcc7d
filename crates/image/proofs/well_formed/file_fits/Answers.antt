-- `image::well_formed::file_fits` meets its contract. Assumes nothing.
use Prim.Native.Nat.{ℕ, ◌≤◌}
use native.Mathlib.Omega.{arith}
use mathlib.Core.Path.{◌≡◌, sym, ap, ◌∙◌, subst}
use mathlib.Core.List.{List}
use mathlib.Core.Bool.{true}
use lib.ListN.{length, take}
use lib.Seq.{length-take-le}
use Rattle.lists.proofs.Cases.{and-true}
use Rattle.image.specs.Schema.{Schema, schema_of}
use Rattle.image.specs.Links.{links_of, link_words}
use Rattle.image.specs.Record.{File, says}
use Rattle.image.specs.LinkTests.{links_fit}
use Rattle.image.specs.Shelf.{image_obeys, is_fresh, imports_named, file_fits}
use Rattle.image.specs.Places.{shelf_file, shelf_files}
use Rattle.image.proofs.ObeyLaws.{sound_obeys}
use Rattle.image.proofs.JudgeLaws.{words_in, links-few}
use Rattle.image.proofs.FileLaws.{says_by}
use Rattle.image.proofs.FileNameLaws.{files_more}
use Rattle.image.proofs.well_formed.file_fits.Goals as goal
use Rattle.image.proofs.well_formed.file_fits.Goals.{After-image_obeys, After-link_words-n, Else-not-image_obeys, Else-not-imports_named, Else-not-is_fresh}

obeyed : (c : After-image_obeys) → let file = shelf_file c.args.shelf.now c.args.f in c.image_obeys.result ≡ image_obeys file.image file.pool
obeyed c =
    let file = shelf_file c.args.shelf.now c.args.f in
    c.image_obeys.ensures.value ∙ ap (λ (x : List ℕ). image_obeys x c.pool.result.now) c.image-image.ensures ∙ ap (image_obeys file.image) c.pool.ensures

-- what the tests passed so far say
obeys : (c : Else-not-image_obeys) → let file = shelf_file c.args.shelf.now c.args.f in image_obeys file.image file.pool ≡ true
obeys c = sym (obeyed (goal.at.Else-not-image_obeys c).After-image_obeys) ∙ c.if-not-image_obeys.false

fresh : (c : Else-not-is_fresh) → is_fresh (shelf_files c.args.shelf.now c.args.f) (shelf_file c.args.shelf.now c.args.f) ≡ true
fresh c = sym c.is_fresh.ensures ∙ c.if-not-is_fresh.false

named : (c : Else-not-imports_named) → imports_named (shelf_files c.args.shelf.now c.args.f) (shelf_file c.args.shelf.now c.args.f) ≡ true
named c = sym c.imports_named.ensures ∙ c.if-not-imports_named.false

-- the link rows in front of `own` are those that the image gives
counted : (c : After-link_words-n) → c.link_words-n.result ≡ link_words (says (shelf_file c.args.shelf.now c.args.f))
counted c =
    let file = shelf_file c.args.shelf.now c.args.f in
    c.link_words-n.ensures ∙ sym (words_in c.image-image.result.now c.read.result c.pool.result.now) ∙ ap link_words (says_by file c.image-image.ensures c.read.ensures c.pool.ensures)

room : (c : After-link_words-n) → c.link_words-n.result ≤ length c.image_obeys.new.own
room c =
    let file = shelf_file c.args.shelf.now c.args.f in
    let ok = sound_obeys file.image file.pool (obeys (goal.at.After-link_words-n c).Else-not-image_obeys) in
    omega (arith, counted c, links-few (says file) ok, c.requires.in_bounds, c.image_obeys.auto.own)

own-rows : (c : After-link_words-n) → take c.link_words-n.result c.image_obeys.new.own ≡ links_of (says (shelf_file c.args.shelf.now c.args.f))
own-rows c =
    let file = shelf_file c.args.shelf.now c.args.f in
    let e : schema_of c.image-image.result.now c.pool.result.now ≡ says file = ap (λ (x : List ℕ). schema_of x c.pool.result.now) c.image-image.ensures ∙ ap (schema_of file.image) c.pool.ensures in
    rw (counted c) (subst (λ (g : Schema). take (link_words g) c.image_obeys.new.own ≡ links_of g) e (c.image_obeys.ensures.own_after (c.if-not-image_obeys.false)))

pub image_obeys-requires : goal.image_obeys-requires
image_obeys-requires c = c.requires.in_bounds

pub returns-then-not-image_obeys : goal.returns-then-not-image_obeys
unfolding file_fits
returns-then-not-image_obeys c = sym (rw (sym (obeyed (goal.at.returns-then-not-image_obeys c).After-image_obeys) ∙ c.if-not-image_obeys.true))

pub returns-then-not-is_fresh : goal.returns-then-not-is_fresh
unfolding file_fits
returns-then-not-is_fresh c = sym (rw (obeys (goal.at.returns-then-not-is_fresh c).Else-not-image_obeys, sym c.is_fresh.ensures ∙ c.if-not-is_fresh.true))

pub returns-then-not-imports_named : goal.returns-then-not-imports_named
unfolding file_fits
returns-then-not-imports_named c = sym (rw (obeys (goal.at.returns-then-not-imports_named c).Else-not-image_obeys, fresh (goal.at.returns-then-not-imports_named c).Else-not-is_fresh, sym c.imports_named.ensures ∙ c.if-not-imports_named.true))

pub slice_bounds-links_fit-end : goal.slice_bounds-links_fit-end
slice_bounds-links_fit-end c = room (goal.at.slice_bounds-links_fit-end c).After-link_words-n

pub slice_bounds-links_fit-end-2 : goal.slice_bounds-links_fit-end-2
slice_bounds-links_fit-end-2 c = sym (length-take-le c.link_words-n.result c.image_obeys.new.own (room (goal.at.slice_bounds-links_fit-end-2 c).After-link_words-n))

pub links_fit-requires : goal.links_fit-requires
links_fit-requires c =
    let file = shelf_file c.args.shelf.now c.args.f in
    let at = goal.at.links_fit-requires c in
    record { f_bound = c.requires.f_bound; sound = sound_obeys file.image file.pool (obeys at.Else-not-image_obeys); own_value = own-rows at.After-link_words-n }

pub returns : goal.returns
unfolding file_fits
returns c =
    let s = c.args.shelf.now in
    let at = goal.at.returns c in
    c.links_fit.ensures
    ∙ ap (λ (l : List File). links_fit l (shelf_file s c.args.f)) (files_more s.words.now s.bytes.now s.places c.args.f)
    ∙ sym (simp (obeys at.Else-not-image_obeys, fresh at.Else-not-is_fresh, named at.Else-not-imports_named, and-true))
