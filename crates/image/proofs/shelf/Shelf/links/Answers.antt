-- `image::shelf::Shelf::links` meets its contract. Assumes nothing.
use Prim.Native.Nat.{ℕ}
use mathlib.Core.Path.{ap, ◌∙◌}
use mathlib.Core.List.{List}
use lib.ListN.{get_or}
use Rattle.lists.specs.Lists.{part}
use Rattle.image.specs.Words.{sections_of}
use Rattle.image.specs.Places.{no_place}
use Rattle.image.specs.declared.shelf.Place.{Place}
use Rattle.image.proofs.ShelfLaws.{row_words_lem}
use Rattle.image.proofs.shelf.Shelf.links.Goals as goal

pub returns : goal.returns
returns c = let at = c.place-at.ensures in
    let a = c.args in
    let p : Place = get_or a.self.now.places.files a.f no_place in
    let pool : List ℕ = part p.pool p.length a.self.now.bytes.now in
    let image : List ℕ = part p.start p.image a.self.now.words.now in
    let count = c.link_row_words.ensures ∙ row_words_lem image pool c.read-s.result (c.read-s.ensures ∙ ap sections_of (rw at at c.part.ensures)) in
    rw (at, count) at c.part-2.ensures
