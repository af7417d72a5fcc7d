-- `shelf_io::shelves::open_shelf` meets its contract. Assumes nothing.
use mathlib.Core.Path.{◌≡◌, ap, ◌∙◌, sym}
use Rattle.std.specs.Prelude.{Some, is_some}
use Rattle.image.specs.Places.{read_shelf}
use Rattle.image.proofs.ReadLaws.{read_whole}
use Rattle.shelf_io.proofs.shelves.open_shelf.Goals as goal

pub returns : goal.returns
returns g c =
    let used = c.in_ok-used.used in
    let w = c.load.new.words in
    let b = c.load.new.bytes in
    let found : Some c.in-Some.places ≡ read_shelf w b used = sym c.in-Some.is ∙ c.read_shelf.ensures in
    record {
      formed = sym (read_whole w b used) ∙ ap is_some (sym found);
      placed = found;
      kept = tt;
      broken = tt;
    }
