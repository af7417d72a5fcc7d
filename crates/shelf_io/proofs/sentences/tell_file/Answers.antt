-- `shelf_io::sentences::tell_file` meets its contract: the name is cut at 128 bytes. Assumes nothing.
use Prim.Native.Nat.{◌≤◌}
use native.Mathlib.Omega.{arith}
use lib.ListN.{length, length-take}
use Rattle.shelf_io.proofs.sentences.tell_file.Goals as goal

pub returns : goal.returns
returns g c =
    let part = c.front in
    let e : length part.result.now ≤ 128 = rw (part.ensures, length-take) (omega arith) in
    omega (arith, e, c.text-3.ensures)
