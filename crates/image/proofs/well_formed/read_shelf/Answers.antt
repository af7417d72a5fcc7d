-- `image::well_formed::read_shelf` meets its contract. Assumes nothing.
use Prim.Native.Nat.{◌≤◌}
use native.Mathlib.Omega.{arith}
use mathlib.Core.Path.{◌≡◌, sym, ap, ◌∙◌}
use mathlib.Core.Bool.{true}
use lib.ListN.{length}
use Rattle.std.specs.Prelude.{Some}
use Rattle.image.specs.Shelf.{used_part, well_formed}
use Rattle.image.specs.Places.{places_of, chained, files_fit}
use Rattle.image.specs.declared.shelf.Places.{Places}
use Rattle.image.proofs.ReadLaws.{not-formed, formed, too_many, words_short, bytes_short, chain_broken, chain-whole, walked, unwalked}
use Rattle.image.proofs.well_formed.read_shelf.Goals as goal
use Rattle.image.proofs.well_formed.read_shelf.Goals.{After-files_fit, Else-bytes-used, Else-used-gt32, Else-words-used, In_ok-places}

few : (c : Else-used-gt32) → c.args.used.files ≤ 32
few c = omega (arith, c.if-used-gt32.false)

words : (c : Else-words-used) → let a = c.args in a.used.words ≤ length a.words.now
words c = omega (arith, c.if-words-used.false)

bytes : (c : Else-bytes-used) → let a = c.args in a.used.bytes ≤ length a.bytes.now
bytes c = omega (arith, c.if-bytes-used.false)

-- the records chain, and the places are those of the shelf
chains : (c : In_ok-places) →
    let a = c.args in
    (chained a.used.files (used_part a.words.now a.bytes.now a.used) ≡ true) × (c.in_ok-places.places ≡ places_of a.used.files (used_part a.words.now a.bytes.now a.used))
chains c = let a = c.args in walked a.words.now a.bytes.now a.used (sym c.in_ok-places.was ∙ c.walk_back.ensures)

judged : (c : After-files_fit) →
    let a = c.args in
    c.files_fit.result ≡ well_formed a.words.now a.bytes.now a.used
judged c =
    let a = c.args in
    let at = goal.at.After-files_fit c in
    let h = chains at.In_ok-places in
    c.files_fit.ensures
    ∙ ap (λ (p : Places). files_fit a.words.now a.bytes.now p a.used.files) h.1
    ∙ sym (chain-whole a.words.now a.bytes.now a.used (few at.Else-used-gt32) (words at.Else-words-used) (bytes at.Else-bytes-used) h.0)

pub returns-then-used-gt32 : goal.returns-then-used-gt32
returns-then-used-gt32 c = let a = c.args in
    not-formed a.words.now a.bytes.now a.used (too_many a.words.now a.bytes.now a.used c.if-used-gt32.true)

pub returns-then-words-used : goal.returns-then-words-used
returns-then-words-used c = let a = c.args in
    not-formed a.words.now a.bytes.now a.used (words_short a.words.now a.bytes.now a.used (few (goal.at.returns-then-words-used c).Else-used-gt32) c.if-words-used.true)

pub returns-then-bytes-used : goal.returns-then-bytes-used
returns-then-bytes-used c = let a = c.args in
    let at = goal.at.returns-then-bytes-used c in
    not-formed a.words.now a.bytes.now a.used (bytes_short a.words.now a.bytes.now a.used (few at.Else-used-gt32) (words at.Else-words-used) c.if-bytes-used.true)

pub walk_back-requires : goal.walk_back-requires
walk_back-requires c =
    let at = goal.at.walk_back-requires c in
    record { files_bound = few at.Else-used-gt32; words_in_bounds = words at.Else-words-used; bytes_in_bounds = bytes at.Else-bytes-used }

pub returns-in_err-places : goal.returns-in_err-places
returns-in_err-places c =
    let a = c.args in
    let at = goal.at.returns-in_err-places c in
    let broken = unwalked a.words.now a.bytes.now a.used (sym c.in_err-places.was ∙ c.walk_back.ensures) in
    c.from_residual.ensures
    ∙ not-formed a.words.now a.bytes.now a.used (chain_broken a.words.now a.bytes.now a.used (few at.Else-used-gt32) (words at.Else-words-used) (bytes at.Else-bytes-used) broken)

pub files_fit-requires : goal.files_fit-requires
files_fit-requires c = few (goal.at.files_fit-requires c).Else-used-gt32

pub returns-then-not-files_fit : goal.returns-then-not-files_fit
returns-then-not-files_fit c = let a = c.args in
    not-formed a.words.now a.bytes.now a.used (sym (judged (goal.at.returns-then-not-files_fit c).After-files_fit) ∙ c.if-not-files_fit.true)

pub returns : goal.returns
returns c =
    let a = c.args in
    let at = goal.at.returns c in
    ap (λ (p : Places). Some p) (chains at.In_ok-places).1 ∙ formed a.words.now a.bytes.now a.used (sym (judged at.After-files_fit) ∙ c.if-not-files_fit.false)
