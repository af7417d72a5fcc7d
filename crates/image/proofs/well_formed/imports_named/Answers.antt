-- `image::well_formed::imports_named` meets its contract: each import names an earlier file. Assumes nothing.
use Prim.Native.Nat.{ℕ}
use mathlib.Core.Path.{◌≡◌, ap, ◌∙◌}
use Rattle.std.proofs.Common.{rules, tests}
use Rattle.std.specs.Prelude.{is_some}
use Rattle.lists.specs.Below.{all_below}
use Rattle.lists.proofs.StdLaws.{all_of_range}
use Rattle.image.specs.Schema.{Schema, schema}
use Rattle.image.specs.Record.{says}
use Rattle.image.specs.Shelf.{file_named, imports_named}
use Rattle.image.specs.Places.{shelf_file, shelf_files}
use Rattle.image.proofs.FileLaws.{reads, schema_read}
use Rattle.image.proofs.FileNameLaws.{imports_in}
use Rattle.image.proofs.well_formed.imports_named.Goals as goal
use Rattle.image.proofs.well_formed.imports_named.Goals.{After-read-image}

said : (c : After-read-image) → schema c.read-image.result ≡ says (shelf_file c.args.shelf.now c.args.f)
said c = let file = shelf_file c.args.shelf.now c.args.f in
    schema_read file (reads file c.read-image.ensures c.image.ensures c.pool.ensures)

pub returns : goal.returns
unfolding imports_named
returns c =
    let i = c.read-image.result in
    let files = shelf_files c.args.shelf.now c.args.f in
    all_of_range _ (λ k. is_some (file_named files ((schema i).import_name k))) _ _ _ c.all.ensures.ran (λ x b q k. search (rules, tests))
    ∙ ap (λ (n : ℕ). all_below n (λ k. is_some (file_named files ((schema i).import_name k)))) (imports_in i.rows.words.now i.rows.sections i.pool.now)
    ∙ ap (λ (g : Schema). all_below g.imports (λ k. is_some (file_named files (g.import_name k)))) (said (goal.at.returns c).After-read-image)
