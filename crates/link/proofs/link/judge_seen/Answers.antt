-- `link::link::judge_seen` meets its contract. Assumes nothing.
use mathlib.Core.Path.{◌≡◌, refl, sym, ◌∙◌}
use Rattle.std.proofs.Common.{rules}
use Rattle.std.specs.Prelude.{Err}
use Rattle.image.specs.Links.{links_of}
use Rattle.image.specs.Judge.{naming_lines}
use Rattle.link.specs.Refusals.{said, shelved_files, name_lines, import_lines}
use Rattle.link.specs.Phases.{call_to, from_fields, from_naming, from_imports}
use Rattle.link.proofs.PhaseLaws.{stops_here, goes_on_lem, name_judged, imports-judged}
use Rattle.link.proofs.link.judge_seen.Goals as goal

pub returns-in_err-judge_name-clause-value : goal.returns-in_err-judge_name-clause-value
returns-in_err-judge_name-clause-value c =
    let k = call_to c.args.shelf.now.words.now c.args.shelf.now.bytes.now c.args.new.now in
    let named = name_judged k c.requires.standing refl (rw c.read-image.ensures at c.judge_name.ensures) in
    let e : c.from_residual.result ≡ Err c.in_err-judge_name.field-0.0 = search rules in
    e ∙ stops_here (name_lines (shelved_files k) (said k)) (from_imports k) named c.in_err-judge_name.was

pub returns-in_err-judge_imports-clause-value : goal.returns-in_err-judge_imports-clause-value
returns-in_err-judge_imports-clause-value c =
    let k = call_to c.args.shelf.now.words.now c.args.shelf.now.bytes.now c.args.new.now in
    let named = name_judged k c.requires.standing refl (rw c.read-image.ensures at c.judge_name.ensures) in
    let imported = imports-judged k c.requires.standing refl (rw c.read-image.ensures at c.judge_imports.ensures) in
    let e : c.from_residual-in_err-judge_imports.result ≡ Err c.in_err-judge_imports.field-0.0 = search rules in
    e ∙ goes_on_lem (name_lines (shelved_files k) (said k)) (from_imports k) named c.in_ok-judge_name.was (stops_here (import_lines (shelved_files k) (said k)) (from_naming k) imported c.in_err-judge_imports.was)

pub returns-in_err-naming-clause-value : goal.returns-in_err-naming-clause-value
returns-in_err-naming-clause-value c =
    let k = call_to c.args.shelf.now.words.now c.args.shelf.now.bytes.now c.args.new.now in
    let named = name_judged k c.requires.standing refl (rw c.read-image.ensures at c.judge_name.ensures) in
    let imported = imports-judged k c.requires.standing refl (rw c.read-image.ensures at c.judge_imports.ensures) in
    let e : c.from_residual-in_err-naming.result ≡ Err c.in_err-naming.field-0.0 = search rules in
    e ∙ goes_on_lem (name_lines (shelved_files k) (said k)) (from_imports k) named c.in_ok-judge_name.was (goes_on_lem (import_lines (shelved_files k) (said k)) (from_naming k) imported c.in_ok-judge_imports.was (stops_here (naming_lines (said k) (links_of (said k))) (from_fields k) c.requires.naming_value c.in_err-naming.was))

pub judge_fields-requires-clause-imports : goal.judge_fields-requires-clause-imports
judge_fields-requires-clause-imports c =
    let k = call_to c.args.shelf.now.words.now c.args.shelf.now.bytes.now c.args.new.now in
    sym (imports-judged k c.requires.standing refl (rw c.read-image.ensures at c.judge_imports.ensures)) ∙ c.in_ok-judge_imports.was

pub returns-clause-value : goal.returns-clause-value
returns-clause-value c =
    let k = call_to c.args.shelf.now.words.now c.args.shelf.now.bytes.now c.args.new.now in
    let named = name_judged k c.requires.standing refl (rw c.read-image.ensures at c.judge_name.ensures) in
    let imported = imports-judged k c.requires.standing refl (rw c.read-image.ensures at c.judge_imports.ensures) in
    goes_on_lem (name_lines (shelved_files k) (said k)) (from_imports k) named c.in_ok-judge_name.was (goes_on_lem (import_lines (shelved_files k) (said k)) (from_naming k) imported c.in_ok-judge_imports.was (goes_on_lem (naming_lines (said k) (links_of (said k))) (from_fields k) c.requires.naming_value c.in_ok-naming.was c.judge_fields.ensures.value))
