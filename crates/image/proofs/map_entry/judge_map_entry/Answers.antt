-- `image::map_entry::judge_map_entry` meets its contract. Assumes nothing.
use mathlib.Core.Path.{◌≡◌, ◌∙◌}
use borrow.Author.Tests.{ne_eqb}
use Rattle.image.specs.MapEntry.{ends_with, entry_lines, entry_text}
use Rattle.image.specs.Schema.{schema_in}
use Rattle.image.specs.Texts.{text_of}
use Rattle.image.specs.Verdict.{first}
use Rattle.image.specs.Words.{row_at}
use Rattle.image.specs.declared.rows.Kind.TheVariants.{Message}
use Rattle.image.proofs.TextLaws.{suffix_ends}
use Rattle.image.proofs.map_entry.judge_map_entry.Goals as goal
use Rattle.image.proofs.map_entry.judge_map_entry.Goals.{After-ends_with}

ended : (c : After-ends_with) → c.ends_with.result ≡ ends_with (text_of c.args.image.now.rows.words.now c.args.image.now.pool.now (row_at c.args.image.now.rows.sections Message c.args.row.0)) entry_text
ended c = rw c.name_of.ensures at (c.ends_with.ensures.value ∙ suffix_ends c.name_of.result.now entry_text)

pub returns-then-not-ends_with : goal.returns-then-not-ends_with
unfolding entry_lines first schema_in
returns-then-not-ends_with c = simp (rw c.map_entry.ensures at (ne_eqb _ _ c.if-map_entry-eq0.false), ← (ended (goal.at.returns-then-not-ends_with c).After-ends_with), c.if-not-ends_with.true, c.at.ensures)

pub returns-then-not-is_bare : goal.returns-then-not-is_bare
unfolding entry_lines first schema_in
returns-then-not-is_bare c = simp (rw c.map_entry.ensures at (ne_eqb _ _ c.if-map_entry-eq0.false), ← (ended (goal.at.returns-then-not-is_bare c).After-ends_with), c.if-not-ends_with.false, ← c.is_bare.ensures, c.if-not-is_bare.true, c.at-then-not-is_bare.ensures)

pub returns-then-not-is_pair : goal.returns-then-not-is_pair
unfolding entry_lines first schema_in
returns-then-not-is_pair c = simp (rw c.map_entry.ensures at (ne_eqb _ _ c.if-map_entry-eq0.false), ← (ended (goal.at.returns-then-not-is_pair c).After-ends_with), c.if-not-ends_with.false, ← c.is_bare.ensures, c.if-not-is_bare.false, ← c.is_pair.ensures, c.if-not-is_pair.true, c.at-then-not-is_pair.ensures)

pub returns : goal.returns
unfolding entry_lines first schema_in
returns c = simp (rw c.map_entry.ensures at (ne_eqb _ _ c.if-map_entry-eq0.false), ← (ended (goal.at.returns c).After-ends_with), c.if-not-ends_with.false, ← c.is_bare.ensures, c.if-not-is_bare.false, ← c.is_pair.ensures, c.if-not-is_pair.false)
