-- `link::is_initialized_is_always_true::has_own_cause` meets its contract. Assumes nothing.
use mathlib.Core.Path.{sym, ◌∙◌}
use Rattle.image.specs.Schema.{schema}
use Rattle.link.proofs.CauseLaws.{syntax_in, ranges_in, own_none, own_ranges, own-required}
use Rattle.link.proofs.is_initialized_is_always_true.has_own_cause.Goals as goal

pub returns-then-trailer_word-eq3 : goal.returns-then-trailer_word-eq3
returns-then-trailer_word-eq3 c =
    let i = c.args.image.now in
    let s = c.trailer_word.ensures ∙ syntax_in i.rows.words.now i.rows.sections i.pool.now c.args.row.0 in
    own_none (schema i) c.args.row.0 (sym s ∙ c.if-trailer_word-eq3.true)

pub returns-then-extension_ranges-ne0 : goal.returns-then-extension_ranges-ne0
returns-then-extension_ranges-ne0 c =
    let i = c.args.image.now in
    let s = c.trailer_word.ensures ∙ syntax_in i.rows.words.now i.rows.sections i.pool.now c.args.row.0 in
    let r = c.extension_ranges.ensures ∙ ranges_in i.rows.words.now i.rows.sections i.pool.now c.args.row.0 in
    own_ranges (schema i) c.args.row.0 (λ e. c.if-trailer_word-eq3.false (s ∙ e)) (λ e. c.if-extension_ranges-ne0.true (r ∙ e))

pub returns : goal.returns
returns c =
    let i = c.args.image.now in
    let s = c.trailer_word.ensures ∙ syntax_in i.rows.words.now i.rows.sections i.pool.now c.args.row.0 in
    let r = c.extension_ranges.ensures ∙ ranges_in i.rows.words.now i.rows.sections i.pool.now c.args.row.0 in
    c.has_required.ensures ∙ own-required (schema i) c.args.row.0 (λ e. c.if-trailer_word-eq3.false (s ∙ e)) (sym r ∙ c.if-extension_ranges-ne0.false)
