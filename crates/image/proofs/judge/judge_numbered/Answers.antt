-- `image::judge::judge_numbered` meets its contract. Assumes nothing.
use mathlib.Core.Path.{◌≡◌, sym, ap, ◌∙◌, subst}
use mathlib.Core.List.{List}
use mathlib.Core.Bool.{true}
use Rattle.std.specs.Prelude.{Err, Ok}
use Prim.Native.Nat.{ℕ}
use Rattle.lists.specs.Splice.{fronted}
use Rattle.image.specs.Texts.{texts_right}
use Rattle.image.specs.Schema.{schema}
use Rattle.image.specs.Links.{links_of}
use Rattle.image.specs.FullName.{full_names_short}
use Rattle.image.specs.Limits.{texts_short}
use Rattle.image.specs.Chained.{Chained, Named}
use Rattle.image.specs.Verdict.{Verdict, first}
use Rattle.image.specs.Judge.{naming_lines, judged_by, links_by}
use Rattle.image.specs.declared.verdict.Refused.{Refused}
use Rattle.image.proofs.ChainLaws.{links-chained}
use Rattle.image.proofs.JudgeLaws.{numbered_long, numbered_names, numbered_text, numbered_fine, named_links}
use Rattle.image.proofs.judge.judge_numbered.Goals as goal
use Rattle.image.proofs.judge.judge_numbered.Goals.{After-are_full_names_short, Else-not-are_full_names_short, Else-not-are_texts_right, Else-not-texts_short}

texts-are : (c : Else-not-texts_short) →
    let a = c.args in
    texts_short a.laid.now.image.rows.words.now a.laid.now.image.rows.sections a.laid.now.image.pool.now ≡ true
texts-are c = sym c.texts_short.ensures ∙ c.if-not-texts_short.false

-- what the call says of full names, of the link rows that the image gives
names-say : (c : After-are_full_names_short) → c.are_full_names_short.result ≡ full_names_short (schema c.args.laid.now.image) (links_of (schema c.args.laid.now.image))
names-say c =
    c.are_full_names_short.ensures ∙ ap (full_names_short (schema c.args.laid.now.image)) c.requires.own_value

names-are : (c : Else-not-are_full_names_short) → full_names_short (schema c.args.laid.now.image) (links_of (schema c.args.laid.now.image)) ≡ true
names-are c = sym (names-say (goal.at.Else-not-are_full_names_short c).After-are_full_names_short) ∙ c.if-not-are_full_names_short.false

right-are : (c : Else-not-are_texts_right) →
    let a = c.args in
    texts_right a.laid.now.image.rows.words.now a.laid.now.image.pool.now ≡ true
right-are c = sym c.are_texts_right.ensures ∙ c.if-not-are_texts_right.false

pub returns-then-not-texts_short : goal.returns-then-not-texts_short
returns-then-not-texts_short c =
    let a = c.args in
    let e = numbered_long a.laid.now.image.rows.words.now a.laid.now.image.rows.sections a.laid.now.image.pool.now (sym c.texts_short.ensures ∙ c.if-not-texts_short.true) in
    record { value = ap (λ (r : Refused). Err r) c.at.ensures ∙ ap (λ (v : Verdict). judged_by v (schema c.args.laid.now.image)) (sym e); links_after = sym (ap (λ (v : Verdict). links_by v (schema c.args.laid.now.image) a.links.now) e) }

pub returns-then-not-are_full_names_short : goal.returns-then-not-are_full_names_short
returns-then-not-are_full_names_short c =
    let a = c.args in
    let e = numbered_names a.laid.now.image.rows.words.now a.laid.now.image.rows.sections a.laid.now.image.pool.now (texts-are (goal.at.returns-then-not-are_full_names_short c).Else-not-texts_short) (sym (names-say (goal.at.returns-then-not-are_full_names_short c).After-are_full_names_short) ∙ c.if-not-are_full_names_short.true) in
    record { value = ap (λ (r : Refused). Err r) c.at-then-not-are_full_names_short.ensures ∙ ap (λ (v : Verdict). judged_by v (schema c.args.laid.now.image)) (sym e); links_after = sym (ap (λ (v : Verdict). links_by v (schema c.args.laid.now.image) a.links.now) e) }

pub returns-then-not-are_texts_right : goal.returns-then-not-are_texts_right
returns-then-not-are_texts_right c =
    let a = c.args in
    let e = numbered_text a.laid.now.image.rows.words.now a.laid.now.image.rows.sections a.laid.now.image.pool.now (texts-are (goal.at.returns-then-not-are_texts_right c).Else-not-texts_short) (names-are (goal.at.returns-then-not-are_texts_right c).Else-not-are_full_names_short) (sym c.are_texts_right.ensures ∙ c.if-not-are_texts_right.true) in
    record { value = ap (λ (r : Refused). Err r) c.at-then-not-are_texts_right.ensures ∙ ap (λ (v : Verdict). judged_by v (schema c.args.laid.now.image)) (sym e); links_after = sym (ap (λ (v : Verdict). links_by v (schema c.args.laid.now.image) a.links.now) e) }

pub judge_names-requires : goal.judge_names-requires
judge_names-requires c =
    let own = sym c.requires.own_value in
    record { chained = subst (Chained (schema c.args.laid.now.image)) own (links-chained (schema c.args.laid.now.image) c.args.laid.now.sound); named = subst (Named (schema c.args.laid.now.image)) own (named_links c.args.laid.now.image.rows.words.now c.args.laid.now.image.rows.sections c.args.laid.now.image.pool.now c.requires.sections_value (right-are (goal.at.judge_names-requires c).Else-not-are_texts_right) c.args.laid.now.sound) }

pub returns : goal.returns
returns c =
    let a = c.args in
    let own = c.requires.own_value in
    let e = numbered_fine a.laid.now.image.rows.words.now a.laid.now.image.rows.sections a.laid.now.image.pool.now (texts-are (goal.at.returns c).Else-not-texts_short) (names-are (goal.at.returns c).Else-not-are_full_names_short) (right-are (goal.at.returns c).Else-not-are_texts_right) in
    record { value = ap (λ (v : Verdict). Ok v) (c.judge_names.ensures ∙ ap (λ (l : List ℕ). first (naming_lines (schema c.args.laid.now.image) l)) own) ∙ ap (λ (v : Verdict). judged_by v (schema c.args.laid.now.image)) (sym e); links_after = c.put_front.ensures ∙ ap (fronted a.links.now) own ∙ sym (ap (λ (v : Verdict). links_by v (schema c.args.laid.now.image) a.links.now) e) }
