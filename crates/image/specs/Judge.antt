-- What one image alone says: refusals 3, 4 and 5, and, where it draws none of these, 8 to 11 and its link rows. Assumes nothing.
use Rattle.std.specs.Prelude.{List, [], ◌∷◌, Bool, not, cond, ◌||◌, ℕ, length, Result}
use Rattle.lists.specs.Splice.{fronted}
use Rattle.image.specs.Layout.{laid_out_within_limit}
use Rattle.image.specs.Texts.{texts_right}
use Rattle.image.specs.Limits.{texts_short, within_limits}
use Rattle.image.specs.Schema.{Schema, schema_in}
use Rattle.image.specs.Links.{links_of, message_row}
use Rattle.image.specs.FullName.{full_names_short, shares_name}
use Rattle.image.specs.MapEntry.{entry_lines}
use Rattle.image.specs.Verdict.{Verdict, judged, Line, line, first, in_order, passes}
use Rattle.image.specs.declared.verdict.Refusal.TheVariants.{LayoutBroken, LimitPassed, TextWrong, NameShared}
use Rattle.image.specs.declared.verdict.Refused.{Refused}
use Rattle.image.specs.declared.rows.Sections.{Sections}

-- 3, 4 and 5. The line of 3 answers also for an image longer than 65,536 words, which 1 has refused before. `full` says that 32 files
-- are shelved, which draws 4 whatever else an image says that obeys 3
unfoldable pub opening_lines : List ℕ → List ℕ → Bool → List Line
opening_lines image pool full =
    line LayoutBroken (not (laid_out_within_limit image (length pool))) 0
    ∷ line LimitPassed (full || not (within_limits image pool)) 0
    ∷ line TextWrong (not (texts_right image pool)) 0
    ∷ []

-- 9 to 11, message by message in flat order. `links` are the file's link rows
unfoldable pub map_entry_lines : Schema → List ℕ → List Line
map_entry_lines g links = in_order g.messages (λ m. entry_lines g (message_row links m) m)

-- 8, then 9 to 11
unfoldable pub naming_lines : Schema → List ℕ → List Line
unfolding map_entry_lines
naming_lines g links = line NameShared (shares_name g links) 0 ∷ map_entry_lines g links

-- the verdict of 3, 4 and 5
unfoldable pub opening : List ℕ → List ℕ → Bool → Verdict
unfolding opening_lines first
opening image pool full = first (opening_lines image pool full)

-- both verdicts, where that of 3, 4 and 5 is given: its refusal, or the verdict of 8 to 11
abbrev pub judged_by : Verdict → Schema → Result Verdict Refused
judged_by v g = judged v (first (naming_lines g (links_of g)))

-- what stands in `links` afterwards: the link rows in front, if v is no refusal and there is room for them
abbrev pub links_by : Verdict → Schema → List ℕ → List ℕ
links_by v g links = cond (passes v) (fronted links (links_of g)) links

-- what is left of 4 and 5 for an image that is laid out, with counts and nesting within their limits
unfoldable pub numbered_verdict : List ℕ → Sections → List ℕ → Verdict
unfolding first
numbered_verdict image s pool =
    first
    (line LimitPassed (not (texts_short image s pool)) 0
    ∷ line LimitPassed (not (full_names_short (schema_in image s pool) (links_of (schema_in image s pool)))) 0
    ∷ line TextWrong (not (texts_right image pool)) 0
    ∷ [])
