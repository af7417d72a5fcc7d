-- What the C interface answers, in numbers: over the outcome of linking and of lookups. Assumes nothing.
use Rattle.std.specs.Prelude.{List, ℕ, Ok, Err}
use Rattle.image.specs.declared.shelf.Used.{Used}
use Rattle.link.specs.Refusals.{Call}
use Rattle.image.specs.Verdict.{Verdict, number}
use Rattle.link.specs.Link.{linked, answer_used}
use Rattle.link.specs.Lookup.{asked}

-- the three numbers of a shelf
abbrev pub used_of : ℕ → ℕ → ℕ → Used
used_of words bytes files = record { words = words; bytes = bytes; files = files }

-- all that a call of `njuolasti_link` is given
abbrev pub call_with : List ℕ → List ℕ → List ℕ → List ℕ → ℕ → ℕ → ℕ → Call
call_with image pool words bytes usedWords usedBytes files =
    record { words = words; bytes = bytes; used = used_of usedWords usedBytes files; image = image; pool = pool }

-- the three numbers afterwards
abbrev pub used_after : Call → Used
used_after c = answer_used c.used (linked c).answer

-- the shelf that a lookup is given
abbrev pub asked_with : List ℕ → List ℕ → ℕ → ℕ → ℕ → Call
asked_with words bytes usedWords usedBytes files = asked words bytes (used_of usedWords usedBytes files)

-- 0 where nothing is refused, else the refusal's number
abbrev pub verdict_number : Verdict → ℕ
verdict_number (Ok u) = 0
verdict_number (Err r) = number r.refusal
