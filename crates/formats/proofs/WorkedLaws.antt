-- The files of the whole case: both sides compute to the same bytes. Assumes nothing.
use mathlib.Core.Path.{refl}
use Rattle.lists.specs.Lists.{concat_map}
use Rattle.formats.specs.Words.{le32}
use Rattle.formats.specs.Files.{file_of}
use Rattle.formats.specs.Worked.{WholeCase}

pub whole_case : WholeCase
unfolding file_of concat_map le32
whole_case = (refl, refl)
