-- `image::full_name::length_above` meets its contract: a level has the name of a message behind what is above that. Assumes nothing.
use Rattle.image.proofs.full_name.+length_above.Given as goal

abbrev pub decreases-length_above : goal.decreases-length_above
decreases-length_above l = l.levels
