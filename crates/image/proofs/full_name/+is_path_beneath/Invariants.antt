-- `image::full_name::is_path_beneath` meets its contract: the name is the last segment, and what stands in front of it is compared one
-- level up. Assumes nothing.
use Rattle.image.proofs.full_name.+is_path_beneath.Given as goal

abbrev pub decreases-is_path_beneath : goal.decreases-is_path_beneath
decreases-is_path_beneath l = l.levels
