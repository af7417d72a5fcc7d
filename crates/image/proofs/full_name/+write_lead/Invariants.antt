-- `image::full_name::write_lead` meets its contract: a level is the name of a message, joined with what leads to it. Assumes nothing.
use Rattle.image.proofs.full_name.+write_lead.Given as goal

abbrev pub decreases-write_lead : goal.decreases-write_lead
decreases-write_lead l = l.levels
