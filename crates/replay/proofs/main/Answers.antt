-- `replay::main` ends and is safe: the arrays are as long as they were made. Assumes nothing.
use mathlib.Core.Path.{sym, ◌∙◌}
use Rattle.replay.proofs.RoomLaws.{cases_room, answers_room}
use Rattle.replay.proofs.main.Goals as goal

pub slice_bounds-read_list-end-2 : goal.slice_bounds-read_list-end-2
slice_bounds-read_list-end-2 c = cases_room

pub slice_bounds-read_list-end-4 : goal.slice_bounds-read_list-end-4
slice_bounds-read_list-end-4 c = answers_room

pub slice_bounds-front-end : goal.slice_bounds-front-end
slice_bounds-front-end c = cases_room ∙ sym c.read_list-n.auto.list

pub slice_bounds-front-end-2 : goal.slice_bounds-front-end-2
slice_bounds-front-end-2 c = answers_room ∙ sym c.read_list-k.auto.list
