-- `lookup::main` ends and is safe: the arrays are as long as they were made. Assumes nothing.
use Rattle.shelf_io.proofs.RoomLaws.{word_room_lem, byte_room_lem, file_room}
use Rattle.lookup.proofs.main.Goals as goal

pub slice_bounds-run-end : goal.slice_bounds-run-end
slice_bounds-run-end c = word_room_lem

pub slice_bounds-run-end-2 : goal.slice_bounds-run-end-2
slice_bounds-run-end-2 c = byte_room_lem

pub slice_bounds-run-end-3 : goal.slice_bounds-run-end-3
slice_bounds-run-end-3 c = file_room
