use Rattle.dma_device.proofs.Boards.{a_board_copies, board_leaves_bytes, board_leaves_thread, board_rests, board_runs_copy, board_spares, board_stays_in}
use Rattle.dma_device.proofs.laws.a_board_copies.Goals as goal

pub returns : goal.returns
returns c = record {
  copies = a_board_copies;
  runs = board_runs_copy;
  rests = board_rests;
  stays = board_stays_in;
  leaves_thread = board_leaves_thread;
  leaves_bytes = board_leaves_bytes;
  spares = board_spares;
}
