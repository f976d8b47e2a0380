use Rattle.std.proofs.Math.Bool.{not-not}
use Rattle.dma_chan.proofs.PieceCode.{appended}
use Rattle.dma_chan.proofs.compile.push_piece.Goals as goal

pub returns-clause-bytes : goal.returns-clause-bytes
returns-clause-bytes c =
    rw (← c.beat_of.ensures, ← not-not c.args.piece.fill) (appended _ _ _ _ _ _ _ c.push.ensures.bytes c.push-2.ensures.bytes c.push_parts.ensures.bytes)
