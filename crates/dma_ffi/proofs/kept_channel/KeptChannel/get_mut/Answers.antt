-- `as_kept` changes the form only.
use Rattle.dma_ffi.proofs.kept_channel.KeptChannel.get_mut.Goals as goal

pub returns : goal.returns
returns c =
    let is = c.as_kept.ensures.value in
    (rw is, record { writes_back = tt; value = rw is at c.get_mut.ensures.value })
