use Rattle.std.proofs.Common.{◌≡◌, ◌++◌, take, vec_capacity}
use Rattle.dma_chan.proofs.compile.push.Given as goal

abbrev pub invariant-loop-byte : goal.invariant-loop-byte
invariant-loop-byte l = record {
  bytes : l.code.items ≡ l.fn.code.items ++ take l.byte-index l.byte-items;
  capacity : vec_capacity l.code ≡ vec_capacity l.fn.code;
}
