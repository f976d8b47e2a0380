use Rattle.dma_insn.proofs.codec.encode.Goals as goal

pub returns-in-Lp : goal.returns-in-Lp
returns-in-Lp c = rw c.in-Lp.is record {
  count = c.write_two.ensures.count;
  bytes = rw (c.write_two.ensures.count, ← c.loop_code.ensures, ← c.number.ensures.value) c.write_two.ensures.bytes;
  in_range = c.number.ensures.range;
}

pub returns-in-Sev : goal.returns-in-Sev
returns-in-Sev c = rw c.in-Sev.is record {
  count = c.write_two-in-Sev.ensures.count;
  bytes = rw (c.write_two-in-Sev.ensures.count, ← c.number-in-Sev.ensures.value) c.write_two-in-Sev.ensures.bytes;
  in_range = c.number-in-Sev.ensures.range;
}

pub returns-in-LpEnd-clause-bytes : goal.returns-in-LpEnd-clause-bytes
returns-in-LpEnd-clause-bytes c =
    rw (c.in-LpEnd.is, c.write_two-in-LpEnd.ensures.count, ← c.loop_end_code.ensures) c.write_two-in-LpEnd.ensures.bytes
