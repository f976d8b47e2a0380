use Rattle.std.proofs.Common.{◌≡◌, ◌≤◌, ◌+◌, ◌++◌, length, take}
use Rattle.std.specs.{Prelude.replicate}
use Rattle.dma_mem.specs.declared.call.Call.TheVariants.{Step}
use Rattle.dma_commands.proofs.run.reused.ReusedCalls.push_steps.Given as goal

abbrev pub invariant-loop : goal.invariant-loop
invariant-loop l = record {
  end : l.end ≡ l.self-inside.len + l.counter;
  some : l.end ≤ length l.self-inside.places.items;
  calls : take l.self-inside.len l.self-inside.places.items ≡ l.fn.self;
  items : take l.end l.self-inside.places.items ≡ l.fn.self ++ replicate l.counter (Step l.ch);
}
