use Rattle.std.proofs.Common.{◌≡◌, true, length, take}
use Rattle.dma_mem.specs.{Pages.Keeps, Pages.AllMade, Pages.MakesNoOther, Places.places, Places.all_below}
use Rattle.dma_mem.proofs.memory.Memory.prepare_all.Given as goal

abbrev pub invariant-loop-s : goal.invariant-loop-s
invariant-loop-s l = record {
  image : l.self.image ≡ l.fn.self.image;
  keeps : Keeps l.fn.self l.self;
  within : all_below (take l.s-index l.list) (length l.fn.self.image) ≡ true;
  made : AllMade l.self (places (take l.s-index l.list));
  others : MakesNoOther l.fn.self l.self (places l.list);
}
