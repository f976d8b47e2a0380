use Rattle.dma_device.proofs.Explaining.{only_dmago_gives, restore_keeps_underway, turn_stays_in_work, turns_stay_in, underway_has_work, underway_stays}
use Rattle.dma_device.proofs.laws.turns_stay_in.Goals as goal

pub returns : goal.returns
returns c = record {
  turns = turns_stay_in;
  only = only_dmago_gives;
  has = underway_has_work;
  stays = underway_stays;
  restored = restore_keeps_underway;
  each = turn_stays_in_work;
}
