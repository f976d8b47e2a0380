use Rattle.dma_engine.proofs.laws.calls_stay_sound.Goals as goal
use Rattle.dma_engine.proofs.StaysSound.{answers_stay_sound, calls_stay_sound, new_views_are_sound}

pub returns : goal.returns
returns c = record { opening = new_views_are_sound; call = answers_stay_sound; calls = calls_stay_sound }
