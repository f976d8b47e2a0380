use Rattle.dma_commands.proofs.ScriptsSound as lemmas
use Rattle.dma_commands.proofs.laws.scripts_leave_sound.Goals as goal

pub returns : goal.returns
returns c = lemmas.scripts_leave_sound
