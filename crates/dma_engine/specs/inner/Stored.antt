-- What a base stores.
use Rattle.std.specs.Prelude.{ℕ, Option, Some, None, List, replicate}
use Rattle.dma_mem.specs.Pages.{Paged}

-- the image of a base: that of its memory, or zeros if it stores none
abbrev pub image_stored : Option Paged → ℕ → List ℕ
image_stored None size = replicate size 0
image_stored (Some memory) size = memory.image
