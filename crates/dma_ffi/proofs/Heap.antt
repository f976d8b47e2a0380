-- The heap's allocator as a type argument of a generic function: its type, the type's laws, and its drop, which does
-- nothing.
use Rattle.std.proofs.Common.{[], ◌∷◌, refl}
use mir.Syntax.{Dict, impl, tcons, tnil, dnil}
use mir.Raw.{raw as bare}
use denote.Exit.{no}
use denote.RattleType.{RattleType}
use denote.Param.{arg, layout}
use denote.Param.Laws.{Laws, arg_laws}
use Rattle.std.specs.contracts.alloc.Global.{the_row}
use Rattle.std.proofs.alloc.Global.TheLaws.{the_row_laws}

abbrev pub heap_row : RattleType
heap_row = arg (bare (layout the_row)) no the_row

abbrev pub heap_laws : Laws heap_row
heap_laws = arg_laws (bare (layout the_row)) no the_row the_row_laws refl

abbrev pub heap_drop : Dict
heap_drop = impl ("dma_ffi::Destruct++none::drop" ∷ []) (tcons (layout heap_row) tnil) dnil
