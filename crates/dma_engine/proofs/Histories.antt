-- A history with more entries at its end.
use Rattle.std.proofs.Common.{◌≡◌, List, [], ◌∷◌, ◌++◌, refl}
use Rattle.dma_engine.specs.{declared.entry.Entry.Entry, Object.Object, Object.after, History.object_after, History.IsLegal}

pub object_after_append : (o : Object) (h more : List Entry) → object_after o (h ++ more) ≡ object_after (object_after o h) more
object_after_append o [] more = refl
object_after_append o (e ∷ es) more = object_after_append (after o e) es more

pub IsLegal_append : (o : Object) (h more : List Entry) → IsLegal o h → IsLegal (object_after o h) more → IsLegal o (h ++ more)
IsLegal_append o [] more legal new = new
IsLegal_append o (e ∷ es) more legal new = (legal.0, IsLegal_append (after o e) es more legal.1 new)
