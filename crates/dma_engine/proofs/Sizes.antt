-- How large the parts of an engine are.
use Rattle.std.proofs.Common.{◌≡◌, ℕ, ◌≤◌, List, [], ◌∷◌, length, None, true, refl, ap, sym, ◌∙◌, arith}
use Rattle.std.proofs.lemmas.Bool.{and_parts, leb-true, ltb-false, or_parts, cases_Bool}
use Rattle.std.proofs.lemmas.List.{length-replicate, length-set, length-map}
use Rattle.dma_mem.specs.{Image.is_size}
use Rattle.dma_mem.proofs.{ImageOver.length_after_moves, ImagePut.length_put}
use Rattle.dma_engine.specs.inner.Holds.{Holds, Parts, view_of}
use Rattle.dma_engine.specs.{declared.entry.Entry.Entry}
use Rattle.dma_engine.specs.{Object.Object, Object.after}
use Rattle.dma_engine.specs.{Object.opening, History.object_after, View.size, View.new_fault}

-- no entry changes the size of the memory
pub size_after : (o : Object) (e : Entry) → length (after o e).image ≡ length o.image
size_after o e = grind (arith, length_put, length_after_moves)

-- nor the number of channels
pub many_after : (o : Object) (e : Entry) → length (after o e).channels ≡ length o.channels
many_after o e = grind (arith, length-set)

pub many_channels : (o : Object) (h : List Entry) → length (object_after o h).channels ≡ length o.channels
many_channels o [] = refl
many_channels o (e ∷ es) = many_channels (after o e) es ∙ many_after o e

pub size_object : (o : Object) (h : List Entry) → length (object_after o h).image ≡ length o.image
size_object o [] = refl
size_object o (e ∷ es) = size_object (after o e) es ∙ size_after o e

-- nor the number of flags
pub flags_after_law : (o : Object) (e : Entry) → length (after o e).events ≡ length o.events
flags_after_law o e = grind (arith, length-set)

pub flags_object : (o : Object) (h : List Entry) → length (object_after o h).events ≡ length o.events
flags_object o [] = refl
flags_object o (e ∷ es) = flags_object (after o e) es ∙ flags_after_law o e

pub opening_size : (bytes many : ℕ) → length (opening bytes many).image ≡ bytes
unfolding opening
opening_size bytes many = length-replicate bytes 0

pub opening_many : (bytes many : ℕ) → length (opening bytes many).channels ≡ many
unfolding opening
opening_many bytes many = length-replicate many _

pub opening_flags : (bytes many : ℕ) → length (opening bytes many).events ≡ 32
unfolding opening
opening_flags bytes many = refl

pub size_is : (p : Parts) → Holds p → p.size ≡ size (view_of p)
size_is p h = h.size ∙ sym (size_object p.base p.history)

pub memory_size : (p : Parts) → Holds p → length p.memory ≡ size (view_of p)
memory_size p h = ap length h.shown ∙ length_after_moves _ _

-- an engine that can be made has 1 to 8 channels and a memory's size
pub made : (bytes many : ℕ) → new_fault bytes many ≡ None → (many ≤ 8) × (is_size bytes ≡ true)
made bytes many h = grind (arith, cases_Bool, ltb-false, or_parts)

pub few_queues : (p : Parts) → Holds p → length p.queues ≤ 8
few_queues p h = grind (arith, many_channels, length-map)

pub size_small : (p : Parts) → Holds p → size (view_of p) ≤ 4294967295
size_small p h = grind (arith, and_parts, leb-true, size_object)
