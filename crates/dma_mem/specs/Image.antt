-- Images of a memory, and copies laid over them.
use Rattle.std.specs.Prelude.{ℕ, Bool, ◌&&◌, List, length, map, slice_index, unwrap_or, nat_eq, nat_le}
use Rattle.std.specs.{List.flat_map, List.range_with_len, List.zip, Map.lookup}
use Rattle.dma_mem.specs.{Limits.largest_size, Places.Descriptor, Places.moves}

-- An image is a list with one byte for each address below its length, the size of the memory.

-- whether a memory may have this size: 1 to 4,294,963,200 bytes
abbrev pub is_size : ℕ → Bool
is_size size = nat_le 1 size && nat_le size largest_size

-- the image with these bytes put at these addresses, all at once
unfoldable pub put : List ℕ → List (ℕ × ℕ) → List ℕ
put image bytes =
    map (λ a. unwrap_or (lookup (nat_eq a) bytes) (slice_index image a)) (range_with_len 0 (length image))

-- these bytes with their addresses, which are those from `addr` on
abbrev pub bytes_at : ℕ → List ℕ → List (ℕ × ℕ)
bytes_at addr bytes = zip (range_with_len addr (length bytes)) bytes

-- each destination of these moves, with the byte that the image has at its source
abbrev pub carried : List ℕ → List (ℕ × ℕ) → List (ℕ × ℕ)
carried image ms = map (λ m. (m.0, slice_index image m.1)) ms

-- the image after these moves: all sources are read before any byte is put
unfoldable pub after_moves : List ℕ → List (ℕ × ℕ) → List ℕ
after_moves image ms = put image (carried image ms)

-- The image after one simultaneous copy of the first k bytes of a transfer.
abbrev pub laid : List ℕ → Descriptor → ℕ → List ℕ
laid image t k = after_moves image (moves t k)

-- the moves that running transfers have made: each transfer is given with the number of bytes that it has stored
abbrev pub moves_of : List (Descriptor × ℕ) → List (ℕ × ℕ)
moves_of running = flat_map (λ r. moves r.0 r.1) running

-- the image with the bytes that running transfers have stored so far, each at its destination
abbrev pub over : List ℕ → List (Descriptor × ℕ) → List ℕ
over image running = after_moves image (moves_of running)
