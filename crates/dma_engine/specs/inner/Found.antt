-- Transfers in a base and in a history.
use Rattle.std.specs.Prelude.{ℕ, ◌+◌, ◌-◌, drop, if◌then◌else◌, nat_lt, Option, Some, None, List, ◌++◌, length, map, slice_get, slice_index}
use Rattle.dma_mem.specs.Places.{Descriptor}
use Rattle.dma_engine.specs.{declared.entry.Entry.Entry, declared.entry.Entry.TheVariants.Submitted, declared.queue.Queue.Queue, Object.no_transfer}

-- the transfer that an entry gives to a channel, or a transfer of nothing
abbrev pub transfer_of : Option Entry → Descriptor
transfer_of (Some (Submitted ch t cookie)) = t
transfer_of _ = no_transfer

-- the transfer of the history's entry at this index
abbrev pub transfer_in : List Entry → ℕ → Descriptor
transfer_in history index = transfer_of (slice_get history index)

-- the transfers of all cookies that aren't forgotten: those that the base has of the channel, followed by those of the
-- history's entries at these indices
abbrev pub transfers_in : List Descriptor → List Entry → List ℕ → List Descriptor
transfers_in kept history indices = kept ++ map (transfer_in history) indices

-- the transfer that an entry gives to a channel, if any
abbrev pub given_by : Option Entry → Option Descriptor
given_by (Some (Submitted ch t cookie)) = Some t
given_by _ = None

-- the transfer of a cookie, counted from 0 after the forgotten ones
abbrev pub transfer_at : List Descriptor → List Entry → List ℕ → ℕ → Option Descriptor
transfer_at kept history indices n =
    if nat_lt n (length kept) then slice_get kept n else given_by (slice_get history (slice_index indices (n - length kept)))

-- the transfers of a queue's unfinished cookies
abbrev pub unfinished_in : Queue → List Descriptor → List Entry → List Descriptor
unfinished_in q kept history = drop (length q.outcomes.items) (transfers_in kept history q.indices.items)

-- how many of a queue's cookies are known: those that are forgotten, and those whose transfers the base or the history
-- has
abbrev pub known_with : List Descriptor → Queue → ℕ
known_with kept q = q.forgotten + length kept + length q.indices.items

-- the issued front of a queue
abbrev pub front_in : Queue → List Descriptor → List Entry → Option Descriptor
front_in q kept history =
    let finished = length q.outcomes.items in
    if nat_lt finished (q.issued - q.forgotten) then transfer_at kept history q.indices.items finished else None
