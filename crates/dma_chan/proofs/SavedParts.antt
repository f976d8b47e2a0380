-- A save is the save of the channel that its parts make, and a channel's save has that channel's parts.
use Rattle.std.proofs.Common.{◌≡◌, ◌≢◌, ℕ, ◌+◌, ◌^◌, ◌<◌, ◌≤◌, Bool, cond, List, ◌++◌, length, Option, Some, None, refl, sym, ◌∙◌, append_assoc}
use Rattle.std.proofs.Common.{arith}
use Rattle.std.proofs.lemmas.List.{take_at, drop_at, length-append, length-take, length-drop, nil_from_length}
use Rattle.std.specs.{Prelude.is_some, Prelude.IfSome, Int.w32, Int.to_le_bytes}
use Rattle.dma_chan.specs.Channel.{cost_of_program, ChannelValue, bytes_of_program, code_of, on_bus}
use Rattle.dma_chan.specs.Saved.{AreBytes, IsLoadedAt, IsChannelValue, checksum, sealed, head_of, head_bytes, register_bytes, saved}
use Rattle.dma_chan.specs.inner.Saves.{buffer_in, program_in, channel_in, HasHeadRanges, LoadsWhole, FitsIn}
use Rattle.dma_chan.specs.{declared.save.head.Head.Head, Programs.ProgramValue, declared.bus.Bus.Bus}

pub head_len : (h : Head) → length (head_bytes h) ≡ 48
unfolding head_bytes register_bytes
head_len h = refl

-- ---- from the parts to the channel

is_loaded_again : (b : Bool) (p : ProgramValue) → is_some (cond b (Some p) None) ≡ b
is_loaded_again b p = grind (arith)

cost_again : (b : Bool) (h : Head) (bytes : List ℕ) → LoadsWhole b h → cost_of_program (cond b (Some (record { bytes = bytes; cost = h.cost })) None) ≡ h.cost
cost_again b h bytes h1 = grind (arith)

code_again : (b : Bool) (h : Head) (bytes : List ℕ) → length bytes ≡ h.program_len → LoadsWhole b h
    → bytes_of_program (cond b (Some (record { bytes = bytes; cost = h.cost })) None) ≡ bytes
code_again b h bytes h1 h2 = grind (arith, nil_from_length)

buffer_len : (save : List ℕ) (h : Head) → FitsIn (length save) h → length (buffer_in save h) ≡ h.buffer_len
buffer_len save h f = simp (length-take, length-drop) (omega (arith, f.total))

program_len : (save : List ℕ) (h : Head) → FitsIn (length save) h → length (program_in save h) ≡ h.program_len
program_len save h f = simp (length-take, length-drop) (omega (arith, f.total))

head_again : (save : List ℕ) (h : Head) → FitsIn (length save) h → head_of (channel_in save h) ≡ h
head_again save h f = grind (arith, code_again, program_len, is_loaded_again, cost_again, buffer_len)

-- What has the parts of a save and is written with them is the save of the channel with these parts.
pub sealed_is_saved : (save : List ℕ) (h : Head) → FitsIn (length save) h
    → sealed (head_bytes h ++ buffer_in save h ++ program_in save h) ≡ saved (channel_in save h)
unfolding saved
sealed_is_saved save h f = grind (arith, code_again, program_len, head_again)

-- ---- from the channel to the parts

program_again : (p : Option ProgramValue) → cond (is_some p) (Some (record { bytes = bytes_of_program p; cost = cost_of_program p })) None ≡ p
program_again p = grind (arith)

cost_fits : (pc : ℕ) (p : Option ProgramValue) → IfSome p (IsLoadedAt pc) → IfSome (cost_of_program p) (λ n. n < 2 ^ 32)
cost_fits pc p h = grind (arith)

code_fits : (pc : ℕ) (p : Option ProgramValue) → IfSome p (IsLoadedAt pc) → length (bytes_of_program p) ≤ 8192
code_fits pc p h = grind (arith)

loads_whole : (p : Option ProgramValue) (h : Head) → IfSome p (IsLoadedAt h.registers.pc) → h.cost ≡ cost_of_program p
    → h.program_len ≡ length (bytes_of_program p)
    → LoadsWhole (is_some p) h
loads_whole p h h1 h2 h3 = grind (arith)

pub head_ranges : (c : ChannelValue) → IsChannelValue c → HasHeadRanges (head_of c)
head_ranges c v = grind (arith, cost_fits, buffer_len, program_len, code_fits)

-- a channel on another bus has the same save, and still satisfies what every channel does
pub value_on : (bus : Bus) (c : ChannelValue) → IsChannelValue c → IsChannelValue (on_bus bus c)
value_on bus c v = grind arith

pub saved_on : (bus : Bus) (c : ChannelValue) → saved (on_bus bus c) ≡ saved c
unfolding saved head_bytes register_bytes
saved_on bus c = refl

-- what follows the head in the save of a channel
abbrev pub rest_of : ChannelValue → List ℕ
rest_of c = c.buffer ++ (code_of c ++ to_le_bytes w32 (checksum (head_bytes (head_of c) ++ c.buffer ++ code_of c)))

pub saved_rest : (c : ChannelValue) → saved c ≡ head_bytes (head_of c) ++ rest_of c
unfolding saved sealed
saved_rest c = simp append_assoc

-- These bytes have the parts of this channel.
pub record HasParts (c : ChannelValue) (save : List ℕ) : Type 0 where
  pub ranges : HasHeadRanges (head_of c)
  pub rest : save ≡ head_bytes (head_of c) ++ rest_of c
  pub fits : FitsIn (length save) (head_of c)
  pub channel : channel_in save (head_of c) ≡ c
  pub again : sealed (head_bytes (head_of c) ++ buffer_in save (head_of c) ++ program_in save (head_of c)) ≡ save

-- The save of a channel has that channel's parts.
pub saved_parts : (c : ChannelValue) (save : List ℕ) → IsChannelValue c → save ≡ saved c → HasParts c save
unfolding saved
saved_parts c save v e =
    let head = head_bytes (head_of c) in
    let check = to_le_bytes w32 (checksum (head ++ c.buffer ++ code_of c)) in
    let whole : save ≡ head ++ rest_of c = e ∙ saved_rest c in
    let apart : save ≡ (head ++ c.buffer) ++ (code_of c ++ check) = whole ∙ sym (append_assoc head c.buffer (code_of c ++ check)) in
    let len : length (head ++ c.buffer) ≡ 48 + length c.buffer = omega (arith, head_len (head_of c), length-append head c.buffer) in
    let buffer : buffer_in save (head_of c) ≡ c.buffer =
    rw (whole, drop_at head (rest_of c) 48 (head_len (head_of c))) (take_at c.buffer (code_of c ++ check) (length c.buffer) refl) in
    let program : program_in save (head_of c) ≡ code_of c =
    rw (apart, drop_at (head ++ c.buffer) (code_of c ++ check) (48 + length c.buffer) len) (take_at (code_of c) check (length (code_of c)) refl) in
    let total : length save ≡ 48 + length c.buffer + length (code_of c) + 4 =
    rw apart (omega (arith, len, length-append (head ++ c.buffer) (code_of c ++ check), length-append (code_of c) check)) in
    record {
      ranges = head_ranges c v;
      rest = whole;
      fits = record {
        buffer = v.buffer_limit;
        program = code_fits c.registers.pc c.program v.program;
        total = total;
        loads = loads_whole c.program (head_of c) v.program refl refl;
        few = v.few;
      };
      channel = rw (program, buffer, program_again c.program) refl;
      again = rw (buffer, program) (sym e);
    }

-- so does the save of the same channel on any bus
pub saved_parts_on : (bus : Bus) (c : ChannelValue) (save : List ℕ) → IsChannelValue c → save ≡ saved c → HasParts (on_bus bus c) save
saved_parts_on bus c save v e = saved_parts (on_bus bus c) save (value_on bus c v) (e ∙ sym (saved_on bus c))

-- ---- what every channel satisfies

loaded_again : (b : Bool) (h : Head) (bytes : List ℕ) → length bytes ≡ h.program_len → h.program_len ≤ 8192 → LoadsWhole b h → AreBytes bytes
    → IfSome h.cost (λ n. n < 2 ^ 32) → IfSome (cond b (Some (record { bytes = bytes; cost = h.cost })) None) (IsLoadedAt h.registers.pc)
loaded_again b h bytes h1 h2 h3 h4 h5 = grind (arith)

-- The parts of a save with a head whose fields are in their ranges make a channel.
pub parts_make_channel : (save : List ℕ) (h : Head) → FitsIn (length save) h → HasHeadRanges h → AreBytes (buffer_in save h) → AreBytes (program_in save h)
    → IsChannelValue (channel_in save h)
parts_make_channel save h f r buffer program = grind (arith, loaded_again, program_len, buffer_len)

pub loaded_at : (p : Option ProgramValue) (pc : ℕ) → length (bytes_of_program p) ≤ 8192 → AreBytes (bytes_of_program p)
    → (p ≢ None → pc ≤ length (bytes_of_program p)) → IfSome (cost_of_program p) (λ n. n < 2 ^ 32) → IfSome p (IsLoadedAt pc)
loaded_at p pc h h2 h3 h4 = grind (arith)
