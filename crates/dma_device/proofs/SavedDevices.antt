-- What is read from the bytes of a save is what was written there, and the parts of the save of a device.
use Rattle.std.proofs.Common.{◌≡◌, ◌∙◌, ℕ, ◌+◌, ◌-◌, ◌<◌, ◌≤◌, ◌++◌, true, List, length, take, drop, get_or, ap, refl, sym, arith, append_assoc, suc}
use Rattle.std.proofs.Common.{◌*◌, ◌%◌, ◌/◌, ◌^◌, Bool, eqb, append-nil, add-one, subst}
use Rattle.std.proofs.lemmas.List.{drop_at, length-append, drop-drop, drop_all, length-drop, length-take, take-append-drop, take_all, take_at}
use Rattle.std.proofs.{Math.Seq.drop-cons, Math.Seq.take-suc, lemmas.List.Concat.flat_map-append, lemmas.Nat.from_le_bytes-to_le_bytes_4}
use Rattle.std.specs.{Int.w32, Int.to_le_bytes, Int.from_le_bytes, List.All, List.flat_map}
use Rattle.dma_chan.specs.Saved.{checksum, sealed, saved}
use Rattle.dma_device.specs.Snapshot.{IsSoundHead, IsDeviceValue, IsThreadValue, device_parts, head_bytes, head_of, identity, saved_device}
use Rattle.dma_device.specs.Snapshot.{saved_thread, thread_bytes}
use Rattle.dma_device.specs.{declared.config.Config.Config, declared.save.head.Head.Head, declared.thread.Thread.Thread, Device.DeviceValue, Device.csr}
use Rattle.dma_device.specs.{Thread.IsOn, Thread.has_status, Thread.status_bits, Config.is_valid, inner.Saves.HasHeadRanges, declared.thread.Status.Status}
use Rattle.dma_insn.specs.ControlWord.{flag}
use Rattle.dma_chan.proofs.SavedParts.{saved_parts}
use Rattle.dma_device.proofs.Sound.{few_events, fits_word}
use borrow.Author.Tests.{ltb-true}
use borrow.Rule.Slice.PartMut.{put_mid}

-- ---- a head

pub head_length : (h : Head) → length (head_bytes h) ≡ 40
unfolding head_bytes
head_length h = refl

-- The bytes have a head's fields at their offsets.
pub record HasFieldsOf (h : Head) (bytes : List ℕ) : Type 0 where
  pub is_faulting : get_or bytes 15 0 ≡ flag h.manager.is_faulting
  pub fault : from_le_bytes w32 (drop 16 bytes) ≡ h.manager.fault
  pub events : from_le_bytes w32 (drop 20 bytes) ≡ h.events
  pub interrupts : from_le_bytes w32 (drop 24 bytes) ≡ h.interrupts
  pub inten : from_le_bytes w32 (drop 28 bytes) ≡ h.inten
  pub dbginst0 : from_le_bytes w32 (drop 32 bytes) ≡ h.dbginst0
  pub dbginst1 : from_le_bytes w32 (drop 36 bytes) ≡ h.dbginst1

written : (h : Head) (rest : List ℕ) → HasHeadRanges h → HasFieldsOf h (head_bytes h ++ rest)
unfolding head_bytes
written h rest r = grind (arith, from_le_bytes-to_le_bytes_4)

-- Bytes that begin with a head have its fields.
pub head_fields : (h : Head) (rest bytes : List ℕ) → HasHeadRanges h → bytes ≡ head_bytes h ++ rest → HasFieldsOf h bytes
head_fields h rest bytes r e = subst (HasFieldsOf h) (sym e) (written h rest r)

-- ---- a thread

pub thread_head_length : (t : Thread) (len : ℕ) → length (thread_bytes t len) ≡ 20
unfolding thread_bytes
thread_head_length t len = refl

-- a thread's save has 20 bytes beside its channel's
pub thread_length : (t : Thread) → length (saved_thread t) ≡ 20 + length (saved t.channel)
unfolding saved_thread
thread_length t = omega (arith, length-append (thread_bytes t (length (saved t.channel))) (saved t.channel), thread_head_length t (length (saved t.channel)))

status_few : (events : ℕ) (t : Thread) (s : Status) → events ≤ 32 → has_status events t s ≡ true → status_bits s < 2 ^ 9
status_few events t s h1 h2 = grind (arith, ltb-true)

csr_parts : (bits : ℕ) (b : Bool) → bits < 2 ^ 9 → ((bits + flag b * 2 ^ 21) % 512 ≡ bits)
    × (((bits + flag b * 2 ^ 21) / 2 ^ 21 % 2 ≡ flag b) × (bits + flag b * 2 ^ 21 < 2 ^ 32))
csr_parts bits b h = grind (arith)

-- The bytes have a thread's fields at their offsets, and the length of its channel's save.
pub record HasThread (t : Thread) (bytes : List ℕ) : Type 0 where
  pub status : from_le_bytes w32 bytes % 512 ≡ status_bits t.status
  pub nonsecure : from_le_bytes w32 bytes / 2 ^ 21 % 2 ≡ flag t.nonsecure
  pub fault : from_le_bytes w32 (drop 4 bytes) ≡ t.fault
  pub base : from_le_bytes w32 (drop 8 bytes) ≡ t.base
  pub pc : from_le_bytes w32 (drop 12 bytes) ≡ t.pc
  pub len : from_le_bytes w32 (drop 16 bytes) ≡ length (saved t.channel)

thread_written : (events : ℕ) (t : Thread) (rest : List ℕ) → events ≤ 32 → IsThreadValue events t → length (saved t.channel) < 2 ^ 32
    → HasThread t (thread_bytes t (length (saved t.channel)) ++ rest)
unfolding thread_bytes
thread_written events t rest few v short =
    let parts = csr_parts (status_bits t.status) t.nonsecure (status_few events t t.status few v.sound.status) in
    let back = from_le_bytes-to_le_bytes_4 (csr t) parts.1.1 in
    record {
      status = ap (λ (n : ℕ). n % 512) back ∙ parts.0;
      nonsecure = ap (λ (n : ℕ). n / 2 ^ 21 % 2) back ∙ parts.1.0;
      fault = from_le_bytes-to_le_bytes_4 t.fault v.fault;
      base = from_le_bytes-to_le_bytes_4 t.base v.base;
      pc = from_le_bytes-to_le_bytes_4 t.pc v.pc;
      len = from_le_bytes-to_le_bytes_4 (length (saved t.channel)) short;
    }

-- The save of a thread is at the front of these bytes.
pub record BeginsWith (t : Thread) (bytes : List ℕ) : Type 0 where
  pub fields : HasThread t bytes
  pub long : 20 + length (saved t.channel) ≤ length bytes
  pub head : take 20 bytes ≡ thread_bytes t (length (saved t.channel))
  pub channel : take (length (saved t.channel)) (drop 20 bytes) ≡ saved t.channel

-- Bytes that begin with a thread's save have its parts.
pub thread_found : (events : ℕ) (t : Thread) (rest bytes : List ℕ) → events ≤ 32 → IsThreadValue events t → bytes ≡ saved_thread t ++ rest → BeginsWith t bytes
unfolding saved_thread
thread_found events t rest bytes few v e =
    let len = length (saved t.channel) in
    let head = thread_bytes t len in
    let twenty = thread_head_length t len in
    let fits = (saved_parts t.channel (saved t.channel) v.channel refl).fits in
    let total = fits.total in
    let buffer = fits.buffer in
    let program = fits.program in
    let apart : bytes ≡ head ++ (saved t.channel ++ rest) = e ∙ append_assoc head (saved t.channel) rest in
    let behind : drop 20 bytes ≡ saved t.channel ++ rest = ap (drop 20) apart ∙ drop_at head (saved t.channel ++ rest) 20 twenty in
    record {
      fields = subst (HasThread t) (sym apart) (thread_written events t (saved t.channel ++ rest) few v (omega arith));
      long = omega (arith, ap length apart, length-append head (saved t.channel ++ rest), length-append (saved t.channel) rest, twenty);
      head = ap (take 20) apart ∙ take_at head (saved t.channel ++ rest) 20 twenty;
      channel = ap (take len) behind ∙ take_at (saved t.channel) rest len refl;
    }

-- bit 21 of CSR is read as the flag
pub bit_back : (b : Bool) → eqb (flag b) 1 ≡ b
bit_back b = grind (arith)

-- ---- threads in a row

-- one more of the lists that are joined
pub one_more : {X Y : Type 0} → (f : X → List Y) (xs : List X) (n : ℕ) (x : X) → n < length xs → x ≡ get_or xs n x
    → flat_map f (take (n + 1) xs) ≡ flat_map f (take n xs) ++ f x
one_more {X} {Y} f xs n x less is = simp (add-one, take-suc xs n x less, flat_map-append, append-nil, sym is)

-- all that is behind the first a items of a list
pub tail_is : {X : Type 0} → (a : ℕ) (xs : List X) → take (length xs - a) (drop a xs) ≡ drop a xs
tail_is {X} a xs = take_all (length xs - a) (drop a xs) (omega (arith, length-drop a xs))

-- the list after a write to all that is behind its first a items
pub put_tail : {X : Type 0} → (a : ℕ) (xs ys : List X) → a ≤ length xs → put_mid a (length xs - a) xs ys ≡ take a xs ++ ys
put_tail {X} a xs ys fits = simp (drop_all (length xs - a) (drop a xs) (omega (arith, length-drop a xs)), append-nil)

-- its first a items are as many
pub front_length : {X : Type 0} → (a : ℕ) (xs ys : List X) → a ≤ length xs → length (take a (put_mid a (length xs - a) xs ys)) ≡ a
front_length {X} a xs ys fits = grind (arith, length-take, put_tail, take_at)

-- One more part is written behind those that are written.
pub written_more : (at len : ℕ) (parts part out old new : List ℕ) → at ≤ length out → at ≡ length parts → out ≡ parts ++ drop at old
    → new ≡ part ++ drop len (take (length out - at) (drop at out)) → put_mid at (length out - at) out new ≡ (parts ++ part) ++ drop (at + len) old
written_more at len parts part out old new fits is before after = grind (arith, take_at, drop_at, put_tail, tail_is, drop-drop, append_assoc)

-- the list at place n of those that are joined is behind those before it
pub part_at : {X Y : Type 0} → (f : X → List Y) (xs : List X) (n at : ℕ) (all : List Y) (x : X) → n < length xs → all ≡ flat_map f xs
    → at ≡ length (flat_map f (take n xs)) → drop at all ≡ f (get_or xs n x) ++ flat_map f (drop (suc n) xs)
part_at {X} {Y} f xs n at all x less is here =
    let split : flat_map f xs ≡ flat_map f (take n xs) ++ flat_map f (drop n xs) =
    ap (flat_map f) (sym (take-append-drop n xs)) ∙ flat_map-append f (take n xs) (drop n xs) in
    ap (drop at) (is ∙ split) ∙ drop_at (flat_map f (take n xs)) (flat_map f (drop n xs)) at (sym here)
    ∙ ap (flat_map f) (drop-cons xs n x less)

-- The numbers of a device's head are in their ranges.
pub device_ranges : (d : DeviceValue) → IsDeviceValue d → HasHeadRanges (head_of d)
device_ranges d v =
    let few = few_events d.config v.config in
    record {
      fault = v.fault;
      events = fits_word d.events d.config.events few v.known.events;
      interrupts = fits_word d.interrupts d.config.events few v.known.interrupts;
      inten = fits_word d.inten d.config.events few v.known.inten;
      dbginst0 = v.dbginst0;
      dbginst1 = v.dbginst1;
    }

pub known_of : (d : DeviceValue) → IsDeviceValue d → IsSoundHead (head_of d)
known_of d v = record { events = v.known.events; interrupts = v.known.interrupts; inten = v.known.inten; manager = v.known.manager }

-- What every device satisfies, in parts.
pub device_value_is : (d : DeviceValue) → is_valid d.config ≡ true → IsSoundHead (head_of d) → HasHeadRanges (head_of d)
    → length d.threads ≡ d.config.channels → All (IsThreadValue d.config.events) d.threads → All (IsOn d.config.bus) d.threads → IsDeviceValue d
device_value_is d valid known r count values on = grind arith

-- the device of a configuration, a head and threads
abbrev pub from_head : Config → Head → List Thread → DeviceValue
from_head g h ts = record {
  config = g;
  events = h.events;
  interrupts = h.interrupts;
  inten = h.inten;
  dbginst0 = h.dbginst0;
  dbginst1 = h.dbginst1;
  manager = h.manager;
  threads = ts;
}

-- The saves of the threads follow the head.
pub threads_behind : (d : DeviceValue) (save : List ℕ) → save ≡ device_parts d
    → take (length save - 40) (drop 40 save) ≡ flat_map saved_thread d.threads
unfolding device_parts
threads_behind d save e =
    tail_is 40 save ∙ ap (drop 40) e ∙ drop_at (head_bytes (head_of d)) (flat_map saved_thread d.threads) 40 (head_length (head_of d))

pub device_length : (d : DeviceValue) → length (device_parts d) ≡ 40 + length (flat_map saved_thread d.threads)
unfolding device_parts
device_length d = omega (arith, length-append (head_bytes (head_of d)) (flat_map saved_thread d.threads), head_length (head_of d))

-- the version and the configuration, at their place
pub own_identity : (d : DeviceValue) → take 8 (drop 7 (saved_device d)) ≡ identity d.config
unfolding saved_device device_parts head_bytes sealed
own_identity d = refl

-- a save, with its checksum
pub own_length : (d : DeviceValue) → length (saved_device d) ≡ length (device_parts d) + 4
unfolding saved_device sealed
own_length d = length-append (device_parts d) (to_le_bytes w32 (checksum (device_parts d)))

pub own_parts : (d : DeviceValue) → saved_device d ≡ device_parts d ++ to_le_bytes w32 (checksum (device_parts d))
unfolding saved_device sealed
own_parts d = refl
