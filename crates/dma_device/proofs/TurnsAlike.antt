-- Calls, turns and registers of devices that are alike but for the bytes in buffers and in memory.
use Rattle.std.proofs.Common.{arith}
use Rattle.std.proofs.Common.{◌≡◌, ◌∙◌, ℕ, ◌+◌, ◌-◌, ◌*◌, Bool, true, false, ◌||◌, List, [], ◌∷◌, Option, Some, None, ap, length, map}
use Rattle.std.proofs.Common.{refl, subst, sym}
use Rattle.std.specs.{Prelude.if◌then◌else◌, Prelude.slice_get, List.list_any, Option.option_map, Option.option_map_or}
use Rattle.std.proofs.{lemmas.List.length-append, lemmas.List.length-replicate, lemmas.List.map-set, lemmas.Option.slice_get-map}
use Rattle.dma_insn.specs.ControlWord.{flag}
use Rattle.dma_mem.specs.Regions.{bytes_above, pieces_of}
use Rattle.dma_mem.specs.{Marking.MarkList, declared.regions.Region.Region, declared.segment.Segment.Segment}
use Rattle.dma_chan.specs.{Channel.ChannelValue, LentRegions.segment_of, declared.turn.ChanTurn.ChanTurn}
use Rattle.dma_explain.proofs.InOrder.{marks_kept}
use Rattle.dma_device.specs.Device.{DeviceValue, channel_register, device_register, faulting_bits, irq_abort, irqs, of_thread, read_at}
use Rattle.dma_device.specs.Device.{with_thread}
use Rattle.dma_device.specs.Frame.{AreLike, BytesDontMatter, IsLike, LikeReadsLike, RegionBytesDontMatter, blank, blank_channel, blanked}
use Rattle.dma_device.specs.Thread.{answer, answered, is_faulting}
use Rattle.dma_device.specs.Turns.{Outcome, Setup, begins, called, called_if, follows, lines_differ, machine_in, setup_of}
use Rattle.dma_device.specs.Turns.{counted, stepped, steps_in, turned}
use Rattle.dma_device.specs.{declared.device.turns.Called.Called, declared.device.turns.Turn.Turn, declared.thread.Thread.Thread, CallSteps.marks_in}
use Rattle.dma_device.proofs.StepsAlike.{MachinesAlike, count_alike, last_alike, signal_alike, steps_alike, written_alike}

-- ---- threads

-- what is said of a thread with zeros in its buffer is said of the thread
of_alike : {X : Type 0} (f : Thread → X) (z : X) (o p : Option Thread) → ((t : Thread) → f (blank t) ≡ f t) → option_map blank o ≡ option_map blank p
    → option_map_or f o z ≡ option_map_or f p z
of_alike f z o p h h2 = grind (arith)

found_alike : (ts us : List Thread) (n : ℕ) → map blank ts ≡ map blank us → option_map blank (slice_get ts n) ≡ option_map blank (slice_get us n)
found_alike ts us n same = sym (slice_get-map blank ts n) ∙ ap (λ (l : List Thread). slice_get l n) same ∙ slice_get-map blank us n

-- a thread is replaced by one that is alike
put_alike : (n : ℕ) (t v : Thread) (d e : DeviceValue) → blank t ≡ blank v → blanked d ≡ blanked e → blanked (with_thread n t d) ≡ blanked (with_thread n v e)
put_alike n t v d e threads devices = grind (arith, map-set)

blank_if : (b : Bool) (t v : Thread) → blank (if b then t else v) ≡ (if b then blank t else blank v)
blank_if b t v = grind (arith)

-- an answer keeps the buffer
blank_answer : (events : ℕ) (t : Thread) (last : Option ChanTurn) (signal : Option ℕ)
    → blank (answer events t last signal) ≡ answer events (blank t) last signal
blank_answer events t last signal = grind (arith, blank_if)

answered_alike : (events : ℕ) (t v : Thread) (c d : ChannelValue) (last : Option ChanTurn) (signal : Option ℕ) → blank t ≡ blank v
    → blank_channel c ≡ blank_channel d
    → blank (answered events (record t { channel = c }) last signal) ≡ blank (answered events (record v { channel = d }) last signal)
answered_alike events t v c d last signal threads channels = grind (arith, blank_answer)

-- ---- a call

-- two outcomes are the same but for bytes
record Alike (p q : Outcome) : Type 0 where
  left : AreLike p.left q.left
  called : p.called ≡ q.called

abbrev called_of : ℕ → Segment → Option ℕ → Called
called_of taken written signal = record { written = written; signal = signal; taken = taken }

module _ (marks : MarkList) (n most : ℕ) (s u : Setup) (h : AreLike s u) where
  machines_alike : (t v : Thread) → blank t ≡ blank v → MachinesAlike (machine_in s t) (machine_in u v)
  machines_alike t v same = grind arith

  counted_alike : (t v : Thread) (k : ℕ) → blank t ≡ blank v → Alike (counted marks n k t s) (counted marks n k v u)
  counted_alike t v k same = grind (arith, machines_alike, steps_alike, last_alike, signal_alike, answered_alike, put_alike, written_alike)

  stepped_alike : (t v : Thread) → blank t ≡ blank v → Alike (stepped marks n most t s) (stepped marks n most v u)
  stepped_alike t v same =
      let few = count_alike marks (machine_in s t) (machine_in u v) (machines_alike t v same) most in
      subst (λ (k : ℕ). Alike (stepped marks n most t s) (counted marks n k v u)) few (counted_alike t v (steps_in marks most t s) same)

  called_alike : (o p : Option Thread) → option_map blank o ≡ option_map blank p → Alike (called marks n most o s) (called marks n most p u)
  called_alike None None same = record { left = h; called = refl }
  called_alike (Some t) (Some v) same = stepped_alike t v (cc)
  called_alike o p same = absurd (cc)

  made_alike : (made : Bool) → Alike (called_if made marks n most s) (called_if made marks n most u)
  made_alike true = called_alike (slice_get s.device.threads n) (slice_get u.device.threads n)
      (found_alike s.device.threads u.device.threads n (ap (λ (d : DeviceValue). d.threads) h.devices.same))
  made_alike false = record { left = h; called = refl }

  call_alike : (made also : Bool) → made ≡ also → Alike (called_if made marks n most s) (called_if also marks n most u)
  call_alike made also same = subst (λ (b : Bool). Alike (called_if made marks n most s) (called_if b marks n most u)) same (made_alike made)

-- ---- lines and registers

any_blank : (ts : List Thread) → list_any is_faulting (map blank ts) ≡ list_any is_faulting ts
any_blank [] = refl
any_blank (t ∷ ts) = ap (λ (b : Bool). is_faulting t || b) (any_blank ts)

bits_blank : (ts : List Thread) → faulting_bits (map blank ts) ≡ faulting_bits ts
bits_blank [] = refl
bits_blank (t ∷ ts) = ap (λ (k : ℕ). flag (is_faulting t) + 2 * k) (bits_blank ts)

module _ {d e : DeviceValue} (h : IsLike d e) where
  threads_same : map blank d.threads ≡ map blank e.threads
  threads_same = ap (λ (f : DeviceValue). f.threads) h.same

  irqs_same : irqs d ≡ irqs e
  irqs_same = ap irqs h.same

  abort_same : irq_abort d ≡ irq_abort e
  abort_same = grind (arith, any_blank)

  of_thread_same : (f : Thread → ℕ) (n : ℕ) → ((t : Thread) → f (blank t) ≡ f t) → of_thread f (slice_get d.threads n) ≡ of_thread f (slice_get e.threads n)
  of_thread_same f n blind = of_alike f 0 (slice_get d.threads n) (slice_get e.threads n) blind (found_alike d.threads e.threads n threads_same)

  channel_same : (at : ℕ) → channel_register d.threads at ≡ channel_register e.threads at
  channel_same at = grind (arith, of_thread_same)

  device_same : (at : ℕ) → device_register d at ≡ device_register e at
  device_same at = rw (← bits_blank d.threads, ← bits_blank e.threads) (ap (λ (f : DeviceValue). device_register f at) h.same)

  registers_same : (at : ℕ) → read_at d at ≡ read_at e at
  registers_same at = rw (channel_same at, device_same at) refl

pub like_reads_like : LikeReadsLike
like_reads_like d e h = record { registers = registers_same h; irqs = irqs_same h; irq_abort = abort_same h }

-- ---- a turn

begins_same : (n most : ℕ) (d e : DeviceValue) → IsLike d e → begins d n most ≡ begins e n most
begins_same n most d e h = grind (arith, of_alike, found_alike, threads_same)

follows_same : (n : ℕ) (d e : DeviceValue) (first : Called) → IsLike d e → follows d n first ≡ follows e n first
follows_same n d e first h = grind (arith, of_alike, found_alike, threads_same)

lines_same : (d e v w : DeviceValue) → IsLike d e → IsLike v w → lines_differ d v ≡ lines_differ e w
lines_same d e v w h k = rw (irqs_same h, irqs_same k, abort_same h, abort_same k) refl

-- what a turn of two such calls reports
abbrev turn_of : Called → Called → Bool → Turn
turn_of first second changed = record { written = first.written; lines_changed = changed; taken = first.taken + second.taken }

pub bytes_dont_matter : BytesDontMatter
bytes_dont_matter marks n most s u h = grind (arith, call_alike, begins_same, follows_same, lines_same)

-- ---- regions

-- how many bytes an image has from `at` on
abbrev long : ℕ → List Segment → ℕ
long at [] = 0
long at (s ∷ ss) = (s.addr - at) + (s.len + long (s.addr + s.len) ss)

long_is : (at : ℕ) (rs : List Region) → length (bytes_above at (pieces_of rs)) ≡ long at (map segment_of rs)
long_is at [] = refl
long_is at (r ∷ rs) = simp (length-append, length-replicate, long_is ((segment_of r).addr + (segment_of r).len) rs)

pub region_bytes_dont_matter : RegionBytesDontMatter
region_bytes_dont_matter d e v w regions lent left rest n most turn other x y h places read_only =
    let s = setup_of d regions in
    let u = setup_of e lent in
    let size : length s.image ≡ length u.image = long_is 0 regions ∙ ap (long 0) (sym places) ∙ sym (long_is 0 lent) in
    let are = bytes_dont_matter (marks_in regions) n most s u (record { devices = h; size = size }) in
    let is : turned (marks_in regions) n most u ≡ (setup_of w rest, other) =
    ap (λ (marks : MarkList). turned marks n most u) (sym (marks_kept regions lent [] places read_only)) ∙ y.is in
    let devices = subst (λ (p : Setup × Turn). AreLike (turned (marks_in regions) n most s).0 p.0) is are.0 in
    let left_like = subst (λ (p : Setup × Turn). AreLike p.0 (setup_of w rest)) x.is devices in
    (left_like.devices, sym (ap (λ (p : Setup × Turn). p.1) is) ∙ sym are.1 ∙ ap (λ (p : Setup × Turn). p.1) x.is)
