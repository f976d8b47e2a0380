-- What a read of CSR returns, and the thread that a DMAGO starts.
use Rattle.std.proofs.Common.{◌≡◌, ◌∙◌, ℕ, suc, ◌+◌, ◌*◌, ◌%◌, ◌^◌, ◌<◌, Bool, true, false, List, get_or, Some, ap, refl, arith, ◌≢◌}
use Rattle.std.specs.Prelude.{slice_get}
use Rattle.std.proofs.lemmas.Option.{slice_get-get_or}
use Rattle.dma_insn.specs.ControlWord.{field, flag}
use Rattle.dma_mem.specs.Regions.{Piece}
use Rattle.dma_device.specs.Thread.{is_faulting, is_faulting_status, is_stopped, is_stopped_status, reset_thread, started, status_bits}
use Rattle.dma_device.specs.{Dmago.Go, Dmago.MayGo, Dmago.csr_status, Dmago.started_by, declared.thread.Status.Status}
use Rattle.dma_device.specs.{declared.thread.Thread.Thread}
use Rattle.dma_device.proofs.{FlagNumber.flag_few, Found.set_found}
use Rattle.dma_device.specs.Offsets as offset
use Rattle.dma_device.specs.Device.{DeviceValue, by_manager, csr, go as executes_go, of_thread, read_at, program_at, with_thread, written}

-- ---- CSR, FTR and CPC

pub read_csr : (d : DeviceValue) (n : ℕ) → n < 8 → read_at d (offset.csr + 8 * n) ≡ of_thread csr (slice_get d.threads n)
read_csr d (suc (suc (suc (suc (suc (suc (suc (suc n)))))))) h = absurd (omega arith)
read_csr d n h = refl

stopped_by : (s : Status) (b : Bool) → (status_bits s + flag b * 2 ^ 21) % 16 ≡ 0 → is_stopped_status s ≡ true
stopped_by s b h = grind (arith)

-- a thread whose CSR reads as stopped is stopped
pub reads_stopped : (d : DeviceValue) (n : ℕ) (th : Thread) → n < 8 → slice_get d.threads n ≡ Some th → csr_status d n ≡ 0 → is_stopped th ≡ true
reads_stopped d n th few is h = grind (arith, read_csr, stopped_by)

fine_by : (s : Status) (b : Bool) → is_faulting_status s ≡ false → (status_bits s + flag b * 2 ^ 21) % 16 ≢ 15
fine_by s b h = grind (arith)

-- the CSR of a thread that isn't faulting doesn't read so
pub reads_fine : (d : DeviceValue) (n : ℕ) (th : Thread) → n < 8 → slice_get d.threads n ≡ Some th → is_faulting th ≡ false → csr_status d n ≢ 15
reads_fine d n th few is fine e = grind (arith, fine_by, read_csr)

-- a stopped thread isn't faulting
pub stopped_fine : (s : Status) → is_stopped_status s ≡ true → is_faulting_status s ≡ false
stopped_fine s h = grind (arith)

pub read_ftr : (d : DeviceValue) (n : ℕ) → n < 8 → read_at d (offset.ftr + 4 * n) ≡ of_thread (λ t. t.fault) (slice_get d.threads n)
read_ftr d (suc (suc (suc (suc (suc (suc (suc (suc n)))))))) h = absurd (omega arith)
read_ftr d n h = refl

pub read_cpc : (d : DeviceValue) (n : ℕ) → n < 8 → read_at d (offset.csr + 4 + 8 * n) ≡ of_thread (λ t. t.pc) (slice_get d.threads n)
read_cpc d (suc (suc (suc (suc (suc (suc (suc (suc n)))))))) h = absurd (omega arith)
read_cpc d n h = refl

faulting_by : (s : Status) (b : Bool) → is_faulting_status s ≡ true → (status_bits s + flag b * 2 ^ 21) % 16 ≡ 15
faulting_by s b h = grind (arith)

-- the CSR of a thread that is faulting reads so
pub reads_faulting : (d : DeviceValue) (n : ℕ) (th : Thread) → n < 8 → slice_get d.threads n ≡ Some th → is_faulting th ≡ true → csr_status d n ≡ 15
reads_faulting d n th few is h = grind (arith, faulting_by, read_csr)

-- ---- DMAGO

-- the debug registers of a DMAGO
abbrev word : Bool → ℕ → ℕ
word nonsecure n = (0xA0 + 2 * flag nonsecure) * 2 ^ 16 + n * 2 ^ 24

abbrev written_both : Bool → ℕ → ℕ → DeviceValue → DeviceValue
written_both nonsecure n addr d = record d { dbginst0 = word nonsecure n; dbginst1 = addr }

flag_clear : (b : Bool) → flag b ≡ 0 → b ≡ false
flag_clear b h = grind (arith)

-- what the manager does
by_opcode : (ram : List Piece) (nonsecure : Bool) (n : ℕ) (e : DeviceValue) → e.manager.is_faulting ≡ false
    → by_manager ram (0xA0 + 2 * flag nonsecure) n e ≡ executes_go ram nonsecure n (slice_get e.threads n) e
by_opcode ram true n e calm = rw calm refl
by_opcode ram false n e calm = rw calm refl

-- the thread after a write to DBGCMD, while the debug registers have a DMAGO
pub command_starts : (go : Go) (value : ℕ) → value % 4 ≡ 0 → field 0 1 go.device.dbginst0 ≡ 0 → field 16 8 go.device.dbginst0 ≡ 0xA0 + 2 * flag go.nonsecure
    → field 24 8 go.device.dbginst0 ≡ go.channel → go.device.dbginst1 ≡ go.addr → MayGo go
    → slice_get (written go.ram offset.dbgcmd value go.device).threads go.channel ≡ Some
    (started go.nonsecure go.addr (program_at go.ram go.addr) (get_or go.device.threads go.channel (reset_thread go.device.config.bus)))
command_starts go value command by opcode byte at may =
    let d = go.device in
    let n = go.channel in
    let ram = go.ram in
    let nonsecure = go.nonsecure in
    let th = get_or d.threads n (reset_thread d.config.bus) in
    let is = slice_get-get_or d.threads n (reset_thread d.config.bus) may.there in
    let stopped = reads_stopped d n th may.few is may.stopped in
    let new = started nonsecure go.addr (program_at ram go.addr) th in
    let all : written ram offset.dbgcmd value d ≡ with_thread n new d =
    simp (command, opcode, byte, by) (by_opcode ram nonsecure n d (flag_clear d.manager.is_faulting may.manager) ∙ simp (is, may.allowed, stopped, at)) in
    ap (λ (v : DeviceValue). slice_get v.threads n) all ∙ set_found d.threads n th new is

-- the thread after a driver's writes of a DMAGO
pub dmago_starts : (go : Go) → MayGo go
    → slice_get (started_by go).threads go.channel ≡ Some
    (started go.nonsecure go.addr (program_at go.ram go.addr) (get_or go.device.threads go.channel (reset_thread go.device.config.bus)))
dmago_starts go may =
    let n = go.channel in
    let nonsecure = go.nonsecure in
    let w = word nonsecure n in
    let one = flag_few nonsecure in
    let opcode : field 16 8 w ≡ 0xA0 + 2 * flag nonsecure = omega arith in
    let byte : field 24 8 w ≡ n = omega (arith, may.few) in
    let by : field 0 1 w ≡ 0 = omega arith in
    let ready : Go = record go { device = written_both nonsecure n go.addr go.device } in
    command_starts ready 0 refl by opcode byte refl
    (record { there = may.there; few = may.few; stopped = may.stopped; manager = may.manager; allowed = may.allowed })
