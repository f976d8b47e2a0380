-- What the debug instruction, a DMAGO and a write of a register leave, case by case.
use Rattle.std.proofs.Common.{◌≡◌, ◌≢◌, ℕ, ◌+◌, ◌/◌, ◌%◌, Bool, true, false, ◌&&◌, List, Option, Some, None, inl, inr, refl, bit_and, arith}
use Rattle.std.specs.{Prelude.◌==◌, Prelude.if◌then◌else◌, Prelude.not, Prelude.slice_get}
use Rattle.std.proofs.lemmas.Bool.{cond_both, eqb-false, eqb-true}
use Rattle.dma_insn.specs.ControlWord.{field}
use Rattle.dma_mem.specs.Regions.{Piece}
use Rattle.dma_device.specs.Device.{DeviceValue, all_events, by_manager, by_thread, cleared_by, debugged, go, has_ftrd, is_event, manager_failed, program_at, signalled, with_thread}
use Rattle.dma_device.specs.Device.{written}
use Rattle.dma_device.specs.Thread.{dbg_instr, dmago_err, failed, is_faulting, is_stopped, killed, operand_invalid, started, undef_instr}
use Rattle.dma_device.specs.{declared.device.Manager.Manager, declared.thread.Thread.Thread, Faults.TheChannel, Frame.IsDmago, Frame.Names}
use Rattle.dma_device.specs.Offsets as offset

-- a DMAKILL keeps FTRD
pub killed_ftrd : (m : Manager) → has_ftrd m ≡ true → has_ftrd (record m { is_faulting = false }) ≡ true
killed_ftrd m h = grind (arith)

module _ (P : DeviceValue → Type 0) where
  pub branch : (b : Bool) (x y : DeviceValue) → (b ≡ true → P x) → (b ≡ false → P y) → P (if b then x else y)
  branch b x y = cond_both b x y P

  -- after an instruction that a channel thread executes
  pub record ThreadCases (n : ℕ) (t : Thread) (opcode byte : ℕ) (d : DeviceValue) : Type 0 where
    pub kill : (opcode == 0x01) ≡ true → P (with_thread n (killed t) d)
    pub faulting : (opcode == 0x01) ≡ false → is_faulting t ≡ true → P d
    pub sev : (opcode == 0x01) ≡ false → is_faulting t ≡ false → (opcode == 0x34) ≡ true → is_event d byte ≡ true → P (signalled (byte / 8) d)
    pub no_event : (opcode == 0x01) ≡ false → is_faulting t ≡ false → (opcode == 0x34) ≡ true → is_event d byte ≡ false
        → P (with_thread n (failed (operand_invalid + dbg_instr) t) d)
    pub undefined : (opcode == 0x01) ≡ false → is_faulting t ≡ false → (opcode == 0x34) ≡ false → P (with_thread n (failed (undef_instr + dbg_instr) t) d)

  pub thread_cases : (n : ℕ) (t : Thread) (opcode byte : ℕ) (d : DeviceValue) → ThreadCases n t opcode byte d → P (by_thread n (Some t) opcode byte d)
  thread_cases n t opcode byte d x = grind arith

  -- after a DMAGO of a thread that is there
  pub record GoCases (ram : List Piece) (nonsecure : Bool) (n : ℕ) (t : Thread) (d : DeviceValue) : Type 0 where
    pub refused : (d.config.nonsecure && not nonsecure) ≡ true → P (manager_failed dmago_err d)
    pub starts : (d.config.nonsecure && not nonsecure) ≡ false → is_stopped t ≡ true
        → P (with_thread n (started nonsecure d.dbginst1 (program_at ram d.dbginst1) t) d)
    pub busy : (d.config.nonsecure && not nonsecure) ≡ false → is_stopped t ≡ false → P d

  pub go_cases : (ram : List Piece) (nonsecure : Bool) (n : ℕ) (t : Thread) (d : DeviceValue) → GoCases ram nonsecure n t d → P (go ram nonsecure n (Some t) d)
  go_cases ram nonsecure n t d x = grind arith

  -- after an instruction that the manager executes
  pub record ManagerCases (ram : List Piece) (opcode byte : ℕ) (d : DeviceValue) : Type 0 where
    pub kill : (opcode == 0x01) ≡ true → P (record d { manager = record (d.manager) { is_faulting = false } })
    pub faulting : (opcode == 0x01) ≡ false → d.manager.is_faulting ≡ true → P d
    pub sev : (opcode == 0x01) ≡ false → d.manager.is_faulting ≡ false → (opcode == 0x34) ≡ true → is_event d byte ≡ true → P (signalled (byte / 8) d)
    pub no_event : (opcode == 0x01) ≡ false → d.manager.is_faulting ≡ false → (opcode == 0x34) ≡ true → is_event d byte ≡ false
        → P (manager_failed operand_invalid d)
    pub secure : (opcode == 0x01) ≡ false → d.manager.is_faulting ≡ false → (opcode == 0x34) ≡ false → (opcode == 0xA0) ≡ true
        → P (go ram false byte (slice_get d.threads byte) d)
    pub nonsecure : (opcode == 0x01) ≡ false → d.manager.is_faulting ≡ false → (opcode == 0x34) ≡ false → (opcode == 0xA0) ≡ false → (opcode == 0xA2) ≡ true
        → P (go ram true byte (slice_get d.threads byte) d)
    pub undefined : (opcode == 0x01) ≡ false → d.manager.is_faulting ≡ false → (opcode == 0x34) ≡ false → (opcode == 0xA0) ≡ false → (opcode == 0xA2) ≡ false
        → P (manager_failed undef_instr d)

  pub manager_cases : (ram : List Piece) (opcode byte : ℕ) (d : DeviceValue) → ManagerCases ram opcode byte d → P (by_manager ram opcode byte d)
  manager_cases ram opcode byte d x = grind arith

  -- after the debug instruction
  pub record DebugCases (ram : List Piece) (d : DeviceValue) : Type 0 where
    pub same : P d
    pub manager : field 0 1 d.dbginst0 ≢ 1 → (m : Manager) → (has_ftrd d.manager ≡ true → has_ftrd m ≡ true) → P (record d { manager = m })
    pub sev : (byte : ℕ) → is_event d byte ≡ true → P (signalled (byte / 8) d)
    pub kills : (t : Thread) → let n = field 8 3 d.dbginst0 in field 0 1 d.dbginst0 ≡ 1 → slice_get d.threads n ≡ Some t → P (with_thread n (killed t) d)
    pub fails : (why : ℕ) (t : Thread) → let n = field 8 3 d.dbginst0 in field 0 1 d.dbginst0 ≡ 1 → slice_get d.threads n ≡ Some t
        → P (with_thread n (failed (why + dbg_instr) t) d)
    pub starts : (n : ℕ) (t : Thread) (nonsecure : Bool) → Names d (TheChannel n) → is_stopped t ≡ true → slice_get d.threads n ≡ Some t
        → P (with_thread n (started nonsecure d.dbginst1 (program_at ram d.dbginst1) t) d)

  pub debug_cases : (ram : List Piece) (d : DeviceValue) → DebugCases ram d → P (debugged ram d)
  debug_cases ram d x =
      branch (field 0 1 d.dbginst0 == 1) _ _ (λ is. threads (eqb-true (field 0 1 d.dbginst0) 1 is) (slice_get d.threads (field 8 3 d.dbginst0)) refl)
      (λ is. managed (eqb-false (field 0 1 d.dbginst0) 1 is))
    where
      opcode : ℕ
      opcode = field 16 8 d.dbginst0

      byte : ℕ
      byte = field 24 8 d.dbginst0

      threads : field 0 1 d.dbginst0 ≡ 1 → (o : Option Thread) → slice_get d.threads (field 8 3 d.dbginst0) ≡ o
          → P (by_thread (field 8 3 d.dbginst0) o opcode byte d)
      threads on None is = x.same
      threads on (Some t) is = thread_cases (field 8 3 d.dbginst0) t opcode byte d (record {
        kill = λ _. x.kills t on is;
        faulting = λ _ _. x.same;
        sev = λ _ _ _ event. x.sev byte event;
        no_event = λ _ _ _ _. x.fails operand_invalid t on is;
        undefined = λ _ _ _. x.fails undef_instr t on is;
      })

      goes : field 0 1 d.dbginst0 ≢ 1 → IsDmago d byte → (nonsecure : Bool) (o : Option Thread) → slice_get d.threads byte ≡ o → P (go ram nonsecure byte o d)
      goes off dmago nonsecure None is = x.manager off _ (λ _. refl)
      goes off dmago nonsecure (Some t) is =
          go_cases ram nonsecure byte t d
          (record { refused = λ _. x.manager off _ (λ _. refl); starts = λ _ stopped. x.starts byte t nonsecure (inr (off, dmago)) stopped is; busy = λ _ _. x.same })

      managed : field 0 1 d.dbginst0 ≢ 1 → P (by_manager ram opcode byte d)
      managed off = manager_cases ram opcode byte d (record {
        kill = λ _. x.manager off _ (killed_ftrd d.manager);
        faulting = λ _ _. x.same;
        sev = λ _ _ _ event. x.sev byte event;
        no_event = λ _ _ _ _. x.manager off _ (λ _. refl);
        secure = λ _ _ _ is. goes off (inl (eqb-true opcode 0xA0 is), refl) false (slice_get d.threads byte) refl;
        nonsecure = λ _ _ _ _ is. goes off (inr (eqb-true opcode 0xA2 is), refl) true (slice_get d.threads byte) refl;
        undefined = λ _ _ _ _ _. x.manager off _ (λ _. refl);
      })

  -- after a write of a register
  pub record WriteCases (ram : List Piece) (at value : ℕ) (d : DeviceValue) : Type 0 where
    pub inten : P (record d { inten = bit_and value (all_events d) })
    pub intclr : (at == offset.intclr) ≡ true → P (cleared_by value d)
    pub dbgcmd : (at == offset.dbgcmd) ≡ true → (value % 4 == 0) ≡ true → P (debugged ram d)
    pub dbginst0 : P (record d { dbginst0 = value })
    pub dbginst1 : P (record d { dbginst1 = value })
    pub other : P d

  pub write_cases : (ram : List Piece) (at value : ℕ) (d : DeviceValue) → WriteCases ram at value d → P (written ram at value d)
  write_cases ram at value d x = grind arith
