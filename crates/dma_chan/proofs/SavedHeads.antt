-- The fields of a head that is read are those of the head that was written.
use Rattle.std.proofs.Common.{◌≡◌, ℕ, ◌<◌, ◌^◌, Bool, not, eqb, List, ◌++◌, get_or, drop, refl, subst, sym, arith}
use Rattle.std.proofs.lemmas.Nat.{from_le_bytes-to_le_bytes_2, from_le_bytes-to_le_bytes_4, from_le_bytes-to_le_bytes_8}
use Rattle.std.specs.Prelude.{Option, is_some, unwrap_or, IfSome}
use Rattle.std.specs.Int.{w16, w32, w64, from_le_bytes}
use Rattle.dma_insn.specs.ControlWord.{flag}
use Rattle.dma_chan.specs.{declared.save.head.Head.Head, Saved.head_bytes, Saved.register_bytes, inner.Saves.HasHeadRanges}

-- The bytes have a head's fields at their offsets.
pub record HasFieldsOf (h : Head) (bytes : List ℕ) : Type 0 where
  pub pc : from_le_bytes w32 (drop 8 bytes) ≡ h.registers.pc
  pub sar : from_le_bytes w32 (drop 12 bytes) ≡ h.registers.sar
  pub dar : from_le_bytes w32 (drop 16 bytes) ≡ h.registers.dar
  pub ccr : from_le_bytes w32 (drop 20 bytes) ≡ h.registers.ccr
  pub lc0 : get_or bytes 24 0 ≡ h.registers.lc0
  pub lc1 : get_or bytes 25 0 ≡ h.registers.lc1
  pub taken : from_le_bytes w32 (drop 26 bytes) ≡ h.taken
  pub stored : from_le_bytes w64 (drop 30 bytes) ≡ h.stored
  pub is_loaded : get_or bytes 38 0 ≡ flag h.is_loaded
  pub has_cost : get_or bytes 39 0 ≡ flag (is_some h.cost)
  pub cost : from_le_bytes w32 (drop 40 bytes) ≡ unwrap_or h.cost 0
  pub buffer_len : from_le_bytes w16 (drop 44 bytes) ≡ h.buffer_len
  pub program_len : from_le_bytes w16 (drop 46 bytes) ≡ h.program_len

cost_in_range : (cost : Option ℕ) → IfSome cost (λ n. n < 2 ^ 32) → unwrap_or cost 0 < 2 ^ 32
cost_in_range cost h = grind (arith)

written : (h : Head) (rest : List ℕ) → HasHeadRanges h → HasFieldsOf h (head_bytes h ++ rest)
unfolding head_bytes register_bytes
written h rest r = record {
  pc = from_le_bytes-to_le_bytes_4 h.registers.pc r.registers.pc;
  sar = from_le_bytes-to_le_bytes_4 h.registers.sar r.registers.sar;
  dar = from_le_bytes-to_le_bytes_4 h.registers.dar r.registers.dar;
  ccr = from_le_bytes-to_le_bytes_4 h.registers.ccr r.registers.ccr;
  lc0 = refl;
  lc1 = refl;
  taken = from_le_bytes-to_le_bytes_4 h.taken r.taken;
  stored = from_le_bytes-to_le_bytes_8 h.stored r.stored;
  is_loaded = refl;
  has_cost = refl;
  cost = from_le_bytes-to_le_bytes_4 (unwrap_or h.cost 0) (cost_in_range h.cost r.cost);
  buffer_len = from_le_bytes-to_le_bytes_2 h.buffer_len r.buffer_len;
  program_len = from_le_bytes-to_le_bytes_2 h.program_len r.program_len;
}

-- Bytes that begin with a head have its fields.
pub head_fields : (h : Head) (rest bytes : List ℕ) → HasHeadRanges h → bytes ≡ head_bytes h ++ rest → HasFieldsOf h bytes
head_fields h rest bytes r e = subst (HasFieldsOf h) (sym e) (written h rest r)

-- A flag's byte is read as the flag.
pub flag_back : (b : Bool) → not (eqb (flag b) 0) ≡ b
flag_back b = grind (arith)
