-- Which instructions of a program load and store an address (profile). DMASTZ stores too.
use Rattle.std.specs.Prelude.{ℕ, zero, suc, ◌+◌, ◌-◌, ◌++◌, ◌&&◌, nat_le, nat_lt, Bool, List, [], Option, Some, None, Result, Ok, Err, if◌then◌else◌, codes}
use Rattle.std.specs.Prelude.{decimal}
use Rattle.std.specs.Option.{option_and, option_or}
use Rattle.dma_text.specs.Digits.{hex_digits}
use Rattle.dma_insn.specs.declared.chip.ChipInsn.{ChipInsn}
use Rattle.dma_insn.specs.declared.chip.ChipInsn.TheVariants.{Ld, St, StoreZeros}
use Rattle.dma_chan.specs.Exec.{destination_of, source_of}
use Rattle.dma_chan.specs.{declared.exec.Registers.Registers, declared.turn.FaultKind.FaultKind, declared.bursts.Burst.Burst, Bursts.span_of}
use Rattle.dma_explain.specs.{declared.explain.Cause.Cause, declared.explain.Cause.TheVariants.StoresTwice, declared.explain.Cause.TheVariants.StoresSource}
use Rattle.dma_explain.specs.{Explains.next_in, Explains.traced}
use Rattle.dma_trace.specs.{declared.touches.Access.Access, declared.touches.Touches.Touches, Words.offset_text}

-- Returns whether a burst touches an address.
abbrev pub has_addr : Burst → ℕ → Bool
has_addr b a = nat_le b.addr a && nat_lt (a - b.addr) (span_of b)

-- No instruction loads or stores the address.
abbrev pub untouched : Touches
untouched = record { load = None; store = None; second_store = None }

-- Adds a load.
abbrev pub with_load : Access → Touches → Touches
with_load access t = record t { load = option_or t.load (Some access) }

-- Adds a store, which is the second one if there was one before.
abbrev pub with_store : Access → Touches → Touches
with_store access t = record t {
  store = option_or t.store (Some access);
  second_store = option_and t.store (option_or t.second_store (Some access));
}

-- Adds a store by instruction number n, if it touches the address.
abbrev pub after_store : ℕ → ℕ → Registers → Touches → Touches
after_store a n r t = if has_addr (destination_of r) a then with_store (record { number = n; pc = r.pc }) t else t

-- Adds instruction number n, by the registers before it.
abbrev pub after_touch : ChipInsn → ℕ → ℕ → Registers → Touches → Touches
after_touch Ld a n r t = if has_addr (source_of r) a then with_load (record { number = n; pc = r.pc }) t else t
after_touch St a n r t = after_store a n r t
after_touch StoreZeros a n r t = after_store a n r t
after_touch i a n r t = t

-- Adds an instruction that was fetched. A fault adds nothing.
abbrev pub after_next : Result ChipInsn FaultKind → ℕ → ℕ → Registers → Touches → Touches
after_next (Ok i) a n r t = after_touch i a n r t
after_next (Err kind) a n r t = t

-- Finds the first load of an address and its first two stores among the first n instructions of a program that begins
-- with these registers.
abbrev pub touches_in : Registers → List ℕ → ℕ → ℕ → Touches
touches_in start program a zero = untouched
touches_in start program a (suc n) =
    let x = traced start program n in
    after_next (next_in program x) a (n + 1) x.registers (touches_in start program a n)

-- ---- text

-- Prints the instruction of an access, as in `instruction 6 at offset 0x0015`, or that there is none.
abbrev pub access_text : Option Access → List ℕ
access_text (Some access) =
    codes "instruction " ++ decimal access.number ++ (codes " at offset " ++ offset_text access.pc)
access_text None = codes "no instruction"

-- Prints the address at which a byte is stored twice, with the first two instructions that store it; or the address at
-- which a byte is stored where one is loaded, with the first instruction that loads it and the first one that stores
-- it. Prints nothing for any other cause.
unfoldable pub conflict_text : Cause → ℕ → Touches → List ℕ
conflict_text StoresTwice a t =
    (codes ": 0x" ++ hex_digits a) ++ (codes ", by " ++ access_text t.store)
    ++ (codes " and by " ++ access_text t.second_store)
conflict_text StoresSource a t =
    (codes ": 0x" ++ hex_digits a) ++ (codes ", loaded by " ++ access_text t.load)
    ++ (codes ", stored by " ++ access_text t.store)
conflict_text cause a t = []
