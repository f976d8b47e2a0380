-- What tools print is read back.
use Rattle.std.specs.Prelude.{◌≡◌, ℕ, ◌+◌, ◌%◌, ◌^◌, ◌<◌, ◌≤◌, List, Option, Some, None, length, slice_index, false, ◌==◌, ◌||◌, Ok, Err}
use Rattle.dma_manual.specs.{Pasted.Program, Pasted.pasted, declared.pasted.Spelling.TheVariants.Dump}
use Rattle.std.specs.List.{list_any}
use Rattle.dma_text.specs.Lines.{is_all_spaces}
use Rattle.dma_manual.specs.{Forms.size_of, declared.forms.Group.Group, declared.forms.Group.TheVariants.Octal as Octals}
use Rattle.dma_manual.specs.declared.pasted.Refused.TheVariants.{Unsure}
use Rattle.dma_manual.specs.Printed.{gdb_x, hexdump, hexdump_canonical, md, objdump, od, parts, xxd}

-- A program that is read is these bytes; one that is refused is refused as doubtful, and not for a fault.
abbrev pub IsOrUnsure : List ℕ → Program → Type 0
IsOrUnsure bytes (Ok read) = read.1 ≡ bytes
IsOrUnsure bytes (Err (Unsure doubt)) = Unit {0}
IsOrUnsure bytes (Err fault) = ⊥

-- Bytes of which a dump is read: at least one, and at most 1 MiB.
pub record IsDumped (bytes : List ℕ) : Type 0 where
  pub some : 0 < length bytes
  pub most : length bytes ≤ 1048576
  pub each : (k : ℕ) → slice_index bytes k < 256

-- What `hexdump -v` prints of bytes, with `-C` or without, is read back.
abbrev pub HexdumpIsReadBack : Type 0
HexdumpIsReadBack =
    (bytes : List ℕ) → IsDumped bytes → IsOrUnsure bytes (pasted Dump (hexdump_canonical bytes)) × IsOrUnsure bytes (pasted Dump (hexdump bytes))

-- What `od -v` prints of bytes is read back, with octal, decimal or hexadecimal offsets and groups of any size.
abbrev pub OdIsReadBack : Type 0
OdIsReadBack =
    (group : Group) (bytes : List ℕ) → IsDumped bytes
    → IsOrUnsure bytes (pasted Dump (od 8 7 group bytes)) × IsOrUnsure bytes (pasted Dump (od 10 7 group bytes))
    × IsOrUnsure bytes (pasted Dump (od 16 6 group bytes))

-- What `xxd -g` prints of bytes is read back, whatever the size of groups.
abbrev pub XxdIsReadBack : Type 0
XxdIsReadBack = (size : ℕ) (bytes : List ℕ) → 0 < size → IsDumped bytes → IsOrUnsure bytes (pasted Dump (xxd size bytes))

-- whether `md` has groups of this kind; an octal one is none of its groups
abbrev pub IfHex : Group → Type 0 → Type 0
IfHex Octals claim = Unit {0}
IfHex group claim = claim

-- What `md` prints of whole groups below 2 ^ 32 is read back, with two spaces before the characters or more.
abbrev pub MdIsReadBack : Type 0
MdIsReadBack =
    (gap : ℕ) (group : Group) (at : ℕ) (bytes : List ℕ) → IsDumped bytes → length bytes % size_of group ≡ 0 → at + length bytes ≤ 2 ^ 32
    → IfHex group (IsOrUnsure bytes (pasted Dump (md gap group at bytes)))

-- A symbol's name has no line feed and no colon.
abbrev pub IsSymbol : Option (List ℕ) → Type 0
IsSymbol None = Unit {0}
IsSymbol (Some name) = list_any (λ b. b == 10 || b == 58) name ≡ false

-- What gdb's `x` prints of whole groups below 2 ^ 64 is read back, with symbols or without.
abbrev pub GdbIsReadBack : Type 0
GdbIsReadBack =
    (group : Group) (symbol : ℕ → Option (List ℕ)) (at : ℕ) (bytes : List ℕ) → ((a : ℕ) → IsSymbol (symbol a)) → IsDumped bytes
    → length bytes % size_of group ≡ 0 → at + length bytes ≤ 2 ^ 64 → IfHex group (IsOrUnsure bytes (pasted Dump (gdb_x group symbol at bytes)))

-- What `objdump -s` prints of a section is read back, unless a line has only spaces: such a line is refused. Its
-- addresses have four to eight digits, and its name has no line feed.
abbrev pub ObjdumpIsReadBack : Type 0
ObjdumpIsReadBack =
    (name bytes : List ℕ) (at : ℕ) → IsDumped bytes → list_any (λ b. b == 10) name ≡ false → list_any is_all_spaces (parts 16 bytes) ≡ false
    → (at + length bytes ≤ 2 ^ 16 → IsOrUnsure bytes (pasted Dump (objdump 4 name at bytes)))
    × (at + length bytes ≤ 2 ^ 20 → IsOrUnsure bytes (pasted Dump (objdump 5 name at bytes)))
    × (at + length bytes ≤ 2 ^ 24 → IsOrUnsure bytes (pasted Dump (objdump 6 name at bytes)))
    × (at + length bytes ≤ 2 ^ 28 → IsOrUnsure bytes (pasted Dump (objdump 7 name at bytes)))
    × (at + length bytes ≤ 2 ^ 32 → IsOrUnsure bytes (pasted Dump (objdump 8 name at bytes)))
