-- The offsets of registers (DMA-330 manual, register summary): FTR n is at 4n from `ftr`, CSR n and CPC n are at 8n from
-- `csr`, and SAR n to LC1 n from 0x20n after `sar` on.
use Rattle.std.specs.Prelude.{ℕ}

abbrev pub dsr : ℕ
dsr = 0x000

abbrev pub inten : ℕ
inten = 0x020

abbrev pub int_event_ris : ℕ
int_event_ris = 0x024

abbrev pub intmis : ℕ
intmis = 0x028

abbrev pub intclr : ℕ
intclr = 0x02C

abbrev pub fsrd : ℕ
fsrd = 0x030

abbrev pub fsrc : ℕ
fsrc = 0x034

abbrev pub ftrd : ℕ
ftrd = 0x038

abbrev pub ftr : ℕ
ftr = 0x040

abbrev pub csr : ℕ
csr = 0x100

abbrev pub sar : ℕ
sar = 0x400

abbrev pub dbgstatus : ℕ
dbgstatus = 0xD00

abbrev pub dbgcmd : ℕ
dbgcmd = 0xD04

abbrev pub dbginst0 : ℕ
dbginst0 = 0xD08

abbrev pub dbginst1 : ℕ
dbginst1 = 0xD0C

abbrev pub cr0 : ℕ
cr0 = 0xE00

abbrev pub cr1 : ℕ
cr1 = 0xE04

abbrev pub cr3 : ℕ
cr3 = 0xE0C

abbrev pub crd : ℕ
crd = 0xE14
