-- Traces and amounts with the same parts are the same.
use Rattle.std.proofs.Common.{arith}
use Rattle.std.proofs.Common.{◌≡◌, ℕ, List, ap, ◌∙◌}
use Rattle.dma_mem.specs.declared.segment.Segment.{Segment}
use Rattle.dma_chan.specs.declared.exec.Registers.{Registers}
use Rattle.dma_explain.specs.{declared.explain.Amounts.Amounts, declared.explain.Repeated.Repeated, Explains.Trace, Items.Items}

abbrev pub parts : Registers → List ℕ → List ℕ → List ℕ → Trace
parts r loads stores zeros = record { registers = r; loads = loads; stores = stores; zeros = zeros }

pub same_parts : {r q : Registers} {ls ms ss ts zs ws : List ℕ} → r ≡ q → ls ≡ ms → ss ≡ ts → zs ≡ ws → parts r ls ss zs ≡ parts q ms ts ws
same_parts {r} {q} {ls} {ms} {ss} {ts} {zs} {ws} registers loads stores zeros = grind arith

abbrev pub amounts : ℕ → ℕ → Amounts
amounts copied cleared = record { copied = copied; cleared = cleared }

pub same_amounts : {m n i j : ℕ} → m ≡ n → i ≡ j → amounts m i ≡ amounts n j
same_amounts {m} {n} {i} {j} copied cleared = ap (λ (k : ℕ). amounts k i) copied ∙ ap (λ (k : ℕ). amounts n k) cleared

abbrev pub lists : List Repeated → List Segment → List Segment → Items
lists reads writes zeros = record { reads = reads; writes = writes; zeros = zeros }

pub same_lists : {rs qs : List Repeated} {ss ts zs ws : List Segment} → rs ≡ qs → ss ≡ ts → zs ≡ ws → lists rs ss zs ≡ lists qs ts ws
same_lists {rs} {qs} {ss} {ts} {zs} {ws} reads writes zeros = grind arith
