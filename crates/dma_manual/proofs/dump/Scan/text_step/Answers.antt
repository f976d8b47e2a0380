use Rattle.std.proofs.Common.{◌≡◌, ◌≢◌, ℕ, ◌+◌, List, true, false, arith, ap, if◌then◌else◌, length, slice_get, Err, ◌∙◌}
use Rattle.std.proofs.lemmas.Grind.{elements}
use Rattle.std.specs.Prelude.{nat_lt}
use Rattle.dma_manual.specs.Dump.{at_place, shows, text_end, text_step}
use Rattle.dma_manual.specs.declared.dump.Cause.TheVariants as causes
use Rattle.dma_manual.specs.declared.dump.Place.TheVariants as places
use Rattle.dma_manual.specs.{declared.dump.Scan.Scan, declared.forms.Form.Form}
use Rattle.dma_manual.proofs.dump.Scan.text_step.Goals as goal

-- the byte shows what is next in the line, or doesn't
step_shown : (form : Form) (s : Scan) (line : List ℕ) (k b n : ℕ) → b ≢ 10 → shows form (slice_get line k) b ≡ true
    → n ≡ (if nat_lt k (length line) then k + 1 else k) → at_place s (places.Text n) ≡ text_step form s line k b
step_shown form s line k b n other is at = grind arith

step_bad : (form : Form) (s : Scan) (line : List ℕ) (k b : ℕ) → b ≢ 10 → shows form (slice_get line k) b ≡ false → Err causes.Text ≡ text_step form s line k b
step_bad form s line k b other is = grind arith

pub returns-then-byte-eq10 : goal.returns-then-byte-eq10
returns-then-byte-eq10 c = rw c.if-byte-eq10.true (c.text_end.ensures ∙ ap (text_end c.args.self) c.behind.ensures)

pub returns-then-not-is_next : goal.returns-then-not-is_next
returns-then-not-is_next c =
    let is : shows c.args.form (slice_get c.args.line.now c.args.shown) c.args.byte ≡ false = grind (arith, elements) in
    step_bad c.args.form c.args.self c.args.line.now c.args.shown c.args.byte c.if-byte-eq10.false is

pub returns : goal.returns
returns c =
    let k = c.args.shown in
    let line = c.args.line.now in
    let is : shows c.args.form (slice_get line k) c.args.byte ≡ true = grind (arith, elements) in
    let to : c.if-shown-line.shown ≡ (if nat_lt k (length line) then k + 1 else k) = grind arith in
    c.at.ensures ∙ step_shown c.args.form c.args.self line k c.args.byte c.if-shown-line.shown c.if-byte-eq10.false is to
