use Rattle.std.proofs.lemmas.Grind.{common_steps}
use Rattle.std.proofs.Common.{◌≡◌, true, refl, arith}
use Rattle.std.proofs.{lemmas.Slice.Eq.slice_eq-Decides, lemmas.Bool.Decides.Decides-eqb}
use Rattle.dma_chan.specs.{Channel.on_bus, Saved.head_of}
use Rattle.dma_chan.proofs.SavedParts.{parts_make_channel, rest_of, saved_parts_on, sealed_is_saved}
use Rattle.dma_chan.proofs.save.head.Head.of_save.Goals as goal

pub returns-then-save-lt-HEAD_LEN-clause-only : goal.returns-then-save-lt-HEAD_LEN-clause-only
returns-then-save-lt-HEAD_LEN-clause-only c b w f =
    let parts = saved_parts_on c.args.bus b c.args.save.now w f in
    absurd (omega (arith, parts.fits.total))

pub returns-in_default-clause-only : goal.returns-in_default-clause-only
returns-in_default-clause-only c b w f =
    let d = on_bus c.args.bus b in
    let parts = saved_parts_on c.args.bus b c.args.save.now w f in
    let found = c.in_default.ensures.read (head_of d) (rest_of d) refl parts.ranges parts.rest in
    cc found

pub returns-then-not-has_size-clause-only : goal.returns-then-not-has_size-clause-only
returns-then-not-has_size-clause-only c b w f =
    let d = on_bus c.args.bus b in
    let parts = saved_parts_on c.args.bus b c.args.save.now w f in
    let found = c.in-Some.ensures.read (head_of d) (rest_of d) refl parts.ranges parts.rest in
    let head : c.in-Some.head ≡ head_of d = cc found in
    let fits : c.has_size.result ≡ true = c.has_size.ensures.1 (rw head parts.fits) in
    cc (fits, c.if-not-has_size.true)

pub returns-then-eq-clause-found : goal.returns-then-eq-clause-found
returns-then-eq-clause-found c = grind (arith, slice_eq-Decides, Decides-eqb, sealed_is_saved)

pub returns-then-eq-clause-channel : goal.returns-then-eq-clause-channel
returns-then-eq-clause-channel c = grind (arith, common_steps, parts_make_channel)

pub returns-then-eq-clause-only : goal.returns-then-eq-clause-only
returns-then-eq-clause-only c b w f =
    let d = on_bus c.args.bus b in
    let parts = saved_parts_on c.args.bus b c.args.save.now w f in
    let found = c.in-Some.ensures.read (head_of d) (rest_of d) refl parts.ranges parts.rest in
    let head : c.in-Some.head ≡ head_of d = cc found in
    rw head parts.channel

pub returns-else-eq-clause-only : goal.returns-else-eq-clause-only
returns-else-eq-clause-only c b w f =
    let d = on_bus c.args.bus b in
    let save = c.args.save.now in
    let parts = saved_parts_on c.args.bus b save w f in
    let found = c.in-Some.ensures.read (head_of d) (rest_of d) refl parts.ranges parts.rest in
    let head : c.in-Some.head ≡ head_of d = cc found in
    let same : c.as_slice.result.now ≡ save =
    rw (c.as_slice.ensures.value, c.write-again.ensures.bytes, c.buffer_of.ensures, c.program_of.ensures, head) parts.again in
    cc ((slice_eq-Decides Decides-eqb _ _ _ c.eq.ensures).1 same, c.if-eq.false)
