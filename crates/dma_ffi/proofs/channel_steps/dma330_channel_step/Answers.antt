-- The steps were taken over the caller's regions and flags.
use Rattle.std.proofs.Common.{◌≡◌, ◌∙◌, ℕ, Bool, List, Some, ap, inr, refl, subst, sym}
use Rattle.dma_mem.specs.{Flags.flags_of, Regions.image_of, Regions.pieces_of, declared.regions.Region.Region}
use Rattle.dma_chan.specs.{Channel.ChannelValue, Stepping.Machine, Stepping.TakesSteps, Stepping.signal_after, Stepping.written_after}
use Rattle.dma_ffi.specs.{declared.marked_channel.MarkedChannel.MarkedChannel, Channels.Lent, Channels.StepsOver, Channels.marks_over, Channels.channel_report}
use Rattle.dma_ffi.proofs.channel_steps.dma330_channel_step.Goals as goal

abbrev at : ChannelValue → List Region → List Bool → Machine
at c regions flags = record { channel = c; image = image_of (pieces_of regions); flags = flags }

pub returns : goal.returns
returns c =
    let held = rw c.in-Some.is at c.get_mut.ensures.value in
    let taken = c.step_regions-taken in
    let most = c.args.most in
    let regions = c.args.regions.now in
    let m : MarkedChannel = c.in-Some.marked.now in
    let n : MarkedChannel = record m { channel = taken.new.channel } in
    let marks = marks_over m regions in
    let a : Lent = record { channel = c.args.kept.now.channel.value; regions = regions; flags = c.args.flags.now } in
    let b : Lent = record { channel = Some n; regions = taken.new.regions; flags = c.bits.result } in
    let flags : c.from_bits-events.result ≡ flags_of c.args.flags.now = c.from_bits-events.ensures in
    let after : List Bool → Machine = at taken.new.channel taken.new.regions in
    let over : StepsOver a most taken.result c.channel_report.result b m n = record {
      before = sym held;
      after = refl;
      marks = refl;
      usable = sym c.are_usable.ensures ∙ c.if-not-are_usable.false;
      is_loaded = sym c.is_loaded.ensures ∙ c.if-not-is_loaded.false;
      steps = subst (λ (f : List Bool). TakesSteps marks (at m.channel regions f) most taken.result.count taken.result.last (after (flags_of c.bits.result)))
          flags
          (subst (λ (f : List Bool). TakesSteps marks (at m.channel regions c.from_bits-events.result) most taken.result.count taken.result.last (after f))
          (sym c.bits.ensures) taken.ensures.steps);
      signal = subst (λ (f : List Bool). taken.result.signal ≡ signal_after marks (at m.channel regions f) taken.result.count) flags taken.ensures.signal;
      written = subst (λ (f : List Bool). taken.result.written ≡ written_after marks (at m.channel regions f) taken.result.count) flags taken.ensures.written;
      kept = taken.ensures.kept;
      reported = c.channel_report.ensures
          ∙ ap (λ (p : ℕ). channel_report taken.result.count p taken.result.written taken.result.last taken.result.signal) c.pc.ensures;
      regions = record { places = taken.ensures.places; read_only = taken.ensures.read_only; names = taken.ensures.names };
    } in
    inr (inr (inr (refl, (m, n, taken.result, over))))
