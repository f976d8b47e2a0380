use Rattle.std.proofs.Common.{arith}
use Rattle.std.proofs.Common.{rules, ◌≡◌, ◌||◌, ◌∙◌, ap, sym}
use Rattle.dma_mem.specs.Places.{destinations, places, range_of, share, sources}
use Rattle.dma_mem.proofs.TransferRules.{sources_share}
use Rattle.dma_engine.proofs.ConflictsByRanges.{or_first, or_second, read_way, start_way, write_way}
use Rattle.dma_engine.proofs.access.Access.conflicts_with.Goals as goal
use Rattle.dma_engine.proofs.access.Access.conflicts_with.Goals.{then-meets_any, else-meets_any}

pub returns-then-meets : goal.returns-then-meets
returns-then-meets c =
    let r = c.args.ranges.now in
    let range = c.in-Write.range in
    let is = or_first c.meets.result _ (share (range_of range) (places r.sources)) c.meets.ensures c.if-meets.true in
    rw c.in-Write.is (λ t h. write_way r t range c.meets.result h is)

pub returns-else-meets : goal.returns-else-meets
returns-else-meets c =
    let r = c.args.ranges.now in
    let range = c.in-Write.range in
    let is = or_second c.meets.result c.meets-else-meets.result _ _ c.meets.ensures c.if-meets.false c.meets-else-meets.ensures in
    rw c.in-Write.is (λ t h. write_way r t range c.meets-else-meets.result h is)

pub returns-in-Read : goal.returns-in-Read
returns-in-Read c = rw c.in-Read.is (λ t h. search (rules, read_way c.args.ranges.now t c.in-Read.range))

pub returns-then-meets_any-2 : goal.returns-then-meets_any-2
returns-then-meets_any-2 c =
    let r = c.args.ranges.now in
    let other = c.in-Start.transfer.now in
    let first : c.meets_any.result ≡ share (destinations other) (places r.destinations) = c.meets_any.ensures
    ∙ ap (λ l. share (places l) (places r.destinations)) c.dst.ensures.segments in
    let writes : c.if-meets_any.value ≡ (share (destinations other) (places r.destinations) || share (destinations other) (places r.sources)) =
    elim c.if-meets_any.branch [
      | then-meets_any w ↦ w.value-is ∙ or_first c.meets_any.result _ _ first w.if-meets_any.true
      | else-meets_any w ↦ w.value-is
          ∙ or_second c.meets_any.result _ _ _ first w.if-meets_any.false
          (w.meets_any-else-meets_any.ensures ∙ ap (λ l. share (places l) (places r.sources)) w.dst-else-meets_any.ensures.segments)
    ] in
    let is = or_first c.if-meets_any.value _ (share (sources other) (places r.destinations)) writes c.if-meets_any-2.true in
    rw c.in-Start.is (λ t h. start_way r t other c.if-meets_any.value h is)

pub returns-else-meets_any-2 : goal.returns-else-meets_any-2
returns-else-meets_any-2 c =
    let r = c.args.ranges.now in
    let other = c.in-Start.transfer.now in
    let first : c.meets_any.result ≡ share (destinations other) (places r.destinations) = c.meets_any.ensures
    ∙ ap (λ l. share (places l) (places r.destinations)) c.dst.ensures.segments in
    let writes : c.if-meets_any.value ≡ (share (destinations other) (places r.destinations) || share (destinations other) (places r.sources)) =
    elim c.if-meets_any.branch [
      | then-meets_any w ↦ w.value-is ∙ or_first c.meets_any.result _ _ first w.if-meets_any.true
      | else-meets_any w ↦ w.value-is
          ∙ or_second c.meets_any.result _ _ _ first w.if-meets_any.false
          (w.meets_any-else-meets_any.ensures ∙ ap (λ l. share (places l) (places r.sources)) w.dst-else-meets_any.ensures.segments)
    ] in
    let listed : c.meets_any-else-meets_any-2.result ≡ share (places other.src) (places r.destinations) = grind (arith) in
    let reads : c.meets_any-else-meets_any-2.result ≡ share (sources other) (places r.destinations) = listed
    ∙ sym (sources_share other (places r.destinations) c.src.ensures.rules) in
    let is = or_second c.if-meets_any.value c.meets_any-else-meets_any-2.result _ _ writes c.if-meets_any-2.false reads in
    rw c.in-Start.is (λ t h. start_way r t other c.meets_any-else-meets_any-2.result h is)
