use Rattle.std.proofs.Common.{rules, sym, ◌∙◌, ◌≡◌, ◌||◌}
use Rattle.std.specs.Prelude.{not}
use Rattle.dma_mem.specs.Refusals.{meets_any}
use Rattle.dma_mem.proofs.{SharedPlaces.is_free_of_iff, TransferRules.is_free_of_lists}
use Rattle.dma_mem.proofs.transfer.Transfer.is_free_of.Goals as goal

pub returns-then-not-meets_any-2 : goal.returns-then-not-meets_any-2
returns-then-not-meets_any-2 c =
    let t = c.args.self.now in
    let u = c.args.other.now in
    let e : not c.meets_any-then-not-meets_any-2.result ≡ not (meets_any t.dst u.dst || (meets_any t.dst u.src || meets_any t.src u.dst)) = search rules in
    let value = e ∙ sym (is_free_of_lists t u c.dst.ensures.rules c.dst-2.ensures.rules) in
    record { value = value; fact = is_free_of_iff t u _ value }

pub returns-else-not-meets_any-2 : goal.returns-else-not-meets_any-2
returns-else-not-meets_any-2 c =
    let t = c.args.self.now in
    let u = c.args.other.now in
    let e : c.if-not-meets_any.value ≡ not (meets_any t.dst u.dst || (meets_any t.dst u.src || meets_any t.src u.dst)) = search rules in
    let value = e ∙ sym (is_free_of_lists t u c.dst.ensures.rules c.dst-2.ensures.rules) in
    record { value = value; fact = is_free_of_iff t u _ value }
