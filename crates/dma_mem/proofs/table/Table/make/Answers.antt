use Rattle.std.proofs.Common.{◌≡◌, ◌+◌, ◌*◌, ◌/◌, ◌<◌, length, max, ap, ◌∙◌, arith}
use Rattle.std.proofs.{lemmas.Result.err_from_is_err_and}
use Rattle.dma_mem.specs.inner.ChunkTable.{chunk_at}
use Rattle.dma_mem.proofs.table.Table.make.Goals as goal

pub returns-in_err-make_chunk-clause-short : goal.returns-in_err-make_chunk-clause-short
returns-in_err-make_chunk-clause-short c =
    let p = err_from_is_err_and c.from_residual.result c.from_residual.ensures.1 in
    let number = c.loop-number.number in
    let first = max c.args.start (16384 * number) in
    let below : 16384 * number < c.args.end = omega (arith, c.loop-number-test.true, c.if-start-end.false) in
    let high : c.args.start < 16384 * number + 16384 = omega (arith, c.loop-number.invariant.from) in
    let on : first / 16384 ≡ number = omega arith in
    let none : length (chunk_at c.make_chunk.new.self (first / 16384)) ≡ 0 = ap (λ q. length (chunk_at c.make_chunk.new.self q)) on
    ∙ ap (λ x. length (chunk_at x number)) c.in_err-make_chunk.ensures.err ∙ c.in_err-make_chunk.ensures.short in
    rw p.1 (first, omega arith, omega (arith, c.if-start-end.false), none)
