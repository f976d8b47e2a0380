use Rattle.std.proofs.Common.{◌≡◌, ◌/◌, ◌%◌, ◌+◌, List, ℕ, length, get_or, take, drop, replicate, ◌-◌, ◌<◌, ap, sym, ◌∙◌, arith}
use Rattle.std.proofs.lemmas.Bool.{eqb-false, eqb-true}
use Rattle.std.proofs.lemmas.List.{drop-replicate, get_or_past, length-replicate, take-replicate}
use Rattle.dma_mem.specs.Image.{put, bytes_at}
use Rattle.dma_mem.specs.inner.ChunkTable.{chunk_at}
use Rattle.dma_mem.proofs.ChunkTables.{zero_at}
use Rattle.dma_mem.proofs.ChunkChanges.{HasCopy, chunk_in_group, within_group, within_taken, replaced, put_back, lengths_kept, has_copy, block_copied}
use Rattle.dma_mem.proofs.table.Table.copy_in_chunks.Goals as goal
use Rattle.dma_mem.proofs.table.Table.copy_in_chunks.Goals.{then-from-number, else-from-number+then-is_empty, else-from-number+else-is_empty}

pub replace-chunk-requires : goal.replace-chunk-requires
replace-chunk-requires c = grind (arith, within_group)

pub replace-requires : goal.replace-requires
replace-requires c = grind (arith, within_taken)

pub copy_apart-requires-clause-made : goal.copy_apart-requires-clause-made
copy_apart-requires-clause-made c =
    rw (c.replace-chunk.ensures.old ∙ chunk_in_group c.self.inside.groups.items c.args.self.now (c.args.to / 16384) c.index_mut.result.now c.self.view_is
    c.requires.made c.index_mut.ensures.value) c.requires.made

pub fill-requires-clause-made : goal.fill-requires-clause-made
fill-requires-clause-made c =
    rw (c.replace-chunk.ensures.old ∙ chunk_in_group c.self.inside.groups.items c.args.self.now (c.args.to / 16384) c.index_mut.result.now c.self.view_is
    c.requires.made c.index_mut.ensures.value) c.requires.made

pub put-requires-clause-made : goal.put-requires-clause-made
put-requires-clause-made c =
    rw (c.replace-chunk.ensures.old ∙ chunk_in_group c.self.inside.groups.items c.args.self.now (c.args.to / 16384) c.index_mut.result.now c.self.view_is
    c.requires.made c.index_mut.ensures.value) c.requires.made

pub returns : goal.returns
returns c =
    let groups = c.self.inside.groups.items in
    let old = c.args.self.now in
    let from = c.args.from in
    let len = c.args.len in
    let n = c.args.to / 16384 in
    let offset = c.args.to % 16384 in
    let chunk = c.if-from-number.chunk in
    let group = c.index_mut.result.now in
    let group_is = c.index_mut.ensures.value in
    let found : c.replace-chunk.result ≡ chunk_at old n = c.replace-chunk.ensures.old
    ∙ chunk_in_group groups old n group c.self.view_is c.requires.made group_is in
    let rest = replaced groups old n group c.self.view_is c.requires.made group_is _ c.new-empty.result c.replace-chunk.ensures.new in
    let change = put_back groups old n group c.self.view_is c.requires.made group_is _ c.index_mut-2.result.now _ _ chunk c.replace-chunk.ensures.new
    c.index_mut-2.ensures.value c.replace.ensures.new in
    let copy : HasCopy old from c.args.to len chunk = elim c.if-from-number.branch [
      | then-from-number w ↦
          let whole = w.copy_apart.ensures.whole in
          let kept = w.copy_apart.ensures.len ∙ ap length found in
          let is = w.copy_apart.ensures.bytes ∙ ap (λ x. put x (bytes_at offset (take len (drop (from % 16384) x)))) found in
          rw w.chunk-is (has_copy old from c.args.to len (chunk_at old n) w.copy_apart.new.self (sym kept ∙ whole)
          (λ k. ap (λ p. get_or (chunk_at old p) k 0) (sym w.if-from-number.true)) c.requires.source whole kept is)
      | else-from-number+then-is_empty w ↦
          let none : length (chunk_at old (from / 16384)) ≡ 0 =
          ap length (sym (w.chunk-source.ensures.bytes ∙ rest.others (from / 16384) w.if-from-number.false))
          ∙ eqb-true (length w.chunk-source.result.now) 0 (sym w.is_empty.ensures ∙ w.if-is_empty.true) in
          let bytes : (k : ℕ) → get_or (replicate 16384 0) k 0 ≡ get_or (chunk_at old (from / 16384)) k 0 = λ k. zero_at 16384 k
          ∙ sym (get_or_past (chunk_at old (from / 16384)) k 0 (omega (arith, none))) in
          let part : replicate len 0 ≡ take len (drop (from % 16384) (replicate 16384 0)) =
          sym (ap (take len) (drop-replicate (from % 16384) 16384 0) ∙ take-replicate len (16384 - from % 16384) 0 (omega (arith, c.requires.source))) in
          let is = w.fill.ensures.bytes ∙ ap (λ x. put x (bytes_at offset (replicate len 0))) found
          ∙ ap (λ bs. put (chunk_at old n) (bytes_at offset bs)) part in
          rw w.chunk-is (has_copy old from c.args.to len (replicate 16384 0) w.fill.new.self (length-replicate {A = ℕ} 16384 0) bytes c.requires.source
          w.fill.ensures.whole (w.fill.ensures.len ∙ ap length found) is)
      | else-from-number+else-is_empty w ↦
          let source = w.chunk-source.result.now in
          let not_none = eqb-false (length source) 0 (sym w.is_empty.ensures ∙ w.if-is_empty.false) in
          let some : 0 < length source = omega (arith, not_none) in
          let bytes : (k : ℕ) → get_or source k 0 ≡ get_or (chunk_at old (from / 16384)) k 0 =
          λ k. ap (λ (xs : List ℕ). get_or xs k 0) (w.chunk-source.ensures.bytes ∙ rest.others (from / 16384) w.if-from-number.false) in
          let count : (from % 16384 + len) - from % 16384 ≡ len = omega arith in
          let part = ap (λ i. take i (drop (from % 16384) source)) count in
          let is = w.put.ensures.bytes ∙ ap (λ x. put x (bytes_at offset (take ((from % 16384 + len) - from % 16384) (drop (from % 16384) source)))) found
          ∙ ap (λ bs. put (chunk_at old n) (bytes_at offset bs)) part in
          rw w.chunk-is (has_copy old from c.args.to len source w.put.new.self (w.chunk-source.ensures.whole some) bytes c.requires.source w.put.ensures.whole
          (w.put.ensures.len ∙ ap length found) is)
    ] in
    record {
      len = lengths_kept old _ n chunk change copy.kept;
      count = change.count;
      image = block_copied old _ from c.args.to len chunk change copy c.requires.within;
    }
