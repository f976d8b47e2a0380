use Rattle.std.proofs.Common.{◌≡◌, ◌/◌, length, ap, sym, ◌∙◌, arith}
use Rattle.std.proofs.lemmas.Result.{err_from_is_err_and}
use Rattle.dma_mem.specs.Pages.{Paged, has_page}
use Rattle.dma_mem.specs.inner.ChunkTable.{image_of, paged, HasChunks}
use Rattle.dma_mem.proofs.PageImages.{Flagged, image_seen, short_of_flag, short_of_chunk, HasChunks_kept, Keeps_same, Keeps_flagged, AllMade_flagged, MakesNoOther_flagged}
use Rattle.dma_mem.proofs.memory.Memory.make.Goals as goal

pub returns-in_err-make_room-clause-short : goal.returns-in_err-make_room-clause-short
returns-in_err-make_room-clause-short c =
    let p = err_from_is_err_and c.from_residual.result c.from_residual.ensures.1 in
    let m : Paged = paged c.self.inside.size c.self.inside.table c.make_room.new.self in
    rw p.1 (short_of_flag m c.args.segment.addr c.args.segment.len c.div_ceil-page_end.result c.requires.some (omega (arith, c.div_ceil-page_end.ensures))
    (omega (arith, ap length c.in_err-make_room.ensures.err, c.in_err-make_room.ensures.short)))

pub returns-in_err-make-clause-short : goal.returns-in_err-make-clause-short
returns-in_err-make-clause-short c =
    let p = err_from_is_err_and c.from_residual-in_err-make.result c.from_residual-in_err-make.ensures.1 in
    let flags = c.make_room.new.self in
    let m : Paged = paged c.self.inside.size c.make.new.self flags in
    let before : HasChunks flags c.self.inside.table = λ p flag. c.self.invariant.3 p (sym (c.make_room.ensures.flags p) ∙ flag) in
    let has = HasChunks_kept flags c.self.inside.table c.make.new.self before (λ p some. omega (arith, some, ap length (c.make.ensures.kept p some))) in
    rw p.1 (short_of_chunk m c.make.new.self c.args.segment.addr c.args.segment.len has c.in_err-make.ensures.short)

pub returns-in_err-make-clause-image : goal.returns-in_err-make-clause-image
returns-in_err-make-clause-image c =
    image_seen c.self.inside.size c.self.inside.table c.make.new.self c.self.inside.flags c.args.self.now c.self.view_is c.make.ensures.bytes

pub returns-in_err-make-clause-keeps : goal.returns-in_err-make-clause-keeps
returns-in_err-make-clause-keeps c =
    let image : image_of c.self.inside.size c.make.new.self ≡ c.args.self.now.image =
    image_seen c.self.inside.size c.self.inside.table c.make.new.self c.self.inside.flags c.args.self.now c.self.view_is c.make.ensures.bytes in
    Keeps_same c.args.self.now (paged c.self.inside.size c.make.new.self c.make_room.new.self) (ap length image)
    (λ p. c.make_room.ensures.flags p ∙ ap (λ (m : Paged). has_page m p) c.self.view_is)

pub returns : goal.returns
returns c =
    let old = c.args.self.now in
    let new : Paged = paged c.self.inside.size c.make.new.self c.set.new.self in
    let addr = c.args.segment.addr in
    let len = c.args.segment.len in
    let end = c.div_ceil-page_end.result in
    let image : image_of c.self.inside.size c.make.new.self ≡ old.image =
    image_seen c.self.inside.size c.self.inside.table c.make.new.self c.self.inside.flags old c.self.view_is c.make.ensures.bytes in
    let long : length new.image ≡ length old.image = ap length image in
    let flagged : Flagged old.made new.made (addr / 4096) end = record {
      inside = c.set.ensures.inside;
      outside = λ p out. c.set.ensures.outside p out ∙ c.make_room.ensures.flags p ∙ ap (λ (m : Paged). has_page m p) c.self.view_is;
    } in
    record {
      ok = AllMade_flagged old.made new addr len end (omega (arith, long, c.requires.within)) (omega (arith, c.div_ceil-page_end.ensures)) flagged;
      short = tt;
      image = image;
      keeps = Keeps_flagged old new (addr / 4096) end long flagged;
      others = MakesNoOther_flagged old new addr len end c.requires.some (omega (arith, c.div_ceil-page_end.ensures)) flagged;
    }
