use Rattle.std.proofs.Common.{◌-◌, rules}
use Rattle.dma_manual.specs.{Listing.comment_text, Listing.indented, Listing.remarks_of, Insns.spelling}
use Rattle.dma_manual.proofs.Listings.{line_joined}
use Rattle.dma_manual.proofs.listing.push_line.Goals as goal

pub returns-clause-ok : goal.returns-clause-ok
returns-clause-ok c =
    line_joined c.push_comment.result c.args.out.now.items (indented c.args.labels.now c.args.offset c.args.insn.now) c.push_indented.new.out.items
    c.push_comment.new.out.items
    (c.len.result - c.len-start.result)
    (λ width. comment_text width c.args.at c.args.offset (spelling c.args.insn.now) (remarks_of c.args.labels.now c.args.at c.args.offset c.args.insn.now))
    c.in_ok-push_indented.ensures.ok (search rules)
    (rw (c.requires, c.remarks_of-remarks.ensures) at c.push_comment.ensures.ok)
