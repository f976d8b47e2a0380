use Rattle.std.proofs.Common.{◌≡◌, [], ◌∷◌, ◌++◌, drop, ap, sym, ◌∙◌}
use Rattle.dma_work.specs.inner.Published.{PublishedList}
use Rattle.dma_work.proofs.PublishedRule.{later_self}
use Rattle.dma_work.proofs.publisher.Publisher.new.Goals as goal

pub shown-writer-requires : goal.shown-writer-requires
shown-writer-requires g c =
    let w = c.append.new.self in
    let p : PublishedList = w.desk.shown.value in
    let shown : p ≡ c.new-first.result = ap (λ d. d.shown.value) c.in-Ok-append.ensures.desk ∙ c.in-Ok.ensures.0 in
    let one : drop w.behind w.log.items ≡ p ∷ [] =
    c.in-Ok-append.ensures.pending ∙ ap (λ l. l ++ c.copy-same.result ∷ []) c.in-Ok.ensures.1
    ∙ ap (λ (x : PublishedList). x ∷ []) (c.copy-same.ensures ∙ sym shown) in
    (p, one, later_self p)
