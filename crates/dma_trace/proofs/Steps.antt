-- The steps of a trace.
use Rattle.std.proofs.Common.{◌≡◌, ℕ, ◌+◌, ◌-◌, ◌<◌, Bool, true, List, [], ◌∷◌, ◌++◌, length, take, drop, map, replicate}
use Rattle.std.proofs.Common.{Option, Some, None, Result, refl, sym, ap, ◌∙◌, arith, inl, inr}
use Rattle.std.specs.Prelude.{IfOk, IsSome, OnOk}
use Rattle.std.proofs.{Math.Seq.take-append_seam, Math.Seq.drop-append_seam, Math.Seq.drop-drop, lemmas.List.length-replicate}
use Rattle.dma_mem.specs.Regions.{Piece, bytes_above, end_of, image_of, in_order, piece_of, pieces_of, rises_from}
use Rattle.dma_mem.specs.{Marking.MarkList, declared.regions.Region.Region}
use Rattle.dma_mem.proofs.Pieces.{first}
use Rattle.dma_chan.specs.Channel.{last_count}
use Rattle.dma_chan.specs.Stepping.{Machine, TakesSteps, after_step, answer_at}
use Rattle.dma_chan.specs.{declared.turn.ChanTurn.ChanTurn, LentRegions.segment_of}
use Rattle.dma_chan.proofs.{StepsTaken.steps_few, StepsTaken.steps_stop}
use Rattle.dma_trace.specs.Traced.{pieces_in}

-- ---- a call of one step

pub one_step : (marks : MarkList) (s : Machine) (taken : ℕ) (last : Option ChanTurn) (turn : ChanTurn) (after : Machine) → TakesSteps marks s 1 taken last after
    → last ≡ Some turn → (turn ≡ answer_at marks s) × (after ≡ after_step marks s)
one_step x0 x1 x2 x3 x4 x5 x6 x7 = grind (arith, sym, arith, steps_few)

never_none : (marks : MarkList) (s : Machine) (taken : ℕ) (last : Option ChanTurn) (after : Machine) → TakesSteps marks s 1 taken last after → last ≡ None
    → s.channel.taken < last_count → ⊥
never_none x0 x1 x2 x3 x4 x5 x6 x7 = grind (arith, arith, steps_stop, inl, inr, refl, true, sym, ap)

some_if : {X : Type 0} (o : Option X) → (o ≡ None → ⊥) → IsSome o
some_if x0 x1 = grind (arith, refl)

pub some_last : (marks : MarkList) (s : Machine) (taken : ℕ) (last : Option ChanTurn) (after : Machine) → TakesSteps marks s 1 taken last after
    → s.channel.taken < last_count → IsSome last
some_last marks s taken last after t less = some_if last (λ e. never_none marks s taken last after t e less)

-- what holds of each result that isn't an error
pub on_ok : {E : Type 0} (r : Result Bool E) (P Q : Bool → Type 0) (R : Type 0) → ((b : Bool) → P b → R → Q b) → IfOk r P → OnOk r R → IfOk r Q
on_ok x0 x1 x2 x3 x4 x5 x6 = grind (arith)

-- ---- memory

above : (at : ℕ) (rs : List Region) (image : List ℕ) → rises_from at (pieces_of rs) ≡ true → drop at image ≡ bytes_above at (pieces_of rs)
    → pieces_of rs ≡ pieces_in (map segment_of rs) image
above at [] image h e = refl
above at (r ∷ rs) image h e =
    let p = piece_of r in
    let ps = pieces_of rs in
    let f = first at p ps h in
    let after = f.after in
    let rest = bytes_above (end_of p) ps in
    let pad : List ℕ = replicate (p.addr - at) 0 in
    let padded : length pad ≡ p.addr - at = length-replicate (p.addr - at) 0 in
    let from : drop p.addr image ≡ p.bytes ++ rest =
    ap (λ (n : ℕ). drop n image) (let n : p.addr ≡ at + (p.addr - at) = omega arith in n)
    ∙ sym (drop-drop (p.addr - at) at image)
    ∙ ap (drop (p.addr - at)) e
    ∙ ap (λ (n : ℕ). drop n (pad ++ (p.bytes ++ rest))) (sym padded)
    ∙ drop-append_seam pad (p.bytes ++ rest) in
    let here : p.bytes ≡ take (length p.bytes) (drop p.addr image) = sym (ap (take (length p.bytes)) from ∙ take-append_seam p.bytes rest) in
    let behind : drop (end_of p) image ≡ rest = sym (drop-drop (length p.bytes) p.addr image) ∙ ap (drop (length p.bytes)) from
    ∙ drop-append_seam p.bytes rest in
    ap (λ (xs : List ℕ). let q : Piece = record { addr = r.addr; bytes = xs } in q ∷ ps) here
    ∙ ap (λ (qs : List Piece). let q : Piece = record { addr = r.addr; bytes = take (length r.bytes.now) (drop r.addr image) } in q ∷ qs)
    (above (end_of p) rs image f.rest behind)

-- regions in order have their memory's bytes at their places
pub pieces_are : (rs : List Region) → in_order (pieces_of rs) ≡ true → pieces_of rs ≡ pieces_in (map segment_of rs) (image_of (pieces_of rs))
pieces_are rs h = above 0 rs (image_of (pieces_of rs)) h refl
