-- Accesses in a row make what `run` gives.
use Rattle.std.proofs.Common.{◌≡◌, ◌∙◌, ℕ, zero, suc, ◌+◌, ◌-◌, ◌≤◌, List, [], ◌∷◌, ◌++◌, length, map, ap, refl, sym, arith}
use Rattle.std.specs.Prelude.{replicate}
use Rattle.std.proofs.lemmas.List.{drop_at, length-replicate, take_at}
use Rattle.dma_mem.specs.Regions.{bytes_above, end_of, image_of, piece_of, pieces_of, read_only_of}
use Rattle.dma_mem.specs.{declared.regions.Region.Region, declared.segment.Segment.Segment}
use Rattle.dma_chan.specs.LentRegions.{segment_of}
use Rattle.dma_device.specs.Accesses.{Access, Answer, AreAlike, Does, Happen, Turned}
use Rattle.dma_device.specs.Run.{LentDevice, RunsStepByStep, StaysLent, lent_device, next, put_from, ram_of, run, turned_on, with_image}
use Rattle.dma_device.specs.{declared.device.turns.Turn.Turn, Device.DeviceValue, Turns.TakesTurn}

-- ---- the pieces of a memory

-- regions at the same places have the bytes of their image
pub put_is : (at : ℕ) (rs qs : List Region) → map segment_of qs ≡ map segment_of rs → put_from at (bytes_above at (pieces_of qs)) (pieces_of rs) ≡ pieces_of qs
put_is at [] [] places = refl
put_is at [] (q ∷ qs) places = absurd (cc)
put_is at (r ∷ rs) [] places = absurd (cc)
put_is at (r ∷ rs) (q ∷ qs) places =
    let place : segment_of q ≡ segment_of r = cc in
    let places_after : map segment_of qs ≡ map segment_of rs = cc in
    let addr : r.addr ≡ q.addr = sym (ap (λ (s : Segment). s.addr) place) in
    let len : length r.bytes.now ≡ length q.bytes.now = sym (ap (λ (s : Segment). s.len) place) in
    let rest = bytes_above (end_of (piece_of q)) (pieces_of qs) in
    let gap = drop_at (replicate (q.addr - at) 0) (q.bytes.now ++ rest) (q.addr - at) (length-replicate (q.addr - at) 0) in
    let behind = put_is (end_of (piece_of q)) rs qs places_after in
    simp (addr, len, gap, take_at q.bytes.now rest (length q.bytes.now) refl, drop_at q.bytes.now rest (length q.bytes.now) refl, behind)

ram_is : (regions left : List Region) → map segment_of left ≡ map segment_of regions → read_only_of left ≡ read_only_of regions
    → with_image (image_of (pieces_of left)) (ram_of regions) ≡ ram_of left
ram_is regions left places access = simp (put_is 0 regions left places, access)

-- ---- an access

turned_is : (d : DeviceValue) (regions : List Region) (n most : ℕ) (e : DeviceValue) (left : List Region) (turn : Turn) → TakesTurn d regions n most e left turn
    → turned_on n most (lent_device d regions) ≡ (lent_device e left, Turned turn)
turned_is d regions n most e left turn x = grind (arith, ram_is)

abbrev pair : LentDevice → Answer → LentDevice × Answer
pair b a = (b, a)

-- regions that are alike lend the same memory
alike_is : (d e : DeviceValue) (regions left : List Region) → e ≡ d → AreAlike left regions → lent_device d regions ≡ lent_device e left
alike_is d e regions left device same = simp (device, same.pieces, same.read_only)

does_is : (a : Access) (d : DeviceValue) (regions : List Region) (answer : Answer) (e : DeviceValue) (left : List Region) → Does a d regions answer e left
    → next a (lent_device d regions) ≡ pair (lent_device e left) answer
does_is a d regions answer e left h1 = grind (arith, alike_is, ram_is, turned_is)

-- ---- accesses in a row

board_at : (access : ℕ → Access) (answer : ℕ → Answer) (before : ℕ → DeviceValue) (lent left : ℕ → List Region) (count : ℕ)
    → Happen access answer before lent left count → StaysLent lent left count → (k : ℕ) → k ≤ count
    → lent_device (before k) (lent k) ≡ run access (lent_device (before 0) (lent 0)) k
board_at access answer before lent left count x stays zero within = refl
board_at access answer before lent left count x stays (suc k) within =
    grind (arith, alike_is, does_is, board_at access answer before lent left count x stays k (omega arith))

pub runs_step_by_step : RunsStepByStep
runs_step_by_step access answer before lent left count x stays =
    let at = board_at access answer before lent left count x stays in (
      at,
      (λ k less.
          sym (ap (λ (p : LentDevice × Answer). p.1) (does_is (access k) (before k) (lent k) (answer k) (before (k + 1)) (left k) (x k less)))
          ∙ ap (λ (b : LentDevice). (next (access k) b).1) (at k (omega arith))),
    )
