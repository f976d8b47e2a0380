-- The status of a cookie in longer lists of ticks.
use Rattle.std.proofs.Common.{◌≡◌, ◌≢◌, ℕ, ◌<◌, ◌≤◌, List, [], ◌∷◌, length, ap, sym, subst, arith, inl, inr}
use Rattle.std.specs.Prelude.{slice_set}
use Rattle.std.proofs.lemmas.List.{get_or-set_same, get_or-set_other, set_past}
use Rattle.std.proofs.{lemmas.Grind.common_steps, lemmas.Bool.cases_eq, lemmas.Bool.cases_lt}
use Rattle.dma_engine.specs.Ticks.{Tick, Board, Counts, board_after, counts, ticked}
use Rattle.dma_engine.specs.{Answer.status_by, declared.turn.Status.TheVariants.Unknown, declared.turn.Status.TheVariants.Complete}
use Rattle.dma_work.specs.{Laws.AreCounts, Laws.StaysKnown, Laws.StaysComplete, Laws.ClosedIsComplete, Ticks.StartsWith, Ticks.board_from}
use Rattle.dma_work.proofs.Boards.{board_append}

-- the counts of a channel only grow, and stay numbers of 32 bits
record Grows (old new : Counts) : Type 0 where
  used : old.used ≤ new.used
  finished : old.finished ≤ new.finished
  small : (new.used ≤ 4294967295) × (new.finished ≤ 4294967295)

grows_self : (c : Counts) → (c.used ≤ 4294967295) × (c.finished ≤ 4294967295) → Grows c c
grows_self c h = record { used = omega arith; finished = omega arith; small = h }

-- a channel's counts are replaced
set_grows : (b : Board) (at : ℕ) (c : Counts) → Grows (counts b at) c → AreCounts b → (ch : ℕ) → Grows (counts b ch) (counts (slice_set b at c) ch)
set_grows b at c g h = grind (arith, cases_eq, inl, cases_lt, length, get_or-set_same, inr, set_past, grows_self, get_or-set_other)

ticked_grows : (b : Board) (t : Tick) → AreCounts b → (ch : ℕ) → Grows (counts b ch) (counts (ticked b t) ch)
ticked_grows x0 x1 x2 = grind (arith, set_grows, arith)

after_grows : (b : Board) (ts : List Tick) → AreCounts b → (ch : ℕ) → Grows (counts b ch) (counts (board_after b ts) ch)
after_grows b [] h ch = grows_self (counts b ch) (h ch)
after_grows b (t ∷ ts) h ch =
    let one = ticked_grows b t h in
    let more = after_grows (ticked b t) ts (λ c. (one c).small) ch in
    record { used = omega (arith, (one ch).used, more.used); finished = omega (arith, (one ch).finished, more.finished); small = more.small }

-- they stay numbers of 32 bits
pub small_after : (base : Board) (ts : List Tick) → AreCounts base → AreCounts (board_from base ts)
small_after base ts h ch = (after_grows base ts h ch).small

-- in a longer list they are no less
longer : (base : Board) (front all : List Tick) (ch : ℕ) → AreCounts base → StartsWith all front
    → Grows (counts (board_from base front) ch) (counts (board_from base all) ch)
longer base front all ch h p = grind (arith, ap, sym, board_append, subst, after_grows)

-- ---- a status by its counts

known : (c : Counts) (k : ℕ) → 0 < k → k ≤ c.used → status_by c.used c.finished k ≢ Unknown
known c k pos le is = absurd (grind (arith, common_steps, is))

complete : (c d : Counts) (k : ℕ) → c.used ≤ d.used → c.finished ≤ d.finished → status_by c.used c.finished k ≡ Complete
    → status_by d.used d.finished k ≡ Complete
complete c d k more_used more_finished is = grind (arith, common_steps, is)

closed : (c : Counts) (k : ℕ) → 0 < k → k ≤ c.used → k ≤ c.finished → status_by c.used c.finished k ≡ Complete
closed c k pos le done = grind (arith, common_steps)

-- ---- the laws

pub stays_known : StaysKnown
stays_known base earlier seen ch cookie h p given is = grind (arith, longer, known, arith)

pub stays_complete : StaysComplete
stays_complete base earlier later ch cookie h p is = grind (arith, longer, complete)

pub closed_is_complete : ClosedIsComplete
closed_is_complete base earlier seen ch through cookie h p all pos le = grind (arith, longer, closed, arith)
