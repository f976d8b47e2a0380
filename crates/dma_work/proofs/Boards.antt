-- Boards of lists of ticks.
use Rattle.std.proofs.Common.{◌≡◌, ℕ, ◌≤◌, List, [], ◌∷◌, ◌++◌, length, refl, ◌∙◌, arith}
use Rattle.std.proofs.lemmas.Grind.{common_steps}
use Rattle.std.proofs.lemmas.List.{get_or_past, length-set, set_past}
use Rattle.dma_engine.specs.Ticks.{Tick, Submitted, Finished, Board, board_after, status_of, ticked}
use Rattle.dma_engine.specs.declared.turn.Status.TheVariants.{Unknown}
use Rattle.dma_work.specs.{Ticks.board_from, inner.TickForms.channel_of}

-- one tick more
pub board_push : (base : Board) (ts : List Tick) (t : Tick) → board_from base (ts ++ t ∷ []) ≡ ticked (board_from base ts) t
board_push b [] t = refl
board_push b (x ∷ ts) t = board_push (ticked b x) ts t

-- more ticks
pub board_append : (b : Board) (xs ys : List Tick) → board_after b (xs ++ ys) ≡ board_after (board_after b xs) ys
board_append b [] ys = refl
board_append b (x ∷ xs) ys = board_append (ticked b x) xs ys

-- the number of channels stays
pub ticked_length : (a : Board) (t : Tick) → length (ticked a t) ≡ length a
ticked_length a (Submitted c) = length-set a c _
ticked_length a (Finished c n) = length-set a c _

pub after_length : (b : Board) (ts : List Tick) → length (board_after b ts) ≡ length b
after_length b [] = refl
after_length b (t ∷ ts) = after_length (ticked b t) ts ∙ ticked_length b t

-- a tick of a channel that the board has not
pub ticked_past : (b : Board) (t : Tick) → length b ≤ channel_of t → ticked b t ≡ b
ticked_past b (Submitted ch) past = set_past b ch _ past
ticked_past b (Finished ch count) past = set_past b ch _ past

-- and a cookie of such a channel
pub status_past : (b : Board) (ch cookie : ℕ) → length b ≤ ch → status_of b ch cookie ≡ Unknown
status_past b ch cookie past = grind (arith, get_or_past, common_steps)
