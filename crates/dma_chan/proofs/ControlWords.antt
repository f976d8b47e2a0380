-- The control words of a compiled program.
use Rattle.std.proofs.Common.{◌≡◌, ℕ, ◌+◌, ◌-◌, ◌*◌, ◌/◌, ◌%◌, ◌^◌, ◌≤◌, ◌<◌, Bool, true, false, cond, zero, suc, refl, subst, sym, ap, ◌∙◌, arith, Some}
use Rattle.std.specs.{Prelude.◌==◌, Prelude.not, Prelude.replicate, List.range_with_len}
use Rattle.std.proofs.lemmas.Nat.{mod_below, pow_below, pow_pos}
use Rattle.std.proofs.lemmas.Bool.{and_parts, cases_lt, cond_both, eqb-true, le-leb, leb-true}
use Rattle.std.proofs.Math.Nat.{add-mod-mod, mod-one, mul-mod_left, zero-mod}
use Rattle.dma_insn.specs.declared.control.BeatSize.{BeatSize}
use Rattle.dma_insn.specs.declared.control.BeatSize.TheVariants.{One, Two, Four, Eight, Sixteen}
use Rattle.dma_insn.specs.ControlWord.{control_of, is_control, end_at, size_code, size_of, beat_bytes, bits_of, end_bits}
use Rattle.dma_chan.specs.Compiled.{beat_of, control_word, burst_end, beats_fit}
use Rattle.dma_chan.specs.Bursts.{IsAligned, burst_at, burst_len, span_of, touched, advance}
use Rattle.dma_chan.specs.{declared.bus.Bus.Bus, declared.bus.Bus.TheVariants.Ideal, Bus.accepts}
use Rattle.dma_chan.specs.{Bus.widest_beat, declared.pieces.Piece.Piece, declared.bursts.Burst.Burst, Traffic.len_by, inner.Spans.MovesSome}
use Rattle.dma_chan.proofs.{BurstEnds.beat_bytes_power, BurstRounds.one_again, CutPlaces.run_of, CutPlaces.way}

-- ---- bursts by their control word alone

pub addr_there : (bus : Bus) (k a w : ℕ) → (burst_at bus k a w).addr ≡ a
unfolding burst_at
addr_there bus k a w = refl

pub touched_up : (b : Burst) → b.increments ≡ true → touched b ≡ range_with_len b.addr (burst_len b)
touched_up b e = rw e refl

-- the addresses of a rising burst from an address under a word
pub touched_from : (bus : Bus) (k a w n : ℕ) → (burst_at bus k a w).increments ≡ true → burst_len (burst_at bus k a w) ≡ n
    → touched (burst_at bus k a w) ≡ range_with_len a n
touched_from bus k a w n up len = grind (arith, touched_up, addr_there)

-- a burst that doesn't rise leaves nothing out, on any bus
pub fixed_whole : (bus : Bus) (k a w : ℕ) → (burst_at bus k a w).increments ≡ false → (burst_at bus k a w).skip ≡ 0
unfolding burst_at
fixed_whole bus k a w still = grind arith

-- nor does one at a multiple of its beat's size
pub aligned_whole : (bus : Bus) (k a w : ℕ) → IsAligned (burst_at bus k a w) → (burst_at bus k a w).skip ≡ 0
unfolding burst_at
aligned_whole bus k a w aligned = grind arith

-- at such an address a burst is the same on each bus
pub same_burst : (bus other : Bus) (k a w : ℕ) → IsAligned (burst_at bus k a w) → burst_at bus k a w ≡ burst_at other k a w
unfolding burst_at
same_burst bus other k a w aligned = grind (arith, aligned_whole)

-- and has as many bytes as on the ideal bus anywhere
pub len_anywhere : (k a w : ℕ) → burst_len (burst_at Ideal k a w) ≡ len_by k w
unfolding burst_at
len_anywhere k a w = refl

pub aligned_len : (bus : Bus) (k a w : ℕ) → IsAligned (burst_at bus k a w) → burst_len (burst_at bus k a w) ≡ len_by k w
aligned_len bus k a w aligned = ap burst_len (same_burst bus Ideal k a w aligned) ∙ len_anywhere k a w

-- the address is a multiple of the beat's size
aligned_by : (k w b : ℕ) → ((a : ℕ) → (burst_at Ideal k a w).size ≡ b) → (bus : Bus) (a : ℕ) → a % b ≡ 0 → IsAligned (burst_at bus k a w)
unfolding burst_at
aligned_by k w b size bus a fits = λ up. ap (λ (n : ℕ). a % n) (size a) ∙ fits

-- a burst moves some byte
pub moves_some : (bus : Bus) (k a w : ℕ) → MovesSome (burst_at bus k a w)
unfolding burst_at
moves_some bus k a w = grind (arith, pow_pos, mod_below, fixed_whole)

pub advance_up : (b : Burst) (n : ℕ) → b.increments ≡ true → burst_len b ≡ n → advance b ≡ n
advance_up b n e len = rw e len

-- how many addresses the source of such a burst touches: one in a fill
abbrev pub span : Bool → ℕ → ℕ
span true n = 1
span false n = n

-- the address of a burst that doesn't rise, again for each beat of one byte
pub touched_fixed : (b : Burst) (a n : ℕ) → b.increments ≡ false → b.size ≡ 1 → b.beats ≡ n → b.addr ≡ a → touched b ≡ replicate n a
touched_fixed b a n e size beats addr = rw (e, size, beats, addr) (sym (one_again n a))

-- the addresses of such a burst, or of one that stays at its address in beats of one byte
run_there : (fill : Bool) (b : Burst) (n : ℕ) → b.increments ≡ not fill → burst_len b ≡ n → (fill ≡ true → (b.size ≡ 1) × (b.beats ≡ n))
    → (touched b ≡ run_of fill b.addr n) × (advance b ≡ way fill n) × (span_of b ≡ span fill n)
run_there fill b n h h2 h3 = grind (arith, touched_up, touched_fixed)

-- bursts of n bytes at both ends, in beats of b bytes, with both increments, and of a fill with that of the destination
-- alone; from multiples of b on, they are the same on each bus
pub record Moves (fill : Bool) (b w n : ℕ) : Type 0 where
  pub reads : len_by 0 w ≡ n
  pub writes : len_by 14 w ≡ n
  pub source : (bus : Bus) (a : ℕ) → a % b ≡ 0 → touched (burst_at bus 0 a w) ≡ run_of fill a n
  pub source_way : (bus : Bus) (a : ℕ) → a % b ≡ 0 → advance (burst_at bus 0 a w) ≡ way fill n
  pub source_span : (bus : Bus) (a : ℕ) → a % b ≡ 0 → span_of (burst_at bus 0 a w) ≡ span fill n
  pub source_fits : (bus : Bus) (a : ℕ) → a % b ≡ 0 → IsAligned (burst_at bus 0 a w)
  pub destination_span : (bus : Bus) (a : ℕ) → a % b ≡ 0 → span_of (burst_at bus 14 a w) ≡ n
  pub destination_up : (bus : Bus) (a : ℕ) → (burst_at bus 14 a w).increments ≡ true
  pub destination_fits : (bus : Bus) (a : ℕ) → a % b ≡ 0 → IsAligned (burst_at bus 14 a w)
  pub whole : n % b ≡ 0
  pub accepted : (bus : Bus) → b ≤ widest_beat bus → accepts bus w ≡ true

-- what the words of bursts with beats of a size say
pub record IsBeat (fill : Bool) (size : BeatSize) : Type 0 where
  pub low : 1 ≤ beat_bytes size
  pub high : beat_bytes size ≤ 16
  pub moves : (k : ℕ) → 1 ≤ k → k ≤ 16 → Moves fill (beat_bytes size) (control_word fill size k) (k * beat_bytes size)
  pub in_range : (k : ℕ) → k ≤ 16 → control_word fill size k < 2 ^ 32

size_there : (c : ℕ) → c ≤ 4 → (s : BeatSize) × (size_of c ≡ Some s)
size_there zero h = (One, refl)
size_there (suc zero) h = (Two, refl)
size_there (suc (suc zero)) h = (Four, refl)
size_there (suc (suc (suc zero))) h = (Eight, refl)
size_there (suc (suc (suc (suc zero)))) h = (Sixteen, refl)
size_there (suc (suc (suc (suc (suc c))))) h = absurd (omega arith)

valid_word : (w c : ℕ) → w / 2 % 8 ≡ c → w / 2 ^ 15 % 8 ≡ c → w / 2 ^ 28 % 8 ≡ 0 → w / 2 ^ 31 % 2 ≡ 0 → c ≤ 4 → is_control w ≡ true
unfolding is_control control_of end_at
valid_word w c a b d e h = let s = size_there c h in rw (a, b, s.1, d, e) refl

-- CCR of a chip's channel after a reset
pub reset_accepted : is_control 0x00800200 ≡ true
unfolding is_control control_of end_at
reset_accepted = refl

-- a bus that is as wide as its beats accepts it
accepted_by : (w c : ℕ) → w / 2 % 8 ≡ c → w / 2 ^ 15 % 8 ≡ c → is_control w ≡ true → (bus : Bus) → 2 ^ c ≤ widest_beat bus → accepts bus w ≡ true
accepted_by w c h h2 h3 bus h4 = grind (arith, le-leb, cases_lt, pow_below)

-- the fields of a word with source increment i, size code c and length code l
word_moves : (fill : Bool) (w i c l b n : ℕ) → w ≡ i + 2 * c + 16 * l + 2 ^ 14 + 2 ^ 15 * c + 2 ^ 18 * l → i < 2 → (i == 1) ≡ not fill → (fill ≡ true → c ≡ 0)
    → c ≤ 4 → l ≤ 15 → 2 ^ c ≡ b → (l + 1) * b ≡ n → Moves fill b w n
unfolding burst_at
word_moves fill w i c l beat n e low rising one hc hl p h =
    let a : w / 16 % 16 ≡ l = omega arith in
    let b : w / 2 % 8 ≡ c = omega arith in
    let d : w / 262144 % 16 ≡ l = omega arith in
    let f : w / 32768 % 8 ≡ c = omega arith in
    let g : w / 1 % 2 ≡ i = omega arith in
    let j : w / 16384 % 2 ≡ 1 = omega arith in
    let m : (l + 1) * beat - 0 ≡ n = omega (arith, h) in
    let single : (x : ℕ) → fill ≡ true → ((burst_at Ideal 0 x w).size ≡ 1) × ((burst_at Ideal 0 x w).beats ≡ n) = λ x z. let k : n ≡ l + 1 = sym h
    ∙ ap (λ (x : ℕ). (l + 1) * x) (sym p ∙ ap (λ (x : ℕ). 2 ^ x) (one z)) ∙ omega arith in (rw (b, one z) refl, rw a (sym k)) in
    let from = aligned_by 0 w beat (λ x. rw b p) in
    let to = aligned_by 14 w beat (λ x. rw f p) in
    let source = λ (bus : Bus) (x : ℕ) (at : x % beat ≡ 0). subst
    (λ (y : Burst). (touched y ≡ run_of fill x n) × (advance y ≡ way fill n) × (span_of y ≡ span fill n)) (sym (same_burst bus Ideal 0 x w (from bus x at)))
    (run_there fill (burst_at Ideal 0 x w) n (rw g rising) (rw (a, b, p) m) (single x)) in
    record {
      reads = rw (a, b, p) m;
      writes = rw (d, f, p) m;
      source = λ bus x at. (source bus x at).0;
      source_way = λ bus x at. (source bus x at).1;
      source_span = λ bus x at. (source bus x at).2;
      source_fits = from;
      destination_span = λ bus x at. ap span_of (same_burst bus Ideal 14 x w (to bus x at))
          ∙ (run_there false (burst_at Ideal 14 x w) n (rw j refl) (rw (d, f, p) m) (λ z. absurd (cc))).2;
      destination_up = λ bus x. rw j refl;
      destination_fits = to;
      whole = ap (λ (k : ℕ). k % beat) (sym h) ∙ mul-mod_left (l + 1) beat;
      accepted = λ bus wide. accepted_by w c b f (valid_word w c b f (omega arith) (omega arith) hc) bus (rw p wide);
    }

-- a size has between 1 and 16 bytes, and a code of at most 4
bounded : (size : BeatSize) → (1 ≤ beat_bytes size) × (beat_bytes size ≤ 16) × (size_code size ≤ 4)
bounded size = grind (arith)

beat : (size : BeatSize) → IsBeat false size
unfolding bits_of end_bits
beat size =
    let (low, high, few) = bounded size in
    record {
      low = low;
      high = high;
      moves = λ k l h. let n : k - 1 + 1 ≡ k = omega arith in
          word_moves false (control_word false size k) 1 (size_code size) (k - 1) (beat_bytes size) (k * beat_bytes size) (omega arith) (omega arith) refl
          (λ z. absurd (cc)) few (omega arith) (sym (beat_bytes_power size)) (rw n refl);
      in_range = λ k h. omega (arith, few);
    }

filling_beat : IsBeat true One
unfolding bits_of end_bits
filling_beat = record {
  low = omega arith;
  high = omega arith;
  moves = λ k l h. word_moves true (control_word true One k) 0 0 (k - 1) 1 (k * 1) (omega arith) (omega arith) refl (λ z. refl) (omega arith) (omega arith) refl
      (omega arith);
  in_range = λ k h. omega arith;
}

by_fill : (fill : Bool) (size : BeatSize) → IsBeat fill (cond fill One size)
by_fill true size = filling_beat
by_fill false size = beat size

pub beat_right : (bus : Bus) (p : Piece) → IsBeat p.fill (beat_of bus p)
unfolding beat_of
beat_right bus p = by_fill p.fill _

-- multiples of c add up to one
pub mod_sum : (a x c : ℕ) → a % c ≡ 0 → x % c ≡ 0 → (a + x) % c ≡ 0
mod_sum a x c e f =
    let none : a + 0 ≡ a = omega arith in
    sym (add-mod-mod a x c) ∙ ap (λ (k : ℕ). (a + k) % c) f ∙ ap (λ (k : ℕ). k % c) none ∙ e

pub mod_way : (fill : Bool) (x c : ℕ) → x % c ≡ 0 → way fill x % c ≡ 0
mod_way fill x c h = grind (arith, zero-mod)

-- the beats of a piece are no wider than the bus, and divide both addresses
pub record Divides (bus : Bus) (p : Piece) (b : ℕ) : Type 0 where
  pub narrow : b ≤ widest_beat bus
  pub src : p.src % b ≡ 0
  pub dst : p.dst % b ≡ 0

fits_divides : (bus : Bus) (b : ℕ) (p : Piece) → beats_fit bus b p ≡ true → Divides bus p b
fits_divides bus b p e = grind (arith, and_parts, leb-true, eqb-true)

pub some_beat : (bus : Bus) → 1 ≤ widest_beat bus
some_beat bus = grind (arith, pow_pos)

ones : (bus : Bus) (p : Piece) → Divides bus p 1
ones bus p = record { narrow = some_beat bus; src = mod-one p.src; dst = mod-one p.dst }

pub beat_divides : (bus : Bus) (p : Piece) → Divides bus p (beat_bytes (beat_of bus p))
unfolding beat_of
beat_divides bus p =
    let divides = λ (size : BeatSize). Divides bus p (beat_bytes size) in
    cond_both p.fill One _ divides (λ _. ones bus p) (λ _.
    cond_both (beats_fit bus 16 p) Sixteen _ divides (fits_divides bus 16 p) (λ _.
    cond_both (beats_fit bus 8 p) Eight _ divides (fits_divides bus 8 p) (λ _.
    cond_both (beats_fit bus 4 p) Four _ divides (fits_divides bus 4 p) (λ _.
    cond_both (beats_fit bus 2 p) Two One divides (fits_divides bus 2 p) (λ _. ones bus p)))))

pub one_beat : (fill : Bool) → IsBeat fill One
one_beat true = filling_beat
one_beat false = beat One

-- the word of two ends, by whether the source's address increments
pub both_ends : (rises : Bool) (size : BeatSize) (k : ℕ)
    → bits_of (record { src = burst_end rises size k; dst = burst_end true size k }) ≡ control_word (not rises) size k
both_ends rises size k = grind (arith)
