-- One history of accesses after another.
use Rattle.std.proofs.Common.{◌≡◌, ℕ, ◌+◌, ◌-◌, ◌<◌, ◌≤◌, List, refl, sym, ap, subst, inl, inr, arith}
use Rattle.std.specs.Prelude.{if◌then◌else◌, nat_lt}
use Rattle.std.proofs.lemmas.Bool.{cases_lt, le-ltb, lt-ltb}
use Rattle.dma_mem.specs.declared.regions.Region.{Region}
use Rattle.dma_device.specs.Accesses.{Access, Answer, AreAlike, Does, Happen}
use Rattle.dma_device.specs.{Device.DeviceValue, Run.StaysLent, declared.device.rows.RowTurns.RowTurns}
use Rattle.dma_ffi.specs.DeviceSessions.{AreTurns, DeviceCall, DeviceRequest, History, IsOne, Makes, accesses_for}
use Rattle.dma_ffi.proofs.DeviceCalls.{alike, alike_then}

-- ---- one history after another

-- the first `n` values of a sequence, and then those of another
abbrev pub chained : {A : Type 0} → ℕ → (ℕ → A) → (ℕ → A) → ℕ → A
chained n f g k = if nat_lt k n then f k else g (k - n)

below : {A : Type 0} (n : ℕ) (f g : ℕ → A) (k : ℕ) → k < n → chained n f g k ≡ f k
below n f g k less = rw (lt-ltb k n less) refl

pub beyond : {A : Type 0} (n : ℕ) (f g : ℕ → A) (i k : ℕ) → k ≡ n + i → chained n f g k ≡ g i
beyond n f g i k is = grind (arith, le-ltb, arith, ap)

-- where the second begins as the first ends
pub upto : {A : Type 0} (n : ℕ) (f g : ℕ → A) → g 0 ≡ f n → (k : ℕ) → k ≤ n → chained n f g k ≡ f k
upto n f g meets k most = grind (arith, cases_lt, inl, below, inr, arith, beyond, ap, sym)

-- the first `n` accesses of a history, and then those of another
abbrev pub joined : ℕ → History → History → History
joined n h g = record {
  access = chained n h.access g.access;
  answer = chained n h.answer g.answer;
  before = chained n h.before g.before;
  lent = chained n h.lent g.lent;
  left = chained n h.left g.left;
}

-- so many accesses of `g` from number j on are those of `h` from number i on
pub record AreSame (h g : History) (i j size : ℕ) : Type 0 where
  pub access : (k : ℕ) → k < size → g.access (j + k) ≡ h.access (i + k)
  pub answer : (k : ℕ) → k < size → g.answer (j + k) ≡ h.answer (i + k)
  pub before : (k : ℕ) → k ≤ size → g.before (j + k) ≡ h.before (i + k)
  pub lent : (k : ℕ) → k < size → g.lent (j + k) ≡ h.lent (i + k)
  pub left : (k : ℕ) → k < size → g.left (j + k) ≡ h.left (i + k)

-- the accesses of the first history
pub first_same : (n : ℕ) (h g : History) (i size : ℕ) → g.before 0 ≡ h.before n → i + size ≤ n → AreSame h (joined n h g) i i size
first_same n h g i size meets within = grind (arith, below, arith, upto)

-- the accesses of the second history
pub second_same : (n : ℕ) (h g : History) (size : ℕ) → AreSame g (joined n h g) 0 n size
second_same n h g size = grind (arith, beyond, arith)

-- at the first access
here : {A : Type 0} (f g : ℕ → A) (i j : ℕ) → g (j + 0) ≡ f (i + 0) → g j ≡ f i
here f g i j same = grind (arith, arith, ap)

module _ (h g : History) (i j size : ℕ) (call : DeviceCall) (same : AreSame h g i j size) where
  one_same : (a b : Access) (r : Answer) → 1 ≤ size → b ≡ a → IsOne h i call a r → IsOne g j call b r
  one_same a b r some access is = grind (arith, here, sym)

  turns_same : (n : ℕ) (t : RowTurns) → t.rows.count ≡ size → AreTurns h i call n t → AreTurns g j call n t
  turns_same n t count is = grind (arith, arith, subst, sym, here)

-- a call makes the same accesses wherever they are
pub makes_same : (h g : History) (i j : ℕ) (call : DeviceCall) (request : DeviceRequest) → AreSame h g i j (accesses_for request call.code)
    → Makes h i call request → Makes g j call request
makes_same x0 x1 x2 x3 x4 x5 x6 x7 = grind (arith, one_same, arith, refl, ap, sym, turns_same)

-- an access with equal parts does the same
does_same : (a b : Access) (r s : Answer) (d e d' e' : DeviceValue) (lent left lent' left' : List Region) → b ≡ a → s ≡ r → d' ≡ d → e' ≡ e → lent' ≡ lent
    → left' ≡ left → Does a d lent r e left → Does b d' lent' s e' left'
does_same a b r s d e d' e' lent left lent' left' access answer before after lends leaves does = rw (access, answer, before, after, lends, leaves) does

-- the second history begins with the device that the first one ends with, and both happen
pub happen_joined : (n m : ℕ) (h g : History) → g.before 0 ≡ h.before n → Happen h.access h.answer h.before h.lent h.left n
    → Happen g.access g.answer g.before g.lent g.left m → let j = joined n h g in Happen j.access j.answer j.before j.lent j.left (n + m)
happen_joined n m h g meets first second k less = elim (cases_lt k n) [
  | inl early ↦ does_same
      (h.access k) (chained n h.access g.access k) (h.answer k) (chained n h.answer g.answer k)
      (h.before k) (h.before (k + 1)) (chained n h.before g.before k) (chained n h.before g.before (k + 1))
      (h.lent k) (h.left k) (chained n h.lent g.lent k) (chained n h.left g.left k)
      (below n h.access g.access k early) (below n h.answer g.answer k early)
      (below n h.before g.before k early) (upto n h.before g.before meets (k + 1) (omega (arith, early)))
      (below n h.lent g.lent k early) (below n h.left g.left k early) (first k early)
  | inr late ↦
      let i = k - n in
      let at : k ≡ n + i = omega (arith, late) in
      let next : k + 1 ≡ n + (i + 1) = omega (arith, late) in
      does_same
      (g.access i) (chained n h.access g.access k) (g.answer i) (chained n h.answer g.answer k)
      (g.before i) (g.before (i + 1)) (chained n h.before g.before k) (chained n h.before g.before (k + 1))
      (g.lent i) (g.left i) (chained n h.lent g.lent k) (chained n h.left g.left k)
      (beyond n h.access g.access i k at) (beyond n h.answer g.answer i k at)
      (beyond n h.before g.before i k at) (beyond n h.before g.before (i + 1) (k + 1) next)
      (beyond n h.lent g.lent i k at) (beyond n h.left g.left i k at) (second i (omega (arith, late, less)))
]

-- the second history begins with the memory that the first one ends with, and in both the memory stays
pub stays_joined : (n m : ℕ) (h g : History) → AreAlike (g.lent 0) (h.lent n) → StaysLent h.lent h.left n → StaysLent g.lent g.left m
    → StaysLent (joined n h g).lent (joined n h g).left (n + m)
stays_joined n m h g meets first second k less = grind (arith, cases_lt, inl, alike, sym, below, inr, arith, alike_then, beyond, subst)
