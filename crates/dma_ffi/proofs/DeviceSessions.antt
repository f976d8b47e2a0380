-- Calls from C on one device, one after another, are a history of accesses.
use Rattle.std.proofs.Common.{◌≡◌, ◌∙◌, ℕ, zero, suc, ◌+◌, ◌<◌, ◌≤◌, Option, Some, refl, sym, ap, subst, inl, inr, add-one, arith}
use Rattle.std.proofs.lemmas.Bool.{cases_lt}
use Rattle.dma_device.specs.{Accesses.AreAlike, Device.DeviceValue, Run.StaysLent}
use Rattle.dma_ffi.specs.DeviceSessions.{AreDeviceCalls, Called, DeviceCall, DeviceSessionsAreHistories, History, IsHistoryOf, Makes, accesses_for}
use Rattle.dma_ffi.specs.DeviceSessions.{first_access}
use Rattle.dma_ffi.proofs.DeviceCalls.{IsOwn, alike, alike_back, alike_then, idle, own}
use Rattle.dma_ffi.proofs.JoinedHistories.{beyond, first_same, happen_joined, joined, makes_same, second_same, stays_joined, upto}

-- a call's accesses are not before those of an earlier call
first_grows : (call : ℕ → DeviceCall) (k n : ℕ) → k ≤ n → first_access call k ≤ first_access call n
first_grows call k zero most = grind (arith, arith)
first_grows call k (suc n) most = elim (cases_lt n k) [
  | inl over ↦
      let is : k ≡ suc n = omega (arith, over, most) in
      rw is (omega arith)
  | inr less ↦ omega (arith, first_grows call k n less)
]

-- the regions stay from call to call
abbrev Stay : (ℕ → DeviceCall) → ℕ → Type 0
Stay call n = StaysLent (λ k. (call k).lent) (λ k. (call k).left) n

-- the first calls' history, which lends at its end what the next call is lent
record SoFar (call : ℕ → DeviceCall) (found : ℕ → Option DeviceValue) (n : ℕ) (h : History) : Type 0 where
  pub is : IsHistoryOf call found n h
  pub lends : Stay call n → AreAlike (h.lent (first_access call n)) (call n).lent

-- the history of one more call
module _ (call : ℕ → DeviceCall) (found : ℕ → Option DeviceValue) (n : ℕ) (h g : History) (so_far : SoFar call found n h)
    (own : IsOwn (h.before (first_access call n)) (call n) (call n).request (found (suc n)) g) where
  abbrev at : ℕ
  at = first_access call n

  abbrev with_own : History
  with_own = joined at h g

  found_then : (k : ℕ) → k ≤ suc n → found k ≡ Some (with_own.before (first_access call k))
  found_then k most = elim (cases_lt n k) [
    | inl over ↦
        let is : k ≡ suc n = omega (arith, over, most) in
        let last : found (suc n) ≡ Some (with_own.before (first_access call (suc n))) =
        own.ends ∙ ap (λ (d : DeviceValue). Some d)
        (sym (beyond at h.before g.before (accesses_for (call n).request (call n).code) (first_access call (suc n)) refl)) in
        subst (λ (i : ℕ). found i ≡ Some (with_own.before (first_access call i))) (sym is) last
    | inr less ↦
        so_far.is.finds k less
        ∙ ap (λ (d : DeviceValue). Some d) (sym (upto at h.before g.before own.starts (first_access call k) (first_grows call k n less)))
  ]

  made_then : (k : ℕ) → k < suc n → Makes with_own (first_access call k) (call k) (call k).request
  made_then k less = elim (cases_lt k n) [
    | inl early ↦
        let size = accesses_for (call k).request (call k).code in
        makes_same h with_own (first_access call k) (first_access call k) (call k) (call k).request
        (first_same at h g (first_access call k) size own.starts (first_grows call (suc k) n early))
        (so_far.is.makes k early)
    | inr late ↦
        let is : k ≡ n = omega (arith, late, less) in
        let size = accesses_for (call n).request (call n).code in
        subst (λ (i : ℕ). Makes with_own (first_access call i) (call i) (call i).request) (sym is)
        (makes_same g with_own 0 at (call n) (call n).request (second_same at h g size) own.makes)
  ]

  stays_then : Stay call (suc n) → StaysLent with_own.lent with_own.left (first_access call (suc n))
  stays_then stay =
      let before : Stay call n = λ k less. stay k (omega (arith, less)) in
      let here = (call n).lent in
      let meets = alike_then (g.lent 0) here (h.lent at) own.lends (alike_back (h.lent at) here (so_far.lends before)) in
      stays_joined at (accesses_for (call n).request (call n).code) h g meets (so_far.is.stays before) own.stays

  lends_then : Stay call (suc n) → AreAlike (with_own.lent (first_access call (suc n))) (call (suc n)).lent
  lends_then stay =
      let last = g.lent (accesses_for (call n).request (call n).code) in
      let to = with_own.lent (first_access call (suc n)) in
      let same : to ≡ last = beyond at h.lent g.lent (accesses_for (call n).request (call n).code) (first_access call (suc n)) refl in
      let next : AreAlike (call (suc n)).lent (call n).left = subst (λ (i : ℕ). AreAlike (call i).lent (call n).left) (add-one n) (stay n (omega arith)) in
      alike_then to last (call (suc n)).lent (alike last to same)
      (alike_then last (call n).left (call (suc n)).lent own.leaves (alike_back (call (suc n)).lent (call n).left next))

  one_more : SoFar call found (suc n) with_own
  one_more = record {
    is = record {
      happen = happen_joined at (accesses_for (call n).request (call n).code) h g own.starts so_far.is.happen own.happen;
      finds = found_then;
      makes = made_then;
      stays = stays_then;
    };
    lends = lends_then;
  }

history_so_far : (call : ℕ → DeviceCall) (found : ℕ → Option DeviceValue) (n : ℕ) (d : DeviceValue) → found 0 ≡ Some d → AreDeviceCalls call found n
    → (h : History) × SoFar call found n h
history_so_far call found zero d begun are = (
  idle d (call 0).lent,
  record {
    is = record {
      happen = λ k less. absurd (omega (arith, less));
      finds = λ k most. let is : k ≡ 0 = omega (arith, most) in ap found is ∙ begun;
      makes = λ k less. absurd (omega (arith, less));
      stays = λ stay k less. absurd (omega (arith, less));
    };
    lends = λ stay. alike (call 0).lent (call 0).lent refl;
  },
)
history_so_far call found (suc n) d begun are =
    let (h, so_far) = history_so_far call found n d begun (λ k less. are k (omega (arith, less))) in
    let c = call n in
    let called = are n (omega arith) in
    let opened = subst (λ (x : Option DeviceValue). Called c.request c.code x c.lent (found (n + 1)) c.left) (so_far.is.finds n (omega arith)) called in
    let returned = subst (λ (i : ℕ). Called c.request c.code (Some (h.before (first_access call n))) c.lent (found i) c.left) (add-one n) opened in
    let (g, made) = own (h.before (first_access call n)) c c.request (found (suc n)) returned in
    (joined (first_access call n) h g, one_more call found n h g so_far made)

pub device_sessions_are_histories : DeviceSessionsAreHistories
device_sessions_are_histories call found count d begun are = let (h, so_far) = history_so_far call found count d begun are in (h, so_far.is)
