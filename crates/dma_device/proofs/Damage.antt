-- A save in which one byte is another byte is the save of no device.
use Rattle.std.proofs.Common.{◌≡◌, ◌≢◌, ◌∙◌, ℕ, zero, suc, ◌+◌, ◌%◌, ◌^◌, ◌<◌, ◌++◌, List, [], ◌∷◌, length, take, drop, get_or, set, ap, refl, sym, arith, inl}
use Rattle.std.proofs.Common.{inr}
use Rattle.std.specs.Int.{w32, to_le_bytes}
use Rattle.std.proofs.lemmas.List.{drop-set-lt, drop_at, get_or-set_same, get_or-take, length-set, take-append-drop, take-set-le, take_at}
use Rattle.std.proofs.{lemmas.Bool.cases_lt, lemmas.Nat.from_le_bytes-to_le_bytes_4}
use Rattle.dma_chan.specs.Saved.{adler, adler_prime, checksum}
use Rattle.dma_device.specs.{Device.DeviceValue, Snapshot.DamageIsRefused, Snapshot.device_parts, Snapshot.saved_device}
use Rattle.dma_device.proofs.SavedDevices.{own_length, own_parts}

-- ---- a list with another item

take_below : (xs : List ℕ) (n k v : ℕ) → k < n → take n (set xs k v) ≡ set (take n xs) k v
take_below [] (suc n) k v h = refl
take_below (x ∷ xs) zero k v h = absurd (omega arith)
take_below (x ∷ xs) (suc n) (suc k) v h = ap (λ (ys : List ℕ). x ∷ ys) (take_below xs n k v (omega arith))
take_below xs n k v h = refl

-- ---- the sum of bytes, which is in the low half of the checksum

abbrev total : List ℕ → ℕ
total [] = 0
total (b ∷ bs) = b + total bs

total_set : (xs : List ℕ) (k v : ℕ) → k < length xs → total (set xs k v) + get_or xs k 0 ≡ total xs + v
total_set [] k v h = absurd (omega arith)
total_set (x ∷ xs) zero v h = omega arith
total_set (x ∷ xs) (suc k) v h = let rest = total_set xs k v (omega arith) in omega (arith, rest)

adler_low : (low high : ℕ) (bs : List ℕ) → low < adler_prime → adler low high bs % 65536 ≡ (low + total bs) % adler_prime
unfolding adler
adler_low low high [] few = omega (arith, few)
adler_low low high (b ∷ bs) few =
    let next = (low + b) % adler_prime in
    (adler_low next ((high + next) % adler_prime) bs (omega arith)) ∙ omega arith

adler_few : (low high : ℕ) (bs : List ℕ) → low < adler_prime → high < adler_prime → adler low high bs < 2 ^ 32
unfolding adler
adler_few low high [] a b = omega (arith, a, b)
adler_few low high (c ∷ bs) a b = let next = (low + c) % adler_prime in adler_few next ((high + next) % adler_prime) bs (omega arith) (omega arith)

sum_low : (bs : List ℕ) → checksum bs % 65536 ≡ (1 + total bs) % adler_prime
unfolding checksum
sum_low bs = adler_low 1 0 bs (omega arith)

sum_few : (bs : List ℕ) → checksum bs < 2 ^ 32
unfolding checksum
sum_few bs = adler_few 1 0 bs (omega arith) (omega arith)

-- lists with the same checksum don't differ in one byte
one_differs : (bs : List ℕ) (k v : ℕ) → k < length bs → get_or bs k 0 < 256 → v < 256 → get_or bs k 0 ≢ v → checksum (set bs k v) ≢ checksum bs
one_differs bs k v within old new other same =
    let low = sym (sum_low (set bs k v)) ∙ ap (λ (n : ℕ). n % 65536) same ∙ sum_low bs in
    omega (arith, low, total_set bs k v within, old, new, other)

-- ---- a save

front : (save : List ℕ) (d : DeviceValue) (n : ℕ) → save ≡ saved_device d → length (device_parts d) ≡ n → take n save ≡ device_parts d
front save d n is count = ap (take n) (is ∙ own_parts d) ∙ take_at (device_parts d) (to_le_bytes w32 (checksum (device_parts d))) n count

back : (save : List ℕ) (d : DeviceValue) (n : ℕ) → save ≡ saved_device d → length (device_parts d) ≡ n → drop n save ≡ to_le_bytes w32 (checksum (device_parts d))
back save d n is count = ap (drop n) (is ∙ own_parts d) ∙ drop_at (device_parts d) (to_le_bytes w32 (checksum (device_parts d))) n count

pub damage_is_refused : DamageIsRefused
damage_is_refused d e save k v is bytes within few other own =
    let n = length (device_parts d) in
    let changed = set save k v in
    let count : length (device_parts e) ≡ n = omega (arith, ap length is, own_length d, ap length own, own_length e, length-set save k v) in
    let one = front save d n is refl in
    let two = front changed e n own count in
    let sum_one = back save d n is refl in
    let sum_two = back changed e n own count in
    elim (cases_lt k n) [
      | inl below ↦
          let parts : device_parts e ≡ set (device_parts d) k v = sym two ∙ take_below save n k v below ∙ ap (λ (l : List ℕ). set l k v) one in
          let sums : to_le_bytes w32 (checksum (device_parts e)) ≡ to_le_bytes w32 (checksum (device_parts d)) = sym sum_two ∙ drop-set-lt n save k v below
          ∙ sum_one in
          let same : checksum (device_parts e) ≡ checksum (device_parts d) = grind (arith, from_le_bytes-to_le_bytes_4, sum_few) in
          let item : get_or (device_parts d) k 0 ≡ get_or save k 0 = ap (λ (l : List ℕ). get_or l k 0) (sym one) ∙ get_or-take n save k 0 below in
          one_differs (device_parts d) k v below (omega (arith, item, bytes k)) few (λ e. other (sym item ∙ e)) (ap checksum (sym parts) ∙ same)
      | inr above ↦
          let parts : device_parts e ≡ device_parts d = sym two ∙ take-set-le n save k v above ∙ one in
          let sums : drop n changed ≡ drop n save = sum_two ∙ ap (λ (l : List ℕ). to_le_bytes w32 (checksum l)) parts ∙ sym sum_one in
          let all : changed ≡ save =
          sym (take-append-drop n changed) ∙ ap (λ (l : List ℕ). l ++ drop n changed) (take-set-le n save k v above)
          ∙ ap (λ (l : List ℕ). take n save ++ l) sums ∙ take-append-drop n save in
          other (ap (λ (l : List ℕ). get_or l k 0) (sym all) ∙ get_or-set_same save k v 0 within)
    ]
