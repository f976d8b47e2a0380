-- Whether two texts are the same, byte by byte.
use Rattle.std.proofs.Common.{◌≡◌, ◌≢◌, ℕ, ◌<◌, true, false, List, length, get_or, ap, arith}
use Rattle.std.specs.Str.{bytes_eq}
use Rattle.std.proofs.{lemmas.Bool.false_from_ne_true, lemmas.Grind.same_number_lists, lemmas.Slice.Eq.bytes_eq-Decides}

-- texts of two lengths
pub other_length : (word text : List ℕ) → length word ≢ length text → bytes_eq word text ≡ false
other_length word text other = false_from_ne_true (bytes_eq word text) (λ e. other (ap length ((bytes_eq-Decides word text).0 e)))

-- texts that differ in a byte
pub other_byte : (word text : List ℕ) (i : ℕ) → get_or word i 0 ≢ get_or text i 0 → bytes_eq word text ≡ false
other_byte word text i other = false_from_ne_true (bytes_eq word text) (λ e. other (ap (λ (l : List ℕ). get_or l i 0) ((bytes_eq-Decides word text).0 e)))

-- texts of one length that differ in no byte
pub same_bytes : (word text : List ℕ) → length word ≡ length text → ((k : ℕ) → k < length text → get_or word k 0 ≡ get_or text k 0) → bytes_eq word text ≡ true
same_bytes word text size same = (bytes_eq-Decides word text).1 (same_number_lists word text size (λ k below. same k (omega arith)))
