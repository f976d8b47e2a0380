-- How decoding and encoding are related, for any kind of instructions.
use Rattle.std.proofs.Common.{◌≡◌, ℕ, ◌<◌, ◌≤◌, false, List, [], ◌∷◌, ◌++◌, length, drop, get_or, suc, sym, ap, ◌∙◌, subst, Ok, Err}
use Rattle.std.proofs.Common.{arith, cond, eqb}
use Rattle.std.proofs.lemmas.Bool.{eqb-true, cond_both}
use Rattle.std.proofs.lemmas.List.{take-append-drop, length-take}
use Rattle.std.specs.Prelude.{MatchResult, IfOk, IfErr}
use Rattle.dma_insn.specs.declared.codec.DecodeFault.TheVariants.{Cut, Unknown, BadField}
use Rattle.dma_insn.specs.{declared.codec.DecodeFault.DecodeFault}
use Rattle.dma_insn.specs.Grammar.{Spelled, Begins, Refused, Found, or_more}

abbrev pub IsBytes : List ℕ → Type 0
IsBytes bytes = (i : ℕ) → get_or bytes i 0 < 256

-- An encoded instruction is decoded, whatever follows.
pub record Decodes {I : Type 0} (Ranges : I → Type 0) (spelling : I → List ℕ) (decode : List ℕ → Found I) : Type 0 where
  pub again : (i : I) (rest : List ℕ) → Ranges i → decode (spelling i ++ rest) ≡ Ok (i, length (spelling i))
  pub none : decode [] ≡ Err Cut

-- No instruction begins with this byte, whatever follows.
abbrev pub IsUnknown : {I : Type 0} → (List ℕ → Found I) → ℕ → Type 0
IsUnknown decode b = (left : List ℕ) → decode (b ∷ left) ≡ Err (Unknown b)

-- by whether the first byte is this
pub first_is : {A : Type 0} (P : ℕ → A → Type 0) (b c : ℕ) (x y : A) → P c x → (eqb b c ≡ false → P b y) → P b (cond (eqb b c) x y)
first_is P b c x y f g = cond_both (eqb b c) x y (P b) (λ t. subst (λ (k : ℕ). P k x) (sym (eqb-true b c t)) f) g

module _ {I : Type 0} {Ranges : I → Type 0} {spelling : I → List ℕ} {decode : List ℕ → Found I}
    (decodes : Decodes Ranges spelling decode) where
  -- why decoding fails: an unknown first byte is one whatever follows
  abbrev pub Fails : List ℕ → DecodeFault → Type 0
  Fails (first ∷ rest) (Unknown b) = (b ≡ first) × IsUnknown decode first
  Fails bytes fault = Refused Ranges spelling bytes fault

  -- the decoded instruction is encoded at the front of these bytes, and a fault is the first that applies
  abbrev pub Right : List ℕ → Found I → Type 0
  Right bytes read = MatchResult read (λ found. Spelled Ranges spelling bytes found.0 found.1) (λ fault. Fails bytes fault)

  -- An instruction that begins with this byte has more bytes than there are.
  pub cut : (i : I) (b : ℕ) (rest tail : List ℕ) → Ranges i → spelling i ≡ b ∷ tail → length rest < length tail → Refused Ranges spelling (b ∷ rest) Cut
  cut i b rest tail h e few = grind arith

  pub bad : (i : I) (b : ℕ) (rest tail : List ℕ) → Ranges i → spelling i ≡ b ∷ tail → length tail ≤ length rest → Refused Ranges spelling (b ∷ rest) BadField
  bad i b rest tail h e more = grind arith

  pub right_ok : (bytes : List ℕ) (r : Found I) → Right bytes r → IfOk r (λ found. Spelled Ranges spelling bytes found.0 found.1)
  right_ok bytes r h = grind (arith)

  refused : (bytes : List ℕ) (fault : DecodeFault) → Fails bytes fault → Refused Ranges spelling bytes fault
  refused (first ∷ rest) (Unknown b) h = (
    h.0,
    λ i begins.
        let found = decodes.again i [] begins.in_range in
        let failed = h.1 (begins.tail ++ []) in
        let same : spelling i ++ [] ≡ first ∷ (begins.tail ++ []) = ap (λ (bytes : List ℕ). bytes ++ []) begins.bytes_are in
        cc,
  )
  refused _ fault h = h

  pub right_err : (bytes : List ℕ) (r : Found I) → Right bytes r → IfErr r (λ fault. Refused Ranges spelling bytes fault)
  right_err bytes (Ok x) h = tt
  right_err bytes (Err fault) h = refused bytes fault h

  some_of : (xs : List ℕ) (x : I × ℕ) → decode (xs ++ []) ≡ Ok x → 0 < length xs
  some_of [] x e = let none = decodes.none in absurd (cc)
  some_of (b ∷ rest) x e = omega arith

  pub spelling_some : (i : I) → Ranges i → 0 < length (spelling i)
  spelling_some i h = some_of (spelling i) _ (decodes.again i [] h)

  -- An instruction that is encoded at the front has at least one byte, and not more than there are.
  pub spelled_within : (bytes : List ℕ) (i : I) (n : ℕ) → Spelled Ranges spelling bytes i n → (0 < n) × (n ≤ length bytes)
  spelled_within bytes i n h = grind (arith, spelling_some, length-take)

  pub right_within : (bytes : List ℕ) (r : Found I) → Right bytes r → IfOk r (λ found. (0 < found.1) × (found.1 ≤ length bytes))
  right_within bytes r h = grind (arith, spelled_within)

  pub decoded_at : (bytes : List ℕ) (i : I) (n : ℕ) → Spelled Ranges spelling bytes i n → decode bytes ≡ Ok (i, n)
  decoded_at bytes i n h =
      let split : bytes ≡ spelling i ++ drop n bytes = sym (take-append-drop n bytes) ∙ ap (λ (front : List ℕ). front ++ drop n bytes) h.bytes_are in
      ap decode split ∙ decodes.again i (drop n bytes) h.in_range ∙ ap (λ (m : ℕ). Ok (i, m)) (sym h.count_is)

  -- where decoding fails, no instruction is encoded
  pub none_spelled : (bytes : List ℕ) (r : Found I) → r ≡ decode bytes → IfErr r (λ _. (i : I) (n : ℕ) → Spelled Ranges spelling bytes i n → ⊥)
  none_spelled bytes r h = grind (arith, decoded_at)

-- The instructions of one grammar are instructions of another, with the same bytes.
pub record Extends {I J : Type 0} (Ranges : I → Type 0) (spelling : I → List ℕ) (Wide : J → Type 0) (wide : J → List ℕ) (into : I → J) : Type 0 where
  pub in_range : (i : I) → Ranges i → Wide (into i)
  pub same : (i : I) → wide (into i) ≡ spelling i

module _ {I J : Type 0} {Ranges : I → Type 0} {spelling : I → List ℕ} {Wide : J → Type 0} {wide : J → List ℕ} {into : I → J}
    (extends : Extends Ranges spelling Wide wide into) where
  pub wide_at : (bytes : List ℕ) (i : I) (n : ℕ) → Spelled Ranges spelling bytes i n → Spelled Wide wide bytes (into i) n
  wide_at bytes i n h = grind arith

  wide_begins : (i : I) (b : ℕ) → Begins Ranges spelling i b → Begins Wide wide (into i) b
  wide_begins i b h = record { in_range = extends.in_range i h.in_range; tail = h.tail; bytes_are = extends.same i ∙ h.bytes_are }

  pub more_right : {f : List ℕ → Found I} {g : List ℕ → Found J}
      (decodes : Decodes Ranges spelling f) (wides : Decodes Wide wide g) (more : ℕ → List ℕ → Found J)
      → ((b : ℕ) (rest : List ℕ) → IsBytes rest → IsUnknown f b → Right wides (b ∷ rest) (more b (b ∷ rest)))
      → (bytes : List ℕ) (r : Found I) → IsBytes bytes → Right decodes bytes r → Right wides bytes (or_more into more bytes r)
  more_right decodes wides more beyond bytes (Ok x) h right = wide_at bytes x.0 x.1 right
  more_right decodes wides more beyond [] (Err Cut) h right = tt
  more_right decodes wides more beyond [] (Err _) h right = absurd right
  more_right decodes wides more beyond (b ∷ rest) (Err (Unknown c)) h right =
      subst (λ (k : ℕ). Right wides (b ∷ rest) (more k (b ∷ rest))) (sym right.0) (beyond b rest (λ i. h (suc i)) right.1)
  more_right decodes wides more beyond (b ∷ rest) (Err _) h right = grind (arith, wide_begins)
