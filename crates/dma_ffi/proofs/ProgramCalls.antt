-- What the calls return and write that explain.
use Rattle.std.proofs.Common.{◌≡◌, ◌≢◌, ℕ, zero, suc, ◌<◌, ◌≤◌, ◌↔◌, List, [], ◌∷◌, ◌++◌, length, take, drop, map, Option, Some, Result, Ok, Err, ap}
use Rattle.std.proofs.Common.{arith, inl, inr, subst, sym, ◌∙◌}
use Rattle.std.proofs.lemmas.Bool.{cases_lt}
use Rattle.std.specs.Prelude.{ℤ, IfOk, IfErr, IsErrAnd, IsSomeAnd, slice_index_or, slice_set}
use Rattle.dma_chan.specs.{declared.exec.Registers.Registers, Channel.ChannelValue}
use Rattle.dma_insn.specs.AssemblyText.{most_program_bytes}
use Rattle.dma_explain.specs.{Explains.Finds, Explains.Refuses, declared.explain.Cause.TheVariants.NoMemory, declared.explain.Cause.TheVariants.TooLong}
use Rattle.dma_explain.specs.{declared.explain.Explained.Explained}
use Rattle.dma_device.specs.Explaining.{FailsFor, FindsFor, channel_of}
use Rattle.dma_device.specs.declared.device.explain.ExplainFault.TheVariants.{NoChannel, NoProgram, Unexplained}
use Rattle.dma_device.specs.{Device.DeviceValue, declared.device.explain.ExplainFault.ExplainFault}
use Rattle.dma_explain.specs.{declared.explain.known.Given.Given, Known.FindsFrom, Known.RefusesFrom}
use Rattle.dma_ffi.specs.Explaining.{ExplainsChannel, ExplainsProgram, ExplainsSo, Outputs}
use Rattle.dma_ffi.specs.{Calls.ReadsOpen, inner.Found.AnswersProgram, inner.Found.AnswersDevice}
use Rattle.dma_explain.specs.declared.explain.Unexplained.{Unexplained as Refusal}

-- ---- lists

module _ {A B : Type 0} (f : A → B) where
  -- one more item is written
  pub set_next : (xs : List A) (ys : List B) (i : ℕ) (d : A) (q : B) → i < length xs → length xs ≤ length ys → q ≡ f (slice_index_or xs i d)
      → slice_set (map f (take i xs) ++ drop i ys) i q ≡ map f (take (suc i) xs) ++ drop (suc i) ys
  set_next [] ys i d q less fits e = absurd (omega arith)
  set_next (x ∷ xs) [] i d q less fits e = absurd (omega arith)
  set_next (x ∷ xs) (y ∷ ys) zero d q less fits e = ap (λ (z : B). z ∷ ys) e
  set_next (x ∷ xs) (y ∷ ys) (suc i) d q less fits e = ap (λ (l : List B). f x ∷ l) (set_next xs ys i d q (omega arith) (omega arith) e)

-- ---- explanations

module _ (code : ℤ) (before after : Outputs) where
  -- of a program that isn't too long
  explains_so : (Found : Explained → Type 0) (Refused : Refusal → Type 0) (found : Result Explained Refusal) → IfOk found Found
      → IfErr found (λ u. u.cause ≢ TooLong) → IfErr found (λ u. u.cause ≢ NoMemory → Refused u) → AnswersProgram found code before after
      → ExplainsSo Found Refused code before after
  explains_so Found Refused (Ok x) ok short err h = inl (x, ok, h)
  explains_so Found Refused (Err u) ok short err (inl h) = absurd (short h.0)
  explains_so Found Refused (Err u) ok short err (inr (inl h)) = inr (inr (h.1, h.2))
  explains_so Found Refused (Err u) ok short err (inr (inr h)) = inr (inl (u, err h.1, h.2, h.3))

  module _ (given : Given) (program : List ℕ) (most : ℕ) where
    fits : (found : Result Explained Refusal) → IsErrAnd found (λ u. u.cause ≡ TooLong) ↔ most_program_bytes < length program
        → ¬ IsErrAnd found (λ u. u.cause ≡ TooLong) → length program ≤ most_program_bytes
    fits found long none = elim (cases_lt most_program_bytes (length program)) [ inl less ↦ absurd (none (long.1 less)) | inr le ↦ le ]

    here : (found : Result Explained Refusal) → IfOk found (FindsFrom given program most)
        → IfErr found (λ u. u.cause ≢ NoMemory → u.cause ≢ TooLong → RefusesFrom given program most u)
        → IsErrAnd found (λ u. u.cause ≡ TooLong) ↔ most_program_bytes < length program → AnswersProgram found code before after
        → ExplainsProgram program (Some given) most code before after
    here (Ok x) ok err long h = inr (fits (Ok x) long (λ none. none), inl (x, ok, h))
    here (Err u) ok err long (inl h) = inl (h.1, long.0 h.0, h.2)
    here (Err u) ok err long (inr (inl h)) =
        inr (fits (Err u) long (λ is. let bad : TooLong ≡ NoMemory = sym is ∙ h.0 in cc), inr (inr (h.1, h.2)))
    here (Err u) ok err long (inr (inr h)) = inr (fits (Err u) long h.0, inr (inl (u, err h.1 h.0, h.2, h.3)))

    pub explains_program : (found : Result Explained Refusal) → IfOk found (FindsFrom given program most)
        → IfErr found (λ u. u.cause ≢ NoMemory → u.cause ≢ TooLong → RefusesFrom given program most u)
        → IsErrAnd found (λ u. u.cause ≡ TooLong) ↔ most_program_bytes < length program → AnswersProgram found code before after
        → (from_c : Option Given) → Some given ≡ from_c → ExplainsProgram program from_c most code before after
    explains_program found ok err long h from_c same =
        subst (λ (o : Option Given). ExplainsProgram program o most code before after) same (here found ok err long h)

-- ---- a device's channel

-- a channel's program, if there is one, has a property that follows from one that it has
with_program : (o : Option ChannelValue) (P Q : Registers → List ℕ → Type 0) → ((start : Registers) (program : List ℕ) → P start program → Q start program)
    → IsSomeAnd o (λ c. IsSomeAnd c.program (λ p. P c.registers p.bytes)) → IsSomeAnd o (λ c. IsSomeAnd c.program (λ p. Q c.registers p.bytes))
with_program o P Q p h1 = grind arith

module _ (n most : ℕ) (code : ℤ) (before after : Outputs) where
  explains_channel : (d : DeviceValue) (found : Result Explained ExplainFault) → IfOk found (λ x. FindsFor d n most x)
      → IfErr found (λ fault. FailsFor d n most fault) → AnswersDevice found code before after
      → ExplainsChannel n most d code before after
  explains_channel d (Ok x) ok err h =
      inr (inr (with_program (channel_of d n) (λ start program. Finds start program most x)
      (λ start program. ExplainsSo (Finds start program most) (Refuses start program most) code before after)
      (λ start program finds.
      explains_so code before after (Finds start program most) (Refuses start program most) (Ok x) finds tt tt h) ok))
  explains_channel d (Err NoChannel) ok err h = inl (h.0, err, h.1)
  explains_channel d (Err NoProgram) ok err h = inr (inl (h.0, err.0, err.1, h.1))
  explains_channel d (Err (Unexplained u)) ok err h =
      inr (inr (with_program (channel_of d n)
      (λ start program. (u.cause ≢ TooLong) × (u.cause ≢ NoMemory → Refuses start program most u))
      (λ start program. ExplainsSo (Finds start program most) (Refuses start program most) code before after)
      (λ start program refuses.
      explains_so code before after (Finds start program most) (Refuses start program most) (Err u) tt refuses.0 refuses.1 h) err))

  pub explains_on_device : (old new : Option DeviceValue) (d : DeviceValue) (found : Result Explained ExplainFault) → Some d ≡ old → new ≡ Some d
      → IfOk found (λ x. FindsFor d n most x) → IfErr found (λ fault. FailsFor d n most fault) → AnswersDevice found code before after
      → ReadsOpen (ExplainsChannel n most) old code before after new
  explains_on_device old new d found was is ok err h = grind (arith, explains_channel)
