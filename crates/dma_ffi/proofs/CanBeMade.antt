-- The engine calls that a request of C makes can be made.
use Rattle.std.proofs.Common.{◌≡◌, ℕ, [], ◌∷◌, Option, None, arith}
use Rattle.std.specs.List.{All}
use Rattle.std.proofs.lemmas.List.Elements.{All-cons, All-replicate}
use Rattle.dma_mem.specs.{Places.Descriptor, Refusals.refusal_of, Rules.IsTransfer, declared.marks.MarkKind.MarkKind, declared.segment.Segment.Segment}
use Rattle.dma_mem.specs.{declared.call.Call.Call, declared.call.Call.TheVariants.Submit, declared.call.Call.TheVariants.Step}
use Rattle.dma_mem.proofs.TransferRules.{IsTransfer_from_no_refusal}
use Rattle.dma_engine.specs.{View.View, Laws.IsCall}
use Rattle.dma_ffi.specs.Requests.{Answer, Answers, AnswersSubmit, Request, ask_call, ask_mark, ask_steps, ask_submit, ask_value, replied, stepped}
use Rattle.dma_ffi.specs.{Codes.mark_kind, Laws.CanBeRequested, Laws.calls_made, Laws.if_replied, Laws.marking}

-- ---- the calls of each request

pub none_made_law : All IsCall []
none_made_law k d less = absurd (omega (arith, less))

alone : (call : Call) → IsCall call → All IsCall (call ∷ [])
alone call can = All-cons IsCall call [] can none_made_law

marks_made : (kind : Option MarkKind) (range : Segment) → All IsCall (marking kind range)
marks_made kind range = grind (arith, alone, none_made_law)

submit_made_law : (v w : View) (ch : ℕ) (t : Descriptor) (answer : Answer) → (refusal_of t ≡ None → IsTransfer t) → AnswersSubmit v ch t answer w
    → All IsCall (if_replied answer (Submit ch t))
submit_made_law v w ch t answer h1 h2 = grind (arith, alone, none_made_law)

steps_made_law : (ch most : ℕ) (answer : Answer) → All IsCall (calls_made (ask_steps ch most) answer)
steps_made_law ch most (replied reply) = alone (Step ch) tt
steps_made_law ch most (stepped taken last) = All-replicate IsCall taken (Step ch) tt
steps_made_law ch most answer = none_made_law

-- the calls that a request of C makes, given its answer, can be made
pub can_be_made : (v w : View) (request : Request) (answer : Answer) → CanBeRequested request → Answers v request answer w
    → All IsCall (calls_made request answer)
can_be_made v w (ask_call call) answer can h = alone call can
can_be_made v w (ask_mark kind range) answer can h = marks_made (mark_kind kind) range
can_be_made v w (ask_submit ch t) answer can h = submit_made_law v w ch t answer (IsTransfer_from_no_refusal t can) h
can_be_made v w (ask_steps ch most) answer can h = steps_made_law ch most answer
can_be_made v w (ask_value value) answer can h = none_made_law
