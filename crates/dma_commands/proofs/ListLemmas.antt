-- Lines of a script that are executed together, and how far lines are executed.
use Rattle.std.proofs.Common.{◌≡◌, ◌≢◌, ℕ, ◌+◌, ◌-◌, ◌<◌, ◌≤◌, slice_index_or, suc, zero, List, [], ◌∷◌, ◌++◌, length, map, take, drop, refl, ap, sym, ◌∙◌, subst, arith}
use Rattle.std.proofs.Common.{append_assoc, append-nil}
use Rattle.std.specs.Prelude.{replicate, Err, None, Ok, OnErr, Option, Result}
use Rattle.std.proofs.Math.Seq.{take-append-add, take-append_seam, take-length}
use Rattle.std.proofs.lemmas.List.{drop-append-le, drop_all, drop_more, length-append, length-drop, length-replicate, take-append-drop, take-append-le, take-replicate}
use Rattle.dma_mem.specs.declared.call.Call.{Call}
use Rattle.dma_mem.specs.{Places.Descriptor, Refusals.refusal_of, declared.transfer.TransferFault.TransferFault}
use Rattle.dma_script.specs.declared.transfer_line.TransferLine.{TransferLine}
use Rattle.dma_commands.specs.{Run.call_answer, Run.unless_invalid, Transfers.transfer_of}
use Rattle.dma_mem.specs.declared.call.Call.TheVariants as calls
use Rattle.dma_engine.specs.{View.View, Answer.AreAnswers, Answer.answer, Answer.answers, declared.call.Reply.Reply}
use Rattle.dma_engine.specs.{declared.call.Reply.TheVariants.Refused, declared.fault.EngineFault.TheVariants.NoMemory}
use Rattle.dma_engine.proofs.JoinedCalls.{answer_unless_no_memory, answers_split, answers_unless_no_memory}
use Rattle.dma_io.specs.Command.{AppendsGroups, printed_text, text_of}
use Rattle.dma_script.specs.declared.statements.Statement.{Statement}
use Rattle.dma_script.specs.declared.statements.Statement.TheVariants as statements
use Rattle.dma_script.proofs.InterpretedLemmas.{printed_text_append}
use Rattle.dma_commands.specs.declared.run.call_list.Line.{Line}
use Rattle.dma_commands.specs.declared.run.call_list.Line.TheVariants as lines
use Rattle.dma_commands.specs.{Laws.HaveMemory, Left.lines_left, Printed.call_line, Printed.reply_text, Run.Answered, Run.line_answer, Run.lines_answered}
use Rattle.dma_commands.specs.{Run.step_lines, inner.Listed.AnswersLines, inner.Listed.IsWhole, inner.Listed.Prints}
use Rattle.dma_commands.specs.inner.{Listed.Reaches, Listed.statements_in}

-- ---- lines behind others

answered_append : (v : View) (xs ys : List Statement) → lines_answered v (xs ++ ys) ≡ lines_answered v xs ++ lines_answered (lines_left v xs) ys
answered_append v [] ys = refl
answered_append v (x ∷ xs) ys = ap (λ l. (line_answer v x).0 ∷ l) (answered_append (line_answer v x).1 xs ys)

left_append : (v : View) (xs ys : List Statement) → lines_left v (xs ++ ys) ≡ lines_left (lines_left v xs) ys
left_append v [] ys = refl
left_append v (x ∷ xs) ys = left_append (line_answer v x).1 xs ys

pub nothing_left : {X : Type 0} (xs : List X) → length xs ≡ 0 → xs ≡ []
nothing_left [] none = refl
nothing_left (x ∷ xs) none = absurd (omega (arith, none))

-- ---- how far lines are executed

pub reaches_same : (v : View) (all : List Statement) (old : List ℕ) → Reaches v all old v all old
reaches_same v all old = record { groups = []; answered = refl; left = refl; text = sym (append-nil old) }

pub reaches_after : (v w x : View) (all rest more : List Statement) (old mid new : List ℕ) → Reaches v all old w rest mid → Reaches w rest mid x more new
    → Reaches v all old x more new
reaches_after v w x all rest more old mid new h g = record {
  groups = h.groups ++ g.groups;
  answered = h.answered ∙ ap (λ l. h.groups ++ l) g.answered ∙ sym (append_assoc h.groups g.groups (lines_answered x more));
  left = h.left ∙ g.left;
  text = g.text ∙ ap (λ o. o ++ printed_text g.groups) h.text ∙ append_assoc old (printed_text h.groups) (printed_text g.groups)
      ∙ ap (λ t. old ++ t) (sym (printed_text_append h.groups g.groups));
}

-- one line more
pub reaches_line : (v : View) (line : Statement) (rest : List Statement) (w : View) (old new : List ℕ) → w ≡ (line_answer v line).1
    → new ≡ old ++ text_of (line_answer v line).0 → Reaches v (line ∷ rest) old w rest new
reaches_line v line rest w old new is prints = record {
  groups = (line_answer v line).0 ∷ [];
  answered = ap (λ (x : View). (line_answer v line).0 ∷ lines_answered x rest) (sym is);
  left = ap (λ (x : View). lines_left x rest) (sym is);
  text = prints ∙ ap (λ t. old ++ t) (sym (append-nil (text_of (line_answer v line).0)));
}

-- all lines of a list
pub reaches_list : (v w : View) (list behind : List Statement) (old new : List ℕ) → AnswersLines v list w old new
    → Reaches v (list ++ behind) old w behind new
reaches_list v w list behind old new h = record {
  groups = lines_answered v list;
  answered = answered_append v list behind ∙ ap (λ (x : View). lines_answered v list ++ lines_answered x behind) (sym h.left);
  left = left_append v list behind ∙ ap (λ (x : View). lines_left x behind) (sym h.left);
  text = h.text;
}

-- all lines
pub reaches_all : (v w : View) (all rest : List Statement) (old new : List ℕ) → Reaches v all old w rest new → rest ≡ [] → AnswersLines v all w old new
reaches_all v w all rest old new h none =
    let g = subst (λ l. Reaches v all old w l new) none h in
    record { left = sym g.left; text = g.text ∙ ap (λ l. old ++ printed_text l) (sym (append-nil g.groups) ∙ sym g.answered) }

-- If a line is replaced by one that is answered alike, then all lines are answered as before.
answered_alike : (v : View) (before behind : List Statement) (line other : Statement) → ((x : View) → line_answer x line ≡ line_answer x other)
    → lines_answered v (before ++ line ∷ behind) ≡ lines_answered v (before ++ other ∷ behind)
answered_alike v [] behind line other alike = ap (λ (a : Answered). a.0 ∷ lines_answered a.1 behind) (alike v)
answered_alike v (x ∷ before) behind line other alike =
    ap (λ l. (line_answer v x).0 ∷ l) (answered_alike (line_answer v x).1 before behind line other alike)

left_alike : (v : View) (before behind : List Statement) (line other : Statement) → ((x : View) → line_answer x line ≡ line_answer x other)
    → lines_left v (before ++ line ∷ behind) ≡ lines_left v (before ++ other ∷ behind)
left_alike v [] behind line other alike = ap (λ (a : Answered). lines_left a.1 behind) (alike v)
left_alike v (x ∷ before) behind line other alike = left_alike (line_answer v x).1 before behind line other alike

pub reaches_alike : (v : View) (before behind : List Statement) (line other : Statement) (old : List ℕ) (w : View) (rest : List Statement) (new : List ℕ)
    → ((x : View) → line_answer x line ≡ line_answer x other) → Reaches v (before ++ other ∷ behind) old w rest new
    → Reaches v (before ++ line ∷ behind) old w rest new
reaches_alike v before behind line other old w rest new alike h = record {
  groups = h.groups;
  answered = answered_alike v before behind line other alike ∙ h.answered;
  left = left_alike v before behind line other alike ∙ h.left;
  text = h.text;
}

-- ---- lines that stop

-- after a line that was not executed
pub stops_here : (v : View) (all : List Statement) (old : List ℕ) (w : View) (line : Statement) (rest : List Statement) (new : List ℕ)
    → Reaches v all old w (line ∷ rest) new → AppendsGroups (lines_answered v all) old new
stops_here v all old w line rest new h = record {
  count = length h.groups;
  some_left = omega (arith, ap length h.answered, length-append h.groups (lines_answered w (line ∷ rest)));
  whole = h.text ∙ ap (λ l. old ++ printed_text l) (sym (ap (take (length h.groups)) h.answered ∙ take-append_seam h.groups (lines_answered w (line ∷ rest))));
}

pub stops_after : (v w : View) (all rest : List Statement) (old mid new : List ℕ) → Reaches v all old w rest mid
    → AppendsGroups (lines_answered w rest) mid new → AppendsGroups (lines_answered v all) old new
stops_after v w all rest old mid new h g = record {
  count = length h.groups + g.count;
  some_left = omega (arith, ap length h.answered, length-append h.groups (lines_answered w rest), g.some_left);
  whole = g.whole ∙ ap (λ o. o ++ printed_text (take g.count (lines_answered w rest))) h.text
      ∙ append_assoc old (printed_text h.groups) (printed_text (take g.count (lines_answered w rest)))
      ∙ ap (λ t. old ++ t) (sym (printed_text_append h.groups (take g.count (lines_answered w rest)))
      ∙ ap printed_text (sym (ap (take (length h.groups + g.count)) h.answered ∙ take-append-add h.groups (lines_answered w rest) g.count)));
}

-- with more lines behind them
pub stops_before : (v : View) (list behind : List Statement) (old new : List ℕ) → AppendsGroups (lines_answered v list) old new
    → AppendsGroups (lines_answered v (list ++ behind)) old new
stops_before v list behind old new h =
    let more = lines_answered (lines_left v list) behind in
    let all = answered_append v list behind in
    record {
      count = h.count;
      some_left = omega (arith, ap length all, length-append (lines_answered v list) more, h.some_left);
      whole = h.whole ∙ ap (λ l. old ++ printed_text l) (sym (ap (take h.count) all ∙ take-append-le h.count (lines_answered v list) more (omega (arith, h.some_left))));
    }

-- If a line is replaced by one that is answered alike, then what was printed so far is still the text of the first
-- lines.
pub stops_alike : (v : View) (before behind : List Statement) (line other : Statement) (old new : List ℕ)
    → ((x : View) → line_answer x line ≡ line_answer x other) → AppendsGroups (lines_answered v (before ++ other ∷ behind)) old new
    → AppendsGroups (lines_answered v (before ++ line ∷ behind)) old new
stops_alike v before behind line other old new alike h =
    subst (λ g. AppendsGroups g old new) (sym (answered_alike v before behind line other alike)) h

-- ---- a list of lines

length_take_few : {X : Type 0} (n : ℕ) (xs : List X) → length (take n xs) ≤ length xs
length_take_few zero xs = omega arith
length_take_few (suc n) [] = omega arith
length_take_few (suc n) (x ∷ xs) = omega (arith, length_take_few n xs)

-- as many calls as it takes are there
pub steps_within : (count : ℕ) (call : Call) (own : List Call) → take count own ≡ replicate count call → count ≤ length own
steps_within count call own is = omega (arith, ap length is, length-replicate count call, length_take_few count own)

-- one more line, with its calls
pub added : (rest : List Line) (line : Line) (own more : List Call) → IsWhole rest own → IsWhole (line ∷ []) more
    → IsWhole (rest ++ line ∷ []) (own ++ more)
    × (statements_in (rest ++ line ∷ []) (own ++ more) ≡ statements_in rest own ++ statements_in (line ∷ []) more)
added [] line own more whole one =
    subst (λ (o : List Call). IsWhole (line ∷ []) (o ++ more) × (statements_in (line ∷ []) (o ++ more) ≡ statements_in (line ∷ []) more)) (sym whole) (one, refl)
added (lines.Call ∷ rest) line [] more whole one = absurd whole
added (lines.Call ∷ rest) line (call ∷ own) more whole one =
    let found = added rest line own more whole one in (found.0, ap (λ r. statements.Call call ∷ r) found.1)
added (lines.Steps ch count ∷ rest) line own more whole one =
    let few = steps_within count (calls.Step ch) own whole.0 in
    let found = added rest line (drop count own) more whole.1 one in
    let behind = drop-append-le count own more few in (
      (take-append-le count own more few ∙ whole.0, subst (λ (o : List Call). IsWhole (rest ++ line ∷ []) o) (sym behind) found.0),
      ap (λ r. statements.Step ch count ∷ r) (ap (statements_in (rest ++ line ∷ [])) behind ∙ found.1),
    )

-- the steps of one line
pub whole_steps : (ch count : ℕ) → IsWhole (lines.Steps ch count ∷ []) (replicate count (calls.Step ch))
whole_steps ch count = (
  take-replicate count count (calls.Step ch) (omega arith),
  drop_all count (replicate count (calls.Step ch)) (omega (arith, length-replicate count (calls.Step ch))),
)

-- ---- what a list prints

pub answers_length : (v w : View) (cs : List Call) (rs : List Reply) → AreAnswers v cs rs w → length rs ≡ length cs
answers_length v w [] [] h = refl
answers_length v w [] (r ∷ rs) h = absurd h
answers_length v w (c ∷ cs) [] h = absurd h
answers_length v w (c ∷ cs) (r ∷ rs) h = ap suc (answers_length h.0 w cs rs h.2)

-- the line of a call
pub prints_call : (v w : View) (all : List Statement) (old : List ℕ) (rest : List Line) (own : List Call) (replies : List Reply) (mid new : List ℕ)
    (call : Call) (reply : Reply) (own' : List Call) (replies' : List Reply) → own ≡ call ∷ own' → replies ≡ reply ∷ replies'
    → Prints v w all old (lines.Call ∷ rest) own replies mid → reply ≢ Refused NoMemory
    → new ≡ mid ++ text_of (call_line call reply ∷ []) → Prints v w all old rest own' replies' new
prints_call v w all old rest own replies mid new call reply own' replies' is_own is_replies h memory prints =
    let g = subst (λ (o : List Call). Prints v w all old (lines.Call ∷ rest) o (reply ∷ replies') mid) is_own
    (subst (λ (r : List Reply). Prints v w all old (lines.Call ∷ rest) own r mid) is_replies h) in
    let next = g.answers.0 in
    let is : (reply, next) ≡ answer g.now call = answer_unless_no_memory g.now next call reply memory g.answers.1 in
    record {
      now = next;
      answers = g.answers.2;
      reached = reaches_after v g.now next all (statements.Call call ∷ statements_in rest own') (statements_in rest own') old mid new g.reached
          (reaches_line g.now (statements.Call call) (statements_in rest own') next mid new (ap (λ (a : Reply × View). a.1) is)
          (prints ∙ ap (λ (a : Reply × View). mid ++ text_of (call_line call a.0 ∷ [])) is));
    }

-- the lines of steps
pub prints_steps : (v w : View) (all : List Statement) (old : List ℕ) (rest : List Line) (own : List Call) (replies : List Reply) (mid new : List ℕ)
    (ch count : ℕ) → take count own ≡ replicate count (calls.Step ch)
    → Prints v w all old (lines.Steps ch count ∷ rest) own replies mid → HaveMemory (take count replies)
    → new ≡ mid ++ text_of (step_lines ch (map reply_text (take count replies)))
    → Prints v w all old rest (drop count own) (drop count replies) new
prints_steps v w all old rest own replies mid new ch count steps h memory prints =
    let step = calls.Step ch in
    let cut : replicate count step ++ drop count own ≡ own = ap (λ (l : List Call). l ++ drop count own) (sym steps) ∙ take-append-drop count own in
    let parts = answers_split h.now w (replicate count step) (drop count own) replies
    (subst (λ (o : List Call). AreAnswers h.now o replies w) (sym cut) h.answers) in
    let next = parts.0 in
    let first = subst (λ (n : ℕ). AreAnswers h.now (replicate count step) (take n replies) next) (length-replicate count step) parts.1 in
    let more = subst (λ (n : ℕ). AreAnswers next (drop count own) (drop n replies) w) (length-replicate count step) parts.2 in
    let is : (take count replies, next) ≡ answers h.now (replicate count step) =
    answers_unless_no_memory h.now next (replicate count step) (take count replies) memory first in
    record {
      now = next;
      answers = more;
      reached = reaches_after v h.now next all (statements.Step ch count ∷ statements_in rest (drop count own)) (statements_in rest (drop count own)) old mid new
          h.reached
          (reaches_line h.now (statements.Step ch count) (statements_in rest (drop count own)) next mid new (ap (λ (a : List Reply × View). a.1) is)
          (prints ∙ ap (λ (a : List Reply × View). mid ++ text_of (step_lines ch (map reply_text a.0))) is));
    }

-- ---- the first line

-- a call
pub one_call_whole : (line : Line) (rest : List Line) (own : List Call) → line ≡ lines.Call → IsWhole (line ∷ rest) own → IsWhole rest (drop 1 own)
one_call_whole line rest [] is whole = absurd (subst (λ (l : Line). IsWhole (l ∷ rest) []) is whole)
one_call_whole line rest (call ∷ own) is whole = subst (λ (l : Line). IsWhole (l ∷ rest) (call ∷ own)) is whole

pub one_call_few : (line : Line) (rest : List Line) (own : List Call) → line ≡ lines.Call → IsWhole (line ∷ rest) own → 1 ≤ length own
one_call_few line rest [] is whole = absurd (subst (λ (l : Line). IsWhole (l ∷ rest) []) is whole)
one_call_few line rest (call ∷ own) is whole = omega arith

pub one_call_printed : (v w : View) (all : List Statement) (old : List ℕ) (line : Line) (rest : List Line) (own : List Call) (replies : List Reply) (mid new : List ℕ)
    (call : Call) (reply : Reply) → line ≡ lines.Call → length replies ≡ length own → call ≡ slice_index_or own 0 call → reply ≡ slice_index_or replies 0 reply
    → reply ≢ Refused NoMemory → new ≡ mid ++ text_of (call_line call reply ∷ []) → IsWhole (line ∷ rest) own
    → Prints v w all old (line ∷ rest) own replies mid → Prints v w all old rest (drop 1 own) (drop 1 replies) new
one_call_printed v w all old line rest [] replies mid new call reply is same first one memory prints whole h =
    absurd (subst (λ (l : Line). IsWhole (l ∷ rest) []) is whole)
one_call_printed v w all old line rest (c ∷ own) [] mid new call reply is same first one memory prints whole h = absurd (omega (arith, same))
one_call_printed v w all old line rest (c ∷ own) (r ∷ replies) mid new call reply is same first one memory prints whole h =
    prints_call v w all old rest (c ∷ own) (r ∷ replies) mid new call reply own replies (ap (λ (x : Call). x ∷ own) (sym first))
    (ap (λ (x : Reply). x ∷ replies) (sym one)) (subst (λ (l : Line). Prints v w all old (l ∷ rest) (c ∷ own) (r ∷ replies) mid) is h) memory prints

-- steps
pub some_steps_whole : (line : Line) (rest : List Line) (own : List Call) (ch count : ℕ) → line ≡ lines.Steps ch count → IsWhole (line ∷ rest) own
    → (take count own ≡ replicate count (calls.Step ch)) × IsWhole rest (drop count own)
some_steps_whole line rest own ch count is whole = subst (λ (l : Line). IsWhole (l ∷ rest) own) is whole

pub some_steps_few : (line : Line) (rest : List Line) (own : List Call) (ch count : ℕ) → line ≡ lines.Steps ch count → IsWhole (line ∷ rest) own
    → count ≤ length own
some_steps_few line rest own ch count is whole = steps_within count (calls.Step ch) own (some_steps_whole line rest own ch count is whole).0

pub some_steps_printed : (v w : View) (all : List Statement) (old : List ℕ) (line : Line) (rest : List Line) (own : List Call) (replies : List Reply)
    (mid new : List ℕ) (ch count : ℕ) → line ≡ lines.Steps ch count → HaveMemory (take count replies)
    → new ≡ mid ++ text_of (step_lines ch (map reply_text (take count replies))) → IsWhole (line ∷ rest) own
    → Prints v w all old (line ∷ rest) own replies mid → Prints v w all old rest (drop count own) (drop count replies) new
some_steps_printed v w all old line rest own replies mid new ch count is memory prints whole h =
    prints_steps v w all old rest own replies mid new ch count (some_steps_whole line rest own ch count is whole).0
    (subst (λ (l : Line). Prints v w all old (l ∷ rest) own replies mid) is h) memory prints

-- ---- the lines one after another

-- what is behind the first calls, as a slice
behind_is : {X : Type 0} (n : ℕ) (xs : List X) → take (length xs - n) (drop n xs) ≡ drop n xs
behind_is n xs = ap (λ k. take k (drop n xs)) (sym (length-drop n xs)) ∙ take-length (drop n xs)

-- the lines from one place on
pub from_place : (all : List Line) (k : ℕ) (d : Line) → k < length all → drop k all ≡ slice_index_or all k d ∷ drop (k + 1) all
from_place all k d less = drop_more all k d less

pub next_whole : (rest : List Line) (own : List Call) (n : ℕ) → IsWhole rest (drop n own) → IsWhole rest (take (length own - n) (drop n own))
next_whole rest own n h = subst (IsWhole rest) (sym (behind_is n own)) h

pub next_same : (own : List Call) (replies : List Reply) (n : ℕ) → length replies ≡ length own
    → length (take (length replies - n) (drop n replies)) ≡ length (take (length own - n) (drop n own))
next_same own replies n same =
    ap length (behind_is n replies) ∙ length-drop n replies ∙ ap (λ k. k - n) same ∙ sym (length-drop n own) ∙ ap length (sym (behind_is n own))

pub next_prints : (v w : View) (all : List Statement) (old : List ℕ) (rest : List Line) (own : List Call) (replies : List Reply) (new : List ℕ) (n : ℕ)
    → Prints v w all old rest (drop n own) (drop n replies) new
    → Prints v w all old rest (take (length own - n) (drop n own)) (take (length replies - n) (drop n replies)) new
next_prints v w all old rest own replies new n h =
    subst (λ (o : List Call). Prints v w all old rest o (take (length replies - n) (drop n replies)) new) (sym (behind_is n own))
    (subst (λ (r : List Reply). Prints v w all old rest (drop n own) r new) (sym (behind_is n replies)) h)

-- a line that was not printed
pub stops_printed : (v w : View) (all : List Statement) (old : List ℕ) (line : Line) (rest : List Line) (own : List Call) (replies : List Reply) (now : List ℕ)
    → IsWhole (line ∷ rest) own → Prints v w all old (line ∷ rest) own replies now → AppendsGroups (lines_answered v all) old now
stops_printed v w all old lines.Call rest [] replies now whole h = absurd whole
stops_printed v w all old lines.Call rest (call ∷ own) replies now whole h =
    stops_here v all old h.now (statements.Call call) (statements_in rest own) now h.reached
stops_printed v w all old (lines.Steps ch count) rest own replies now whole h =
    stops_here v all old h.now (statements.Step ch count) (statements_in rest (drop count own)) now h.reached

-- nothing was printed of a list with a line
pub stops_unprinted : (v : View) (list : List Line) (own : List Call) (old : List ℕ) → IsWhole list own → 0 < length list
    → AppendsGroups (lines_answered v (statements_in list own)) old old
stops_unprinted v [] own old whole some = absurd (omega (arith, some))
stops_unprinted v (lines.Call ∷ rest) [] old whole some = absurd whole
stops_unprinted v (lines.Call ∷ rest) (call ∷ own) old whole some =
    let all = statements.Call call ∷ statements_in rest own in
    stops_here v all old v (statements.Call call) (statements_in rest own) old (reaches_same v all old)
stops_unprinted v (lines.Steps ch count ∷ rest) own old whole some =
    let all = statements.Step ch count ∷ statements_in rest (drop count own) in
    stops_here v all old v (statements.Step ch count) (statements_in rest (drop count own)) old (reaches_same v all old)

-- what holds however a result came about
pub on_err_always : {A E : Type 0} (P : Type 0) (result : Result A E) → P → OnErr result P
on_err_always P (Ok x) p = tt
on_err_always P (Err e) p = p

-- ---- a line that is taken

-- it waits in the list
pub reaches_pushed : (v : View) (list list' : List Statement) (line : Statement) (behind : List Statement) (old : List ℕ) → list' ≡ list ++ line ∷ []
    → Reaches v (list ++ line ∷ behind) old v (list' ++ behind) old
reaches_pushed v list list' line behind old is =
    subst (λ l. Reaches v (list ++ line ∷ behind) old v l old) (sym (append_assoc list (line ∷ []) behind) ∙ ap (λ l. l ++ behind) (sym is))
    (reaches_same v (list ++ line ∷ behind) old)

-- it found no memory to wait
pub stops_pushed : (v : View) (list : List Statement) (line : Statement) (behind : List Statement) (old : List ℕ)
    → AppendsGroups (lines_answered v (list ++ line ∷ behind)) old old
stops_pushed v [] line behind old = stops_here v (line ∷ behind) old v line behind old (reaches_same v (line ∷ behind) old)
stops_pushed v (first ∷ list) line behind old =
    stops_here v (first ∷ (list ++ line ∷ behind)) old v first (list ++ line ∷ behind) old (reaches_same v (first ∷ (list ++ line ∷ behind)) old)

-- it was executed after those of the list
pub reaches_alone : (v u w : View) (list list' : List Statement) (line : Statement) (behind : List Statement) (old mid new : List ℕ)
    → AnswersLines v list u old mid → list' ≡ [] → w ≡ (line_answer u line).1 → new ≡ mid ++ text_of (line_answer u line).0
    → Reaches v (list ++ line ∷ behind) old w (list' ++ behind) new
reaches_alone v u w list list' line behind old mid new h none is prints =
    subst (λ l. Reaches v (list ++ line ∷ behind) old w (l ++ behind) new) (sym none)
    (reaches_after v u w (list ++ line ∷ behind) (line ∷ behind) behind old mid new (reaches_list v u list (line ∷ behind) old mid h)
    (reaches_line u line behind w mid new is prints))

pub stops_alone : (v u : View) (list : List Statement) (line : Statement) (behind : List Statement) (old mid new : List ℕ) → AnswersLines v list u old mid
    → new ≡ mid → AppendsGroups (lines_answered v (list ++ line ∷ behind)) old new
stops_alone v u list line behind old mid new h same =
    subst (AppendsGroups (lines_answered v (list ++ line ∷ behind)) old) (sym same)
    (stops_here v (list ++ line ∷ behind) old u line behind mid (reaches_list v u list (line ∷ behind) old mid h))

-- a submit whose transfer breaks no rule is answered as its call
pub submit_alike : (ch : ℕ) (words : TransferLine) (t : Descriptor) → t ≡ transfer_of words → refusal_of t ≡ None → (x : View)
    → line_answer x (statements.Submit ch words) ≡ line_answer x (statements.Call (calls.Submit ch t))
submit_alike ch words t is fit x =
    subst (λ (u : Descriptor). unless_invalid (refusal_of u) x (call_answer x (calls.Submit ch u)) ≡ call_answer x (calls.Submit ch t)) is
    (ap (λ (f : Option TransferFault). unless_invalid f x (call_answer x (calls.Submit ch t))) fit)

-- ---- one line

pub one_line_left : (v w : View) (line : Statement) (old new : List ℕ) → AnswersLines v (line ∷ []) w old new
    → (w ≡ (line_answer v line).1) × (new ≡ old ++ text_of (line_answer v line).0)
one_line_left v w line old new h = (h.left, h.text ∙ ap (λ t. old ++ t) (append-nil (text_of (line_answer v line).0)))

pub one_line_stops : (v : View) (line : Statement) (old new : List ℕ) → AppendsGroups (lines_answered v (line ∷ [])) old new → new ≡ old
one_line_stops v line old new h =
    let none : h.count ≡ 0 = omega (arith, h.some_left) in
    h.whole ∙ ap (λ n. old ++ printed_text (take n (lines_answered v (line ∷ [])))) none ∙ append-nil old
