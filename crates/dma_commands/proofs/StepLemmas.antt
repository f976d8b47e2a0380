-- Runs of equal answers, and the lines of the runs before the last.
use Rattle.std.proofs.Common.{◌≡◌, ◌≢◌, ℕ, ◌+◌, ◌-◌, ◌<◌, ◌≤◌, length, take, drop, slice_index_or, subst, List, [], ◌∷◌, ◌++◌, map, Bool, true, false, refl, ap, sym, ◌∙◌, zero, suc, append_assoc, arith}
use Rattle.std.specs.{Prelude.replicate, Str.bytes_eq}
use Rattle.std.proofs.lemmas.List.{append-nil, length-append, length-drop, length-replicate, map-append, replicate-append-replicate, take-append-drop}
use Rattle.std.proofs.{Math.Seq.take-length, lemmas.List.Elements.All-append, lemmas.List.Elements.All-cons, lemmas.List.Elements.All-nil}
use Rattle.std.proofs.{lemmas.List.Elements.All-replicate}
use Rattle.std.proofs.{Math.Nat.zero-lt-suc, lemmas.Slice.Eq.bytes_eq-Decides}
use Rattle.dma_io.specs.Command.{text_of}
use Rattle.dma_mem.specs.declared.call.Call.{Call}
use Rattle.dma_engine.specs.declared.turn.Turn.TheVariants.{Started, Moved, Finished}
use Rattle.dma_engine.specs.{declared.call.Reply.Reply, declared.outcome.TransResult.TheVariants.NoError, View.View, Answer.AreAnswers, Answer.answers}
use Rattle.dma_engine.specs.{declared.call.Reply.TheVariants.Refused, declared.call.Reply.TheVariants.Turned, declared.fault.EngineFault.TheVariants.NoMemory}
use Rattle.dma_commands.specs.Run.{joined, runs_of, step_line, step_lines}
use Rattle.dma_commands.specs.{Laws.HaveMemory, Printed.reply_text, Printed.turn_text, inner.Counting.text_with, inner.Counting.transfer_text}
use Rattle.dma_engine.proofs.JoinedCalls.{answers_append_law, answers_unless_no_memory}

-- ---- runs

-- the first run has the first text
head_by : (x next : List ℕ) (count : ℕ) (rest : List (List ℕ × ℕ)) (b : Bool) → bytes_eq x next ≡ b → (k : ℕ) × (more : List (List ℕ × ℕ))
    × (joined x ((next, count) ∷ rest) ≡ (x, k) ∷ more)
head_by x next count rest true e = (count + 1, rest, rw e refl)
head_by x next count rest false e = (1, (next, count) ∷ rest, rw e refl)

joined_head : (x : List ℕ) (runs : List (List ℕ × ℕ)) → (k : ℕ) × (more : List (List ℕ × ℕ)) × (joined x runs ≡ (x, k) ∷ more)
joined_head x [] = (1, [], refl)
joined_head x ((next, count) ∷ rest) = head_by x next count rest (bytes_eq x next) refl

bytes_eq_refl : (x : List ℕ) → bytes_eq x x ≡ true
bytes_eq_refl x = (bytes_eq-Decides x x).1 refl

-- equal texts, and then another
runs_more : (n : ℕ) (t x : List ℕ) (rest : List (List ℕ)) → bytes_eq t x ≡ false → runs_of (replicate (suc n) t ++ x ∷ rest) ≡ (t, suc n) ∷ runs_of (x ∷ rest)
runs_more zero t x rest other = grind (arith, joined_head)
runs_more (suc n) t x rest other = grind (arith, bytes_eq_refl, runs_more n t x rest other)

-- equal texts alone
runs_alone : (n : ℕ) (t : List ℕ) → runs_of (replicate (suc n) t ++ []) ≡ (t, suc n) ∷ []
runs_alone zero t = refl
runs_alone (suc n) t = grind (arith, bytes_eq_refl, runs_alone n t)

replicate_shift : {X : Type 0} (n m : ℕ) (x : X) (rest : List X) → replicate (n + m) x ++ rest ≡ replicate n x ++ (replicate m x ++ rest)
replicate_shift n m x rest = ap (λ l. l ++ rest) (sym (replicate-append-replicate n m x)) ∙ append_assoc (replicate n x) (replicate m x) rest

-- ---- equal answers more

pub take_equal : (ch : ℕ) (lines last : List ℕ) (count many : ℕ) (text : List ℕ) (rest : List (List ℕ)) → bytes_eq last text ≡ true
    → text_with ch lines last (count + many) rest ≡ text_with ch lines last count (replicate many text ++ rest)
take_equal ch lines last count many text rest same = grind (arith, replicate_shift, bytes_eq-Decides)

line_then : (line : List ℕ) (lines : List (List ℕ)) → text_of (line ∷ lines) ≡ text_of (line ∷ []) ++ text_of lines
line_then line lines = ap (λ l. l ++ text_of lines) (sym (append-nil (line ++ 10 ∷ [])))

one_other_law : (ch : ℕ) (lines lines' last : List ℕ) (count : ℕ) (text : List ℕ) (rest : List (List ℕ)) → bytes_eq last text ≡ false
    → (count ≡ 0 → lines' ≡ lines) → (0 < count → lines' ≡ lines ++ text_of (step_line ch (last, count) ∷ []))
    → text_with ch lines' text 1 rest ≡ text_with ch lines last count (text ∷ rest)
one_other_law h h2 h3 h4 = grind (arith, zero-lt-suc, append_assoc, line_then, runs_more)

pub take_other : (ch : ℕ) (lines lines' last : List ℕ) (count many : ℕ) (text : List ℕ) (rest : List (List ℕ)) → bytes_eq last text ≡ false → 0 < many
    → (count ≡ 0 → lines' ≡ lines) → (0 < count → lines' ≡ lines ++ text_of (step_line ch (last, count) ∷ []))
    → text_with ch lines' text many rest ≡ text_with ch lines last count (replicate many text ++ rest)
take_other h h2 h3 h4 h5 = grind (arith, one_other_law)

-- the lines of answers when none was counted before
pub text_cleared : (ch : ℕ) (lines last : List ℕ) (count : ℕ) (texts : List (List ℕ)) → lines ≡ [] → count ≡ 0
    → text_with ch lines last count texts ≡ text_of (step_lines ch texts)
text_cleared ch lines last count texts none same = rw (none, same) refl

-- the lines with the last one ended
pub ended : (ch : ℕ) (lines lines' last : List ℕ) (count : ℕ) → (count ≡ 0 → lines' ≡ lines)
    → (0 < count → lines' ≡ lines ++ text_of (step_line ch (last, count) ∷ [])) → lines' ≡ text_with ch lines last count []
ended h h2 h3 = grind (arith, append-nil, zero-lt-suc, runs_alone)

-- ---- steps in rows

-- after these steps, and then more
pub steps_more : (v : View) (step : Call) (m n k : ℕ) → m + n ≡ k
    → answers v (replicate k step) ≡ (let a = answers v (replicate m step) in let b = answers a.1 (replicate n step) in (a.0 ++ b.0, b.1))
steps_more v step m n k sum =
    ap (λ (c : ℕ). answers v (replicate c step)) (sym sum)
    ∙ ap (answers v) (sym (replicate-append-replicate m n step))
    ∙ answers_append_law v (replicate m step) (replicate n step)

-- the view after more steps, and all answers
pub more_view : (v w : View) (step : Call) (calls : List Call) (m n k : ℕ) → m + n ≡ k → w ≡ (answers v (replicate m step)).1 → calls ≡ replicate n step
    → (answers w calls).1 ≡ (answers v (replicate k step)).1
more_view v w step calls m n k sum is same =
    ap (λ (u : View). (answers u calls).1) is ∙ ap (λ (l : List Call). (answers (answers v (replicate m step)).1 l).1) same
    ∙ ap (λ (a : List Reply × View). a.1) (sym (steps_more v step m n k sum))

pub more_texts : (v w : View) (step : Call) (calls : List Call) (m n k : ℕ) (rest : List (List ℕ)) → m + n ≡ k → w ≡ (answers v (replicate m step)).1
    → calls ≡ replicate n step
    → map reply_text (answers v (replicate m step)).0 ++ (map reply_text (answers w calls).0 ++ rest) ≡ map reply_text (answers v (replicate k step)).0 ++ rest
more_texts v w step calls m n k rest sum is same =
    let a = answers v (replicate m step) in
    let later : (answers w calls).0 ≡ (answers a.1 (replicate n step)).0 = ap (λ (u : View). (answers u calls).0) is
    ∙ ap (λ (l : List Call). (answers a.1 l).0) same in
    ap (λ (l : List Reply). map reply_text a.0 ++ (map reply_text l ++ rest)) later
    ∙ sym (append_assoc (map reply_text a.0) (map reply_text (answers a.1 (replicate n step)).0) rest)
    ∙ ap (λ l. l ++ rest) (sym (map-append reply_text a.0 (answers a.1 (replicate n step)).0)
    ∙ ap (λ (b : List Reply × View). map reply_text b.0) (sym (steps_more v step m n k sum)))

-- a list of steps more, by its replies
pub list_view : (v w u : View) (step : Call) (calls : List Call) (replies : List Reply) (m n k : ℕ) → m + n ≡ k → w ≡ (answers v (replicate m step)).1
    → calls ≡ replicate n step → AreAnswers w calls replies u → HaveMemory replies → u ≡ (answers v (replicate k step)).1
list_view v w u step calls replies m n k sum is same are memory =
    ap (λ (a : List Reply × View). a.1) (answers_unless_no_memory w u calls replies memory are) ∙ more_view v w step calls m n k sum is same

pub list_texts : (v w u : View) (step : Call) (calls : List Call) (replies : List Reply) (m n k : ℕ) (rest : List (List ℕ)) → m + n ≡ k
    → w ≡ (answers v (replicate m step)).1 → calls ≡ replicate n step → AreAnswers w calls replies u → HaveMemory replies
    → map reply_text (answers v (replicate m step)).0 ++ (map reply_text replies ++ rest) ≡ map reply_text (answers v (replicate k step)).0 ++ rest
list_texts v w u step calls replies m n k rest sum is same are memory =
    ap (λ (a : List Reply × View). map reply_text (answers v (replicate m step)).0 ++ (map reply_text a.0 ++ rest))
    (answers_unless_no_memory w u calls replies memory are)
    ∙ more_texts v w step calls m n k rest sum is same

-- ---- replies that are counted

map_replicate : {X Y : Type 0} (f : X → Y) (n : ℕ) (x : X) → map f (replicate n x) ≡ replicate n (f x)
map_replicate f zero x = refl
map_replicate f (suc n) x = ap (λ l. f x ∷ l) (map_replicate f n x)

-- Of these replies, those before `left` were counted.
pub record Took
    (ch : ℕ) (all left : List Reply) (lines last : List ℕ) (count : ℕ) (lines' last' : List ℕ) (count' : ℕ) : Type 0 where
  pub done : List Reply
  pub split : all ≡ done ++ left
  pub memory : HaveMemory done
  pub counted : count' ≤ count + length done
  pub text : (rest : List (List ℕ)) → text_with ch lines' last' count' rest ≡ text_with ch lines last count (map reply_text done ++ rest)

pub took_none : (ch : ℕ) (all : List Reply) (lines last : List ℕ) (count : ℕ) → Took ch all all lines last count lines last count
took_none ch all lines last count = record {
  done = [];
  split = refl;
  memory = All-nil (λ (reply : Reply). reply ≢ Refused NoMemory);
  counted = omega arith;
  text = λ rest. refl;
}

-- a slice with a first item
pub cut_first : {X : Type 0} (xs : List X) (d : X) → d ≡ slice_index_or xs 0 d → 1 ≤ length xs → xs ≡ d ∷ take (length xs - 1) (drop 1 xs)
cut_first [] d is some = absurd (omega (arith, some))
cut_first (x ∷ xs) d is some =
    let n : length (x ∷ xs) - 1 ≡ length xs = omega arith in
    ap (λ y. y ∷ xs) (sym is) ∙ ap (λ l. d ∷ l) (sym (ap (λ k. take k xs) n ∙ take-length xs))

-- equal ones more
pub took_more : (ch : ℕ) (all left behind : List Reply) (lines last : List ℕ) (count : ℕ) (lines' last' : List ℕ) (count' : ℕ) (new' newer : List ℕ) (count'' many : ℕ)
    (first : Reply) → Took ch all left lines last count lines' last' count' → left ≡ first ∷ behind → many ≤ length behind + 1
    → take many (first ∷ behind) ≡ replicate many first → first ≢ Refused NoMemory → count'' ≤ count' + many
    → ((rest : List (List ℕ)) → text_with ch new' newer count'' rest ≡ text_with ch lines' last' count' (replicate many (reply_text first) ++ rest))
    → Took ch all (take (length left - many) (drop many left)) lines last count new' newer count''
took_more ch all left behind lines last count lines' last' count' new' newer count'' many first h is few equal memory counted text =
    let Other : Reply → Type 0 = λ reply. reply ≢ Refused NoMemory in
    let own : take many left ≡ replicate many first = ap (take many) is ∙ equal in
    let tail : take (length left - many) (drop many left) ≡ drop many left = ap (λ k. take k (drop many left)) (sym (length-drop many left))
    ∙ take-length (drop many left) in
    record {
      done = h.done ++ replicate many first;
      split = h.split ∙ ap (λ l. h.done ++ l) (sym (take-append-drop many left)) ∙ ap (λ l. h.done ++ (l ++ drop many left)) own
          ∙ sym (append_assoc h.done (replicate many first) (drop many left)) ∙ ap (λ l. (h.done ++ replicate many first) ++ l) (sym tail);
      memory = All-append Other h.done (replicate many first) h.memory (All-replicate Other many first memory);
      counted = omega (arith, counted, h.counted, length-append h.done (replicate many first), length-replicate many first);
      text = λ rest. text rest ∙ h.text (replicate many (reply_text first) ++ rest)
          ∙ ap (text_with ch lines last count) (sym (append_assoc (map reply_text h.done) (replicate many (reply_text first)) rest)
          ∙ ap (λ l. l ++ rest) (ap (λ l. map reply_text h.done ++ l) (sym (map_replicate reply_text many first))
          ∙ sym (map-append reply_text h.done (replicate many first))));
    }

-- all
pub took_all : (ch : ℕ) (all left : List Reply) (lines last : List ℕ) (count : ℕ) (lines' last' : List ℕ) (count' : ℕ)
    → Took ch all left lines last count lines' last' count' → left ≡ []
    → HaveMemory all × (count' ≤ count + length all)
    × ((rest : List (List ℕ)) → text_with ch lines' last' count' rest ≡ text_with ch lines last count (map reply_text all ++ rest))
took_all ch all left lines last count lines' last' count' h none =
    let is : h.done ≡ all = sym (append-nil h.done) ∙ ap (λ l. h.done ++ l) (sym none) ∙ sym h.split in (
      subst HaveMemory is h.memory,
      omega (arith, h.counted, ap length is),
      λ rest. h.text rest ∙ ap (λ (l : List Reply). text_with ch lines last count (map reply_text l ++ rest)) is,
    )

-- ---- a transfer that starts, moves and finishes

-- three runs
three_lines : (ch : ℕ) (a b c : List ℕ) (n : ℕ) → bytes_eq a b ≡ false → bytes_eq b c ≡ false → 0 < n
    → text_of (step_lines ch (a ∷ (replicate n b ++ c ∷ []))) ≡ text_of (step_line ch (a, 1) ∷ step_line ch (b, n) ∷ step_line ch (c, 1) ∷ [])
three_lines ch a b c n h h2 h3 = grind (arith, runs_more)

-- the lines of the answers
pub transfer_lines : (ch cookie moved finished : ℕ) → 0 < moved
    → text_of (step_lines ch (turn_text (Started cookie) ∷ (replicate moved (turn_text Moved) ++ turn_text (Finished finished NoError 0) ∷ []))) ≡ transfer_text
    ch cookie moved finished
transfer_lines ch cookie moved finished some = grind (arith, three_lines)

-- its replies
pub whole_text : (ch started moved finished : ℕ) (replies : List Reply) → 0 < moved
    → replies ≡ Turned (Started started) ∷ (replicate moved (Turned Moved) ++ Turned (Finished finished NoError 0) ∷ [])
    → text_of (step_lines ch (map reply_text replies)) ≡ transfer_text ch started moved finished
whole_text ch started moved finished replies some is =
    let last = Turned (Finished finished NoError 0) in
    ap (λ (r : List Reply). text_of (step_lines ch (map reply_text r))) is
    ∙ ap (λ l. text_of (step_lines ch (turn_text (Started started) ∷ l)))
    (map-append reply_text (replicate moved (Turned Moved)) (last ∷ []) ∙ ap (λ l. l ++ reply_text last ∷ []) (map_replicate reply_text moved (Turned Moved)))
    ∙ transfer_lines ch started moved finished some

pub whole_memory : (started moved finished : ℕ) (replies : List Reply)
    → replies ≡ Turned (Started started) ∷ (replicate moved (Turned Moved) ++ Turned (Finished finished NoError 0) ∷ []) → HaveMemory replies
whole_memory started moved finished replies is =
    let Other : Reply → Type 0 = λ reply. reply ≢ Refused NoMemory in
    let moves = replicate moved (Turned Moved) in
    let last = Turned (Finished finished NoError 0) in
    subst HaveMemory (sym is)
    (All-cons Other (Turned (Started started)) (moves ++ last ∷ []) (λ e. cc)
    (All-append Other moves (last ∷ []) (All-replicate Other moved (Turned Moved) (λ e. cc)) (All-cons Other last [] (λ e. cc) (All-nil Other))))
