-- What runs, as a list.
use Rattle.std.proofs.Common.{◌≡◌, ◌≢◌, ℕ, ◌+◌, ◌-◌, ◌<◌, ◌≤◌, List, [], ◌∷◌, ◌++◌, length, Option, Some, None, Bool, true, false, cond, refl, ap, ◌∙◌, arith}
use Rattle.std.proofs.Common.{zero, suc, zero-add, add-zero, sym, inl, inr}
use Rattle.std.specs.List.{All, filter_map, range_with_len, cons_option}
use Rattle.std.specs.{Prelude.IfSome, Prelude.find, Prelude.is_some, Option.option_map, Option.option_to_list, Option.option_or}
use Rattle.std.proofs.lemmas.List.Elements.{All-nil, All-cons, filter_map-append}
use Rattle.std.proofs.{lemmas.List.length-append, lemmas.List.Folds.find-append, lemmas.Bool.cases_Bool, lemmas.Bool.false_from_ne_true}
use Rattle.dma_engine.specs.{Object.Object, View.RunningTransfer, View.ChannelSchedule, View.runs, View.running}
use mir.Val.{bool_byte}

-- ---- lists of what a function gives at each number

pub range_with_len_add : (a m n : ℕ) → range_with_len a (m + n) ≡ range_with_len a m ++ range_with_len (a + m) n
range_with_len_add a zero n = rw (zero-add n, add-zero a) refl
range_with_len_add a (suc m) n =
    let e : suc m + n ≡ suc (m + n) = omega arith in
    let f : a + suc m ≡ (a + 1) + m = omega arith in
    rw (e, f) (ap (λ l. a ∷ l) (range_with_len_add (a + 1) m n))

pub All_filter_map : {X : Type 0} (P : X → Type 0) (f : ℕ → Option X) (a n : ℕ) → ((c : ℕ) → a ≤ c → c < a + n → IfSome (f c) P)
    → All P (filter_map f (range_with_len a n))
All_filter_map P f a zero h = All-nil P
All_filter_map {X} P f a (suc n) h =
    let rest : All P (filter_map f (range_with_len (a + 1) n)) = All_filter_map P f (a + 1) n (λ c l m. h c (omega arith) (omega arith)) in
    let by : (o : Option X) → IfSome o P → All P (cons_option o (filter_map f (range_with_len (a + 1) n))) = grind (arith, All-cons) in
    by (f a) (h a (omega arith) (omega arith))

pub filter_map_same : {X : Type 0} (f g : ℕ → Option X) (a n : ℕ) → ((c : ℕ) → a ≤ c → c < a + n → f c ≡ g c)
    → filter_map f (range_with_len a n) ≡ filter_map g (range_with_len a n)
filter_map_same f g a zero h = refl
filter_map_same f g a (suc n) h =
    let head = h a (omega arith) (omega arith) in
    let rest : filter_map f (range_with_len (a + 1) n) ≡ filter_map g (range_with_len (a + 1) n) =
    filter_map_same f g (a + 1) n (λ c l m. h c (omega arith) (omega arith)) in
    cc

-- nothing is found where each fails the test
pub All_find : {X : Type 0} (p : X → Bool) (xs : List X) → find p xs ≡ None → All (λ x. p x ≡ false) xs
All_find p [] h = All-nil (λ x. p x ≡ false)
All_find p (x ∷ xs) h = elim (cases_Bool (p x)) [
  | inl e ↦ let never : Some x ≡ None = rw e at h in absurd cc
  | inr e ↦ All-cons (λ x. p x ≡ false) x xs e (All_find p xs (rw e at h))
]

-- ---- what runs

-- what runs below a channel, and above it
abbrev pub below : Object → List ChannelSchedule → ℕ → List RunningTransfer
below o schedule ch = filter_map (runs o schedule) (range_with_len 0 ch)

abbrev pub above : Object → List ChannelSchedule → ℕ → List RunningTransfer
above o schedule ch = filter_map (runs o schedule) (range_with_len (ch + 1) (length o.channels - ch - 1))

pub running_split : (o : Object) (schedule : List ChannelSchedule) (ch : ℕ) → ch < length o.channels
    → running o schedule ≡ below o schedule ch ++ (option_to_list (runs o schedule ch) ++ above o schedule ch)
unfolding running
running_split o schedule ch h =
    let f = runs o schedule in
    let n = length o.channels - ch - 1 in
    let all : length o.channels ≡ ch + suc n = omega arith in
    let first : 0 + ch ≡ ch = omega arith in
    let by : (o : Option RunningTransfer) (l : List RunningTransfer) → cons_option o l ≡ option_to_list o ++ l = grind (arith) in
    ap (filter_map f) (ap (range_with_len 0) all ∙ range_with_len_add 0 ch (suc n))
    ∙ filter_map-append f (range_with_len 0 ch) (range_with_len (0 + ch) (suc n))
    ∙ ap (λ k. below o schedule ch ++ filter_map f (range_with_len k (suc n))) first
    ∙ ap (λ l. below o schedule ch ++ l) (by (f ch) (above o schedule ch))

-- an object and a schedule that differ at one channel alone have the same running elsewhere
pub below_same : (o p : Object) (s t : List ChannelSchedule) (ch : ℕ) → ((c : ℕ) → c ≢ ch → runs o s c ≡ runs p t c) → below o s ch ≡ below p t ch
below_same o p s t ch h = filter_map_same (runs o s) (runs p t) 0 ch (λ c l m. h c (omega arith))

pub above_same : (o p : Object) (s t : List ChannelSchedule) (ch : ℕ) → length o.channels ≡ length p.channels → ((c : ℕ) → c ≢ ch → runs o s c ≡ runs p t c)
    → above o s ch ≡ above p t ch
above_same o p s t ch e h = grind (arith, filter_map_same)

-- ---- the first that passes a test

pub find_here : (p : RunningTransfer → Bool) (o : Object) (s : List ChannelSchedule) (ch : ℕ) (r : RunningTransfer) → ch < length o.channels
    → find p (below o s ch) ≡ None → runs o s ch ≡ Some r → p r ≡ true → find p (running o s) ≡ Some r
find_here p o s ch r h none here passes =
    ap (find p) (running_split o s ch h)
    ∙ find-append p (below o s ch) (option_to_list (runs o s ch) ++ above o s ch)
    ∙ ap (λ x. option_or x (find p (option_to_list (runs o s ch) ++ above o s ch))) none
    ∙ ap (λ x. find p (option_to_list x ++ above o s ch)) here
    ∙ ap (λ b. cond b (Some r) (find p (above o s ch))) passes

pub below_more_law : (o : Object) (s : List ChannelSchedule) (ch : ℕ) → below o s (ch + 1) ≡ below o s ch ++ option_to_list (runs o s ch)
below_more_law o s ch = grind (arith, range_with_len_add, filter_map-append, zero-add)

-- nothing that runs up to a channel passes the test
pub find_none_more : (p : RunningTransfer → Bool) (o : Object) (s : List ChannelSchedule) (ch : ℕ) → find p (below o s ch) ≡ None
    → find p (option_to_list (runs o s ch)) ≡ None → find p (below o s (ch + 1)) ≡ None
find_none_more p o s ch none here = grind (arith, below_more_law, find-append)

-- nothing that runs on any channel passes it
pub find_all : (p : RunningTransfer → Bool) (o : Object) (s : List ChannelSchedule) (n : ℕ) → length o.channels ≡ n → find p (below o s n) ≡ None
    → find p (running o s) ≡ None
unfolding running
find_all p o s n e h = rw e h

-- what isn't found on all channels isn't what runs on one
pub find_none_at : (p : RunningTransfer → Bool) (o : Object) (s : List ChannelSchedule) (ch : ℕ) (r : RunningTransfer) → ch < length o.channels
    → find p (running o s) ≡ None → runs o s ch ≡ Some r → p r ≡ false
find_none_at p o s ch r h none here =
    let rest = option_to_list (runs o s ch) ++ above o s ch in
    let front : (x y : Option RunningTransfer) → option_or x y ≡ None → x ≡ None = grind (arith) in
    let before : find p (below o s ch) ≡ None = front _ (find p rest) (sym (ap (find p) (running_split o s ch h) ∙ find-append p (below o s ch) rest) ∙ none) in
    false_from_ne_true (p r) (λ e. let found = find_here p o s ch r h before here e in cc)

-- If each channel runs the same transfer in two objects, then the same transfers run in both.
pub running_same : (o p : Object) (s t : List ChannelSchedule) → length o.channels ≡ length p.channels
    → ((c : ℕ) → c < length o.channels → runs p t c ≡ runs o s c) → running p t ≡ running o s
unfolding running
running_same o p s t e h = rw (← e) (filter_map_same (runs p t) (runs o s) 0 (length o.channels) (λ c l m. h c (omega arith)))

-- one more where something runs on the next channel
pub one_more_runs : (o : Object) (schedule : List ChannelSchedule) (ch : ℕ)
    → length (below o schedule (ch + 1)) ≡ length (below o schedule ch) + bool_byte (is_some (runs o schedule ch))
one_more_runs o schedule ch = grind (arith, range_with_len_add, filter_map-append, length-append)

-- whether something runs there, by what is known of it
pub runs_known : {X : Type 0} (f : RunningTransfer → X) (x : Option RunningTransfer) → is_some (option_map f x) ≡ is_some x
runs_known f x = grind (arith)

pub few_byte : (b : Bool) → bool_byte b ≤ 1
few_byte b = grind (arith)
