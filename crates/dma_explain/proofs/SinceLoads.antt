-- Transfers' programs that channels execute over one memory, each counted from its own load.
use Rattle.std.proofs.Common.{◌≡◌, ℕ, zero, suc, ◌+◌, ◌-◌, ◌≤◌, ◌⊎◌, List, [], length, length-append, map, take, get_or, Option, Some, None, refl, sym, ap, ◌∙◌}
use Rattle.std.proofs.Common.{subst, arith, inl, inr}
use Rattle.std.specs.{Prelude.IsSome, List.Contains, List.range_with_len}
use Rattle.std.proofs.lemmas.List.{get_or-take, length-take, take_all, take_at}
use Rattle.std.proofs.{lemmas.Bool.cases_Bool, lemmas.Bool.cases_eq, lemmas.List.Elements.Contains-get_or, lemmas.List.FromFn.get_or-map-range_with_len}
use Rattle.std.proofs.{lemmas.List.FromFn.length-map-range_with_len}
use Rattle.dma_mem.specs.{declared.segment.Segment.Segment, Places.destinations, Image.laid}
use Rattle.dma_chan.specs.{declared.exec.Registers.Registers, declared.turn.ChanTurn.ChanTurn, declared.turn.ChanTurn.TheVariants.Ended, Channel.ChannelValue}
use Rattle.dma_chan.specs.{Stepping.Machine, Written.LiesIn, Others.Touches}
use Rattle.dma_explain.specs.Explains.{DoneGrows, Executes, Explains, IsLoadedWith, IsReached, IsWork, Work, all_of, amounts_of, cleared, traced}
use Rattle.dma_explain.specs.Changes.{System, Call, Change, Sets, Calls, Guest, DoesCall, TakesCall, MakesChange, DoesAll, LendsAll, SinceLoad, KeepsUsed}
use Rattle.dma_explain.specs.Changes.{LeavesAlone, HasFirst, HasCopied, CopiesSinceLoad, bytes_in, Holds, Gives, HaveWorks, WritesElsewhere, IsApart}
use Rattle.dma_explain.specs.Changes.{ChannelsCopy}
use Rattle.dma_explain.specs.{declared.explain.Amounts.Amounts, Works.IsWorked, Works.Uses}
use Rattle.dma_explain.proofs.AmongOthers.{Fits, is_in}
use Rattle.dma_explain.proofs.CallsAmongOthers.{done_at, Leads, Runs, at_first, call, call_fails, call_waits, either_way, not_none, signalled, survived}
use Rattle.dma_explain.proofs.{CallStays.call_stays_in, CallStays.inside, LaidPlaces.laid_copied, LaidPlaces.laid_kept, Traced.copy_of, Traced.grows_to}
use Rattle.dma_chan.proofs.CallWrites.{call_writes_no_other}

-- ---- one call

-- A part of a work is done in other memories, too, if they agree with these at what the work uses.
pub first_agrees : (work : Work) (done : Amounts) (f g first memory : ℕ → ℕ) → IsWork work → ((a : ℕ) → Uses work a → first a ≡ f a)
    → ((a : ℕ) → Uses work a → memory a ≡ g a) → HasFirst work done f g → HasFirst work done first memory
first_agrees work done f g first memory h same left w = grind (arith, Contains-get_or)

-- a part of a work is done in an image
pub record IsPart (work : Work) (first : List ℕ) (done : Amounts) (image : List ℕ) : Type 0 where
  pub same : (a : ℕ) → Touches work.copy a → get_or image a 0 ≡ get_or (laid first work.copy done.copied) a 0
  pub zeros : (a : ℕ) → Contains (take done.cleared (cleared work)) a → get_or image a 0 ≡ 0
  pub rest : (a : ℕ) → Contains (cleared work) a → ¬ Contains (take done.cleared (cleared work)) a → get_or image a 0 ≡ get_or first a 0

pub part_first : (work : Work) (first : List ℕ) (done : Amounts) (image : List ℕ) → IsWork work → Fits work (length first) → IsPart work first done image
    → HasFirst work done (bytes_in first) (bytes_in image)
part_first work first done image h low part =
    let t = work.copy in
    let zs = cleared work in
    let copy = copy_of work h in
    record {
      copied = λ p less within.
          part.same (get_or (destinations t) p 0) (inr (Contains-get_or (destinations t) p 0 within))
          ∙ laid_copied t first done.copied copy p (λ a i. low a (inl i)) less within;
      zeros = λ p less within.
          let there = Contains-get_or (take done.cleared zs) p 0 (omega (arith, less, within, length-take done.cleared zs)) in
          part.zeros (get_or zs p 0) (subst (Contains (take done.cleared zs)) (get_or-take done.cleared zs p 0 less) there);
      kept = λ a uses off still. elim uses [
        | inl touches ↦ part.same a touches ∙ laid_kept t first done.copied copy a off
        | inr i ↦ part.rest a i still
      ];
    }

-- what is done never becomes less
pub done_grows : DoneGrows
done_grows start program k m l =
    let x = traced start program k in
    let g = grows_to start program k m l in
    record {
      copied = omega (arith, ap length g.stores, length-append x.stores g.more_stores);
      cleared = omega (arith, ap length g.zeros, length-append x.zeros g.more_zeros);
    }

-- what is reached is no more than all
pub cleared_within : (start : Registers) (program : List ℕ) (work : Work) (n : ℕ) (done : Amounts) → Explains start program work n
    → IsReached start program n done → done.cleared ≤ length (cleared work)
cleared_within start program work n done h r =
    let x = traced start program r.0 in
    let inner = inside start program work n h r.0 r.1 in
    omega (arith, ap (λ (d : Amounts). d.cleared) r.2, ap length inner.zeros, length-append x.zeros inner.zeros_rest)

-- so is all of it, once it is done
pub worked_part : (work : Work) (first image : List ℕ) → IsWorked work first image → IsPart work first (all_of work) image
worked_part work first image h = grind (arith, take_all)

-- all is done behind the n instructions
pub all_done : (start : Registers) (program : List ℕ) (work : Work) (n : ℕ) → Explains start program work n → amounts_of (traced start program n) ≡ all_of work
all_done start program work n h = grind arith

module _ (start : Registers) (program : List ℕ) (work : Work) (n : ℕ) (first : List ℕ) (h : Explains start program work n) where
  -- what a machine's channel has done, and its image
  pub record IsSoFar (v : Machine) : Type 0 where
    pub count : let done = done_at start program v in v.channel.stored ≡ done.copied + done.cleared
    pub reached : IsReached start program n (done_at start program v)
    pub part : IsPart work first (done_at start program v) v.image

  so_far : (v : Machine) (done : Amounts) → done_at start program v ≡ done → v.channel.stored ≡ done.copied + done.cleared → IsReached start program n done
      → IsPart work first done v.image → IsSoFar v
  so_far v done e count reached part = grind arith

  pub runs_so : (v : Machine) → Runs start program work n first v → IsSoFar v
  runs_so v r =
      let k = r.0 in
      let m = r.1.mirrors in
      let x = traced start program k in
      let inner = inside start program work n h k r.1.within in
      let zeros : take (length x.zeros) (cleared work) ≡ x.zeros = ap (take (length x.zeros)) inner.zeros
      ∙ take_at x.zeros inner.zeros_rest (length x.zeros) refl in
      so_far v (amounts_of x) (ap (λ (j : ℕ). amounts_of (traced start program j)) r.1.taken) r.1.stored
      (k, r.1.within, refl)
      (record {
        same = m.same;
        zeros = λ a i. m.zeros a (subst (λ (xs : List ℕ). Contains xs a) zeros i);
        rest = λ a i off. m.rest a i (λ j. off (subst (λ (xs : List ℕ). Contains xs a) (sym zeros) j));
      })

  leads_so : (o : Option ChanTurn) (v : Machine) → Leads start program work n first o v → IsSoFar v
  leads_so (Some Ended) v d = so_far v (all_of work) d.done d.stored (n, omega arith, all_done start program work n h) (worked_part work first v.image d.all)
  leads_so o v r = runs_so v r

module _ (start : Registers) (program : List ℕ) (work : Work) (n : ℕ) (first : List ℕ) (h : Explains start program work n) (low : Fits work (length first))
  where
    pub leads : (c : Call) → Runs start program work n first c.found → DoesCall c → Leads start program work n first c.last c.left
    leads c r does = call start program work n c.marks first h low c.found c.left c.most c.taken c.last r does.steps

    pub has_copied : (c : Call) → Runs start program work n first c.found → DoesCall c
        → HasCopied start program work n (bytes_in first) (bytes_in c.left.image) c
    has_copied c r does =
        let so = leads_so start program work n first h c.last c.left (leads c r does) in
        record {
          done = done_at start program c.left;
          count = so.count;
          reached = so.reached;
          bytes = part_first work first (done_at start program c.left) c.left.image h.work low so.part;
          writes = λ a i.
              let stays = call_stays_in start program work n c.marks c.found c.most c.taken c.last c.left h
              (r.0, is_in start program work n first r.0 c.found.image c.found.channel r.1) does.steps in
              stays.writes a (subst (λ (w : Segment). LiesIn w a) does.written i);
          signals = λ e reported. signalled start program work n c.marks first h low c.found c.left c.most c.taken c.last e r does.steps
              (sym does.signal ∙ reported);
          ends = λ over. (subst (λ (o : Option ChanTurn). Leads start program work n first o c.left) over (leads c r does)).done;
          waits = λ e is. call_waits start program work n c.marks first h low c.found c.left c.most c.taken e c.last r does.steps is;
          never_fails = λ kind none. call_fails start program work n c.marks first h low c.found c.left c.most c.taken c.last kind none r does.steps;
        }

-- ---- since the load

-- the bytes of a memory below a size
abbrev imaged : ℕ → (ℕ → ℕ) → List ℕ
imaged size memory = map memory (range_with_len 0 size)

module _ (start : Registers) (program : List ℕ) (work : Work) (n : ℕ) (size : ℕ) (memory : ℕ → ℕ) (h : Explains start program work n) (low : Fits work size)
  where
    abbrev first : List ℕ
    first = imaged size memory

    within : (other : ℕ → ℕ) → Fits work (length (imaged size other))
    within other = subst (Fits work) (sym (length-map-range_with_len other 0 size)) low

    shows : (other : ℕ → ℕ) (a : ℕ) → Uses work a → get_or (imaged size other) a 0 ≡ other a
    shows other a touches = get_or-map-range_with_len other 0 size a a 0 (low a touches) (omega arith)

    -- a channel of the system with its memory
    abbrev at_channel : System → ℕ → Machine
    at_channel s ch = record { channel = s.channels ch; image = imaged size s.memory; flags = [] }

    -- the channel is not finished, or it has ended
    abbrev Is : ℕ → System → Type 0
    Is ch s = Runs start program work n first (at_channel s ch) ⊎ ((s.channels ch).program ≡ None)

    -- a change that does not touch the channel
    kept : (ch : ℕ) (s v : System) → v.channels ch ≡ s.channels ch → KeepsUsed work s v → Is ch s → Is ch v
    kept ch s v same keeps (inl r) =
        inl (survived start program work n first (at_channel s ch) (at_channel v ch) r same
        (λ a touches. shows v.memory a touches ∙ keeps a touches ∙ sym (shows s.memory a touches)) (within v.memory))
    kept ch s v same keeps (inr none) = inr (ap (λ (c : ChannelValue). c.program) same ∙ none)

    -- before a call on the channel
    found : (c : Call) (s v : System) → TakesCall c s v → LendsAll work c → Is c.channel s → Runs start program work n first c.found
    found c s v takes lent (inl r) =
        survived start program work n first (at_channel s c.channel) c.found r takes.finds_channel
        (λ a touches. takes.finds a (lent a touches) ∙ sym (shows s.memory a touches)) (λ a touches. takes.within a (lent a touches))
    found c s v takes lent (inr none) = grind (arith, not_none)

    -- after the call
    left : (c : Call) (s v : System) → TakesCall c s v → LendsAll work c → Runs start program work n first c.left ⊎ (c.left.channel.program ≡ None)
        → Is c.channel v
    left c s v takes lent (inl r) =
        inl (survived start program work n first c.left (at_channel v c.channel) r takes.leaves_channel
        (λ a touches. shows v.memory a touches ∙ takes.leaves a (lent a touches)) (within v.memory))
    left c s v takes lent (inr none) = inr (ap (λ (d : ChannelValue). d.program) takes.leaves_channel ∙ none)

    called : (c : Call) (s v : System) → TakesCall c s v → LendsAll work c → Is c.channel s → Is c.channel v
    called c s v takes lent i =
        left c s v takes lent (either_way start program work n first c.last c.left
        (leads start program work n first h (within memory) c (found c s v takes lent i) takes.does))

    changed : (ch : ℕ) (change : Change) (s v : System) → MakesChange change s v → LeavesAlone work ch change s v → Is ch s → Is ch v
    changed ch (Sets other c) s v does alone i = elim (cases_eq other ch) [
      | inl e ↦ kept ch s v (subst (λ (d : ℕ). v.channels d ≡ c) e does.0 ∙ alone e) (λ a touches. does.1.1 a) i
      | inr ne ↦ kept ch s v (does.1.0 ch (λ e. ne (sym e))) (λ a touches. does.1.1 a) i
    ]
    changed ch Guest s v does alone i = kept ch s v (does ch) alone i
    changed ch (Calls c) s v takes alone i = elim (cases_eq c.channel ch) [
      | inl e ↦ subst (λ (d : ℕ). Is d v) e (called c s v takes (alone.0 e) (subst (λ (d : ℕ). Is d s) (sym e) i))
      | inr ne ↦ kept ch s v (takes.others ch (λ e. ne (sym e))) (alone.1 ne) i
    ]

    copied : (c : Call) (s v : System) → TakesCall c s v → LendsAll work c → Is c.channel s → HasCopied start program work n memory v.memory c
    copied c s v takes lent i =
        let all = has_copied start program work n first h (within memory) c (found c s v takes lent i) takes.does in
        record {
          done = all.done;
          count = all.count;
          reached = all.reached;
          bytes = first_agrees work all.done (bytes_in first) (bytes_in c.left.image) memory v.memory h.work
              (λ a touches. sym (shows memory a touches)) (λ a touches. takes.leaves a (lent a touches)) all.bytes;
          writes = all.writes;
          signals = all.signals;
          ends = all.ends;
          waits = all.waits;
          never_fails = all.never_fails;
        }

module _ (start : Registers) (program : List ℕ) (work : Work) (n : ℕ) (changes : ℕ → Change) (states : ℕ → System) (load now : ℕ) (c : Call)
    (h : Explains start program work n) (does : DoesAll changes states load (now + 1))
    (since : SinceLoad start program work changes states load now c (λ k. LeavesAlone work c.channel)) where
  takes : TakesCall c (states now) (states (now + 1))
  takes = let later = since.later in subst (λ (x : Change). MakesChange x (states now) (states (now + 1))) since.is_call (does now (omega arith) (omega arith))

  -- the size of the memory that the call is lent
  abbrev size : ℕ
  size = length c.found.image

  low : Fits work size
  low = λ a touches. takes.within a (since.lent a touches)

  abbrev Is_at : ℕ → Type 0
  Is_at k = Is start program work n size (states load).memory h low c.channel (states k)

  after_load : Is_at (load + 1)
  after_load =
      let later = since.later in
      let memory = (states load).memory in
      let d = subst (λ (x : Change). MakesChange x (states load) (states (load + 1))) since.loads.2 (does load (omega arith) (omega arith)) in
      let is_loaded = subst (IsLoadedWith start program) (sym d.0) since.loads.1 in
      let s = states (load + 1) in
      kept start program work n size memory h low c.channel (record s { memory = memory }) s refl (λ a touches. d.1.1 a)
      (inl (at_first start program work n (imaged size memory) (record { channel = s.channels c.channel; image = imaged size memory; flags = [] })
      (within start program work n size memory h low memory) is_loaded refl))

  along : (d : ℕ) → load + 1 + d ≤ now → Is_at (load + 1 + d)
  along zero l = let e : load + 1 ≡ load + 1 + zero = omega arith in subst Is_at e after_load
  along (suc d) l =
      let k = load + 1 + d in
      let e : k + 1 ≡ load + 1 + suc d = omega arith in
      subst Is_at e (changed start program work n size (states load).memory h low c.channel (changes k) (states k) (states (k + 1))
      (does k (omega arith) (omega arith)) (since.spares k (omega arith) (omega arith)) (along d (omega arith)))

  at_call : Is_at now
  at_call =
      let later = since.later in
      let e : load + 1 + (now - (load + 1)) ≡ now = omega arith in
      subst Is_at e (along (now - (load + 1)) (omega arith))

  has_all : HasCopied start program work n (states load).memory (states (now + 1)).memory c
  has_all = copied start program work n size (states load).memory h low c (states now) (states (now + 1)) takes since.lent at_call

pub copies_since_load : CopiesSinceLoad
copies_since_load start program work n changes states load now c h does since = has_all start program work n changes states load now c h does since

-- ---- among other transfers

-- a channel that executes a transfer, if a call can be made on it
abbrev Copies : Work → ChannelValue → Type 0
Copies work c = (start : Registers) × (program : List ℕ) × (n : ℕ) × Explains start program work n × Executes start program n c

executes : (work : Work) (c : ChannelValue) → IsSome c.program → Holds (Some work) c → Copies work c
executes work c h h2 = grind (arith, not_none)

still : (start : Registers) (program : List ℕ) (work : Work) (n : ℕ) (c : ChannelValue) → Explains start program work n → Executes start program n c
    ⊎ (c.program ≡ None) → Holds (Some work) c
still start program work n c h h2 = grind (arith)

module _ (c : Call) (s v : System) (takes : TakesCall c s v) where
  -- before the call the channel executes its transfer
  finds : (work : Work) → Holds (Some work) (s.channels c.channel) → Copies work c.found.channel
  finds work holds = executes work c.found.channel takes.does.is_loaded (subst (Holds (Some work)) (sym takes.finds_channel) holds)

  -- after the call the channel has the same transfer
  holds_on : (o : Option Work) → Holds o (s.channels c.channel) → Holds o (v.channels c.channel)
  holds_on None holds = tt
  holds_on (Some work) holds =
      let w = finds work holds in
      let stays = call_stays_in w.0 w.1 work w.2 c.marks c.found c.most c.taken c.last c.left w.3 w.4 takes.does.steps in
      subst (Holds (Some work)) (sym takes.leaves_channel) (still w.0 w.1 work w.2 c.left.channel w.3 stays.channel)

  outside : (work : Work) (o : Option Work) → Holds o (s.channels c.channel) → WritesElsewhere work o c → (a : ℕ) → Uses work a → ¬ LiesIn c.written a
  outside work None holds off a touches i = off a touches i
  outside work (Some u) holds apart a touches i =
      let w = finds u holds in
      let stays = call_stays_in w.0 w.1 u w.2 c.marks c.found c.most c.taken c.last c.left w.3 w.4 takes.does.steps in
      apart a touches (stays.writes a (subst (λ (r : Segment). LiesIn r a) takes.does.written i))

  elsewhere : (work : Work) (o : Option Work) → Holds o (s.channels c.channel) → WritesElsewhere work o c → KeepsUsed work s v
  elsewhere work o holds apart a touches = elim (cases_Bool (c.lends a)) [
    | inl e ↦
        let off = λ (i : LiesIn _ a). outside work o holds apart a touches (subst (λ (r : Segment). LiesIn r a) (sym takes.does.written) i) in
        let kept = (call_writes_no_other c.marks c.found c.most c.taken c.last c.left takes.does.steps).bytes a off in
        takes.leaves a e ∙ kept ∙ takes.finds a e
    | inr e ↦ takes.rest a e
  ]

same_held : (o p : Option Work) (c d : ChannelValue) → p ≡ o → d ≡ c → Holds o c → Holds p d
same_held o p c d e f h = subst (λ (x : Option Work). Holds x d) (sym e) (subst (Holds o) (sym f) h)

one : (change : Change) (before after : ℕ → Option Work) (s v : System) → MakesChange change s v → Gives change before after
    → ((ch : ℕ) → Holds (before ch) (s.channels ch)) → (ch : ℕ) → Holds (after ch) (v.channels ch)
one change before after s v h h2 h3 ch = grind (arith, cases_eq, same_held, holds_on)

apart_alone : (work : Work) (ch : ℕ) (own : ℕ → Option Work) (change : Change) (s v : System) → MakesChange change s v
    → ((d : ℕ) → Holds (own d) (s.channels d)) → IsApart work ch own change s v → LeavesAlone work ch change s v
apart_alone work ch own (Calls c) s v takes holds apart = (apart.0, λ ne. elsewhere c s v takes work (own c.channel) (holds c.channel) (apart.1 ne))
apart_alone work ch own change s v does holds apart = apart

module _ (own : ℕ → ℕ → Option Work) (changes : ℕ → Change) (states : ℕ → System) (from count : ℕ) (does : DoesAll changes states from count)
    (have : HaveWorks own changes states from count) where
  hold : (d : ℕ) → from + d ≤ count → (ch : ℕ) → Holds (own (from + d) ch) ((states (from + d)).channels ch)
  hold zero l ch =
      let e : from ≡ from + zero = omega arith in
      subst (λ (j : ℕ). Holds (own j ch) ((states j).channels ch)) e (have.first ch)
  hold (suc d) l ch =
      let k = from + d in
      let e : k + 1 ≡ from + suc d = omega arith in
      subst (λ (j : ℕ). Holds (own j ch) ((states j).channels ch)) e
      (one (changes k) (own k) (own (k + 1)) (states k) (states (k + 1)) (does k (omega arith) (omega arith)) (have.gives k (omega arith) (omega arith))
      (hold d (omega arith)) ch)

  pub hold_at : (k : ℕ) → from ≤ k → k ≤ count → (ch : ℕ) → Holds (own k ch) ((states k).channels ch)
  hold_at k low high ch =
      let e : from + (k - from) ≡ k = omega arith in
      subst (λ (j : ℕ). Holds (own j ch) ((states j).channels ch)) e (hold (k - from) (omega arith) ch)

pub channels_copy : ChannelsCopy
channels_copy start program work n own changes states load now c h does have since =
    copies_since_load start program work n changes states load now c h does (record {
      later = since.later;
      loads = since.loads;
      is_call = since.is_call;
      lent = since.lent;
      spares = λ k l m.
          apart_alone work c.channel (own k) (changes k) (states k) (states (k + 1)) (does k (omega arith) (omega arith))
          (hold_at own changes states load (now + 1) does have k (omega arith) (omega arith)) (since.spares k l m);
    })
