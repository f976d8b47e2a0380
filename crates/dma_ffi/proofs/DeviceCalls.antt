-- The accesses that one call from C on an open device makes.
use Rattle.std.proofs.Common.{◌≡◌, ◌∙◌, ℕ, zero, suc, ◌+◌, ◌≤◌, ℤ, false, List, Option, Some, None, refl, sym, ap, subst, inl, inr, arith}
use Rattle.std.specs.{Prelude.◌||◌, Prelude.if◌then◌else◌, Ordering.int_eq}
use Rattle.std.proofs.{lemmas.Bool.false≢true, lemmas.Bool.Decides.Decides-int_eq}
use Rattle.dma_mem.specs.{Regions.pieces_of, Regions.read_only_of, declared.regions.Region.Region}
use Rattle.dma_device.specs.Accesses.{Access, Answer, AreAlike, Does, Done, Happen, Reads, Resets, Restores, Turned, Turns, Value, Writes}
use Rattle.dma_device.specs.{Device.DeviceValue, Device.reset_device, RowTurns.TakesRowTurns, RowTurns.report_in, Run.StaysLent}
use Rattle.dma_device.specs.{declared.device.rows.RowTurns.RowTurns}
use Rattle.dma_ffi.specs.Codes.{bad_save, ok_code}
use Rattle.dma_ffi.specs.DeviceSessions.{AreTurns, Called, DeviceCall, DeviceRequest, History, IsOne, Makes, accesses_for, ask_look, ask_read, ask_reset}
use Rattle.dma_ffi.specs.DeviceSessions.{ask_restore, ask_rows, ask_turn, ask_write}
use Rattle.dma_ffi.specs.{declared.device_rows.DeviceRows.DeviceRows, Devices.RestoresDevice, Devices.rows_report_of}

-- the number of accesses of a write and of a turn
abbrev pub if_ok : ℤ → ℕ
if_ok code = if int_eq code ok_code then 1 else 0

-- the number of accesses of turns in a row
abbrev pub if_rows : DeviceRows → ℤ → ℕ
if_rows report code = if int_eq code ok_code then report.count else 0

-- the number of accesses of a restore
abbrev pub if_restored : ℤ → ℕ
if_restored code = if int_eq code ok_code || int_eq code bad_save then 1 else 0

-- ---- regions that are alike

pub alike : (regions left : List Region) → left ≡ regions → AreAlike left regions
alike regions left same = record { pieces = ap pieces_of same; read_only = ap read_only_of same }

pub alike_then : (a b c : List Region) → AreAlike a b → AreAlike b c → AreAlike a c
alike_then a b c first second = record { pieces = first.pieces ∙ second.pieces; read_only = first.read_only ∙ second.read_only }

pub alike_back : (a b : List Region) → AreAlike a b → AreAlike b a
alike_back a b same = record { pieces = sym same.pieces; read_only = sym same.read_only }

-- ---- the accesses of one call

-- a history is that of one call with this request, which finds the device `d` and leaves `new`
pub record IsOwn (d : DeviceValue) (call : DeviceCall) (request : DeviceRequest) (new : Option DeviceValue) (h : History) : Type 0 where
  pub starts : h.before 0 ≡ d
  pub ends : new ≡ Some (h.before (accesses_for request call.code))
  pub happen : Happen h.access h.answer h.before h.lent h.left (accesses_for request call.code)
  pub makes : Makes h 0 call request
  pub lends : AreAlike (h.lent 0) call.lent
  pub leaves : AreAlike (h.lent (accesses_for request call.code)) call.left
  pub stays : StaysLent h.lent h.left (accesses_for request call.code)

abbrev pub Own : DeviceValue → DeviceCall → DeviceRequest → Option DeviceValue → Type 0
Own d call request new = (h : History) × IsOwn d call request new h

-- a history whose device never changes, for a call that makes no access over these regions
abbrev pub idle : DeviceValue → List Region → History
idle d regions = record { access = λ k. Resets; answer = λ k. Done; before = λ k. d; lent = λ k. regions; left = λ k. regions }

-- a call that makes no access
own_none : (d : DeviceValue) (call : DeviceCall) (request : DeviceRequest) (new : Option DeviceValue) → accesses_for request call.code ≡ 0 → new ≡ Some d
    → call.left ≡ call.lent → Makes (idle d call.lent) 0 call request → Own d call request new
own_none d call request new none same kept makes = grind (arith, refl, arith, alike, sym)

abbrev before_after : {A : Type 0} → A → A → ℕ → A
before_after a b zero = a
before_after a b (suc k) = b

-- the history of one access over a call's regions
abbrev single : DeviceValue → DeviceValue → DeviceCall → Access → Answer → History
single d e call a r = record {
  access = λ k. a;
  answer = λ k. r;
  before = before_after d e;
  lent = before_after call.lent call.left;
  left = λ k. call.left;
}

is_one : (d e : DeviceValue) (call : DeviceCall) (a : Access) (r : Answer) → IsOne (single d e call a r) 0 call a r
is_one d e call a r = record { access = refl; answer = refl; lent = refl; left = refl }

-- a call that makes one access
own_one : (d e : DeviceValue) (call : DeviceCall) (request : DeviceRequest) (a : Access) (r : Answer) → accesses_for request call.code ≡ 1
    → Does a d call.lent r e call.left → Makes (single d e call a r) 0 call request → Own d call request (Some e)
own_one d e call request a r one does makes = (
  single d e call a r,
  record {
    starts = refl;
    ends = ap (λ (n : ℕ). Some (before_after d e n)) (sym one);
    happen = λ k less.
        let at : 0 ≡ k = omega (arith, less, one) in
        subst (λ (i : ℕ). Does a (before_after d e i) (before_after call.lent call.left i) r (before_after d e (i + 1)) call.left) at does;
    makes = makes;
    lends = alike call.lent call.lent refl;
    leaves = alike call.left (before_after call.lent call.left (accesses_for request call.code)) (ap (before_after call.lent call.left) one);
    stays = λ k less.
        let is : k + 1 ≡ 1 = omega (arith, less, one) in
        alike call.left (before_after call.lent call.left (k + 1)) (ap (before_after call.lent call.left) is);
  },
)

-- the history of turns in a row
abbrev in_row : (d e : DeviceValue) (call : DeviceCall) (n : ℕ) (t : RowTurns) → TakesRowTurns d call.lent n e call.left t → History
in_row d e call n t takes = record {
  access = λ k. Turns n t.rows.steps;
  answer = λ k. Turned (report_in t k);
  before = takes.before;
  lent = takes.lent;
  left = λ k. takes.lent (k + 1);
}

are_turns : (d e : DeviceValue) (call : DeviceCall) (n : ℕ) (t : RowTurns) (takes : TakesRowTurns d call.lent n e call.left t) → 1 ≤ t.rows.count
    → AreTurns (in_row d e call n t takes) 0 call n t
are_turns d e call n t takes some = grind (arith, refl, arith, ap, subst)

-- a call that takes turns in a row
own_rows : (d e : DeviceValue) (call : DeviceCall) (n most : ℕ) (before report : DeviceRows) (t : RowTurns) → call.code ≡ ok_code
    → TakesRowTurns d call.lent n e call.left t → report ≡ rows_report_of t e → 1 ≤ report.count → Own d call (ask_rows n most before report) (Some e)
own_rows d e call n most before report t ok takes is some =
    let h = in_row d e call n t takes in
    let count : report.count ≡ t.rows.count = ap (λ (r : DeviceRows). r.count) is in
    let size : accesses_for (ask_rows n most before report) call.code ≡ t.rows.count = ap (if_rows report) ok ∙ count in
    let last : 0 + report.count ≡ t.rows.count = omega (arith, count) in
    let more : 1 ≤ t.rows.count = omega (arith, count, some) in (
      h,
      record {
        starts = takes.begins;
        ends = ap (λ (x : DeviceValue). Some x) (sym (ap takes.before size ∙ takes.ends));
        happen = subst (λ (i : ℕ). Happen h.access h.answer h.before h.lent h.left i) (sym size) takes.happen;
        makes = λ same. (
          t,
          is ∙ ap (λ (x : DeviceValue). rows_report_of t x) (sym (ap takes.before last ∙ takes.ends)),
          are_turns d e call n t takes more,
        );
        lends = takes.first;
        leaves = subst (λ (i : ℕ). AreAlike (takes.lent i) call.left) (sym size) takes.last;
        stays = λ k less. alike (takes.lent (k + 1)) (takes.lent (k + 1)) refl;
      },
    )

-- a code isn't two that differ
apart : (code a b : ℤ) → int_eq a b ≡ false → code ≡ a → ¬ (code ≡ b)
apart code a b differ is other = false≢true (sym differ ∙ (Decides-int_eq a b).1 (sym is ∙ other))

-- a restore, by its code
own_restored : (d e : DeviceValue) (call : DeviceCall) (save : List ℕ) → RestoresDevice save d call.code e → call.left ≡ call.lent
    → Own d call (ask_restore save) (Some e)
own_restored d e call save (inl x) same =
    own_one d e call (ask_restore save) (Restores e) Done (ap if_restored x.0)
    (refl, refl, alike call.lent call.left same, x.1.config, x.1.value)
    (λ ok. is_one d e call (Restores e) Done, λ bad. absurd (apart call.code ok_code bad_save refl x.0 bad))
own_restored d e call save (inr (inl x)) same = grind (arith, own_none, ap, apart, refl)
own_restored d e call save (inr (inr x)) same =
    own_one d e call (ask_restore save) Resets Done (ap if_restored x.0)
    (refl, x.3, alike call.lent call.left same)
    (λ ok. absurd (apart call.code bad_save ok_code refl x.0 ok), λ bad. is_one d e call Resets Done)

-- every call on an open device has a history
pub own : (d : DeviceValue) (call : DeviceCall) (request : DeviceRequest) (new : Option DeviceValue) → Called request call.code (Some d) call.lent new call.left
    → Own d call request new
own d call (ask_read at before value) new is =
    subst (Own d call (ask_read at before value)) (sym is.0.2)
    (own_one d d call (ask_read at before value) (Reads at) (Value value) refl
    (ap (λ (n : ℕ). Value n) is.0.1, refl, alike call.lent call.left is.1)
    (is_one d d call (Reads at) (Value value)))
own d call (ask_write at value) None is = absurd is.0
own d call (ask_write at value) (Some e) (inl x, same) = grind (arith, own_none, ap)
own d call (ask_write at value) (Some e) (inr x, same) =
    own_one d e call (ask_write at value) (Writes at value) Done (ap if_ok x.0)
    (refl, x.2, alike call.lent call.left same)
    (λ ok. is_one d e call (Writes at value) Done)
own d call (ask_turn n most before report) new (inl x) =
    own_none d call (ask_turn n most before report) new (ap if_ok x.0) x.2 x.3 (λ ok. absurd (let is = x.0 in cc))
own d call (ask_turn n most before report) None (inr x) = absurd x.2
own d call (ask_turn n most before report) (Some e) (inr x) =
    own_one d e call (ask_turn n most before report) (Turns n most) (Turned x.2.0) (ap if_ok x.0)
    (x.2.0, (refl, x.2.1))
    (λ ok. (x.2.0, x.2.2, is_one d e call (Turns n most) (Turned x.2.0)))
own d call (ask_rows n most before report) new (inl x) = grind (arith, own_none, ap)
own d call (ask_rows n most before report) None (inr x) = absurd x.2
own d call (ask_rows n most before report) (Some e) (inr x) = own_rows d e call n most before report x.2.turns x.0 x.2.takes x.2.reported x.2.some
own d call ask_reset new is =
    let e = reset_device d.config in
    subst (Own d call ask_reset) (sym is.0.1)
    (own_one d e call ask_reset Resets Done refl (refl, refl, alike call.lent call.left is.1) (is_one d e call Resets Done))
own d call (ask_restore save) None is = absurd is.0
own d call (ask_restore save) (Some e) is = own_restored d e call save is.0 is.1
own d call ask_look new is = own_none d call ask_look new refl is.0 is.1 tt
