-- Calls from C, one after another, are one list of the engine's calls.
use Rattle.std.proofs.Common.{◌≡◌, ℕ, ℤ, List, [], ◌∷◌, Option, Some, None, refl, sym, subst}
use Rattle.std.specs.Prelude.{IsSomeAnd}
use Rattle.std.proofs.lemmas.List.Elements.{All-append}
use Rattle.dma_engine.proofs.JoinedCalls.{answers_append}
use Rattle.dma_engine.specs.{Laws.IsCall, View.EngineState, View.View, View.new_view}
use Rattle.dma_ffi.specs.Requests.{Opens, Returns}
use Rattle.dma_ffi.specs.Laws.{AreExchanges, AreOneList, CanBeRequested, Exchange, ExchangesAreTheEngines, Service, Serves, SessionsAreTheEngines, all_calls}
use Rattle.dma_ffi.specs.Laws.{all_replies, calls_made}
use Rattle.dma_ffi.proofs.{CallsMade.calls_are_the_engines, CanBeMade.can_be_made, CanBeMade.none_made_law}

-- after these calls from C there is an engine, and the calls are one list
abbrev Left : EngineState → List Exchange → Option EngineState → Type 0
Left e calls left = IsSomeAnd left (λ e'. AreOneList e.view calls e'.view)

-- a call before others
one_before : (v u w : View) (call : Exchange) (later : List Exchange) (service : Service) → CanBeRequested call.request → Serves v call service u
    → AreOneList u later w → AreOneList v (call ∷ later) w
one_before v u w call later service can first rest =
    let calls = calls_made call.request service.answer in
    let others = all_calls later rest.0 in (
      service ∷ rest.0,
      (u, first, rest.1),
      answers_append v u w calls others service.replies (all_replies rest.0) first.made rest.2,
      All-append IsCall calls others (can_be_made v u call.request service.answer can first.answers) rest.3,
    )

then : (e u : EngineState) (call : Exchange) (later : List Exchange) (left : Option EngineState) → CanBeRequested call.request
    → Returns (Some e) call.request call.code call.written (Some u) → Left u later left → Left e (call ∷ later) left
then e u call later None can returned rest = absurd rest
then e u call later (Some e') can returned rest =
    let one = calls_are_the_engines e call.request call.code call.written (Some u) returned in
    let service : Service = record { answer = one.0; replies = one.4.0 } in
    one_before e.view u.view e'.view call later service can
    (record { answers = one.1; code = one.2; written = one.3; replies = one.4.1; made = one.4.2 }) rest

pub exchanges_are_the_engines : ExchangesAreTheEngines
exchanges_are_the_engines e [] left is = subst (λ (x : Option EngineState). Left e [] x) (sym is) ([], refl, refl, none_made_law)
exchanges_are_the_engines e (call ∷ later) left (next, can, returned, rest) =
    let by : (found : Option EngineState) → Returns (Some e) call.request call.code call.written found → AreExchanges found later left
    → Left e (call ∷ later) left =
    λ found. elim found as
    (λ (found : Option EngineState). Returns (Some e) call.request call.code call.written found → AreExchanges found later left
    → Left e (call ∷ later) left) [
      | Some u ↦ λ returned rest. then e u call later left can returned (exchanges_are_the_engines u later left rest)
      | None ↦ λ returned rest. absurd (calls_are_the_engines e call.request call.code call.written None returned)
    ] in
    by next returned rest

-- the view of an engine that an open made
pub opened : (size channels : ℕ) (code : ℤ) (e : EngineState) → Opens None size channels code (Some e) → e.view ≡ new_view size channels
opened size channels code e returned = returned.2

pub sessions_are_the_engines : SessionsAreTheEngines
sessions_are_the_engines size channels code e calls left returned made =
    subst (λ (v : View). IsSomeAnd left (λ e'. AreOneList v calls e'.view)) (opened size channels code e returned)
    (exchanges_are_the_engines e calls left made)
