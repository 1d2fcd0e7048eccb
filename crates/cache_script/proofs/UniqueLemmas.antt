-- A value, and hence a text, is at most one script.
use Rattle.std.proofs.Common.{◌≡◌, ℕ, ℤ, List, Option, Some, None, IsSomeAnd, codes, inl, inr, refl}
use Rattle.std.proofs.Common.{sym, ap, ◌∙◌, subst}
use Rattle.std.proofs.lemmas.Bool.{cases_Bool}
use Rattle.serde_json.specs.Data.{Data}
use Rattle.serde_json.specs.Read.{read as read_text}
use Rattle.http_uri.specs.Uri.{uri_eq}
use Rattle.http_cache_policy.specs.Headers.{Headers}
use Rattle.http_cache_json.proofs.TargetLemmas.{Spells-one_target}
use Rattle.http_cache_json.specs.Form.{has_members}
use Rattle.http_cache_json.specs.Pairs.{Pair, HoldsPairs}
use Rattle.cache_script.specs.Pairs.{IsPair, IsHeaderList}
use Rattle.http_cache_policy.specs.Messages.{RequestSeen, ResponseSeen}
use Rattle.cache_script.specs.Messages.{RequestForm, ResponseForm, request_form, response_form}
use Rattle.cache_script.specs.Messages.{IsRequestOf, IsResponseOf, IsRequest, IsResponse}
use Rattle.http_cache_policy.specs.Steps.{StepSeen, asks, receives, restarts}
use Rattle.cache_script.specs.Steps.{ask_form, receive_form, AskForm, ReceiveForm, IsAskOf, IsReceiveOf, IsStep}
use Rattle.cache_script.specs.Script.{ScriptSeen, ScriptForm, script_form, IsScriptOf, IsScriptData, IsScript}
use Rattle.http_cache_json.proofs.SomeLemmas.{some_same}
use Rattle.http_cache_json.proofs.ZipLemmas.{IsListOf-unique}
use Rattle.http_cache_json.proofs.HeldLemmas.{HoldsPairs-unique}
use Rattle.cache_script.proofs.PairLemmas.{IsPair-unique}
use Rattle.cache_script.proofs.StepLemmas.{text_asks_not, text_receives_not, two_receive_not, other_asks_not}

none_holds : {A : Type 0} (o : Option A) (P : A → Type 0) → o ≡ None → IsSomeAnd o P → ⊥
none_holds None P e h = h
none_holds (Some x) P e h = cc

pub IsHeaderList-unique : (d : Data) (g h : Headers) → IsHeaderList d g → IsHeaderList d h → g ≡ h
IsHeaderList-unique d g h p q =
    let same = IsListOf-unique IsPair IsPair-unique d p.pairs q.pairs p.listed q.listed in
    HoldsPairs-unique q.pairs g h (subst (λ (pairs : List Pair). HoldsPairs pairs g) same p.held) q.held

IsRequestOf-unique : (form : RequestForm) (r s : RequestSeen)
    → IsRequestOf form r → IsRequestOf form s → r ≡ s
IsRequestOf-unique form r s h k =
    let target = Spells-one_target form.target r.target s.target h.target k.target in
    let method = h.method ∙ sym k.method in
    let headers = IsHeaderList-unique form.headers r.headers s.headers h.headers k.headers in
    let compared = h.same ∙ ap uri_eq target ∙ sym k.same in
    λ i. record {
      target = target i;
      is_same_target = compared i;
      method = method i;
      headers = headers i;
    }

pub IsRequest-unique : (d : Data) (r s : RequestSeen) → IsRequest d r → IsRequest d s → r ≡ s
IsRequest-unique d r s h k = some_same IsRequestOf IsRequestOf-unique (request_form d) r s h k

IsResponseOf-unique : (form : ResponseForm) (r s : ResponseSeen)
    → IsResponseOf form r → IsResponseOf form s → r ≡ s
IsResponseOf-unique form r s h k =
    let status = h.status ∙ sym k.status in
    let headers = IsHeaderList-unique form.headers r.headers s.headers h.headers k.headers in
    λ i. record { status = status i; headers = headers i }

pub IsResponse-unique : (d : Data) (r s : ResponseSeen) → IsResponse d r → IsResponse d s → r ≡ s
IsResponse-unique d r s h k = some_same IsResponseOf IsResponseOf-unique (response_form d) r s h k

asks_receives : (d : Data) (r q : RequestSeen) (a : ResponseSeen) (m n : ℤ)
    → IsStep d (asks r m) → IsStep d (receives q a n) → ⊥
asks_receives d r q a m n h k =
    elim (cases_Bool (has_members 2 d)) [
      | inl two ↦ none_holds (receive_form d) (λ form. IsReceiveOf form q a n) (two_receive_not d two) k
      | inr other ↦ none_holds (ask_form d) (λ form. IsAskOf form r m) (other_asks_not d other) h
    ]

asks_restarts : (d : Data) (r : RequestSeen) (m : ℤ) → IsStep d (asks r m) → IsStep d restarts → ⊥
asks_restarts d r m h k =
    none_holds (ask_form d) (λ form. IsAskOf form r m) (text_asks_not d (codes "restart") (sym k)) h

receives_restarts : (d : Data) (r : RequestSeen) (a : ResponseSeen) (m : ℤ)
    → IsStep d (receives r a m) → IsStep d restarts → ⊥
receives_restarts d r a m h k =
    none_holds (receive_form d) (λ form. IsReceiveOf form r a m)
    (text_receives_not d (codes "restart") (sym k)) h

ask_same : (o : Option AskForm) (r s : RequestSeen) (m n : ℤ)
    → IsSomeAnd o (λ form. IsAskOf form r m) → IsSomeAnd o (λ form. IsAskOf form s n) → asks r m ≡ asks s n
ask_same None r s m n h k = absurd h
ask_same (Some form) r s m n h k =
    let request = IsRequest-unique form.request r s h.request k.request in
    let moment = h.moment ∙ sym k.moment in
    λ i. asks (request i) (moment i)

receive_same : (o : Option ReceiveForm) (r s : RequestSeen) (a b : ResponseSeen) (m n : ℤ)
    → IsSomeAnd o (λ form. IsReceiveOf form r a m) → IsSomeAnd o (λ form. IsReceiveOf form s b n)
    → receives r a m ≡ receives s b n
receive_same None r s a b m n h k = absurd h
receive_same (Some form) r s a b m n h k =
    let request = IsRequest-unique form.request r s h.request k.request in
    let response = IsResponse-unique form.response a b h.response k.response in
    let moment = h.moment ∙ sym k.moment in
    λ i. receives (request i) (response i) (moment i)

pub IsStep-unique : (d : Data) (s t : StepSeen) → IsStep d s → IsStep d t → s ≡ t
IsStep-unique d (asks r m) (asks q n) h k = ask_same (ask_form d) r q m n h k
IsStep-unique d (asks r m) (receives q a n) h k = absurd (asks_receives d r q a m n h k)
IsStep-unique d (asks r m) restarts h k = absurd (asks_restarts d r m h k)
IsStep-unique d (receives r a m) (asks q n) h k = absurd (asks_receives d q r a n m k h)
IsStep-unique d (receives r a m) (receives q b n) h k = receive_same (receive_form d) r q a b m n h k
IsStep-unique d (receives r a m) restarts h k = absurd (receives_restarts d r a m h k)
IsStep-unique d restarts (asks q n) h k = absurd (asks_restarts d q n k h)
IsStep-unique d restarts (receives q b n) h k = absurd (receives_restarts d q b n k h)
IsStep-unique d restarts restarts h k = refl

IsScriptOf-unique : (form : ScriptForm) (s t : ScriptSeen) → IsScriptOf form s → IsScriptOf form t → s ≡ t
IsScriptOf-unique form s t h k =
    let options = h.options ∙ sym k.options in
    let received = h.received ∙ sym k.received in
    let request = IsRequest-unique form.request s.request t.request h.request k.request in
    let response = IsResponse-unique form.response s.response t.response h.response k.response in
    let steps = IsListOf-unique IsStep IsStep-unique form.steps s.steps t.steps h.steps k.steps in
    λ i. record {
      options = options i;
      received = received i;
      request = request i;
      response = response i;
      steps = steps i;
    }

pub IsScriptData-unique : (d : Data) (s t : ScriptSeen) → IsScriptData d s → IsScriptData d t → s ≡ t
IsScriptData-unique d s t h k = some_same IsScriptOf IsScriptOf-unique (script_form d) s t h k

pub IsScript-unique : (bytes : List ℕ) (s t : ScriptSeen) → IsScript bytes s → IsScript bytes t → s ≡ t
IsScript-unique bytes s t h k = some_same IsScriptData IsScriptData-unique (read_text bytes) s t h.of k.of
