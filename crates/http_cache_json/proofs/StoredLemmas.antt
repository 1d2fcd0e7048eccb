-- A value has at most one exchange.
use Rattle.std.proofs.Common.{◌≡◌, sym, ◌∙◌}
use Rattle.serde_json.specs.Data.{Data}
use Rattle.http_cache_rules.specs.Exchange.{Exchange}
use Rattle.http_cache_json.specs.Stored.{StoredForm, stored_form, IsStoredOf, IsStored}
use Rattle.http_cache_json.proofs.SomeLemmas.{some_same}
use Rattle.http_cache_json.proofs.MemberLemmas.{IsHeaderObject-unique}
use Rattle.http_cache_json.proofs.TargetLemmas.{Spells-one_target}

IsStoredOf-unique : (form : StoredForm) (s t : Exchange) → IsStoredOf form s → IsStoredOf form t → s ≡ t
IsStoredOf-unique form s t h k =
    let target = Spells-one_target form.target s.target t.target h.target k.target in
    let method = h.method ∙ sym k.method in
    let status = h.status ∙ sym k.status in
    let request =
    IsHeaderObject-unique form.request s.request_headers t.request_headers h.request k.request in
    let response =
    IsHeaderObject-unique form.response s.response_headers t.response_headers h.response k.response in
    let options = h.options ∙ sym k.options in
    let moment = h.response_time ∙ sym k.response_time in
    λ i. record {
      target = target i;
      method = method i;
      status = status i;
      request_headers = request i;
      response_headers = response i;
      options = options i;
      response_time = moment i;
    }

pub IsStored-unique : (d : Data) (s t : Exchange) → IsStored d s → IsStored d t → s ≡ t
IsStored-unique d s t h k = some_same IsStoredOf IsStoredOf-unique (stored_form d) s t h k
