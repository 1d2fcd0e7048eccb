-- A member is read as a name with its values. An error means that no headers have it.
use Rattle.std.proofs.Common.{◌≡◌, ◌<◌, List, ℕ, map, length, refl, sym, ap, ◌∙◌, subst, arith}
use Rattle.std.specs.List.{AllZip}
use Rattle.std.proofs.lemmas.Grind.{common_steps}
use Rattle.std.proofs.lemmas.Result.{IfOk-weaker}
use Rattle.std.proofs.lemmas.List.{length-map}
use Rattle.http_header.specs.HeaderMap.{entry_pairs}
use Rattle.serde_json.specs.View.{view}
use Rattle.serde_json.specs.declared.value.Value.{Value}
use Rattle.http_cache_json.specs.HeaderObject.{IsValueText}
use Rattle.http_cache_json.specs.Pairs.{with_pairs, Fits}
use Rattle.http_cache_json.proofs.ZipLemmas.{list_of_zip, zip_of_list}
use Rattle.http_cache_json.proofs.MemberLemmas.{zip_some}
use Rattle.http_cache_json.proofs.headers.append_member.Goals as goal

pub returns-clause-found : goal.returns-clause-found
returns-clause-found c =
    let vs = c.in-Some.texts.now.items in
    let some : 0 < length vs = grind (arith, common_steps) in
    let named : c.in_ok-name.name ≡ c.args.key.now = c.in_ok-name.ensures.found.0 in
    IfOk-weaker c.append_texts.result _ _
    (λ _ (values, zip, after, fits).
    let listed = subst (λ (ws : List Value). AllZip IsValueText
    (map view ws) values) c.as_slice.ensures.value zip in (
      (c.args.key.now, values),
      record {
        name = refl;
        header_name = c.in_ok-name.ensures.found.1;
        listed = list_of_zip IsValueText (view c.args.value.now) vs values c.in-Some.ensures listed;
        some = zip_some IsValueText (map view vs) values listed (omega (arith, some, length-map vs view));
      },
      after ∙ ap (λ (k : List ℕ). with_pairs c.args.headers.now (entry_pairs (k, values))) named,
      fits,
    ))
    c.append_texts.ensures.found

pub returns-clause-none : goal.returns-clause-none
returns-clause-none c = λ e entry is fits.
    let vs = c.in-Some.texts.now.items in
    let named = c.in_ok-name.ensures.found.0 ∙ sym is.name in
    let zip = zip_of_list IsValueText (view c.args.value.now) vs entry.1 c.in-Some.ensures is.listed in
    c.append_texts.ensures.none e entry.1 (subst (λ (ws : List Value). AllZip IsValueText
    (map view ws) entry.1) (sym c.as_slice.ensures.value) zip)
    (subst (λ (k : List ℕ). Fits (with_pairs c.args.headers.now (entry_pairs (k, entry.1)))) (sym named) fits)
