-- The object has the values of each name, and its names and values can be read back.
use Rattle.std.proofs.Common.{◌≡◌, rules, List, ℕ, string_bytes, sym, ap, ◌∙◌, subst}
use Rattle.std.specs.List.{AllByRecursion}
use Rattle.std.specs.FinMap as fin
use Rattle.serde_json.specs.Data.{put}
use Rattle.serde_json.specs.View.{view, members_view}
use Rattle.serde_json.proofs.Views.{members_view-insert_entry}
use Rattle.http_header.specs.HeaderMap.{keys, get_all}
use Rattle.http_cache_fields.specs.Headers.{Headers, headers_of, bytes_of}
use Rattle.http_cache_json.specs.ReadBack.{IsReadableEntry}
use Rattle.http_cache_json.proofs.WriteLemmas.{with_names, all_names, none_yet, members-insert}
use Rattle.http_cache_json.proofs.WriteLemmas.{readable_none, readable_insert, readable}
use Rattle.http_cache_json.proofs.headers.value_of_headers.Goals as goal

pub loop-name-init : goal.loop-name-init
loop-name-init c =
    let started : c.into_iter-name-iterator.result ≡ keys c.args.headers.now = search rules in (
      fin.empty,
      ap members_view c.new-members.ensures.empty ∙ sym none_yet,
      ap (λ (names : List (List ℕ)). with_names c.args.headers.now names fin.empty) started
          ∙ all_names c.args.headers.now,
      readable_none,
    )

pub loop-name-preserved : goal.loop-name-preserved
loop-name-preserved c =
    let (done, written, left, taken) = c.loop-name.invariant in
    let headers = c.args.headers.now in
    let name = c.in-Some.name.now in
    let named : string_bytes c.in_ok-key.key ≡ name = c.in_ok-key.ensures.ok ∙ c.as_str.ensures.value in
    let before = members_view c.loop-name.members.entries in
    let value = c.in_ok-texts_under.field-0 in
    let added = ap members_view c.in_ok-insert.ensures.entries
    ∙ members_view-insert_entry c.loop-name.members.entries c.in_ok-key.key value
    ∙ ap (λ (k : List ℕ). put k (view value) before) named
    ∙ ap (λ v. put name v before) c.in_ok-texts_under.ensures.value in (
      fin.insert done name (bytes_of (get_all headers name)),
      added ∙ ap (put name _) written ∙ members-insert done name (bytes_of (get_all headers name)),
      ap (λ (names : List (List ℕ)). with_names headers names done) (sym c.in-Some.ensures.steps) ∙ left,
      readable_insert done name (bytes_of (get_all headers name)) (record {
        name = c.as_str.ensures.valid;
        values = c.in_ok-texts_under.ensures.readable;
      }) taken,
    )

pub returns-clause-readable : goal.returns-clause-readable
returns-clause-readable c =
    let (done, written, left, taken) = c.loop-name.invariant in
    let all : done ≡ headers_of c.args.headers.now =
    ap (λ (names : List (List ℕ)). with_names c.args.headers.now names done) (sym c.in-None.ensures.steps.0)
    ∙ left in
    readable c.args.headers.now (search rules) (subst
    (λ (h : Headers). AllByRecursion IsReadableEntry (fin.entries h)) all taken)
