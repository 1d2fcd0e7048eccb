-- The written form of a policy reads as that policy, except for its target.
use Rattle.std.proofs.Common.{◌≡◌, ◌↔◌, ℕ, List, Result, Ok, Err, refl, sym, ap, ◌∙◌, subst}
use Rattle.std.specs.Prelude.{IfOk, OnOk, slice_index}
use Rattle.http_header.specs.HeaderMap.{IsHeaderMap}
use Rattle.http_cache_rules.specs.Exchange.{Exchange}
use Rattle.http_cache_json.specs.ReadBack.{IsReadBack}
use Rattle.http_cache_json.proofs.HeldLemmas.{HoldsPairs-unique}
use Rattle.http_cache_json.proofs.SomeLemmas.{some_and, of_some, same_some}
use Rattle.http_cache_compact.specs.Compact.{Texts, texts_of, AreTextsOf, IsCompactOf}
use Rattle.http_cache_compact.specs.Written.{numbers_text, compact_text, texts_kept, exchange_kept, IsWritable}
use Rattle.http_cache_compact.specs.declared.write.Kept.{Kept}
use Rattle.http_cache_compact.proofs.PairLemmas.{kept_headers}
use Rattle.http_cache_compact.proofs.BackLemmas.{numbers_back, options_back, time_back, status_back, texts_back}

pub three_ok : {T E : Type 0} (r : Result T E) (P : T → Type 0) (Q R : Type 0) (S : T → Type 0)
    → ((x : T) → P x → Q → R → S x) → IfOk r P → OnOk r Q → OnOk r R → IfOk r S
three_ok (Ok x) P Q R S f p q s = f x p q s
three_ok (Err e) P Q R S f p q s = tt

forth : (k : Kept) → IsWritable (exchange_kept k) (texts_kept k) → IsHeaderMap k.request_headers.now
    → IsHeaderMap k.response_headers.now → (f : Exchange)
    → IsCompactOf (compact_text (exchange_kept k) (texts_kept k)) f → IsReadBack (exchange_kept k) f
forth k w asked answered f is =
    let e = exchange_kept k in
    let t = texts_kept k in
    let texts : AreTextsOf t f =
    of_some (texts_of (compact_text e t)) t (λ u. AreTextsOf u f) (sym (texts_back e t w)) is.texts in
    let request : f.request_headers ≡ e.request_headers =
    HoldsPairs-unique t.request _ _ texts.request.held (kept_headers k.request_headers.now asked w.request.fields).held in
    let response : f.response_headers ≡ e.response_headers =
    HoldsPairs-unique t.response _ _ texts.response.held (kept_headers k.response_headers.now answered w.response.fields).held in
    let status : f.status ≡ e.status = is.status ∙ status_back e t w in
    let options : f.options ≡ e.options = is.options ∙ options_back e t w in
    let time : f.response_time ≡ e.response_time =
    sym (same_some _ e.response_time f.response_time (sym (time_back e t w)) is.response_time) in
    let method : f.method ≡ e.method = texts.method in
    record {
      same = λ i. record {
        target = f.target;
        method = method i;
        status = status i;
        request_headers = request i;
        response_headers = response i;
        options = options i;
        response_time = time i;
      };
      target = texts.target;
    }

back : (k : Kept) → IsWritable (exchange_kept k) (texts_kept k) → IsHeaderMap k.request_headers.now
    → IsHeaderMap k.response_headers.now → (f : Exchange) → IsReadBack (exchange_kept k) f
    → IsCompactOf (compact_text (exchange_kept k) (texts_kept k)) f
back k w asked answered f is =
    let e = exchange_kept k in
    let t = texts_kept k in
    let texts : AreTextsOf t (record e { target = f.target }) = record {
      method = refl;
      token = w.token;
      target = is.target;
      request = kept_headers k.request_headers.now asked w.request.fields;
      response = kept_headers k.response_headers.now answered w.response.fields;
    } in
    let whole : IsCompactOf (compact_text e t) (record e { target = f.target }) = record {
      numbers = numbers_back e t w;
      options = sym (options_back e t w);
      response_time = time_back e t w;
      status = sym (status_back e t w);
      code = w.code;
      texts =
          some_and (texts_of (compact_text e t)) t (λ u. AreTextsOf u (record e { target = f.target }))
          (sym (texts_back e t w)) texts;
    } in
    subst (IsCompactOf (compact_text e t)) (sym is.same) whole

pub written_back : (k : Kept) (bytes : List ℕ) → bytes ≡ compact_text (exchange_kept k) (texts_kept k)
    → IsWritable (exchange_kept k) (texts_kept k) → IsHeaderMap k.request_headers.now × IsHeaderMap k.response_headers.now
    → (f : Exchange) → IsCompactOf bytes f ↔ IsReadBack (exchange_kept k) f
written_back k bytes is w maps f =
    subst (λ (b : List ℕ). IsCompactOf b f ↔ IsReadBack (exchange_kept k) f) (sym is)
    (forth k w maps.0 maps.1 f, back k w maps.0 maps.1 f)

pub version_first : (e : Exchange) (t : Texts) (bytes : List ℕ) → bytes ≡ compact_text e t → slice_index bytes 0 ≡ 1
unfolding numbers_text
version_first e t bytes is = ap (λ (b : List ℕ). slice_index b 0) is
