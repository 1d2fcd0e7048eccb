-- Texts are read as values of one name. An error means that they can't all be added.
use Rattle.std.proofs.Common.{rules, ◌≡◌, List, [], ◌∷◌, ◌++◌, map, take, length}
use Rattle.std.proofs.Common.{◌<◌, sym, ap, ◌∙◌, subst, Err, Some, None, arith}
use Rattle.std.specs.List.{AllZip}
use Rattle.http_header.specs.HeaderMap.{append, RefusesAppend, Entries}
use Rattle.http_header.specs.FieldValue.{FieldValue, plain_value}
use Rattle.http_header.specs.Token.{lowercase}
use Rattle.serde_json.specs.Data.{Data}
use Rattle.serde_json.specs.View.{view}
use Rattle.http_cache_json.specs.HeaderObject.{IsValueText}
use Rattle.http_cache_json.specs.Pairs.{Fits}
use Rattle.http_cache_json.proofs.ZipLemmas.{zip_push, up_to_next}
use Rattle.http_cache_json.proofs.HeldLemmas.{fits_more}
use Rattle.http_cache_json.proofs.AppendLemmas.{appended, refused_texts}
use Rattle.http_cache_json.proofs.headers.append_texts.Goals as goal

pub returns-in_err-value-clause-none : goal.returns-in_err-value-clause-none
returns-in_err-value-clause-none c = λ e.
    let (done, zip, at) = c.loop-text.invariant.appended in
    let none = c.in_err-value.ensures.none (search rules) in
    refused_texts c.args.headers.now c.args.name.now done c.args.texts.now c.loop-text.text-index
    c.text-item.result (omega arith) c.text-item.is c.requires.name zip
    (λ bytes is. let no : None ≡ Some bytes = sym none ∙ is in cc)

pub returns-in-Err-MaxSizeReached-clause-none : goal.returns-in-Err-MaxSizeReached-clause-none
returns-in-Err-MaxSizeReached-clause-none c = λ e.
    let (done, zip, at) = c.loop-text.invariant.appended in
    let name = c.args.name.now in
    let refused = c.in-Err-MaxSizeReached.ensures.full.0 (ap Err c.in-Err-MaxSizeReached.field-0-is) in
    refused_texts c.args.headers.now name done c.args.texts.now c.loop-text.text-index c.text-item.result
    (omega arith) c.text-item.is c.requires.name zip
    (λ bytes is. subst (λ (m : Entries FieldValue). RefusesAppend m name) at refused)

pub loop-text-preserved : goal.loop-text-preserved
loop-text-preserved c =
    let (done, zip, at) = c.loop-text.invariant.appended in
    let (bytes, text, plain) = c.in_ok-value.ensures.found in
    let name = c.args.name.now in
    let texts = c.args.texts.now in
    let i = c.loop-text.text-index in
    let item = c.text-item.result in
    let lt : i < length texts = omega arith in
    let longer = zip_push IsValueText (map view (take i texts)) done (view item) bytes zip text in
    let step = c.in-Ok.ensures.ok ∙ ap (append c.loop-text.headers name) plain in
    let pair = step ∙ ap (λ k. append c.loop-text.headers k (plain_value bytes)) (sym c.requires.name.1) in
    let room : RefusesAppend c.loop-text.headers (lowercase name) → ⊥ =
    λ full. cc (c.in-Ok.ensures.full.1 (subst
    (RefusesAppend c.loop-text.headers) c.requires.name.1 full)) in
    record {
      appended = (
        done ++ bytes ∷ [],
        subst (λ (ds : List Data). AllZip IsValueText ds (done ++ bytes ∷ [])) (sym
            (up_to_next view texts i item lt c.text-item.is)) longer,
        step ∙ ap (λ (m : Entries FieldValue). append m name (plain_value bytes)) at
            ∙ sym (appended c.args.headers.now name done bytes c.requires.name),
      );
      fits = subst Fits (sym pair) (fits_more c.loop-text.headers
          (name, bytes) room c.loop-text.invariant.fits);
    }
