-- Members are read in turn. An error means that no headers have them all.
use Rattle.std.proofs.Common.{◌≡◌, rules, ℕ, String, Global, List, [], ◌∷◌, ◌++◌, map}
use Rattle.std.proofs.Common.{refl, sym, ap, ◌∙◌, subst, append_assoc, append-nil}
use Rattle.std.specs.List.{AllZip}
use Rattle.http_header.specs.FieldValue.{FieldValue}
use Rattle.http_header.specs.HeaderMap.{Entries, entry_pairs}
use Rattle.serde_json.specs.declared.value.Value.{Value}
use Rattle.http_cache_json.specs.HeaderObject.{Member, member_of, IsHeaderMember}
use Rattle.http_cache_json.specs.Pairs.{with_pairs, Fits}
use Rattle.http_cache_json.proofs.ZipLemmas.{zip_push}
use Rattle.http_cache_json.proofs.HeldLemmas.{fits_none}
use Rattle.http_cache_json.proofs.MemberLemmas.{member_after, holds_all, refused_member}
use Rattle.http_cache_json.proofs.headers.headers_from.Goals as goal

pub loop-key-init : goal.loop-key-init
loop-key-init c = record {
  read = ([], [], refl, tt, c.new-headers.ensures);
  fits = fits_none _ c.new-headers.ensures;
}

pub loop-key-preserved : goal.loop-key-preserved
loop-key-preserved c =
    let (front, done, whole, zip, at) = c.loop-key.invariant.read in
    let (e, is, after, fits) = c.in_ok-append_member.ensures.found in
    let m : Member = member_of (c.in-Some.key.now, c.in-Some.value.now) in
    let of_member = subst (λ (k : List ℕ). IsHeaderMember (k, m.1) e) c.as_str.ensures.value is in
    let left = map member_of c.next.new.self in
    record {
      read = (
        front ++ m ∷ [],
        done ++ e ∷ [],
        append_assoc front (m ∷ []) left
            ∙ ap (λ (es : List (String Global × Value)). front ++ map member_of es)
            (sym c.in-Some.ensures.steps) ∙ whole,
        zip_push IsHeaderMember front done m e zip of_member,
        after ∙ ap (λ (n : Entries FieldValue). with_pairs n (entry_pairs e)) at
            ∙ sym (member_after [] done e),
      );
      fits = fits;
    }

pub returns-in_err-append_member-clause-none : goal.returns-in_err-append_member-clause-none
returns-in_err-append_member-clause-none c = λ e.
    let (front, done, whole, zip, at) = c.loop-key.invariant.read in
    let m : Member = member_of (c.in-Some.key.now, c.in-Some.value.now) in
    let started : c.into_iter-key-iterator.result ≡ c.args.members.now.entries = search rules in
    let all = ap (λ (es : List (String Global × Value)). front ++ map member_of es)
    (sym c.in-Some.ensures.steps) ∙ whole ∙ ap (map member_of) started in
    let none = c.in_err-append_member.ensures.none (search rules) in
    refused_member front done m (map member_of c.next.new.self)
    (map member_of c.args.members.now.entries) all zip
    (λ e is fits. none e (subst (λ (k : List ℕ). IsHeaderMember (k, m.1) e) (sym c.as_str.ensures.value) is)
    (subst (λ (n : Entries FieldValue). Fits (with_pairs n (entry_pairs e))) (sym at) fits))

pub returns-clause-found : goal.returns-clause-found
returns-clause-found c =
    let (front, done, whole, zip, at) = c.loop-key.invariant.read in
    let started : c.into_iter-key-iterator.result ≡ c.args.members.now.entries = search rules in
    let all : front ≡ map member_of c.args.members.now.entries =
    sym (append-nil front) ∙ ap (λ (es : List (String Global × Value)). front ++ map member_of es)
    (sym c.in-None.ensures.steps.0) ∙ whole ∙ ap (map member_of) started in (
      done,
      subst (λ (ms : List Member). AllZip IsHeaderMember ms done) all zip,
      holds_all c.loop-key.headers done at c.loop-key.invariant.fits,
    )
