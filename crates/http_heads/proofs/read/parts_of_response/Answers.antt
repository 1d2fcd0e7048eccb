-- The spans make the response of the head, and an error has its cause in the head.
use Rattle.std.proofs.Common.{◌⊎◌, ℕ, List, [], subst}
use Rattle.std.specs.Prelude.{Any}
use Rattle.http1_typed.specs.Parts.{IsResponseParts, ResponseError}
use Rattle.httparse.specs.Grammar.{ResponseHead, ReadsResponse, status_code}
use Rattle.httparse.proofs.GrammarLemmas.{response_unique}
use Rattle.http.specs.StatusCode.{IsStatusCode}
use Rattle.http_heads.specs.Heads.{HasLongName, IsNoResponse}
use Rattle.http_heads.proofs.HeadLemmas.{nothing_left, response_is}
use Rattle.http_heads.proofs.FailureLemmas.{response_is_malformed, response_is_full}
use Rattle.http_heads.proofs.read.parts_of_response.Goals as goal

pub returns-in-Ok-clause-found : goal.returns-in-Ok-clause-found
returns-in-Ok-clause-found c =
    response_is c.args.bytes.now c.args.fields.now c.args.head.now c.in-Ok.parts c.requires.complete c.requires.whole
    (subst (λ (b : List ℕ). IsResponseParts b c.args.fields.now c.args.head.now c.in-Ok.parts) c.in_ok-shared.ensures
    c.in-Ok.ensures.ok)

pub returns-clause-malformed : goal.returns-clause-malformed
unfolding IsNoResponse
returns-clause-malformed c = λ is h reads.
    let (k, at) = c.requires.complete in
    let same = (response_unique c.args.bytes.now k h _ [] at.reads reads).0 in
    subst (λ (g : ResponseHead). ¬ (IsStatusCode (status_code g)) ⊎ Any HasLongName g.fields) same
    (response_is_malformed c.args.bytes.now c.args.fields.now c.args.head.now k c.in-Err.e at
    (subst (λ (b : List ℕ). ResponseError b c.args.fields.now c.args.head.now c.in-Err.e) c.in_ok-shared.ensures
    c.in-Err.ensures.err)
    (cc (is, c.error_of.ensures)))

pub returns-clause-full : goal.returns-clause-full
returns-clause-full c = λ is.
    let (k, at) = c.requires.complete in
    let whole : ReadsResponse c.args.bytes.now k [] =
    subst (λ (rest : List ℕ). ReadsResponse c.args.bytes.now k rest)
    (nothing_left c.args.bytes.now c.args.head.now.len c.requires.whole) at.reads in (
      k,
      whole,
      response_is_full c.args.bytes.now c.args.fields.now c.args.head.now k c.in-Err.e at
          (subst (λ (b : List ℕ). ResponseError b c.args.fields.now c.args.head.now c.in-Err.e) c.in_ok-shared.ensures
          c.in-Err.ensures.err)
          (cc (is, c.error_of.ensures)),
    )
