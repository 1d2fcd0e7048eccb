-- The spans make the request of the head, and an error has its cause in the head.
use Rattle.std.proofs.Common.{◌⊎◌, ℕ, List, [], subst}
use Rattle.std.specs.Prelude.{Any}
use Rattle.http1_typed.specs.Parts.{IsRequestParts, RequestError, TargetError}
use Rattle.httparse.specs.Grammar.{RequestHead, ReadsRequest}
use Rattle.httparse.proofs.GrammarLemmas.{request_unique}
use Rattle.http_uri.specs.Uri.{SpellsNone}
use Rattle.http_heads.specs.Heads.{HasLongName, IsNoRequest}
use Rattle.http_heads.proofs.HeadLemmas.{nothing_left, request_is}
use Rattle.http_heads.proofs.FailureLemmas.{request_is_malformed, request_is_full}
use Rattle.http_heads.proofs.read.parts_of_request.Goals as goal

pub returns-in-Ok-clause-found : goal.returns-in-Ok-clause-found
returns-in-Ok-clause-found c =
    request_is c.args.bytes.now c.args.fields.now c.args.head.now c.in-Ok.parts c.requires.complete c.requires.whole
    (subst (λ (b : List ℕ). IsRequestParts b c.args.fields.now c.args.head.now c.in-Ok.parts) c.in_ok-shared.ensures
    c.in-Ok.ensures.ok)

pub returns-clause-malformed : goal.returns-clause-malformed
unfolding IsNoRequest
returns-clause-malformed c = λ is h reads.
    let (k, at) = c.requires.complete in
    let same = (request_unique c.args.bytes.now k h _ [] at.reads reads).0 in
    subst (λ (g : RequestHead). SpellsNone g.target ⊎ Any HasLongName g.fields) same
    (request_is_malformed c.args.bytes.now c.args.fields.now c.args.head.now k c.in-Err.e at
    (subst (λ (b : List ℕ). RequestError b c.args.fields.now c.args.head.now c.in-Err.e) c.in_ok-shared.ensures
    c.in-Err.ensures.err)
    (subst (λ (b : List ℕ). TargetError b c.args.head.now c.in-Err.e) c.in_ok-shared.ensures c.in-Err.ensures.uri)
    (cc (is, c.error_of.ensures)))

pub returns-clause-full : goal.returns-clause-full
returns-clause-full c = λ is.
    let (k, at) = c.requires.complete in
    let whole : ReadsRequest c.args.bytes.now k [] =
    subst (λ (rest : List ℕ). ReadsRequest c.args.bytes.now k rest)
    (nothing_left c.args.bytes.now c.args.head.now.len c.requires.whole) at.reads in (
      k,
      whole,
      request_is_full c.args.bytes.now c.args.fields.now c.args.head.now k c.in-Err.e at
          (subst (λ (b : List ℕ). RequestError b c.args.fields.now c.args.head.now c.in-Err.e) c.in_ok-shared.ensures
          c.in-Err.ensures.err)
          (subst (λ (b : List ℕ). TargetError b c.args.head.now c.in-Err.e) c.in_ok-shared.ensures c.in-Err.ensures.uri)
          (cc (is, c.error_of.ensures)),
    )
