-- The parser finds each head that is all of the bytes.
use Rattle.std.proofs.Common.{◌≡◌, ℕ, ◌≤◌, ◌==◌, count_by, List, [], length, Result, Ok, Err, sym, ap, ◌∙◌, arith, append-nil}
use Rattle.httparse.specs.declared.Error.{Error}
use Rattle.httparse.specs.declared.Status.{Status}
use Rattle.httparse.specs.declared.Status.TheVariants.{Complete, Partial}
use Rattle.httparse.specs.Outcome.{IsCompleteAnd}
use Rattle.httparse.specs.Grammar.{RequestHead, ReadsRequest, ResponseHead, ReadsResponse}
use Rattle.httparse.specs.Spans.{IsRequestAt, IsResponseAt, FindsRequest, FindsResponse}
use Rattle.httparse.specs.declared.spans.HeaderSpan.{HeaderSpan}
use Rattle.httparse.specs.declared.spans.RequestSpans.{RequestSpans}
use Rattle.httparse.specs.declared.spans.ResponseSpans.{ResponseSpans}
use Rattle.http_heads.proofs.CountLemmas.{request_has_room, response_has_room}

complete : {A : Type 0} (r : Result (Status A) Error) (P Q : A → Type 0) → ((a : A) → P a → Q a)
    → IsCompleteAnd r P → IsCompleteAnd r Q
complete (Ok (Complete a)) P Q weaker x = weaker a x
complete (Ok Partial) P Q weaker x = x
complete (Err e) P Q weaker x = x

pub finds_request : (bytes : List ℕ) (room : ℕ) (spans : List HeaderSpan) (r : Result (Status RequestSpans) Error)
    → FindsRequest bytes room spans r → room ≡ count_by (λ b. b == 10) bytes → (h : RequestHead) → ReadsRequest bytes h []
    → IsCompleteAnd r (λ s. s.len ≡ length bytes)
finds_request bytes room spans r finds is h reads =
    let enough : length h.fields ≤ room = omega (arith, request_has_room bytes h reads) in
    complete r (λ s. IsRequestAt bytes spans s h) (λ s. s.len ≡ length bytes)
    (λ s at. at.len ∙ ap length (sym (reads.1 ∙ append-nil _))) (finds h [] reads enough)

pub finds_response : (bytes : List ℕ) (room : ℕ) (spans : List HeaderSpan) (r : Result (Status ResponseSpans) Error)
    → FindsResponse bytes room spans r → room ≡ count_by (λ b. b == 10) bytes → (h : ResponseHead) → ReadsResponse bytes h []
    → IsCompleteAnd r (λ s. s.len ≡ length bytes)
finds_response bytes room spans r finds is h reads =
    let enough : length h.fields ≤ room = omega (arith, response_has_room bytes h reads) in
    complete r (λ s. IsResponseAt bytes spans s h) (λ s. s.len ≡ length bytes)
    (λ s at. at.len ∙ ap length (sym (reads.1 ∙ append-nil _))) (finds h [] reads enough)
