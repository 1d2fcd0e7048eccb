-- Each field of a head has a line, so the bytes have at least as many line feeds as fields.
use Rattle.std.proofs.Common.{◌≡◌, ℕ, ◌+◌, ◌≤◌, ◌==◌, List, [], ◌∷◌, ◌++◌, length, refl, sym, ◌∙◌, subst, arith, cond, count_by, append-nil}
use Rattle.std.specs.List.{flat_map}
use Rattle.std.proofs.lemmas.List.Sums.{sum_by-append}
use Rattle.httparse.specs.Grammar.{LineEnd, crlf, lf, print_end, Field, print_field, print_section, RequestHead, print_request, ReadsRequest, ResponseHead, print_response, ReadsResponse}

unfoldable pub feeds : List ℕ → ℕ
feeds bytes = count_by (λ b. b == 10) bytes

split : (a b : List ℕ) → feeds (a ++ b) ≡ feeds a + feeds b
unfolding feeds
split a b = sum_by-append (λ x. cond (x == 10) 1 0) a b

behind : (a b : List ℕ) (n : ℕ) → n ≤ feeds b → n ≤ feeds (a ++ b)
behind a b n few = omega (arith, split a b)

end_feed : (end : LineEnd) → feeds (print_end end) ≡ 1
unfolding feeds
end_feed crlf = refl
end_feed lf = refl

field_feed : (f : Field) → 1 ≤ feeds (print_field f)
field_feed f =
    let last : 1 ≤ feeds (print_end f.end) = omega (arith, end_feed f.end) in
    behind _ (print_end f.end) 1 last

field_feeds : (fields : List Field) → length fields ≤ feeds (flat_map print_field fields)
field_feeds [] = omega arith
field_feeds (f ∷ fields) =
    let here = field_feed f in
    let rest = field_feeds fields in
    omega (arith, split (print_field f) (flat_map print_field fields))

section_feeds : (fields : List Field) (last : LineEnd) → length fields ≤ feeds (print_section fields last)
section_feeds fields last =
    let lines = field_feeds fields in
    omega (arith, split (flat_map print_field fields) (print_end last))

request_feeds : (h : RequestHead) → length h.fields ≤ feeds (print_request h)
unfolding print_request
request_feeds h = behind _ (print_section h.fields h.last) (length h.fields) (section_feeds h.fields h.last)

response_feeds : (h : ResponseHead) → length h.fields ≤ feeds (print_response h)
unfolding print_response
response_feeds h = behind _ (print_section h.fields h.last) (length h.fields) (section_feeds h.fields h.last)

pub request_has_room : (bytes : List ℕ) (h : RequestHead) → ReadsRequest bytes h [] → length h.fields ≤ count_by (λ b. b == 10) bytes
unfolding feeds
request_has_room bytes h reads =
    subst (λ (b : List ℕ). length h.fields ≤ feeds b) (sym (reads.1 ∙ append-nil _)) (request_feeds h)

pub response_has_room : (bytes : List ℕ) (h : ResponseHead) → ReadsResponse bytes h [] → length h.fields ≤ count_by (λ b. b == 10) bytes
unfolding feeds
response_has_room bytes h reads =
    subst (λ (b : List ℕ). length h.fields ≤ feeds b) (sym (reads.1 ∙ append-nil _)) (response_feeds h)
