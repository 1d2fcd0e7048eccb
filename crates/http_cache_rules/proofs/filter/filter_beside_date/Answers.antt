-- Except for Date the headers are the ones that are sent on, with at most one value for each name.
use Rattle.std.proofs.Common.{◌≡◌, codes, subst, sym, ap, ◌∙◌}
use Rattle.http_cache_fields.specs.Headers.{Headers, headers_of, IsAbsent, set_unless_empty}
use Rattle.http_cache_fields.specs.Pieces.{pieces_under}
use Rattle.http_cache_fields.proofs.HeadersLemmas.{few_values}
use Rattle.http_cache_rules.specs.Filter.{lasting_warnings, end_to_end_headers, without_listed}
use Rattle.http_cache_rules.proofs.FilterLemmas.{filled-headers_of, filtered_headers-is}
use Rattle.http_cache_rules.proofs.FilterLemmas.{stepped-single, warning-stays, warning-stays_away, keep_alive-absent}
use Rattle.http_cache_rules.proofs.filter.filter_beside_date.Goals as goal

pub remove_listed-requires : goal.remove_listed-requires
remove_listed-requires c =
    let h = headers_of c.args.headers.now in
    subst (λ (g : Headers). IsAbsent g (codes "keep-alive")) (sym c.in_ok-out.ensures)
    (keep_alive-absent h (filled-headers_of c.args.headers.now c.reveal_header_map.ensures))

pub set_warnings-requires-clause-there : goal.set_warnings-requires-clause-there
set_warnings-requires-clause-there c =
    let h = headers_of c.args.headers.now in
    let before : headers_of c.remove_listed.new.out
    ≡ without_listed (pieces_under h (codes "connection")) (end_to_end_headers h) =
    c.remove_listed.ensures ∙ (λ i. without_listed (c.pieces_under.ensures i) (c.in_ok-out.ensures i)) in
    warning-stays h (filled-headers_of c.args.headers.now c.reveal_header_map.ensures)
    (headers_of c.remove_listed.new.out) before

pub set_warnings-requires-clause-absent : goal.set_warnings-requires-clause-absent
set_warnings-requires-clause-absent c =
    let h = headers_of c.args.headers.now in
    let before : headers_of c.remove_listed.new.out
    ≡ without_listed (pieces_under h (codes "connection")) (end_to_end_headers h) =
    c.remove_listed.ensures ∙ (λ i. without_listed (c.pieces_under.ensures i) (c.in_ok-out.ensures i)) in
    warning-stays_away c.args.headers.now c.reveal_header_map.ensures (headers_of c.remove_listed.new.out) before

pub returns-clause-ok : goal.returns-clause-ok
returns-clause-ok c =
    let h = headers_of c.args.headers.now in
    let before : headers_of c.remove_listed.new.out
    ≡ without_listed (pieces_under h (codes "connection")) (end_to_end_headers h) =
    c.remove_listed.ensures ∙ (λ i. without_listed (c.pieces_under.ensures i) (c.in_ok-out.ensures i)) in
    filtered_headers-is h (headers_of c.set_warnings.new.out)
    (filled-headers_of c.args.headers.now c.reveal_header_map.ensures)
    (c.in_ok-set_warnings.ensures
    ∙ ap (λ (g : Headers). set_unless_empty g (codes "warning") (lasting_warnings h)) before)

pub returns-clause-one_date : goal.returns-clause-one_date
returns-clause-one_date c =
    let h = headers_of c.args.headers.now in
    let before : headers_of c.remove_listed.new.out
    ≡ without_listed (pieces_under h (codes "connection")) (end_to_end_headers h) =
    c.remove_listed.ensures ∙ (λ i. without_listed (c.pieces_under.ensures i) (c.in_ok-out.ensures i)) in
    stepped-single h (headers_of c.set_warnings.new.out)
    (filled-headers_of c.args.headers.now c.reveal_header_map.ensures)
    (c.in_ok-set_warnings.ensures
    ∙ ap (λ (g : Headers). set_unless_empty g (codes "warning") (lasting_warnings h)) before) (codes "date")

pub returns-clause-few : goal.returns-clause-few
returns-clause-few c =
    let h = headers_of c.args.headers.now in
    let before : headers_of c.remove_listed.new.out
    ≡ without_listed (pieces_under h (codes "connection")) (end_to_end_headers h) =
    c.remove_listed.ensures ∙ (λ i. without_listed (c.pieces_under.ensures i) (c.in_ok-out.ensures i)) in
    few_values c.set_warnings.new.out c.reveal_header_map-2.ensures
    (stepped-single h (headers_of c.set_warnings.new.out)
    (filled-headers_of c.args.headers.now c.reveal_header_map.ensures)
    (c.in_ok-set_warnings.ensures
    ∙ ap (λ (g : Headers). set_unless_empty g (codes "warning") (lasting_warnings h)) before))
