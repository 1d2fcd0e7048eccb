-- In the loop: the headers have the values of the fields so far.
use Rattle.std.proofs.Common.{◌≡◌, fold, take}
use Rattle.serde_json.specs.View.{view}
use Rattle.http_cache_fields.specs.Headers.{headers_of}
use Rattle.http_cache_recording.specs.Fields.{with_header}
use Rattle.http_cache_recording.proofs.fields.add_headers.Given as goal

abbrev pub invariant-loop-header : goal.invariant-loop-header
invariant-loop-header l =
    headers_of l.headers
    ≡ fold (λ h v. with_header h (view v)) (headers_of l.initial.headers) (take l.header-index l.list)
