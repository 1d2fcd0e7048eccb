-- Date is moved, then Expires.
use Rattle.std.proofs.lemmas.Int.{to_z-of_z}
use Rattle.http_cache_fields.specs.Headers.{headers_of}
use Rattle.http_cache_findings.proofs.copies.moved_headers.Goals as goal

pub returns : goal.returns
returns c =
    let fits = c.ranges.shift in
    record {
      between = headers_of c.move_date.new.headers;
      date = simp (to_z-of_z, c.in_ok-copy.ensures) at c.in_ok-move_date.ensures;
      expires = simp to_z-of_z at c.in_ok-move_date-2.ensures;
    }
