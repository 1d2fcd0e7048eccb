use Rattle.std.proofs.Common.{refl}
use Rattle.std.proofs.lemmas.Int.{to_z-of_z}
use Rattle.http_cache_findings.proofs.copies.moved_response.Goals as goal

pub returns : goal.returns
returns c =
    let fits = c.ranges.shift in
    record { status = refl; headers = simp to_z-of_z at c.in_ok-moved_headers.ensures }
