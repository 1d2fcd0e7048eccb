-- The copies follow the recording, and only they are counted.
use Rattle.std.proofs.Common.{rules, ◌≡◌, ◌∙◌, sym, ap, ◌++◌, length, map}
use Rattle.std.specs.List.{AllZip}
use Rattle.std.proofs.lemmas.Int.{to_z-of_z}
use Rattle.std.proofs.lemmas.List.{length-map, map-append}
use Rattle.std.proofs.lemmas.Result.{IfOk-weaker}
use Rattle.http_cache_recording.specs.Entry.{recorded_seen}
use Rattle.http_cache_findings.specs.Copies.{IsCopy}
use Rattle.http_cache_findings.proofs.visit.visit.Goals as goal

pub returns-clause-counts : goal.returns-clause-counts
returns-clause-counts c =
    let fits = c.ranges.shift in
    let old = c.args.recorded.now.items in
    let made = c.in_ok-copies.copies.items in
    let are_copies : AllZip (IsCopy (map recorded_seen old) c.args.shift) c.args.repeats.now (map recorded_seen made) =
    simp (to_z-of_z, c.as_slice.ensures.value) at c.in_ok-copies.ensures in
    let all : map recorded_seen c.as_slice-2.result.now ≡ map recorded_seen old ++ map recorded_seen made =
    ap (map recorded_seen) (c.as_slice-2.ensures.value ∙ c.in_ok-append.ensures.items) ∙ map-append recorded_seen old made in
    let long : c.len-begin.result ≡ length old = search rules in
    let begin : c.len-begin.result ≡ length (map recorded_seen old) = long ∙ sym (length-map old recorded_seen) in
    IfOk-weaker c.visit_counts-counts.result _ _
    (λ counts are. record { copies = map recorded_seen made; are_copies = are_copies; are_counts = rw (all, begin) at are })
    c.visit_counts-counts.ensures
