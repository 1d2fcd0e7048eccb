-- In the loop: the headers have the members so far, and they fit.
use Rattle.std.proofs.Common.{◌≡◌, ℕ, List, [], ◌++◌, map}
use Rattle.std.specs.List.{AllZip}
use Rattle.http_header.specs.HeaderMap.{Entries, pairs}
use Rattle.http_cache_json.specs.HeaderObject.{Member, member_of, IsHeaderMember}
use Rattle.http_cache_json.specs.Pairs.{Fits, with_pairs}
use Rattle.http_cache_json.proofs.headers.headers_from.Given as goal

abbrev pub invariant-loop-key : goal.invariant-loop-key
invariant-loop-key l = record {
  read : (front : List Member) × (done : Entries (List ℕ))
      × (front ++ map member_of l.key-iterator ≡ map member_of l.initial.key-iterator)
      × AllZip IsHeaderMember front done × (l.headers ≡ with_pairs [] (pairs done));
  fits : Fits l.headers;
}
