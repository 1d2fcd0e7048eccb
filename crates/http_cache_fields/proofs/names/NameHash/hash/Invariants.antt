-- In the loop: the bytes so far were fed in lower case.
use Rattle.std.proofs.Common.{◌≡◌, take, fold, flat_map}
use Rattle.std.specs.Hash as fed
use Rattle.http_header.specs.Token.{lowercase}
use Rattle.http_cache_fields.proofs.names.NameHash.hash.Given as goal

abbrev pub invariant-loop-b : goal.invariant-loop-b
invariant-loop-b g l =
    l.state ≡ fold g.H.Hasher.write l.initial.state (flat_map fed.u8 (lowercase (take l.b-index l.self.0.now)))
