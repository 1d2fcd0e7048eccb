-- What is stored and sent after the origin server has responded, as bytes.
use Rattle.std.specs.Prelude.{◌≡◌, ℤ}
use Rattle.http.specs.declared.response.Parts as Response
use Rattle.http_heads.specs.Texts.{response_text}
use Rattle.http_cache_semantics.specs.Messages.{RequestSeen, ResponseSeen}
use Rattle.http_cache_semantics.specs.Exchange.{Exchange}
use Rattle.http_cache_semantics.specs.Fresh.{IsFreshParts}
use Rattle.http_cache_semantics.specs.Update.{selects, next_exchange}
use Rattle.http_cache_bytes.specs.Form.{IsStoredFor}
use Rattle.http_cache_bytes.specs.declared.next.Next.{Next}

pub record IsNextFor (e : Exchange) (asked : RequestSeen) (answered : ResponseSeen) (now : ℤ) (n : Next)
    : Type 0 where
  pub not_modified : n.not_modified ≡ selects e answered
  pub stored : IsStoredFor (next_exchange e asked answered now) n.stored
  pub parts : Response.Parts
  pub is_fresh : IsFreshParts (next_exchange e asked answered now) now parts
  pub head : n.head.items ≡ response_text parts
