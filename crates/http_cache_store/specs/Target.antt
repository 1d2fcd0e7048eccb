-- The text under which the responses of a target are stored (RFC 9110, section 7.1).
use Rattle.std.specs.Prelude.{◌≡◌, ◌⊎◌, ℕ, ◌-◌, ◌==◌, Bool, true, false, ◌&&◌, ◌||◌, List, [], ◌∷◌, ◌++◌, Option, Some, None, codes, bytes_eq, drop, length, string_bytes, take, unwrap_or, if◌then◌else◌}
use Rattle.std.specs.Str.{str_eq_ignore_ascii_case}
use Rattle.http_uri.specs.ByteClasses.{lowercase, framed_text}
use Rattle.http_uri.specs.Uri.{uri_scheme, uri_authority, uri_path, uri_query, Spells, SpellsNone}
use Rattle.http_uri.specs.declared.uri.Uri.{Uri}
use Rattle.http_cache_fields.specs.Headers.{Headers, first_text}
use Rattle.http_cache_store.specs.declared.target.Target.{Target}
use Rattle.http_cache_store.specs.Reference.{names_host, path_of, query_of, resolved_path, resolved_query, with_scheme, without_dots, without_fragment}

abbrev pub text_of : Target → List ℕ
text_of t = string_bytes t.text

-- the text without the ending, if it has it
abbrev pub without_ending : List ℕ → List ℕ → List ℕ
without_ending ending text =
    if bytes_eq (drop (length text - length ending) text) ending then take (length text - length ending) text else text

-- an authority without the default port of its scheme (RFC 9110, section 4.2.3)
abbrev pub without_default_port : List ℕ → List ℕ → List ℕ
without_default_port scheme authority =
    if bytes_eq scheme (codes "http") then without_ending (codes ":80") authority
    else if bytes_eq scheme (codes "https") then without_ending (codes ":443") authority
    else authority

abbrev pub scheme_of : Uri → List ℕ
scheme_of uri = unwrap_or (uri_scheme uri) []

-- the authority of the request target, or else Host
abbrev pub named_authority : Option (List ℕ) → Headers → List ℕ
named_authority (Some authority) headers = authority
named_authority None headers = unwrap_or (first_text headers (codes "host")) []

abbrev pub authority_of : Uri → Headers → List ℕ
authority_of uri headers =
    without_default_port (scheme_of uri) (named_authority (uri_authority uri) headers)

-- an empty path is `/` (RFC 9110, section 4.2.3)
abbrev pub path_or_root : List ℕ → List ℕ
path_or_root [] = codes "/"
path_or_root (b ∷ bs) = b ∷ bs

-- the text before the path in lower case, the path and the query
abbrev pub text_after : List ℕ → List ℕ → Option (List ℕ) → List ℕ
text_after before path query = lowercase before ++ path_or_root path ++ framed_text (codes "?") query []

-- the scheme and the authority of a request, as the texts of its origin begin
abbrev pub origin_text : Uri → Headers → List ℕ
origin_text uri headers = scheme_of uri ++ codes "//" ++ authority_of uri headers

unfoldable pub target_text : Uri → Headers → List ℕ
target_text uri headers =
    text_after (origin_text uri headers) (uri_path uri) (uri_query uri)

-- ---- the target that a URI reference in the response to a request names

-- a URI with a scheme and an authority; a request without a scheme may have any (RFC 9111, section 4.4)
abbrev pub is_same_origin : List ℕ → List ℕ → Option (List ℕ) → Option (List ℕ) → Bool
is_same_origin scheme authority (Some s) (Some a) =
    (length scheme == 0 || str_eq_ignore_ascii_case s scheme)
    && str_eq_ignore_ascii_case (without_default_port s a) authority
is_same_origin scheme authority (Some s) None = false
is_same_origin scheme authority None a = false

module _ (scheme authority : List ℕ) where
  -- no target of another origin is named (RFC 9111, section 4.4)
  abbrev pub named_by : Uri → Option (List ℕ)
  named_by u =
      if is_same_origin scheme authority (uri_scheme u) (uri_authority u)
      then Some (text_after (scheme ++ codes "//" ++ authority) (without_dots (uri_path u)) (uri_query u)) else None

  -- a text that is a URI names by it, and any other text names nothing
  abbrev pub IsNamedByText : List ℕ → Option (List ℕ) → Type 0
  IsNamedByText text named = ((u : Uri) × Spells text u × (named ≡ named_by u)) ⊎ (SpellsNone text × (named ≡ None))

module _ (uri : Uri) (headers : Headers) where
  abbrev pub IsNamedIn : Bool → List ℕ → Option (List ℕ) → Type 0
  IsNamedIn true reference named =
      IsNamedByText (scheme_of uri) (authority_of uri headers) (with_scheme (scheme_of uri) reference) named
  IsNamedIn false reference named =
      named ≡ Some (text_after (origin_text uri headers) (resolved_path (uri_path uri) (path_of reference))
      (resolved_query (uri_query uri) (path_of reference) (query_of reference)))

  -- the text of the target that a reference names, if it names one with the request's origin
  abbrev pub IsNamed : List ℕ → Option (List ℕ) → Type 0
  IsNamed reference named =
      let rest = without_fragment reference in IsNamedIn (names_host rest) rest named
