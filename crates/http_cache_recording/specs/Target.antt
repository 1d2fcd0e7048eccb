-- The targets of urls.
use Rattle.std.specs.Prelude.{ℕ, ◌+◌, ◌-◌, ◌^◌, ◌==◌, ◌&&◌, ◌||◌, not, Bool, List, [], ◌++◌, length, drop}
use Rattle.std.specs.Prelude.{slice_index, codes, bytes_eq, nat_lt, Option, Some, if◌then◌else◌}
use Rattle.std.specs.Char.{is_ascii_alphanumeric}
use Rattle.std.specs.List.{position_or_len, prefix_len, before_first, after_first}
use Rattle.percent_encoding.specs.declared.ascii_set.AsciiSet.{AsciiSet}
use Rattle.percent_encoding.specs.Percent.{percent_encode}
use Rattle.http_uri.specs.ByteClasses.{lowercase, index_after_last}
use Rattle.http_cache_json.specs.Form.{given}

abbrev pub without_fragment : List ℕ → List ℕ
without_fragment url = before_first (λ b. b == 35) url

abbrev pub is_end : ℕ → ℕ → ℕ → Bool
is_end end other b = b == end || b == other

-- the bytes of user, password and the `@` after them, before the first byte that ends an authority
unfoldable pub user_len : ℕ → ℕ → List ℕ → ℕ
user_len end other text = index_after_last 64 (before_first (is_end end other) text)

-- a url begins with a user instead of a scheme
abbrev pub has_user : List ℕ → Bool
has_user url = nat_lt 0 (user_len 47 63 url)

-- `/` or `?` ends an authority
abbrev pub without_user : List ℕ → List ℕ
without_user text = drop (user_len 47 63 text) text

-- in any letter case
abbrev pub is_web : List ℕ → Bool
is_web scheme = bytes_eq (lowercase scheme) (codes "http") || bytes_eq (lowercase scheme) (codes "https")

abbrev pub has_scheme : List ℕ → Bool
has_scheme url = nat_lt (position_or_len (λ b. b == 58) url) (length url)

abbrev pub is_scheme_byte : ℕ → Bool
is_scheme_byte b = is_ascii_alphanumeric b || b == 43 || b == 45 || b == 46

-- a text that can be a scheme (RFC 3986, section 3.1), or else `none`
unfoldable pub scheme_shown : List ℕ → List ℕ
scheme_shown text =
    if nat_lt 0 (prefix_len is_scheme_byte text) && (prefix_len is_scheme_byte text == length text) then text
    else codes "none"

-- if it is neither http nor https; `none` if there is none
unfoldable pub other_scheme : List ℕ → Option (List ℕ)
other_scheme url =
    if has_scheme url
    then given (not (is_web (before_first (λ b. b == 58) url))) (scheme_shown (before_first (λ b. b == 58) url))
    else Some (codes "none")

-- controls, a blank, `"`, `<`, `>` and a backtick; bytes outside ASCII are escaped as well
abbrev pub escapes : AsciiSet
escapes = record { mask = 2 ^ 127 + 2 ^ 96 + 2 ^ 62 + 2 ^ 60 + 2 ^ 34 + (2 ^ 33 - 1) }

-- in lower case, and escaped
unfoldable pub host_of : List ℕ → List ℕ
host_of authority = percent_encode escapes (lowercase authority)

-- an empty path is `/`
unfoldable pub path_of : List ℕ → List ℕ
path_of path = (if slice_index path 0 == 47 then [] else codes "/") ++ percent_encode escapes path

-- as they are written
pub record PartsSeen : Type 0 where
  pub scheme : List ℕ
  pub authority : List ℕ
  pub path : List ℕ

abbrev pub has_slashes : List ℕ → Bool
has_slashes text = slice_index text 0 == 47 && slice_index text 1 == 47

abbrev pub parts_from : List ℕ → List ℕ → PartsSeen
parts_from scheme text = record {
  scheme = scheme;
  authority = before_first (is_end 47 63) text;
  path = drop (position_or_len (is_end 47 63) text) text;
}

-- without fragment, user and password
abbrev pub parts_after : List ℕ → List ℕ → Option PartsSeen
parts_after scheme rest =
    given (has_slashes rest && nat_lt 0 (position_or_len (is_end 47 63) (without_user (drop 2 rest))))
    (parts_from scheme (without_user (drop 2 rest)))

-- if `//` and an authority follow the scheme
unfoldable pub url_parts : List ℕ → Option PartsSeen
url_parts url =
    parts_after (before_first (λ b. b == 58) (without_fragment url)) (after_first (λ b. b == 58) (without_fragment url))

unfoldable pub target_text : PartsSeen → List ℕ
target_text p = lowercase p.scheme ++ codes "://" ++ host_of p.authority ++ path_of p.path
