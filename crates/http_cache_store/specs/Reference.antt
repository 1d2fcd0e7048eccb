-- URI references in a response, such as Location (RFC 3986, sections 4.2 and 5.2).
use Rattle.std.specs.Prelude.{ℕ, ◌+◌, ◌-◌, Bool, false, ◌||◌, ◌&&◌, ◌==◌, nat_lt, List, [], ◌∷◌, ◌++◌, Option, Some, None, codes, bytes_eq, if◌then◌else◌}
use Rattle.std.specs.Option.{option_map_or}
use Rattle.std.specs.Char.{is_ascii_alphanumeric}
use Rattle.std.specs.List.{after_first, before_first, before_last, flat_map, last_or, list_all, list_any, slice_split, starts_with}
use Rattle.http_cache_fields.specs.Text.{trim}

-- ---- the parts of a reference

abbrev pub is_hash : ℕ → Bool
is_hash b = b == 35

abbrev pub is_slash : ℕ → Bool
is_slash b = b == 47

abbrev pub is_colon : ℕ → Bool
is_colon b = b == 58

abbrev pub is_question : ℕ → Bool
is_question b = b == 63

-- a fragment names no other response
abbrev pub without_fragment : List ℕ → List ℕ
without_fragment reference = trim (before_first is_hash reference)

abbrev pub path_of : List ℕ → List ℕ
path_of reference = before_first is_question reference

abbrev pub query_of : List ℕ → Option (List ℕ)
query_of reference = if list_any is_question reference then Some (after_first is_question reference) else None

-- a letter, a digit, `+`, `-` or `.` (RFC 3986, section 3.1)
abbrev pub is_scheme_byte : ℕ → Bool
is_scheme_byte b = is_ascii_alphanumeric b || (b == 43) || (b == 45) || (b == 46)

abbrev pub has_scheme : List ℕ → Bool
has_scheme reference = list_any is_colon reference && list_all is_scheme_byte (before_first is_colon reference)

-- it names a host, but not its scheme
abbrev pub is_without_scheme : List ℕ → Bool
is_without_scheme reference = starts_with (λ a b. a == b) reference (codes "//")

abbrev pub names_host : List ℕ → Bool
names_host reference = is_without_scheme reference || has_scheme reference

-- a request without a scheme has `http`
abbrev pub scheme_or_http : List ℕ → List ℕ
scheme_or_http [] = codes "http"
scheme_or_http (b ∷ bs) = b ∷ bs

-- a reference that names a host, with a scheme
abbrev pub with_scheme : List ℕ → List ℕ → List ℕ
with_scheme scheme reference =
    if is_without_scheme reference then scheme_or_http scheme ++ codes ":" ++ reference else reference

-- ---- paths (RFC 3986, sections 5.2.3 and 5.2.4)

abbrev pub is_dot_segment : List ℕ → Bool
is_dot_segment segment = bytes_eq segment (codes ".") || bytes_eq segment (codes "..")

-- of a list of segments: how many before the list its `..` remove, and which segments of it are left.
-- Each `..` removes the last segment before it that is left; each `.` is removed.
abbrev pub left_with : List ℕ → ℕ × List (List ℕ) → ℕ × List (List ℕ)
left_with segment (removing, left) =
    if bytes_eq segment (codes "..") then (removing + 1, left)
    else if bytes_eq segment (codes ".") then (removing, left)
    else if nat_lt 0 removing then (removing - 1, left)
    else (0, segment ∷ left)

abbrev pub left_of : List (List ℕ) → ℕ × List (List ℕ)
left_of [] = (0, [])
left_of (segment ∷ segments) = left_with segment (left_of segments)

-- a path that ends in a dot segment names a directory: its last segment is empty
abbrev pub empty_end : List (List ℕ) → List (List ℕ)
empty_end segments = if option_map_or is_dot_segment (last_or None segments) false then [] ∷ [] else []

abbrev pub kept_segments : List ℕ → List (List ℕ)
kept_segments path = let segments = slice_split is_slash path in (left_of segments).1 ++ empty_end segments

abbrev pub after_root : List ℕ → List ℕ
after_root [] = []
after_root (b ∷ bs) = if b == 47 then bs else b ∷ bs

abbrev pub slash_and : List ℕ → List ℕ
slash_and segment = codes "/" ++ segment

abbrev pub without_dots : List ℕ → List ℕ
without_dots path = flat_map slash_and (kept_segments (after_root path))

-- a relative path, after the directory of the request's path
abbrev pub merged : List ℕ → List ℕ → List ℕ
merged base path = before_last is_slash base ++ codes "/" ++ path

-- ---- what a reference without a host names, from the path and the query of the request

abbrev pub resolved_path : List ℕ → List ℕ → List ℕ
resolved_path base [] = base
resolved_path base (b ∷ bs) = without_dots (if b == 47 then b ∷ bs else merged base (b ∷ bs))

abbrev pub resolved_query : Option (List ℕ) → List ℕ → Option (List ℕ) → Option (List ℕ)
resolved_query own [] None = own
resolved_query own [] (Some query) = Some query
resolved_query own (b ∷ bs) query = query
