-- What is written in each form is a stored form.
use Rattle.std.proofs.Common.{◌≡◌, ◌↔◌, ℕ, ℤ, pos, negsuc, true, false, true≢false, List, [], ◌∷◌, map, refl, sym, ap, ◌∙◌}
use Rattle.std.specs.Prelude.{IsUtf8, slice_index}
use Rattle.std.specs.Int.{int_div_euclid}
use Rattle.std.specs.FinMap as fin
use Rattle.std.proofs.lemmas.Bool.{eq-eqb}
use Rattle.serde_json.specs.Data.{Data, number}
use Rattle.serde_json.specs.Find.{of_integer}
use Rattle.serde_json.specs.View.{items_of}
use Rattle.serde_json.specs.Written.{has_float, items_have_float, members_have_float, compact_text}
use Rattle.http_header.specs.HeaderMap.{Entries}
use Rattle.http_cache_json.specs.FormData.{options_data, moment_data}
use Rattle.http_cache_json.specs.HeaderObject.{text_data, members_data}
use Rattle.http_cache_json.specs.Stored.{stored_data}
use Rattle.http_cache_semantics.specs.Exchange.{Exchange}
use Rattle.http_cache_semantics.specs.Kept.{kept_exchange}
use Rattle.http_cache_semantics.specs.Stored.{ReadsBack}
use Rattle.http_cache_policy.proofs.ReadLemmas.{kept-restored}
use Rattle.http_cache_compact.specs.Compact.{IsCompactOf}
use Rattle.http_cache_bytes.specs.Form.{is_compact, IsTextFor, IsWrittenFor}

first_is : (bytes : List ℕ) → slice_index bytes 0 ≡ 1 → is_compact bytes ≡ true
first_is bytes first = eq-eqb (slice_index bytes 0) 1 first

pub compact_written : (e : Exchange) (bytes : List ℕ) → kept_exchange e ≡ e → slice_index bytes 0 ≡ 1
    → ((f : Exchange) → IsCompactOf bytes f ↔ ReadsBack e f) → IsWrittenFor e bytes
compact_written e bytes settled first both = record {
  back = λ f. (
    λ form. (both f).0 (form.compact (first_is bytes first)),
    λ is. record {
      compact = λ _. (both f).1 is;
      json = λ other. absurd (true≢false (sym (first_is bytes first) ∙ other));
    },
  );
  restored = λ f form. kept-restored e f settled ((both f).0 (form.compact (first_is bytes first)));
}

pub json_written : (e : Exchange) (bytes : List ℕ) → kept_exchange e ≡ e → IsUtf8 bytes → is_compact bytes ≡ false
    → IsTextFor e bytes → IsWrittenFor e bytes
json_written e bytes settled utf8 other text = record {
  back = λ f. (
    λ form. (text.back f).0 (form.json other).text,
    λ is. record {
      compact = λ first. absurd (true≢false (sym first ∙ other));
      json = λ _. record { utf8 = utf8; text = (text.back f).1 is };
    },
  );
  restored = λ f form. kept-restored e f settled ((text.back f).0 (form.json other).text);
}

-- ---- JSON of a policy begins with a brace

texts-whole : (vs : List (List ℕ)) → items_have_float (items_of (map text_data vs)) ≡ false
texts-whole [] = refl
texts-whole (v ∷ vs) = texts-whole vs

members-whole : (es : Entries (List ℕ)) → members_have_float (members_data es) ≡ false
members-whole [] = refl
members-whole (e ∷ es) = rw (texts-whole e.1) (members-whole es)

integer-whole : (z : ℤ) → has_float (number (of_integer z)) ≡ false
integer-whole (pos n) = refl
integer-whole (negsuc n) = refl

stored-whole : (e : Exchange) → has_float (stored_data e) ≡ false
unfolding stored_data options_data moment_data
stored-whole e =
    rw (members-whole (fin.entries e.request_headers)) (rw (members-whole (fin.entries e.response_headers))
    (rw (integer-whole (int_div_euclid e.response_time (pos 1_000_000_000))) refl))

begins : (e : Exchange) → is_compact (compact_text (stored_data e)) ≡ false
unfolding stored_data
begins e = refl

pub json_is_other : (e : Exchange) (d : Data) (text : List ℕ) → d ≡ stored_data e
    → (has_float d ≡ false → text ≡ compact_text d) → is_compact text ≡ false
json_is_other e d text is written =
    ap is_compact (written (ap has_float is ∙ stored-whole e) ∙ ap compact_text is) ∙ begins e
