-- In the loop: the texts so far, and those of the values left, are the whole list.
use Rattle.std.proofs.Common.{◌≡◌, ◌++◌, map}
use Rattle.std.specs.List.{AllByRecursion}
use Rattle.serde_json.specs.View.{view}
use Rattle.http_header.specs.HeaderMap.{get_all}
use Rattle.http_cache_fields.specs.Headers.{bytes_of}
use Rattle.http_cache_json.specs.HeaderObject.{text_data}
use Rattle.http_cache_json.specs.ReadBack.{IsReadableValue}
use Rattle.http_cache_json.proofs.headers.texts_under.Given as goal

abbrev pub invariant-loop-value : goal.invariant-loop-value
invariant-loop-value l = record {
  written : map view l.texts.items ++ map text_data (bytes_of l.value-iterator) ≡ map text_data (bytes_of
      (get_all l.headers l.name));
  readable : AllByRecursion IsReadableValue (bytes_of l.value-iterator)
      → AllByRecursion IsReadableValue (bytes_of (get_all l.headers l.name));
}
