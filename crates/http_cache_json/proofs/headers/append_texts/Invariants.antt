-- In the loop: the headers have the values of the texts so far, and they fit.
use Rattle.std.proofs.Common.{◌≡◌, ℕ, List, map, take}
use Rattle.std.specs.List.{AllZip}
use Rattle.http_header.specs.HeaderMap.{entry_pairs}
use Rattle.serde_json.specs.View.{view}
use Rattle.http_cache_json.specs.HeaderObject.{IsValueText}
use Rattle.http_cache_json.specs.Pairs.{Fits, with_pairs}
use Rattle.http_cache_json.proofs.headers.append_texts.Given as goal

abbrev pub invariant-loop-text : goal.invariant-loop-text
invariant-loop-text l = record {
  appended : (done : List (List ℕ)) × AllZip IsValueText (map view (take l.text-index l.texts)) done
      × (l.headers ≡ with_pairs l.initial.headers (entry_pairs (l.name, done)));
  fits : Fits l.headers;
}
