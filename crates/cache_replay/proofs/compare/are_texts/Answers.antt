-- The recorded values are texts exactly if each is seen as one.
use Rattle.std.proofs.Common.{◌∙◌, rules, is_some}
use Rattle.std.proofs.lemmas.Iterator.{YieldsList-from_slice}
use Rattle.std.proofs.lemmas.Iterator.Search.{all_from_yields_List}
use Rattle.serde_json.specs.View.{view}
use Rattle.serde_json.specs.Find.{as_str}
use Rattle.cache_replay.proofs.CompareLemmas.{texts_of_seen}
use Rattle.cache_replay.proofs.compare.are_texts.Goals as goal

pub returns : goal.returns
returns c =
    let values = c.args.values.now in
    all_from_yields_List (λ v. is_some (as_str (view v))) _ _ _ c.all.ensures.ran
    (YieldsList-from_slice values c.iter.ensures.rest) (λ x b q h. search rules) ∙ texts_of_seen values
