-- The first tag of a text is between its first two quotes.
use Rattle.std.proofs.Common.{Some, None, lit<}
use Rattle.std.proofs.lemmas.Str.Pattern.{split_once_first}
use Rattle.http_cache_rules.proofs.ConditionLemmas.{opaque_tags-whole, opaque_tags-after_quote}
use Rattle.http_cache_rules.proofs.conditions.first_tag.Goals as goal

pub returns-in-Some : goal.returns-in-Some
returns-in-Some c =
    let text = c.args.text.now in
    let rest = c.in-Some.after.now in
    let at = split_once_first 34 text (Some (c.in-Some.field-0-0, c.in-Some.after)) c.in-Some.ensures.cases (lit< tt) in
    opaque_tags-after_quote text rest c.split_once-in-Some.result at.0 at.2
    (split_once_first 34 rest c.split_once-in-Some.result c.split_once-in-Some.ensures.cases (lit< tt))

pub returns-in-None : goal.returns-in-None
returns-in-None c = opaque_tags-whole c.args.text.now
    (split_once_first 34 c.args.text.now None c.in-None.ensures.cases (lit< tt))
