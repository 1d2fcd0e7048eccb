-- The text is an item with its parameters.
use Rattle.std.proofs.Common.{◌≡◌, string_bytes, rules, sym, subst}
use Rattle.http_cache_reasons.specs.StructuredField.{IsItem}
use Rattle.http_cache_reasons.specs.Member.{member_seen, member_text}
use Rattle.http_cache_reasons.proofs.MemberLemmas.{member-is_item}
use Rattle.http_cache_reasons.proofs.member.Member.text.Goals as goal

pub returns-clause-grammar : goal.returns-clause-grammar
unfolding member_text
returns-clause-grammar c =
    let x = member_seen c.args.self.now in
    let value : string_bytes c.push_detail.new.text ≡ member_text x = search rules in
    subst IsItem (sym value) (member-is_item x c.push_status.ensures.few)
