-- The members of an object are counted as its view shows them.
use Rattle.std.proofs.Common.{nat_eq, sym, ap}
use Rattle.serde_json.proofs.Views.{members_len-members_view}
use Rattle.http_cache_json.proofs.form.has_members.Goals as goal

pub returns-in-Some : goal.returns-in-Some
returns-in-Some c = rw (sym c.in-Some.ensures, members_len-members_view) (ap
    (λ n. nat_eq n c.args.count) c.len.ensures.len)
