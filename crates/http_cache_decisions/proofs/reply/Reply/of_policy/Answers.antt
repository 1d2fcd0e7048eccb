-- The 304 in place of the stored response.
use Rattle.std.proofs.Common.{sym, option_copied}
use Rattle.http_cache_decisions.proofs.reply.Reply.of_policy.Goals as goal

pub returns-then-is_known-clause-reply : goal.returns-then-is_known-clause-reply
returns-then-is_known-clause-reply c =
    c.in_ok-not_modified.ensures.reply c.args.incoming.now.request.now c.args.policy.now (option_copied c.args.body)
    c.args.now.nanosecond (sym c.if-is_known.ensures.value) c.in-Ok.ensures.value c.left_of.ensures
