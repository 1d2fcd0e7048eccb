-- Each taken frame has its reply, and the greeting and all replies are written or waiting.
use Rattle.std.proofs.Common.{ℕ, List, [], ◌∷◌, Option}
use Rattle.http_cache_frames.specs.Served.{AreFrameTexts, AreReplies, HasTaken, HasWritten, replies_text, greeting}
use Rattle.http_cache_frames.specs.declared.frame.Frame.{Frame}
use Rattle.http_cache_frames.specs.declared.reply.Reply.{Reply}
use Rattle.http_cache_frames.proofs.serving.turns.Given as goal

abbrev pub invariant-loop : goal.invariant-loop
invariant-loop g l = (left base : Option (List ℕ))
    → HasTaken left (g.R.Read.remaining l.fn.input.from) l.fn.input.ahead.items []
    → HasWritten base (g.W.Write.contents l.fn.out.to) l.fn.out.waiting.items []
    → (frames : List Frame) × (replies : List Reply) × (taken : List ℕ)
    × AreReplies g.A.Answers.is_reply l.fn.answers frames replies l.answers
    × AreFrameTexts frames taken
    × HasTaken left (g.R.Read.remaining l.input.from) l.input.ahead.items taken
    × HasWritten base (g.W.Write.contents l.out.to) l.out.waiting.items (replies_text (greeting ∷ replies))
