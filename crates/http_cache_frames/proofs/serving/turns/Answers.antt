-- One more frame has its reply, whether the loop continues or ends.
use Rattle.std.proofs.Common.{[], ◌∷◌, ◌++◌, inl, inr, refl, sym, subst, append-nil}
use Rattle.http_cache_frames.specs.Served.{HasWritten, TakesFrame, greeting}
use Rattle.http_cache_frames.specs.declared.input.Next.TheVariants as next
use Rattle.http_cache_frames.specs.Reply.{reply_text}
use Rattle.http_cache_frames.proofs.TurnLemmas.{one_more, one_text_more, text_of_one_more, begins_with, ends_well, ends_unreadable, ends_without_memory, ends_reading, ends_putting, ends_greeting, ends_broken}
use Rattle.http_cache_frames.proofs.serving.turns.Goals as goal

pub returns-in-Err : goal.returns-in-Err
returns-in-Err g c = λ left base had before.
    ends_greeting g.A.Answers.is_reply c.args.answers.now left base _ _ _ _ c.in-Err.ended before c.in-Err.ensures.ended

pub loop-init : goal.loop-init
loop-init g c = λ left base had before. (
  [],
  [],
  [],
  refl,
  refl,
  had,
  subst (HasWritten base _ _) (sym (append-nil (reply_text greeting))) (c.in_default.ensures.ok base [] before),
)

pub returns-in-Ok-End : goal.returns-in-Ok-End
returns-in-Ok-End g c = λ left base had before.
    let (frames, replies, taken, each, texts, has, written) = c.loop.invariant left base had before in
    ends_well g.A.Answers.is_reply c.args.answers.now c.loop.answers left base _ _ frames replies each
    (begins_with left _ _ taken frames texts has) (inl (c.in-Ok-End.ensures.end c.in-Ok-End.field-0-is left taken has))
    (c.in-Ok-End.ensures.text base _ written)

pub returns-in-Ok-Broken : goal.returns-in-Ok-Broken
returns-in-Ok-Broken g c = λ left base had before.
    let (frames, replies, taken, each, texts, has, written) = c.loop.invariant left base had before in
    ends_broken g.A.Answers.is_reply c.args.answers.now c.loop.answers left base _ _ _ _ frames replies c.in-Ok-Broken.cause _ each
    (begins_with left _ _ taken frames texts has) (c.in-Ok-Broken.ensures.text base _ written) c.report.ensures

pub returns-in-Err-next : goal.returns-in-Err-next
returns-in-Err-next g c = λ left base had before.
    let (frames, replies, taken, each, texts, has, written) = c.loop.invariant left base had before in
    ends_reading g.A.Answers.is_reply c.args.answers.now c.loop.answers left base _ _ _ _ frames replies c.in-Err-next.ended each
    (begins_with left _ _ taken frames texts has) written c.in-Err-next.ensures.text

pub returns-in_default-answer : goal.returns-in_default-answer
returns-in_default-answer g c = λ left base had before.
    let (frames, replies, taken, each, texts, has, written) = c.loop.invariant left base had before in
    ends_without_memory g.A.Answers.is_reply c.args.answers.now c.loop.answers left base _ _ frames replies each
    (begins_with left _ _ taken frames texts has) (c.in-Ok-Frame.ensures.text base _ written)

pub returns-in-Err-put : goal.returns-in-Err-put
returns-in-Err-put g c = λ left base had before.
    let (frames, replies, taken, each, texts, has, written) = c.loop.invariant left base had before in
    let f = c.in-Ok-Frame.frame in
    let got : TakesFrame (next.Frame f) (g.R.Read.remaining c.loop.input.from) c.loop.input.ahead.items
    (g.R.Read.remaining c.next.new.self.from) c.next.new.self.ahead.items =
    subst (λ it. TakesFrame it (g.R.Read.remaining c.loop.input.from) c.loop.input.ahead.items
    (g.R.Read.remaining c.next.new.self.from) c.next.new.self.ahead.items) c.in-Ok-Frame.field-0-is c.in-Ok-Frame.ensures.taken in
    let (text, is, takes) = got in
    ends_putting g.A.Answers.is_reply c.args.answers.now c.loop.answers c.answer.new.self left base _ _ _ _ frames replies
    f c.in-Ok.reply c.in-Err-put.ended each (begins_with left _ _ taken frames texts has)
    (c.in-Ok-Frame.ensures.text base _ written) c.in-Ok.ensures.is_reply
    (begins_with left _ _ (taken ++ text) (frames ++ f ∷ []) (one_text_more frames taken text f texts is) (takes left taken has))
    c.in-Err-put.ensures.ended

pub returns-then-is_quit : goal.returns-then-is_quit
returns-then-is_quit g c = λ left base had before.
    let (frames, replies, taken, each, texts, has, written) = c.loop.invariant left base had before in
    let f = c.in-Ok-Frame.frame in
    let got : TakesFrame (next.Frame f) (g.R.Read.remaining c.loop.input.from) c.loop.input.ahead.items
    (g.R.Read.remaining c.next.new.self.from) c.next.new.self.ahead.items =
    subst (λ it. TakesFrame it (g.R.Read.remaining c.loop.input.from) c.loop.input.ahead.items
    (g.R.Read.remaining c.next.new.self.from) c.next.new.self.ahead.items) c.in-Ok-Frame.field-0-is c.in-Ok-Frame.ensures.taken in
    let (text, is, takes) = got in
    let r = c.in-Ok.reply in
    ends_well g.A.Answers.is_reply c.args.answers.now c.answer.new.self left base _ _ (frames ++ f ∷ []) (replies ++ r ∷ [])
    (one_more g.A.Answers.is_reply c.args.answers.now c.loop.answers c.answer.new.self frames replies f r each c.in-Ok.ensures.is_reply)
    (begins_with left _ _ (taken ++ text) (frames ++ f ∷ []) (one_text_more frames taken text f texts is) (takes left taken has))
    (inr (replies, r, refl, c.is_quit.ensures c.if-is_quit.true))
    (subst (HasWritten base _ _) (sym (text_of_one_more (greeting ∷ replies) r))
    (c.in_default-put.ensures.ok base _ (c.in-Ok-Frame.ensures.text base _ written)))

pub loop-preserved : goal.loop-preserved
loop-preserved g c = λ left base had before.
    let (frames, replies, taken, each, texts, has, written) = c.loop.invariant left base had before in
    let f = c.in-Ok-Frame.frame in
    let got : TakesFrame (next.Frame f) (g.R.Read.remaining c.loop.input.from) c.loop.input.ahead.items
    (g.R.Read.remaining c.next.new.self.from) c.next.new.self.ahead.items =
    subst (λ it. TakesFrame it (g.R.Read.remaining c.loop.input.from) c.loop.input.ahead.items
    (g.R.Read.remaining c.next.new.self.from) c.next.new.self.ahead.items) c.in-Ok-Frame.field-0-is c.in-Ok-Frame.ensures.taken in
    let (text, is, takes) = got in
    let r = c.in-Ok.reply in (
      frames ++ f ∷ [],
      replies ++ r ∷ [],
      taken ++ text,
      one_more g.A.Answers.is_reply c.args.answers.now c.loop.answers c.answer.new.self frames replies f r each
          c.in-Ok.ensures.is_reply,
      one_text_more frames taken text f texts is,
      takes left taken has,
      subst (HasWritten base _ _) (sym (text_of_one_more (greeting ∷ replies) r))
          (c.in_default-put.ensures.ok base _ (c.in-Ok-Frame.ensures.text base _ written)),
    )

pub returns : goal.returns
returns g c = λ left base had before.
    let (frames, replies, taken, each, texts, has, written) = c.loop.invariant left base had before in
    ends_unreadable g.A.Answers.is_reply c.args.answers.now c.loop.answers left base _ _ frames replies each
    (begins_with left _ _ taken frames texts has) written
