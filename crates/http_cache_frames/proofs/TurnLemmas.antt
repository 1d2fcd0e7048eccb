-- The replies to a sequence of frames, and their text.
use Rattle.std.proofs.Common.{◌≡◌, ℕ, List, [], ◌∷◌, ◌++◌, Option, Some, None, ◌⊎◌, inl, inr}
use Rattle.std.proofs.Common.{refl, sym, ap, subst, ◌∙◌, append_assoc, append-nil}
use Rattle.http_cache_frames.specs.Reply.{reply_text}
use Rattle.http_cache_frames.proofs.ServedLemmas.{cut_longer, nothing_written}
use Rattle.http_cache_frames.specs.Served.{AreReplies, AreServed, AreFrameTexts, BeginsWith, EndsInQuit, IsAllOf, IsEnd, IsFrameText, IsTakenOf, HasTaken, HasWritten, Cuts, IsCut, EndsWith, FailsToPut, IsReported, IsFurther, IsWrittenAt, replies_text, greeting, broken_reply, reason_of}
use Rattle.http_cache_frames.specs.declared.ended.Ended.{Ended}
use Rattle.http_cache_frames.specs.declared.ended.Ended.TheVariants.{Well, Broken, NotReadable, NotWritten, NoMemory}
use Rattle.http_cache_frames.specs.declared.front.NoFrame.{NoFrame}
use Rattle.http_cache_frames.specs.declared.frame.Frame.{Frame}
use Rattle.http_cache_frames.specs.declared.reply.Reply.{Reply}

pub one_more : {S : Type 0} (Step : S → Frame → Reply → S → Type 0) (s m n : S) (frames : List Frame) (replies : List Reply) (f : Frame) (r : Reply)
    → AreReplies Step s frames replies m → Step m f r n → AreReplies Step s (frames ++ f ∷ []) (replies ++ r ∷ []) n
one_more Step s m n [] [] f r each step = (n, subst (λ state. Step state f r n) each step, refl)
one_more {S = S} Step s m n [] (y ∷ replies) f r each step = elim each [ ]
one_more {S = S} Step s m n (x ∷ frames) [] f r each step = elim each [ ]
one_more Step s m n (x ∷ frames) (y ∷ replies) f r each step =
    (each.0, each.1, one_more Step each.0 m n frames replies f r each.2 step)

pub text_of_one_more : (replies : List Reply) (r : Reply) → replies_text (replies ++ r ∷ []) ≡ replies_text replies ++ reply_text r
text_of_one_more [] r = append-nil (reply_text r)
text_of_one_more (x ∷ replies) r =
    ap (λ l. reply_text x ++ l) (text_of_one_more replies r) ∙ sym (append_assoc (reply_text x) (replies_text replies) (reply_text r))

no_further : (replies : List Reply) → replies_text (greeting ∷ replies) ≡ replies_text (greeting ∷ (replies ++ []))
no_further replies = ap (λ l. replies_text (greeting ∷ l)) (sym (append-nil replies))

-- the taken frames are at the front of what the reader had
abbrev pub taken_of : (base left : Option (List ℕ)) (ahead taken : List ℕ) → HasTaken base left ahead taken → IsTakenOf base taken
taken_of None left ahead taken before = tt
taken_of (Some bytes) None ahead taken before = elim before.consumed [ ]
taken_of (Some bytes) (Some rest) ahead taken before =
    (ahead ++ rest, before.consumed ∙ ap (λ l. l ++ rest) before.split ∙ append_assoc taken ahead rest)

abbrev pub begins_with : (base left : Option (List ℕ)) (ahead taken : List ℕ) (frames : List Frame)
    → AreFrameTexts frames taken → HasTaken base left ahead taken → BeginsWith base frames
begins_with base left ahead taken frames texts before = record {
  taken = taken;
  texts = texts;
  front = taken_of base left ahead taken before;
}

nothing_taken : (base : Option (List ℕ)) → IsTakenOf base []
nothing_taken None = tt
nothing_taken (Some bytes) = (bytes, refl)

pub begins_with_none : (base : Option (List ℕ)) → BeginsWith base []
begins_with_none base = record { taken = []; texts = refl; front = nothing_taken base }

pub one_text_more : (frames : List Frame) (taken text : List ℕ) (f : Frame) → AreFrameTexts frames taken → IsFrameText f text
    → AreFrameTexts (frames ++ f ∷ []) (taken ++ text)
one_text_more [] taken text f texts is = (text, [], ap (λ l. l ++ text) texts ∙ sym (append-nil text), is, refl)
one_text_more (x ∷ frames) taken text f (first, rest, whole, is_first, texts) is = (
  first,
  rest ++ text,
  ap (λ l. l ++ text) whole ∙ append_assoc first rest text,
  is_first,
  one_text_more frames rest text f texts is,
)

-- all was written, and no more is due, at the end of the input or after `quit`
pub ends_well : {S : Type 0} (Step : S → Frame → Reply → S → Type 0) (s m : S) (left base held : Option (List ℕ)) (waiting : List ℕ) (frames : List Frame) (replies : List Reply)
    → AreReplies Step s frames replies m → (input : BeginsWith left frames) → IsAllOf left input.taken ⊎ EndsInQuit replies
    → HasWritten base held waiting (replies_text (greeting ∷ replies))
    → AreServed Step s left base held waiting Well
ends_well Step s m left base held waiting frames replies each input until written = record {
  frames = frames;
  replies = replies;
  further = [];
  last = m;
  input = input;
  until = until;
  each = each;
  after = refl;
  written = subst (HasWritten base held waiting) (no_further replies) written;
}

pub ends_without_memory : {S : Type 0} (Step : S → Frame → Reply → S → Type 0) (s m : S) (left base held : Option (List ℕ)) (waiting : List ℕ) (frames : List Frame) (replies : List Reply)
    → AreReplies Step s frames replies m → BeginsWith left frames → HasWritten base held waiting (replies_text (greeting ∷ replies))
    → AreServed Step s left base held waiting NoMemory
ends_without_memory Step s m left base held waiting frames replies each input written = record {
  frames = frames;
  replies = replies;
  further = [];
  last = m;
  input = input;
  until = tt;
  each = each;
  after = refl;
  written = inl (subst (HasWritten base held waiting) (no_further replies) written);
}

pub ends_unreadable : {S : Type 0} (Step : S → Frame → Reply → S → Type 0) (s m : S) (left base held : Option (List ℕ)) (waiting : List ℕ) (frames : List Frame) (replies : List Reply)
    → AreReplies Step s frames replies m → BeginsWith left frames → HasWritten base held waiting (replies_text (greeting ∷ replies))
    → AreServed Step s left base held waiting NotReadable
ends_unreadable Step s m left base held waiting frames replies each input written = record {
  frames = frames;
  replies = replies;
  further = [];
  last = m;
  input = input;
  until = tt;
  each = each;
  after = refl;
  written = subst (HasWritten base held waiting) (no_further replies) written;
}

ends_cut : {S : Type 0} (Step : S → Frame → Reply → S → Type 0) (s m : S) (left base held : Option (List ℕ)) (waiting : List ℕ) (frames : List Frame) (replies : List Reply)
    → AreReplies Step s frames replies m → BeginsWith left frames → IsCut base held (replies_text (greeting ∷ replies))
    → AreServed Step s left base held waiting NotWritten
ends_cut Step s m left base held waiting frames replies each input cut = record {
  frames = frames;
  replies = replies;
  further = [];
  last = m;
  input = input;
  until = tt;
  each = each;
  after = inl refl;
  written = subst (IsCut base held) (no_further replies) cut;
}

pub ends_reading : {S : Type 0} (Step : S → Frame → Reply → S → Type 0) (s m : S) (left base held : Option (List ℕ)) (waiting : List ℕ)
    (held_then : Option (List ℕ)) (waiting_then : List ℕ) (frames : List Frame) (replies : List Reply) (ended : Ended)
    → AreReplies Step s frames replies m → BeginsWith left frames → HasWritten base held waiting (replies_text (greeting ∷ replies))
    → EndsWith ended held waiting held_then waiting_then
    → AreServed Step s left base held_then waiting_then ended
ends_reading Step s m left base held waiting held_then waiting_then frames replies NotWritten each input written ends =
    ends_cut Step s m left base held_then waiting_then frames replies each input (ends base _ written)
ends_reading Step s m left base held waiting held_then waiting_then frames replies NotReadable each input written ends =
    ends_unreadable Step s m left base held_then waiting_then frames replies each input (ends base _ written)
ends_reading Step s m left base held waiting held_then waiting_then frames replies NoMemory each input written ends =
    ends_without_memory Step s m left base held_then waiting_then frames replies each input (ends base _ written)
ends_reading {S = S} Step s m left base held waiting held_then waiting_then frames replies Well each input written ends =
    elim (ends base (replies_text (greeting ∷ replies)) written) [ ]
ends_reading {S = S} Step s m left base held waiting held_then waiting_then frames replies (Broken _) each input written ends =
    elim (ends base (replies_text (greeting ∷ replies)) written) [ ]

pub ends_putting : {S : Type 0} (Step : S → Frame → Reply → S → Type 0) (s m n : S) (left base held : Option (List ℕ)) (waiting : List ℕ)
    (held_then : Option (List ℕ)) (waiting_then : List ℕ) (frames : List Frame) (replies : List Reply) (f : Frame) (r : Reply) (ended : Ended)
    → AreReplies Step s frames replies m → BeginsWith left frames → HasWritten base held waiting (replies_text (greeting ∷ replies))
    → Step m f r n → BeginsWith left (frames ++ f ∷ [])
    → FailsToPut ended held waiting held_then waiting_then (reply_text r)
    → AreServed Step s left base held_then waiting_then ended
ends_putting Step s m n left base held waiting held_then waiting_then frames replies f r NotWritten each input written step more fails =
    ends_cut Step s n left base held_then waiting_then (frames ++ f ∷ []) (replies ++ r ∷ [])
    (one_more Step s m n frames replies f r each step) more
    (subst (IsCut base held_then) (sym (text_of_one_more (greeting ∷ replies) r)) (fails base _ written))
ends_putting Step s m n left base held waiting held_then waiting_then frames replies f r NoMemory each input written step more fails =
    ends_without_memory Step s m left base held_then waiting_then frames replies each input (fails base _ written)
ends_putting {S = S} Step s m n left base held waiting held_then waiting_then frames replies f r Well each input written step more fails =
    elim fails [ ]
ends_putting {S = S} Step s m n left base held waiting held_then waiting_then frames replies f r (Broken _) each input written step more fails =
    elim fails [ ]
ends_putting {S = S} Step s m n left base held waiting held_then waiting_then frames replies f r NotReadable each input written step more fails =
    elim fails [ ]

pub ends_greeting : {S : Type 0} (Step : S → Frame → Reply → S → Type 0) (s : S) (left base held : Option (List ℕ)) (waiting : List ℕ)
    (held_then : Option (List ℕ)) (waiting_then : List ℕ) (ended : Ended)
    → HasWritten base held waiting []
    → FailsToPut ended held waiting held_then waiting_then (reply_text greeting)
    → AreServed Step s left base held_then waiting_then ended
ends_greeting Step s left base held waiting held_then waiting_then NotWritten written fails =
    ends_cut Step s s left base held_then waiting_then [] [] refl (begins_with_none left)
    (subst (IsCut base held_then) (sym (append-nil (reply_text greeting))) (fails base [] written))
ends_greeting Step s left base held waiting held_then waiting_then NoMemory written fails = record {
  frames = [];
  replies = [];
  further = [];
  last = s;
  input = begins_with_none left;
  until = tt;
  each = refl;
  after = refl;
  written = inr (fails base [] written, refl);
}
ends_greeting {S = S} Step s left base held waiting held_then waiting_then Well written fails = elim fails [ ]
ends_greeting {S = S} Step s left base held waiting held_then waiting_then (Broken _) written fails = elim fails [ ]
ends_greeting {S = S} Step s left base held waiting held_then waiting_then NotReadable written fails = elim fails [ ]

pub ends_broken : {S : Type 0} (Step : S → Frame → Reply → S → Type 0) (s m : S) (left base held : Option (List ℕ)) (waiting : List ℕ)
    (held_then : Option (List ℕ)) (waiting_then : List ℕ) (frames : List Frame) (replies : List Reply) (cause : NoFrame) (ended : Ended)
    → AreReplies Step s frames replies m → BeginsWith left frames → HasWritten base held waiting (replies_text (greeting ∷ replies))
    → IsReported cause ended held waiting held_then waiting_then
    → AreServed Step s left base held_then waiting_then ended
ends_broken Step s m left base held waiting held_then waiting_then frames replies cause (Broken other) each input written reported =
    let last = broken_reply (reason_of cause) in
    record {
      frames = frames;
      replies = replies;
      further = last ∷ [];
      last = m;
      input = input;
      until = tt;
      each = each;
      after = ap (λ it. broken_reply (reason_of it) ∷ []) (sym reported.0);
      written = subst (HasWritten base held_then waiting_then) (sym (text_of_one_more (greeting ∷ replies) last))
          (reported.1 base _ written);
    }
ends_broken Step s m left base held waiting held_then waiting_then frames replies cause NotWritten each input written reported =
    let last = broken_reply (reason_of cause) in
    record {
      frames = frames;
      replies = replies;
      further = last ∷ [];
      last = m;
      input = input;
      until = tt;
      each = each;
      after = inr (cause, refl);
      written = subst (IsCut base held_then) (sym (text_of_one_more (greeting ∷ replies) last)) (reported base _ written);
    }
ends_broken Step s m left base held waiting held_then waiting_then frames replies cause NoMemory each input written reported =
    ends_without_memory Step s m left base held_then waiting_then frames replies each input (reported base _ written)
ends_broken {S = S} Step s m left base held waiting held_then waiting_then frames replies cause Well each input written reported =
    elim reported [ ]
ends_broken {S = S} Step s m left base held waiting held_then waiting_then frames replies cause NotReadable each input written reported =
    elim reported [ ]

-- without memory from the beginning nothing is written
pub nothing_served : {S : Type 0} (Step : S → Frame → Reply → S → Type 0) (s : S) (left base : Option (List ℕ))
    → AreServed Step s left base base [] NoMemory
nothing_served Step s left base = record {
  frames = [];
  replies = [];
  further = [];
  last = s;
  input = begins_with_none left;
  until = tt;
  each = refl;
  after = refl;
  written = inr (nothing_written base, refl);
}

-- a further reply of an end is one of an end by a failed write
further_cut : (ended : Ended) (further : List Reply) → IsFurther ended further → IsFurther NotWritten further
further_cut Well further after = inl after
further_cut (Broken cause) further after = inr (cause, after)
further_cut NotReadable further after = inl after
further_cut NoMemory further after = inl after
further_cut NotWritten further after = after

pub cut_at : (ended : Ended) (base held : Option (List ℕ)) (waiting : List ℕ) (held_then : Option (List ℕ)) (replies : List Reply) (text : List ℕ)
    → ¬ (ended ≡ NotWritten) → Cuts held waiting held_then → IsWrittenAt ended base held waiting replies text
    → IsCut base held_then text
cut_at NotWritten base held waiting held_then replies text other cuts written = elim (other refl) [ ]
cut_at Well base held waiting held_then replies text other cuts written = cuts base text written
cut_at (Broken _) base held waiting held_then replies text other cuts written = cuts base text written
cut_at NotReadable base held waiting held_then replies text other cuts written = cuts base text written
cut_at NoMemory base held waiting held_then replies text other cuts written = elim written [
  | inl all ↦ cuts base text all
  | inr (nothing, none) ↦ cut_longer base held_then [] text (cuts base [] nothing)
]

-- an end by a failed write served the frames that another end served
pub served_to : {S : Type 0} (Step : S → Frame → Reply → S → Type 0) (s : S) (left base held : Option (List ℕ)) (waiting : List ℕ)
    (held_then : Option (List ℕ)) (ended ended_then : Ended)
    → AreServed Step s left base held waiting ended
    → (ended_then ≡ ended) ⊎ (ended_then ≡ NotWritten)
    → ((replies : List Reply) → (text : List ℕ) → IsWrittenAt ended base held waiting replies text
    → IsWrittenAt ended_then base held_then [] replies text)
    → AreServed Step s left base held_then [] ended_then
served_to Step s left base held waiting held_then ended ended_then before so written = record {
  frames = before.frames;
  replies = before.replies;
  further = before.further;
  last = before.last;
  input = before.input;
  until = elim so [
    | inl same ↦ subst (λ it. IsEnd it left before.input.taken before.replies) (sym same) before.until
    | inr failed ↦ subst (λ it. IsEnd it left before.input.taken before.replies) (sym failed) tt
  ];
  each = before.each;
  after = elim so [
    | inl same ↦ subst (λ it. IsFurther it before.further) (sym same) before.after
    | inr failed ↦ subst (λ it. IsFurther it before.further) (sym failed) (further_cut ended before.further before.after)
  ];
  written = written before.replies _ before.written;
}
