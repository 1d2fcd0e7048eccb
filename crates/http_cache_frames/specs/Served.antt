-- Frames of the input, what is written of their replies, and how a whole run ends.
use Rattle.std.specs.Prelude.{◌≡◌, ◌≤◌, ◌⊎◌, ◌+◌, ℕ, List, [], ◌∷◌, ◌++◌, Bool, true, false, Option, None, Some, length, take, drop, ⊤, Result, MatchResult}
use Rattle.std.specs.Io.KnownBytes.{Appends, Consumes, Keeps}
use Rattle.http_cache_frames.specs.Front.{IsLine}
use Rattle.http_cache_frames.specs.Reply.{reply_text}
use Rattle.http_cache_frames.specs.declared.ended.Ended.{Ended}
use Rattle.http_cache_frames.specs.declared.ended.Ended.TheVariants.{Well, Broken, NotReadable, NotWritten, NoMemory}
use Rattle.http_cache_frames.specs.declared.frame.Frame.{Frame}
use Rattle.http_cache_frames.specs.declared.front.Announced.{Announced}
use Rattle.http_cache_frames.specs.declared.front.Front.{Front}
use Rattle.http_cache_frames.specs.declared.front.Front.TheVariants as front
use Rattle.http_cache_frames.specs.declared.front.NoFrame.{NoFrame}
use Rattle.http_cache_frames.specs.declared.front.NoFrame.TheVariants as no_frame
use Rattle.http_cache_frames.specs.declared.input.Next.{Next}
use Rattle.http_cache_frames.specs.declared.input.Next.TheVariants as next
use Rattle.http_cache_frames.specs.declared.reply.Notice.TheVariants as notice
use Rattle.http_cache_frames.specs.declared.reply.Reason.{Reason}
use Rattle.http_cache_frames.specs.declared.reply.Reason.TheVariants as reason
use Rattle.http_cache_frames.specs.declared.reply.Reply.{Reply}
use Rattle.http_cache_frames.specs.declared.reply.Reply.TheVariants as reply

-- what follows a line: the head and the body, or as many bytes if one of them is too long
abbrev pub HasContent : Bool → Frame → ℕ → ℕ → List ℕ → Type 0
HasContent true f head body after = length after ≡ head + body
HasContent false f head body after = (after ≡ f.head ++ f.body) × (length f.head ≡ head) × (length f.body ≡ body)

-- the bytes of a frame: its line, and what follows it
pub record IsFrameText (f : Frame) (bytes : List ℕ) : Type 0 where
  pub announced : Announced
  pub begins : IsLine bytes announced
  pub same : f.line ≡ announced.line
  pub content : HasContent f.is_too_long f announced.head announced.body (drop announced.length bytes)

abbrev pub AreFrameTexts : List Frame → List ℕ → Type 0
AreFrameTexts [] bytes = bytes ≡ []
AreFrameTexts (f ∷ frames) bytes =
    (text : List ℕ) × (rest : List ℕ) × (bytes ≡ text ++ rest) × IsFrameText f text × AreFrameTexts frames rest

abbrev pub replies_text : List Reply → List ℕ
replies_text [] = []
replies_text (r ∷ replies) = reply_text r ++ replies_text replies

-- each frame has one reply, in order, in the state after the reply before it
abbrev pub AreReplies : {S : Type 0} → (S → Frame → Reply → S → Type 0) → S → List Frame → List Reply → S → Type 0
AreReplies Step state [] [] last = last ≡ state
AreReplies Step state [] (r ∷ replies) last = ⊥
AreReplies Step state (f ∷ frames) [] last = ⊥
AreReplies {S} Step state (f ∷ frames) (r ∷ replies) last =
    (next : S) × Step state f r next × AreReplies Step next frames replies last

-- since a reader had `base` left, the bytes `taken` and then `ahead` were read
pub record HasTaken (base left : Option (List ℕ)) (ahead taken : List ℕ) : Type 0 where
  pub read : List ℕ
  pub consumed : Consumes base left read
  pub split : read ≡ taken ++ ahead

-- all that a reader has left is these bytes, if it is known
abbrev pub IsAllOf : Option (List ℕ) → List ℕ → Type 0
IsAllOf None taken = ⊤
IsAllOf (Some bytes) taken = bytes ≡ taken

-- a call takes these bytes of what a reader has left
abbrev pub Takes : Option (List ℕ) → List ℕ → Option (List ℕ) → List ℕ → List ℕ → Type 0
Takes left ahead left_then ahead_then bytes =
    (base : Option (List ℕ)) → (taken : List ℕ) → HasTaken base left ahead taken
    → HasTaken base left_then ahead_then (taken ++ bytes)

abbrev pub TakesNothing : Option (List ℕ) → List ℕ → Option (List ℕ) → List ℕ → Type 0
TakesNothing left ahead left_then ahead_then =
    (base : Option (List ℕ)) → (taken : List ℕ) → HasTaken base left ahead taken
    → HasTaken base left_then ahead_then taken

-- one read puts `count` bytes into the buffer, or is interrupted
abbrev pub IsRead : Option (List ℕ) → Option (List ℕ) → Option ℕ → List ℕ → Type 0
IsRead left left_then None buffer = Keeps left left_then
IsRead left left_then (Some count) buffer = Consumes left left_then (take count buffer)

abbrev pub IsAhead : Front → List ℕ → Type 0
IsAhead (front.Line a) ahead = IsLine ahead a
IsAhead front.Partial ahead = ⊤
IsAhead (front.Broken cause) ahead = ⊤

pub record TakesBytes (count : ℕ) (left : Option (List ℕ)) (ahead : List ℕ) (left_then : Option (List ℕ)) (ahead_then : List ℕ) : Type 0 where
  pub bytes : List ℕ
  pub long : length bytes ≡ count
  pub takes : Takes left ahead left_then ahead_then bytes

-- if a frame is read, what follows its line is taken
abbrev pub TakesContent : Next → Announced → Option (List ℕ) → List ℕ → Option (List ℕ) → List ℕ → Type 0
TakesContent (next.Frame f) a left ahead left_then ahead_then =
    (after : List ℕ) × HasContent f.is_too_long f a.head a.body after × (f.line ≡ a.line)
    × Takes left ahead left_then ahead_then after
TakesContent next.End a left ahead left_then ahead_then = ⊤
TakesContent (next.Broken cause) a left ahead left_then ahead_then = ⊤

-- a reader and the bytes ahead have nothing left: all bytes were taken
abbrev pub TakesAll : Option (List ℕ) → List ℕ → Type 0
TakesAll left ahead = (base : Option (List ℕ)) → (taken : List ℕ) → HasTaken base left ahead taken → IsAllOf base taken

abbrev pub TakesFrame : Next → Option (List ℕ) → List ℕ → Option (List ℕ) → List ℕ → Type 0
TakesFrame (next.Frame f) left ahead left_then ahead_then =
    (text : List ℕ) × IsFrameText f text × Takes left ahead left_then ahead_then text
TakesFrame next.End left ahead left_then ahead_then = ⊤
TakesFrame (next.Broken cause) left ahead left_then ahead_then = ⊤

-- since a writer held `base`, the whole text but `waiting` was written
pub record HasWritten (base held : Option (List ℕ)) (waiting text : List ℕ) : Type 0 where
  pub written : List ℕ
  pub appended : Appends base held written
  pub split : text ≡ written ++ waiting

-- since a writer held `base`, a beginning of the text was written
pub record IsCut (base held : Option (List ℕ)) (text : List ℕ) : Type 0 where
  pub count : ℕ
  pub within : count ≤ length text
  pub appended : Appends base held (take count text)

-- a call adds these bytes to the text to write
abbrev pub Puts : Option (List ℕ) → List ℕ → Option (List ℕ) → List ℕ → List ℕ → Type 0
Puts held waiting held_then waiting_then bytes =
    (base : Option (List ℕ)) → (text : List ℕ) → HasWritten base held waiting text
    → HasWritten base held_then waiting_then (text ++ bytes)

abbrev pub PutsNothing : Option (List ℕ) → List ℕ → Option (List ℕ) → List ℕ → Type 0
PutsNothing held waiting held_then waiting_then =
    (base : Option (List ℕ)) → (text : List ℕ) → HasWritten base held waiting text
    → HasWritten base held_then waiting_then text

-- a call adds nothing, and only a beginning of the text is written
abbrev pub Cuts : Option (List ℕ) → List ℕ → Option (List ℕ) → Type 0
Cuts held waiting held_then =
    (base : Option (List ℕ)) → (text : List ℕ) → HasWritten base held waiting text → IsCut base held_then text

-- what each failure leaves of the text to write
abbrev pub IsLeftAt : Ended → Option (List ℕ) → Option (List ℕ) → List ℕ → List ℕ → Type 0
IsLeftAt NotWritten base held waiting text = IsCut base held text
IsLeftAt NotReadable base held waiting text = HasWritten base held waiting text
IsLeftAt NoMemory base held waiting text = HasWritten base held waiting text
IsLeftAt Well base held waiting text = ⊥
IsLeftAt (Broken cause) base held waiting text = ⊥

-- a call that adds nothing fails
abbrev pub EndsWith : Ended → Option (List ℕ) → List ℕ → Option (List ℕ) → List ℕ → Type 0
EndsWith ended held waiting held_then waiting_then =
    (base : Option (List ℕ)) → (text : List ℕ) → HasWritten base held waiting text
    → IsLeftAt ended base held_then waiting_then text

-- a call that should add these bytes fails: it adds nothing, or only a beginning of the whole text
-- is written
abbrev pub FailsToPut : Ended → Option (List ℕ) → List ℕ → Option (List ℕ) → List ℕ → List ℕ → Type 0
FailsToPut NotWritten held waiting held_then waiting_then bytes =
    (base : Option (List ℕ)) → (text : List ℕ) → HasWritten base held waiting text
    → IsCut base held_then (text ++ bytes)
FailsToPut NoMemory held waiting held_then waiting_then bytes = PutsNothing held waiting held_then waiting_then
FailsToPut Well held waiting held_then waiting_then bytes = ⊥
FailsToPut (Broken cause) held waiting held_then waiting_then bytes = ⊥
FailsToPut NotReadable held waiting held_then waiting_then bytes = ⊥

-- a call adds nothing to the text to write, or fails
abbrev pub KeepsText : {T : Type 0} → Result T Ended → Option (List ℕ) → List ℕ → Option (List ℕ) → List ℕ → Type 0
KeepsText result held waiting held_then waiting_then =
    MatchResult result (λ _. PutsNothing held waiting held_then waiting_then)
    (λ ended. EndsWith ended held waiting held_then waiting_then)

abbrev pub greeting : Reply
greeting = reply.Notice notice.Protocol

abbrev pub reason_of : NoFrame → Reason
reason_of no_frame.LongLine = reason.LongLine
reason_of no_frame.NoObject = reason.NoObject
reason_of no_frame.NoLength = reason.NoLength
reason_of no_frame.Cut = reason.Cut

abbrev pub broken_reply : Reason → Reply
broken_reply reason = reply.Notice (notice.Error reason None None)

-- broken input is the end: the last reply says so, or it can't be put
abbrev pub IsReported : NoFrame → Ended → Option (List ℕ) → List ℕ → Option (List ℕ) → List ℕ → Type 0
IsReported cause (Broken other) held waiting held_then waiting_then =
    (other ≡ cause) × Puts held waiting held_then waiting_then (reply_text (broken_reply (reason_of cause)))
IsReported cause NotWritten held waiting held_then waiting_then =
    FailsToPut NotWritten held waiting held_then waiting_then (reply_text (broken_reply (reason_of cause)))
IsReported cause NoMemory held waiting held_then waiting_then = PutsNothing held waiting held_then waiting_then
IsReported cause Well held waiting held_then waiting_then = ⊥
IsReported cause NotReadable held waiting held_then waiting_then = ⊥

-- what is written after the replies to frames
abbrev pub IsFurther : Ended → List Reply → Type 0
IsFurther Well further = further ≡ []
IsFurther (Broken cause) further = further ≡ broken_reply (reason_of cause) ∷ []
IsFurther NotReadable further = further ≡ []
IsFurther NoMemory further = further ≡ []
IsFurther NotWritten further = (further ≡ []) ⊎ ((cause : NoFrame) × (further ≡ broken_reply (reason_of cause) ∷ []))

-- there was no memory for the greeting, so nothing was written and no frame answered
abbrev pub IsSilent : Option (List ℕ) → Option (List ℕ) → List ℕ → List Reply → Type 0
IsSilent base held waiting replies = HasWritten base held waiting [] × (replies ≡ [])

-- at the end the whole text is written or waiting, or a beginning of it is written
abbrev pub IsWrittenAt : Ended → Option (List ℕ) → Option (List ℕ) → List ℕ → List Reply → List ℕ → Type 0
IsWrittenAt NotWritten base held waiting replies text = IsCut base held text
IsWrittenAt Well base held waiting replies text = HasWritten base held waiting text
IsWrittenAt (Broken cause) base held waiting replies text = HasWritten base held waiting text
IsWrittenAt NotReadable base held waiting replies text = HasWritten base held waiting text
IsWrittenAt NoMemory base held waiting replies text =
    HasWritten base held waiting text ⊎ IsSilent base held waiting replies

-- what a reader has left begins with these bytes, if it is known
abbrev pub IsTakenOf : Option (List ℕ) → List ℕ → Type 0
IsTakenOf None taken = ⊤
IsTakenOf (Some bytes) taken = (rest : List ℕ) × (bytes ≡ taken ++ rest)

abbrev pub IsQuit : Reply → Type 0
IsQuit r = (id : ℕ) × (r ≡ reply.Notice (notice.Quit id))

abbrev pub EndsInQuit : List Reply → Type 0
EndsInQuit replies = (before : List Reply) × (last : Reply) × (replies ≡ before ++ (last ∷ [])) × IsQuit last

-- an end without a fault is the end of the input, or comes after the reply to `quit`
abbrev pub IsEnd : Ended → Option (List ℕ) → List ℕ → List Reply → Type 0
IsEnd Well left taken replies = IsAllOf left taken ⊎ EndsInQuit replies
IsEnd (Broken cause) left taken replies = ⊤
IsEnd NotReadable left taken replies = ⊤
IsEnd NotWritten left taken replies = ⊤
IsEnd NoMemory left taken replies = ⊤

-- what a reader has left begins with these frames
pub record BeginsWith (left : Option (List ℕ)) (frames : List Frame) : Type 0 where
  pub taken : List ℕ
  pub texts : AreFrameTexts frames taken
  pub front : IsTakenOf left taken

-- the frames that the reader begins with were answered one by one, to its end or to `quit` unless there
-- was a fault; the greeting, their replies and any further reply were written
pub record AreServed {S : Type 0} (Step : S → Frame → Reply → S → Type 0) (state : S) (left base held : Option (List ℕ)) (waiting : List ℕ) (ended : Ended) : Type 0 where
  pub frames : List Frame
  pub replies : List Reply
  pub further : List Reply
  pub last : S
  pub input : BeginsWith left frames
  pub until : IsEnd ended left input.taken replies
  pub each : AreReplies Step state frames replies last
  pub after : IsFurther ended further
  pub written : IsWrittenAt ended base held waiting replies (replies_text (greeting ∷ (replies ++ further)))
