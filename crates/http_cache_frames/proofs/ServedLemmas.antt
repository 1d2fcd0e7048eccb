-- What was taken and written, call after call.
use Rattle.std.proofs.Common.{arith, ◌≡◌, ℕ, ◌+◌, List, [], ◌++◌, Option, Some, None, Result, Ok, Err, IfErr, length, take, drop, take-append-drop}
use Rattle.std.proofs.Common.{refl, sym, ap, subst, ◌∙◌, append_assoc, append-nil, length-append}
use Rattle.std.proofs.lemmas.List.{nil_from_length, take-append-le, length-take-le}
use Rattle.std.proofs.Math.Seq.{take-append-add, drop-append_seam}
use Rattle.std.proofs.KnownBytes.{Appends-nil, Appends-trans, Consumes-nil, Consumes-trans, Consumes-kept}
use Rattle.std.specs.Io.KnownBytes.{Appends, Consumes, IsAtEnd, Keeps}
use Rattle.http_cache_frames.specs.Served.{HasTaken, IsAllOf, Takes, TakesNothing, TakesContent, TakesFrame, HasContent, HasWritten, IsCut, PutsNothing, EndsWith, FailsToPut, KeepsText}
use Rattle.http_cache_frames.proofs.LineEndLemmas.{line_in_front, line_there}
use Rattle.http_cache_frames.specs.Front.{IsLine}
use Rattle.http_cache_frames.specs.declared.front.Announced.{Announced}
use Rattle.http_cache_frames.specs.declared.input.Next.{Next}
use Rattle.http_cache_frames.specs.declared.input.Next.TheVariants as next
use Rattle.http_cache_frames.specs.declared.ended.Ended.{Ended}
use Rattle.http_cache_frames.specs.declared.ended.Ended.TheVariants.{NotWritten, NoMemory}

pub nothing_taken : (base : Option (List ℕ)) → HasTaken base base [] []
nothing_taken base = record { read = []; consumed = Consumes-nil base; split = refl }

pub nothing_written : (base : Option (List ℕ)) → HasWritten base base [] []
nothing_written base = record { written = []; appended = Appends-nil base; split = refl }

pub written_out : (base held held_then : Option (List ℕ)) (waiting text : List ℕ) → HasWritten base held waiting text
    → Appends held held_then waiting → HasWritten base held_then [] text
written_out base held held_then waiting text before went = record {
  written = before.written ++ waiting;
  appended = Appends-trans base held held_then before.written waiting before.appended went;
  split = before.split ∙ sym (append-nil (before.written ++ waiting));
}

pub cut_out : (base held held_then : Option (List ℕ)) (waiting text : List ℕ) → HasWritten base held waiting text
    → IsCut held held_then waiting → IsCut base held_then text
cut_out base held held_then waiting text before cut = record {
  count = length before.written + cut.count;
  within =
      let whole = ap length before.split in
      let sum = length-append before.written waiting in
      let short = cut.within in
      omega (arith, whole, sum, short);
  appended =
      subst (Appends base held_then)
      (sym (ap (take (length before.written + cut.count)) before.split ∙ take-append-add before.written waiting cut.count))
      (Appends-trans base held held_then before.written (take cut.count waiting) before.appended cut.appended);
}

pub more_waiting : (base held : Option (List ℕ)) (waiting text bytes : List ℕ) → HasWritten base held waiting text
    → HasWritten base held (waiting ++ bytes) (text ++ bytes)
more_waiting base held waiting text bytes before = record {
  written = before.written;
  appended = before.appended;
  split = ap (λ l. l ++ bytes) before.split ∙ append_assoc before.written waiting bytes;
}

-- a beginning of a text is a beginning of a longer one
pub cut_longer : (base held : Option (List ℕ)) (text bytes : List ℕ) → IsCut base held text → IsCut base held (text ++ bytes)
cut_longer base held text bytes cut = record {
  count = cut.count;
  within = let sum = length-append text bytes in let short = cut.within in omega (arith, sum, short);
  appended = subst (Appends base held) (sym (take-append-le cut.count text bytes cut.within)) cut.appended;
}

-- nothing was waiting, and more is written
pub written_past : (base held held_then : Option (List ℕ)) (text bytes : List ℕ) → HasWritten base held [] text
    → Appends held held_then bytes → HasWritten base held_then [] (text ++ bytes)
written_past base held held_then text bytes before went =
    written_out base held held_then bytes (text ++ bytes) (more_waiting base held [] text bytes before) went

-- nothing was waiting, and a beginning of more is written
pub cut_past : (base held held_then : Option (List ℕ)) (text bytes : List ℕ) → HasWritten base held [] text
    → IsCut held held_then bytes → IsCut base held_then (text ++ bytes)
cut_past base held held_then text bytes before cut =
    cut_out base held held_then bytes (text ++ bytes) (more_waiting base held [] text bytes before) cut

-- a call fails without memory or by a failed write
pub failed_by : (ended : Ended) (held : Option (List ℕ)) (waiting : List ℕ) (held_then : Option (List ℕ)) (waiting_then bytes : List ℕ)
    → ended ≡ NotWritten
    → ((base : Option (List ℕ)) → (text : List ℕ) → HasWritten base held waiting text → IsCut base held_then (text ++ bytes))
    → FailsToPut ended held waiting held_then waiting_then bytes
failed_by ended held waiting held_then waiting_then bytes is cut =
    subst (λ e. FailsToPut e held waiting held_then waiting_then bytes) (sym is) cut

pub read_more : (base left left_then : Option (List ℕ)) (ahead taken bytes : List ℕ) → HasTaken base left ahead taken
    → Consumes left left_then bytes → HasTaken base left_then (ahead ++ bytes) taken
read_more base left left_then ahead taken bytes before more = record {
  read = before.read ++ bytes;
  consumed = Consumes-trans base left left_then before.read bytes before.consumed more;
  split = ap (λ l. l ++ bytes) before.split ∙ append_assoc taken ahead bytes;
}

pub take_front : (left : Option (List ℕ)) (ahead ahead_then bytes : List ℕ) → ahead ≡ bytes ++ ahead_then
    → Takes left ahead left ahead_then bytes
take_front left ahead ahead_then bytes front base taken before = record {
  read = before.read;
  consumed = before.consumed;
  split = before.split ∙ ap (λ l. taken ++ l) front ∙ sym (append_assoc taken bytes ahead_then);
}

pub take_twice : (left : Option (List ℕ)) (ahead : List ℕ) (left_now : Option (List ℕ)) (ahead_now : List ℕ)
    (left_then : Option (List ℕ)) (ahead_then bytes more : List ℕ)
    → Takes left ahead left_now ahead_now bytes → Takes left_now ahead_now left_then ahead_then more
    → Takes left ahead left_then ahead_then (bytes ++ more)
take_twice left ahead left_now ahead_now left_then ahead_then bytes more first second base taken before =
    subst (HasTaken base left_then ahead_then) (append_assoc taken bytes more)
    (second base (taken ++ bytes) (first base taken before))

pub frame_taken : (it : Next) (a : Announced) (left : Option (List ℕ)) (ahead : List ℕ) (left_now : Option (List ℕ)) (ahead_now : List ℕ)
    (left_then : Option (List ℕ)) (ahead_then : List ℕ)
    → TakesNothing left ahead left_now ahead_now → IsLine ahead_now a
    → TakesContent it a left_now (drop a.length ahead_now) left_then ahead_then
    → TakesFrame it left ahead left_then ahead_then
frame_taken (next.Frame f) a left ahead left_now ahead_now left_then ahead_then nothing line content =
    let (after, has, same, takes) = content in
    let front = take a.length ahead_now in
    let long = length-take-le a.length ahead_now (line_there ahead_now a line) in
    let dropped : drop a.length (front ++ after) ≡ after =
    subst (λ n. drop n (front ++ after) ≡ after) long (drop-append_seam front after) in
    let first = take_front left_now ahead_now (drop a.length ahead_now) front (sym (take-append-drop a.length ahead_now)) in (
      front ++ after,
      record {
        announced = a;
        begins = line_in_front ahead_now after a line;
        same = same;
        content = subst (HasContent f.is_too_long f a.head a.body) (sym dropped) has;
      },
      λ base taken before.
          take_twice left_now ahead_now left_now (drop a.length ahead_now) left_then ahead_then front after first takes base taken
          (nothing base taken before),
    )
frame_taken next.End a left ahead left_now ahead_now left_then ahead_then nothing line content = tt
frame_taken (next.Broken cause) a left ahead left_now ahead_now left_then ahead_then nothing line content = tt

-- nothing is left, and nothing is ahead: all bytes were taken
pub all_taken : (base left : Option (List ℕ)) (ahead taken : List ℕ) → HasTaken base left ahead taken → IsAtEnd left
    → length ahead ≡ 0 → IsAllOf base taken
all_taken None left ahead taken has end none = tt
all_taken (Some bytes) None ahead taken has end none = elim has.consumed [ ]
all_taken (Some bytes) (Some rest) ahead taken has end none =
    has.consumed ∙ ap (λ (l : List ℕ). has.read ++ l) end ∙ append-nil has.read ∙ has.split
    ∙ ap (λ (l : List ℕ). taken ++ l) (nil_from_length ahead none) ∙ append-nil taken
