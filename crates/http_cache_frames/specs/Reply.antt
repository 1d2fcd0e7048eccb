-- The text of each frame that the process writes.
use Rattle.std.specs.Prelude.{ℕ, List, [], ◌++◌, Option, Some, None, codes, decimal, length}
use Rattle.http_cache_frames.specs.declared.reply.Counts.{Counts}
use Rattle.http_cache_frames.specs.declared.reply.Reason.{Reason}
use Rattle.http_cache_frames.specs.declared.reply.Reason.TheVariants.{LongLine, NoObject, NoLength, Cut, TooLong, NoSuchFrame, NoToken, NoTime, UnknownToken}
use Rattle.http_cache_frames.specs.declared.reply.Reason.TheVariants.{MalformedHead, FullHead, NotFinal, NoRest, NoTarget, TooMany, Memory}
use Rattle.http_cache_frames.specs.declared.reply.Notice.{Notice}
use Rattle.http_cache_frames.specs.declared.reply.Notice.TheVariants.{Protocol, Done, More, Wait, Part, Swept, Removed, NoResponse, Stats, Quit, Error}
use Rattle.http_cache_frames.specs.declared.reply.Word.{Word}
use Rattle.http_cache_frames.specs.declared.reply.Word.TheVariants as word
use Rattle.http_cache_frames.specs.declared.reply.Reply.{Reply}
use Rattle.http_cache_frames.specs.declared.reply.Reply.TheVariants as reply

unfoldable pub reason_text : Reason → List ℕ
reason_text LongLine = codes "a line is longer than 4096 bytes"
reason_text NoObject = codes "a line isn't an object of JSON"
reason_text NoLength = codes "a length isn't a number of bytes"
reason_text Cut = codes "the input ends within a frame"
reason_text TooLong = codes "the head or the body is too long"
reason_text NoSuchFrame = codes "no such frame"
reason_text NoToken = codes "no token"
reason_text NoTime = codes "no time"
reason_text UnknownToken = codes "unknown token"
reason_text MalformedHead = codes "the head is malformed"
reason_text FullHead = codes "the head has too many fields"
reason_text NotFinal = codes "the status isn't final"
reason_text NoRest = codes "rest isn't a length or true"
reason_text NoTarget = codes "the target isn't an absolute URI"
reason_text TooMany = codes "too many requests under way"
reason_text Memory = codes "out of memory"

unfoldable pub reason_code : Reason → List ℕ
reason_code LongLine = codes "long-line"
reason_code NoObject = codes "no-object"
reason_code NoLength = codes "no-length"
reason_code Cut = codes "cut"
reason_code TooLong = codes "too-long"
reason_code NoSuchFrame = codes "no-such-frame"
reason_code NoToken = codes "no-token"
reason_code NoTime = codes "no-time"
reason_code UnknownToken = codes "unknown-token"
reason_code MalformedHead = codes "malformed-head"
reason_code FullHead = codes "full-head"
reason_code NotFinal = codes "not-final"
reason_code NoRest = codes "no-rest"
reason_code NoTarget = codes "no-target"
reason_code TooMany = codes "too-many"
reason_code Memory = codes "out-of-memory"

-- the name of a member, with the text before it
unfoldable pub word_text : Word → List ℕ
word_text word.Answer = codes "{\"answer\":"
word_text word.Done = codes "{\"done\":"
word_text word.More = codes "{\"more\":"
word_text word.Next = codes "{\"next\":"
word_text word.NoResponse = codes "{\"error\":\"no response\",\"code\":\"no-response\",\"id\":"
word_text word.Part = codes "{\"part\":"
word_text word.Protocol = codes "{\"protocol\":"
word_text word.Quit = codes "{\"quit\":"
word_text word.Removed = codes "{\"removed\":"
word_text word.Send = codes "{\"send\":"
word_text word.Stats = codes "{\"stats\":"
word_text word.Swept = codes "{\"swept\":"
word_text word.Wait = codes "{\"wait\":"
word_text word.Body = codes ",\"body\":"
word_text word.Bytes = codes ",\"bytes\":"
word_text word.Errors = codes ",\"errors\":"
word_text word.Files = codes ",\"store\":\"failing\",\"files\":"
word_text word.Frames = codes ",\"frames\":"
word_text word.Head = codes ",\"head\":"
word_text word.Hits = codes ",\"hits\":"
word_text word.Id = codes ",\"id\":"
word_text word.Left = codes ",\"left\":"
word_text word.Misses = codes ",\"misses\":"
word_text word.Count = codes ",\"removed\":"
word_text word.Request = codes ",\"request\":"
word_text word.Responses = codes ",\"responses\":"
word_text word.Store = codes ",\"store\":"
word_text word.Token = codes ",\"token\":"
word_text word.UnderWay = codes ",\"under_way\":"
word_text word.Validations = codes ",\"validations\":"

abbrev pub member_text : Word → ℕ → List ℕ
member_text name number = word_text name ++ decimal number

abbrev pub optional_text : Word → Option ℕ → List ℕ
optional_text name None = []
optional_text name (Some number) = member_text name number

abbrev pub end_text : List ℕ
end_text = codes "}\n"

unfoldable pub pair_text : Word → ℕ → Word → ℕ → List ℕ
pair_text name number other second = member_text name number ++ member_text other second

-- the counts of what is stored and under way
unfoldable pub stored_text : Counts → List ℕ
stored_text c =
    pair_text word.Responses c.responses word.Bytes c.bytes
    ++ pair_text word.UnderWay c.under_way word.Frames c.frames

-- the counts of what was done
unfoldable pub done_text : Counts → List ℕ
done_text c =
    pair_text word.Hits c.hits word.Validations c.validations
    ++ pair_text word.Misses c.misses word.Errors c.errors

unfoldable pub error_text : Reason → Option ℕ → Option ℕ → List ℕ
error_text reason id token =
    codes "{\"error\":\"" ++ reason_text reason ++ codes "\",\"code\":\"" ++ reason_code reason
    ++ codes "\"" ++ optional_text word.Id id ++ optional_text word.Token token ++ end_text

-- the lengths of a message, the end of the line, and the message; without a body here, the caller
-- has it
unfoldable pub message_text : List ℕ → Option (List ℕ) → List ℕ
message_text head (Some body) =
    member_text word.Head (length head) ++ member_text word.Body (length body) ++ end_text
    ++ head ++ body
message_text head None =
    member_text word.Head (length head) ++ codes ",\"body\":0,\"rest\":true}\n" ++ head

-- the lengths of a response and of a request's head, and the end of the line
unfoldable pub lengths_text : ℕ → ℕ → ℕ → List ℕ
lengths_text head body request =
    member_text word.Head head ++ member_text word.Body body
    ++ member_text word.Request request ++ end_text

-- a response, and the head of a request to send meanwhile
unfoldable pub stale_text : List ℕ → List ℕ → List ℕ → List ℕ
stale_text head body request =
    lengths_text (length head) (length body) (length request) ++ head ++ body ++ request

unfoldable pub notice_text : Notice → List ℕ
notice_text Protocol = member_text word.Protocol 1 ++ end_text
notice_text (Done id) = member_text word.Done id ++ end_text
notice_text (More id token most) =
    pair_text word.More id word.Token token ++ member_text word.Store most ++ end_text
notice_text (Wait id token) =
    pair_text word.Wait id word.Token token ++ end_text
notice_text (Part token) = member_text word.Part token ++ end_text
notice_text (Swept id removed) =
    pair_text word.Swept id word.Count removed ++ end_text
notice_text (Removed id responses) =
    pair_text word.Removed id word.Responses responses ++ end_text
notice_text (NoResponse id token) =
    pair_text word.NoResponse id word.Token token ++ end_text
notice_text (Stats id counts) =
    member_text word.Stats id ++ stored_text counts ++ done_text counts
    ++ optional_text word.Files counts.failing ++ end_text
notice_text (Quit id) = member_text word.Quit id ++ end_text
notice_text (Error reason id token) = error_text reason id token

unfoldable pub reply_text : Reply → List ℕ
reply_text (reply.Notice notice) = notice_text notice
reply_text (reply.Answer id head body) =
    member_text word.Answer id ++ message_text head.items body
reply_text (reply.Collect id token most head body) =
    pair_text word.Answer id word.Token token ++ member_text word.Store most
    ++ message_text head.items body
reply_text (reply.Begun id token left head body) =
    pair_text word.Answer id word.Token token ++ member_text word.Left left
    ++ message_text head.items (Some body)
reply_text (reply.Piece token left body) =
    pair_text word.Next token word.Left left ++ message_text [] (Some body)
reply_text (reply.Stale id token head body request) =
    pair_text word.Answer id word.Token token ++ stale_text head.items body request.items
reply_text (reply.Send id token head body) =
    pair_text word.Send id word.Token token ++ message_text head.items body
