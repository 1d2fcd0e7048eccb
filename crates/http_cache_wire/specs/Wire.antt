-- What a frame asks for, and what a reply reports.
use Rattle.std.specs.Prelude.{◌≡◌, ◌⊎◌, ℕ, Option, Some, None, ⊤, Bool, true, false, codes, is_some}
use Rattle.serde_json.specs.Data.{Data}
use Rattle.serde_json.specs.Find.{get}
use Rattle.http_cache_frames.specs.Line.{number_under}
use Rattle.http_cache_frames.specs.declared.reply.Notice.{Notice}
use Rattle.http_cache_frames.specs.declared.reply.Notice.TheVariants as notice
use Rattle.http_cache_frames.specs.declared.reply.Reply.{Reply}
use Rattle.http_cache_frames.specs.declared.reply.Reply.TheVariants as reply
use Rattle.http_cache_wire.specs.declared.message.BodyLocation.{BodyLocation}
use Rattle.http_cache_wire.specs.declared.message.BodyLocation.TheVariants.{Here, Caller}
use Rattle.http_cache_wire.specs.declared.operation.Operation.{Operation}
use Rattle.http_cache_wire.specs.declared.operation.Operation.TheVariants.{Ask, Received, Failed, Complete, Part, Next, Remove, Sweep, Stats, Quit}
use Rattle.http_cache_wire.specs.declared.fault.Fault.{Fault}
use Rattle.http_cache_wire.specs.declared.fault.Fault.TheVariants.{Refused, Lost}

-- the frame is refused, and a reply reports it
abbrev pub IsRefused : Fault → Type 0
IsRefused (Refused reason) = ⊤
IsRefused Lost = ⊥

-- the token that a reply assigns
abbrev pub given_token : Reply → Option ℕ
given_token (reply.Notice said) = None
given_token (reply.Answer id head body) = None
given_token (reply.Collect id token most head body) = None
given_token (reply.Begun id token left head body) = Some token
given_token (reply.Piece token left body) = None
given_token (reply.Stale id token head body request) = Some token
given_token (reply.Send id token head body) = Some token

abbrev pub notice_id : Notice → Option ℕ
notice_id notice.Protocol = None
notice_id (notice.Done id) = Some id
notice_id (notice.More id token most) = Some id
notice_id (notice.Wait id token) = Some id
notice_id (notice.Part token) = None
notice_id (notice.Swept id removed) = Some id
notice_id (notice.Removed id responses) = Some id
notice_id (notice.NoResponse id token) = Some id
notice_id (notice.Stats id counts) = Some id
notice_id (notice.Quit id) = Some id
notice_id (notice.Error reason id token) = id

abbrev pub reply_id : Reply → Option ℕ
reply_id (reply.Notice said) = notice_id said
reply_id (reply.Answer id head body) = Some id
reply_id (reply.Collect id token most head body) = Some id
reply_id (reply.Begun id token left head body) = Some id
reply_id (reply.Piece token left body) = None
reply_id (reply.Stale id token head body request) = Some id
reply_id (reply.Send id token head body) = Some id

-- an error other than "no response"
abbrev pub IsRefusalNotice : Notice → Type 0
IsRefusalNotice notice.Protocol = ⊥
IsRefusalNotice (notice.Done id) = ⊥
IsRefusalNotice (notice.More id token most) = ⊥
IsRefusalNotice (notice.Wait id token) = ⊥
IsRefusalNotice (notice.Part token) = ⊥
IsRefusalNotice (notice.Swept id removed) = ⊥
IsRefusalNotice (notice.Removed id responses) = ⊥
IsRefusalNotice (notice.NoResponse id token) = ⊥
IsRefusalNotice (notice.Stats id counts) = ⊥
IsRefusalNotice (notice.Quit id) = ⊥
IsRefusalNotice (notice.Error reason id token) = ⊤

abbrev pub IsRefusal : Reply → Type 0
IsRefusal (reply.Notice said) = IsRefusalNotice said
IsRefusal (reply.Answer id head body) = ⊥
IsRefusal (reply.Collect id token most head body) = ⊥
IsRefusal (reply.Begun id token left head body) = ⊥
IsRefusal (reply.Piece token left body) = ⊥
IsRefusal (reply.Stale id token head body request) = ⊥
IsRefusal (reply.Send id token head body) = ⊥

abbrev pub asks_for_body_by : Notice → Bool
asks_for_body_by (notice.More id token most) = true
asks_for_body_by _ = false

-- the reply asks for the body of the response, so that its request stays under way
abbrev pub asks_for_body : Reply → Bool
asks_for_body (reply.Notice said) = asks_for_body_by said
asks_for_body (reply.Collect id token most head body) = true
asks_for_body _ = false

abbrev pub notice_waits_for : Notice → Option ℕ
notice_waits_for (notice.Wait id token) = Some token
notice_waits_for _ = None

-- the request for whose end the reply says to wait
abbrev pub waits_for : Reply → Option ℕ
waits_for (reply.Notice said) = notice_waits_for said
waits_for _ = None

-- the validation to send after the reply has answered with a stale response
abbrev pub later_check : Reply → Option ℕ
later_check (reply.Stale id token head body request) = Some token
later_check _ = None

-- the reply neither says to wait nor asks for a validation after an answer
abbrev pub IsPlain : Reply → Type 0
IsPlain r = (waits_for r ≡ None) × (later_check r ≡ None)

-- the reply has this id, refuses nothing, and asks for no body
abbrev pub IsReplyFor : ℕ → Reply → Type 0
IsReplyFor id r = (reply_id r ≡ Some id) × ¬ (IsRefusal r) × (asks_for_body r ≡ false)

-- the frame reports the outcome of the request with this token
abbrev pub HandsOver : Data → ℕ → Type 0
HandsOver line token =
    (number_under (codes "ask") line ≡ None)
    × ((number_under (codes "received") line ≡ Some token)
    ⊎ ((get (codes "received") line ≡ None) × (number_under (codes "failed") line ≡ Some token))
    ⊎ ((get (codes "received") line ≡ None) × (get (codes "failed") line ≡ None)
    × (number_under (codes "complete") line ≡ Some token)))

-- the frame reports no outcome, and has no request
abbrev pub HandsOverNothing : Data → Type 0
HandsOverNothing line =
    (number_under (codes "ask") line ≡ None) × (get (codes "received") line ≡ None)
    × (get (codes "failed") line ≡ None) × (get (codes "complete") line ≡ None)

-- the frame says that the caller keeps the body
abbrev pub HasRest : Data → Type 0
HasRest line = is_some (get (codes "rest") line) ≡ true

abbrev pub IsWithCaller : BodyLocation → Type 0
IsWithCaller Here = ⊥
IsWithCaller (Caller length) = ⊤

-- what a line asks of a request: a request to answer counts first, then a response, then a failure,
-- then the end of a body
abbrev pub IsOperationOf : Data → Option Operation → Type 0
IsOperationOf line None = HandsOverNothing line
IsOperationOf line (Some (Ask id)) = number_under (codes "ask") line ≡ Some id
IsOperationOf line (Some (Received token)) =
    (number_under (codes "ask") line ≡ None) × (is_some (get (codes "received") line) ≡ true)
    × (number_under (codes "received") line ≡ token)
IsOperationOf line (Some (Failed token)) =
    (number_under (codes "ask") line ≡ None) × (get (codes "received") line ≡ None)
    × (is_some (get (codes "failed") line) ≡ true) × (number_under (codes "failed") line ≡ token)
IsOperationOf line (Some (Complete token)) =
    (number_under (codes "ask") line ≡ None) × (get (codes "received") line ≡ None)
    × (get (codes "failed") line ≡ None) × (number_under (codes "complete") line ≡ token)
IsOperationOf line (Some (Part token)) = HandsOverNothing line
IsOperationOf line (Some (Next token)) = HandsOverNothing line
IsOperationOf line (Some (Remove id)) = HandsOverNothing line
IsOperationOf line (Some (Sweep id)) = HandsOverNothing line
IsOperationOf line (Some (Stats id)) = HandsOverNothing line
IsOperationOf line (Some (Quit id)) = HandsOverNothing line
