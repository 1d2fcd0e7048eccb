-- Why a part of a script wasn't read.
use Rattle.http_cache_json.specs.declared.unread.UnreadValue.{UnreadValue}
use Rattle.http_cache_json.specs.declared.unread.UnreadValue.TheVariants as part
use Rattle.cache_script.specs.declared.unread.UnreadScript.{UnreadScript}
use Rattle.cache_script.specs.declared.unread.UnreadScript.TheVariants.{Memory, NoScript}

-- a part that isn't of its form makes no script
abbrev pub unread_of : UnreadValue → UnreadScript
unread_of part.Memory = Memory
unread_of part.Malformed = NoScript
