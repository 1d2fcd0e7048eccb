-- The error for a value that wasn't read.
use Rattle.http_cache_fields.specs.declared.error.CacheError.{CacheError}
use Rattle.http_cache_fields.specs.declared.error.CacheError.TheVariants as error
use Rattle.http_cache_json.specs.declared.unread.UnreadValue.{UnreadValue}
use Rattle.http_cache_json.specs.declared.unread.UnreadValue.TheVariants.{Memory, Malformed}

-- the error of the same name
abbrev pub error_of : UnreadValue → CacheError
error_of Memory = error.Memory
error_of Malformed = error.Malformed
