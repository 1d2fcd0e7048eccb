-- The error for a message that can't be made of its parts.
use Rattle.http.specs.declared.error.Error.{Error}
use Rattle.http.specs.declared.error.Error.TheVariants.{MaxSizeReached, OutOfMemory}
use Rattle.http_heads.specs.declared.error.HeadError.{HeadError}
use Rattle.http_heads.specs.declared.error.HeadError.TheVariants.{Memory, Malformed, HeaderMapFull}

abbrev pub head_error : Error → HeadError
head_error OutOfMemory = Memory
head_error MaxSizeReached = HeaderMapFull
head_error _ = Malformed
