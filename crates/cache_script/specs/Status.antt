-- The exit status of each error.
use Rattle.std.specs.Prelude.{ℕ}
use Rattle.cache_script.specs.declared.error.ScriptError.{ScriptError}
use Rattle.cache_script.specs.declared.error.ScriptError.TheVariants.{NotReadable, Cache, NotWritten}

abbrev pub exit_status_of : ScriptError → ℕ
exit_status_of NotReadable = 2
exit_status_of (Cache e) = 3
exit_status_of NotWritten = 3
