-- What the files of a response count.
use Rattle.std.specs.Prelude.{◌+◌, ◌-◌, ◌^◌, ℕ, min, nat_eq, if◌then◌else◌}
use Rattle.http_cache_disk_store.specs.declared.head.Place.{Place}

-- a sum as a u64 keeps it
abbrev pub capped : ℕ → ℕ
capped n = min n (2 ^ 64 - 1)

-- their bytes, and 4,096 for each
abbrev pub file_cost : Place → ℕ → ℕ
file_cost place head_file =
    let own = capped (capped (place.at + place.mark.length) + 4096) in
    if nat_eq head_file 0 then own else capped (capped (own + head_file) + 4096)
