-- All that a store in a directory stores, and the files that were to be removed.
use Rattle.std.specs.Prelude.{List}
use Rattle.std.specs.declared.io.Read.{Ghosts as ReadGhosts}
use Rattle.std.specs.declared.io.Seek.{Ghosts as SeekGhosts}
use Rattle.std.specs.declared.io.Write.{Ghosts as WriteGhosts}
use Rattle.http_cache_store.specs.declared.store.ResponseId.{ResponseId}
use Rattle.http_cache_memory_store.specs.Index.{all_entries}
use Rattle.http_cache_disk_store.specs.declared.head.Head.{Head}
use Rattle.http_cache_disk_store.specs.declared.store.DiskStore.{DiskStore}

module _ {F File Dir : Type 0} {reads : ReadGhosts File} {writes : WriteGhosts File} {seeks : SeekGhosts File} {lists : ReadGhosts Dir} where
  abbrev pub heads_in : DiskStore F File Dir reads writes seeks lists → List Head
  heads_in s = all_entries s.index.kept.entries

  -- the stored responses whose files were to be removed since the directory was read
  abbrev pub unlinked_in : DiskStore F File Dir reads writes seeks lists → List ResponseId
  unlinked_in s = s.disc.told.items
