-- The log of what the text of a format call tells of names, and how it grows.
use Rattle.std.specs.Prelude.{◌≡◌, List, ◌++◌, map}
use Rattle.hir_fmt.specs.Log.{Entry, Usage, Made}
use Rattle.hir_lower.specs.declared.name_log.LogEntry.{LogEntry}
use Rattle.hir_lower.specs.declared.name_log.LogEntry.TheVariants as logged
use Rattle.hir_lower.specs.declared.name_log.NameLog.{NameLog}
use Rattle.hir_lower.specs.Captures.{AreNumbered, number_behind}

-- an entry of the code's log
abbrev pub entry_of : LogEntry → Entry
entry_of (logged.Usage name span) = Usage name span
entry_of (logged.Made name span id) = Made name span id

-- what was told so far
abbrev pub entries_of : NameLog → List Entry
entries_of log = map entry_of log.entries.items

-- more was told, and the names that were captured got the indexes that follow
pub record GrowsLog (old new : NameLog) : Type 0 where
  pub added : List Entry
  pub logged : entries_of new ≡ entries_of old ++ added
  pub numbered : AreNumbered old.next added
  pub next : new.next ≡ number_behind old.next added
