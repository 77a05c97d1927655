-- Entries of a log, some behind others.
use Rattle.std.proofs.Common.{◌≡◌, ℕ, ◌+◌, ◌<◌, List, [], ◌∷◌, ◌++◌, length, map, take, drop, get_or, Some, None, refl, sym, ap, ◌∙◌, arith}
use Rattle.std.proofs.lemmas.List.{take_more, take-append-drop, map-append}
use Rattle.hir_fmt.specs.Log.{Entry, Usage, Made}
use Rattle.hir_lower.specs.declared.name_log.LogEntry.{LogEntry}
use Rattle.hir_lower.specs.NameLog.{entry_of}
use Rattle.hir_lower.specs.Captures.{usages_of, made_count, behind, AreNumbered, number_behind}

pub made_append : (entries more : List Entry) → made_count (entries ++ more) ≡ made_count entries + made_count more
made_append [] more = omega arith
made_append (Usage name span ∷ entries) more = made_append entries more
made_append (Made name span id ∷ entries) more = omega (arith, made_append entries more)

pub usages_append : (entries more : List Entry) → usages_of (entries ++ more) ≡ usages_of entries ++ usages_of more
usages_append [] more = refl
usages_append (Usage name (Some span) ∷ entries) more = ap (λ l. (span, name) ∷ l) (usages_append entries more)
usages_append (Usage name None ∷ entries) more = usages_append entries more
usages_append (Made name span id ∷ entries) more = usages_append entries more

-- those in front are numbered, and those behind them from the index behind
pub numbered_front : (place : ℕ) (entries more : List Entry) → AreNumbered place (entries ++ more) → AreNumbered place entries
numbered_front place [] more all = tt
numbered_front place (Usage name span ∷ entries) more all = numbered_front place entries more all
numbered_front place (Made name span id ∷ entries) more all = (all.0, numbered_front (behind place) entries more all.1)

pub numbered_behind : (place : ℕ) (entries more : List Entry) → AreNumbered place (entries ++ more) → AreNumbered (number_behind place entries) more
numbered_behind place [] more all = all
numbered_behind place (Usage name span ∷ entries) more all = numbered_behind place entries more all
numbered_behind place (Made name span id ∷ entries) more all = numbered_behind (behind place) entries more all.1

-- the entries up to one of a log, and those around it
module _ (log : List LogEntry) (i : ℕ) (logged : LogEntry) where
  pub entries_more : i < length log → logged ≡ get_or log i logged → map entry_of (take (i + 1) log) ≡ map entry_of (take i log) ++ entry_of logged ∷ []
  entries_more lt is = ap (map entry_of) (take_more log i logged lt ∙ ap (λ t. take i log ++ t ∷ []) (sym is)) ∙ map-append entry_of (take i log) (logged ∷ [])

  pub entries_around : i < length log → logged ≡ get_or log i logged → map entry_of log ≡ (map entry_of (take i log) ++ entry_of logged ∷ []) ++ map entry_of (drop (i + 1) log)
  entries_around lt is =
      ap (map entry_of) (sym (take-append-drop (i + 1) log))
      ∙ map-append entry_of (take (i + 1) log) (drop (i + 1) log)
      ∙ ap (λ es. es ++ map entry_of (drop (i + 1) log)) (entries_more lt is)
