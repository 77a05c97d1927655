-- What a session is before a run, and what it stands for after one.
use Rattle.std.specs.Prelude.{◌≡◌, ◌≤◌, ℕ, List, [], length}
use Rattle.sym_core.specs.declared.files.HirFileId.{HirFileId}
use Rattle.sym_core.specs.declared.files.HirFileId.TheVariants.{File}
use Rattle.hir_store.specs.Store.{NoDanglingIds, IsEmptyStore}
use Rattle.hir_lower.specs.declared.outcome.Outcome.{Outcome}
use Rattle.ra_cfg.specs.Options.{only_true}
use Rattle.hir_expander.specs.Table.{resolved, expanded}
use Rattle.format_code.specs.FormatCall.{Surroundings}
use Rattle.hir_lower.specs.Collector.{Collector, frame_of}
use Rattle.hir_lower.specs.Lowered.{AreOutcomes, AreRising, AreInStore, Lowers}
use Rattle.script.specs.Limit.{max_script_len}
use Rattle.script.specs.Contents.{Contents}
use Rattle.script.specs.Script.{IsScript}
use Rattle.printer.specs.Printed.{printed}
use Rattle.printer.specs.Summary.{summary}
use Rattle.script_generator.specs.Generated.{script_of}
use Rattle.streams.specs.Streams.{SourceState}
use Rattle.streams.specs.ReadWrite.{ReadsAll}
use Rattle.cfgfmt.specs.declared.command.Command.{Command}
use Rattle.cfgfmt.specs.declared.command.Command.TheVariants.{Run, Generate}
use Rattle.cfgfmt.specs.declared.session.Session.{Session}

-- the store is empty, the flag `true` alone is set, and there is no outcome
pub record IsNew (session : Session) : Type 0 where
  pub store : IsEmptyStore session.collector.store
  pub options : session.options ≡ only_true
  pub outcomes : session.outcomes.items ≡ []

-- the calls of a script stand in one file
abbrev pub script_file : HirFileId
script_file = File (record { raw = 0 })

-- where the calls of a script stand: what its macros lead to, its recursion limit, and the language items that it leaves there
abbrev pub script_around : Contents → Surroundings
script_around contents =
    record { resolved = λ file call. resolved contents.macros call; expanded = expanded contents.macros; file = script_file; limit = contents.limit; items = contents.items }

-- the collector stands where the calls of the script do
pub record StandsBy (contents : Contents) (collector : Collector) : Type 0 where
  pub file : collector.file ≡ script_file
  pub limit : collector.limit ≡ contents.limit
  pub items : collector.items ≡ contents.items

-- the calls were lowered one after the other into a store that was empty, by fresh names from 0 on, and these outcomes came of them: an off
-- call placed nothing, and each other one no more than its most
pub record LowersAll (contents : Contents) (outcomes : List Outcome) (collector : Collector) : Type 0 where
  pub before : Collector
  pub was_empty : IsEmptyStore before.store
  pub none_fresh : before.fresh ≡ 0
  pub lowers : Lowers contents.options (script_around contents) contents.calls outcomes (frame_of before) (frame_of collector)
  pub stands : StandsBy contents collector

-- the bytes are few enough, and a script; the session has its options, and one outcome for each of its calls, in order: off exactly
-- where one of the call's predicates reads false under the options, else code, which for a call that is well formed by the script's macros,
-- limit and language items means exactly the writes of the call's text; each code is in the session's store, which has no dangling ids, the
-- codes rise, and the store holds what the calls placed
pub record Answers (bytes : List ℕ) (session : Session) : Type 0 where
  pub fits : length bytes ≤ max_script_len
  pub contents : Contents
  pub script : IsScript bytes contents
  pub options : session.options ≡ contents.options
  pub outcomes : AreOutcomes contents.options (script_around contents) session.collector.store contents.calls session.outcomes.items
  pub within : AreInStore session.collector.store session.outcomes.items
  pub rising : AreRising 0 session.outcomes.items
  pub no_dangling : NoDanglingIds session.collector.store
  pub lowered : LowersAll contents session.outcomes.items session.collector

-- what a command prints of a session: a line for each outcome, or the summary
abbrev pub output_of : Command → Session → List ℕ
output_of Run session = printed session.collector.store session.options session.outcomes.items
output_of (Generate n) session = summary session.collector.store session.options session.outcomes.items

-- the bytes of the script that a command asks for: all that the source had left, without a fault; or those that are made for a number, and the
-- source is as it was
abbrev pub Gets : Command → SourceState → SourceState → List ℕ → Type 0
Gets Run old new bytes = ReadsAll old new bytes
Gets (Generate n) old new bytes = (bytes ≡ script_of n) × (new ≡ old)
