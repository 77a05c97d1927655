-- What entering an expansion answers.
use Rattle.std.specs.Prelude.{◌≡◌, Option, Some, None, Result, Ok, Err, option_copied}
use Rattle.std.specs.Borrow.{Bor}
use Rattle.sym_core.specs.declared.files.MacroCallId.{MacroCallId}
use Rattle.syn_trees.specs.declared.format_call.Template.{Template}
use Rattle.hir_expander.specs.declared.expand_result.ExpandResult.{ExpandResult}
use Rattle.hir_expander.specs.declared.expand_result.ExpandError.TheVariants.{RecursionOverflow, Malformed}
use Rattle.hir_expander.specs.declared.expand_result.UnresolvedMacro.{UnresolvedMacro}
use Rattle.hir_expander.specs.CurrentFile.{CurrentFile}
use Rattle.hir_expander.specs.Machine.{Machine, Step, Idle, Pathless, Unresolved, TooDeep, Inside}

-- a mark of this file and this expansion are given
abbrev pub GivesValue : CurrentFile → Option Template → Option (CurrentFile × Option (Bor Template)) → Type 0
GivesValue left expansion None = ⊥
GivesValue left expansion (Some value) = (value.0 ≡ left) × (option_copied value.1 ≡ expansion)

-- what comes of a step that answers no error
abbrev pub AnswersId : (MacroCallId → Option Template) → Machine → Step → ExpandResult → Type 0
AnswersId expanded old Idle entry = (entry.value ≡ None) × (entry.err ≡ None)
AnswersId expanded old Pathless entry = (entry.value ≡ None) × (entry.err ≡ Some Malformed)
AnswersId expanded old Unresolved entry = ⊥
AnswersId expanded old TooDeep entry = (entry.value ≡ None) × (entry.err ≡ Some RecursionOverflow)
AnswersId expanded old (Inside id) entry = GivesValue old.current (expanded id) entry.value × (entry.err ≡ None)

-- what comes of a step: an error exactly where the call leads to no macro
abbrev pub Answers : (MacroCallId → Option Template) → Machine → Step → Result ExpandResult UnresolvedMacro → Type 0
Answers expanded old step (Ok entry) = AnswersId expanded old step entry
Answers expanded old step (Err error) = step ≡ Unresolved
