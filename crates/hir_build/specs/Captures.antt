-- What is kept of calls: a name that a format call uses has its place in the template, the code of the call has all of them, and the code of inline assembly has the operands that its templates put.
use Rattle.std.specs.Prelude.{◌≡◌, List, Option}
use Rattle.sym_core.specs.declared.files.AstPtr.{AstPtr}
use Rattle.sym_core.specs.declared.files.HirFileId.{HirFileId}
use Rattle.sym_core.specs.declared.files.InFile.{InFile}
use Rattle.sym_core.specs.declared.name.Name.{Name}
use Rattle.sym_core.specs.declared.text_range.TextRange.{TextRange}
use Rattle.hir_store.specs.declared.ids.ExprId.{ExprId}
use Rattle.hir_store.specs.declared.source.CaptureSource.{CaptureSource}
use Rattle.hir_store.specs.declared.asm.AsmRow.{AsmRow}
use Rattle.hir_store.specs.declared.store.ExpressionStore.{ExpressionStore}
use Rattle.hir_store.specs.Entries.{with_entry}
use Rattle.hir_build.specs.Origins.{Origin, in_file}
use Rattle.hir_build.specs.Frame.{Frame}

-- the store in which an expression has this place in a template
abbrev pub with_capture : ExpressionStore → ExprId → InFile CaptureSource → ExpressionStore
with_capture store id source = record store { implicit_capture_to_source = with_entry store.implicit_capture_to_source id source }

-- an expression at a pointer of a file and at a place of a template there, where it has them
abbrev pub capture_origin : HirFileId → Option AstPtr → Option CaptureSource → Origin
capture_origin file ptr source = record { source = in_file file ptr; capture = in_file file source }

-- an expression has this place in a template of the builder's file, and all else is as it was
abbrev pub EntersCapture : Frame → ExprId → CaptureSource → Frame → Type 0
EntersCapture old id source new = new ≡ record old { store = with_capture old.store id (record { file_id = old.file; value = source }) }

-- the store in which the code of a call has these captures
abbrev pub with_captures : ExpressionStore → ExprId → List (TextRange × Name) → ExpressionStore
with_captures store code usages = record store { format_args_to_captures = with_entry store.format_args_to_captures code usages }

-- the code of a call has these captures, and all else is as it was
abbrev pub Notes : Frame → ExprId → List (TextRange × Name) → Frame → Type 0
Notes old code usages new = new ≡ record old { store = with_captures old.store code usages }

-- the store in which the code of inline assembly has this mapping, template by template
abbrev pub with_mapping : ExpressionStore → ExprId → List AsmRow → ExpressionStore
with_mapping store code rows = record store { asm_to_captures = with_entry store.asm_to_captures code rows }

-- the code of inline assembly has this mapping, and all else is as it was
abbrev pub NotesMapping : Frame → ExprId → List AsmRow → Frame → Type 0
NotesMapping old code rows new = new ≡ record old { store = with_mapping old.store code rows }
