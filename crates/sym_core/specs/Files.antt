-- Source comes from a file, or from a call of a macro.
use Rattle.sym_core.specs.declared.files.HirFileId.{HirFileId}
use Rattle.sym_core.specs.declared.files.HirFileId.TheVariants.{File, Macro}

-- the source is what a call of a macro expands to
abbrev pub IsMacro : HirFileId → Type 0
IsMacro (File _) = ⊥
IsMacro (Macro _) = Unit {0}
