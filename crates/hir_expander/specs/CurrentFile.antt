-- The file that is read. A mark is the one to which an exit leads back.
use Rattle.sym_core.specs.declared.files.HirFileId.{HirFileId}
use Rattle.hir_expander.specs.declared.macros.FileMaps.{FileMaps}

-- the file that is read, and its maps
pub record CurrentFile : Type 0 where
  pub file_id : HirFileId
  pub maps : FileMaps
