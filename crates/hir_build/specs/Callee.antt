-- A function of a language item is called by its path where the item is there, and else a missing expression stands for it.
use Rattle.std.specs.Prelude.{Bool, cond, Option}
use Rattle.sym_core.specs.declared.files.AstPtr.{AstPtr}
use Rattle.sym_core.specs.declared.files.HirFileId.{HirFileId}
use Rattle.hir_store.specs.declared.lang_item.LangFn.{LangFn}
use Rattle.hir_store.specs.declared.lang_item.LangItem.{LangItem}
use Rattle.hir_store.specs.declared.lang_item.LangItem.TheVariants.{FormatArguments, FormatArgument}
use Rattle.hir_store.specs.declared.lang_item.LangItems.{LangItems}
use Rattle.hir_store.specs.Tree.{Tree, LangPath, Missing}
use Rattle.hir_build.specs.Origins.{Origin, bare, from_source}

-- whether an item is there
abbrev pub has_item : LangItems → LangItem → Bool
has_item items FormatArguments = items.format_arguments
has_item items FormatArgument = items.format_argument

-- the tree of a callee
abbrev pub callee_tree : LangItems → LangItem → LangFn → Tree
callee_tree items item function = cond (has_item items item) (LangPath item function) Missing

-- its origin: the pointer, where the item is there
abbrev pub callee_origin : LangItems → LangItem → HirFileId → Option AstPtr → Origin
callee_origin items item file ptr = cond (has_item items item) (from_source file ptr) bare
