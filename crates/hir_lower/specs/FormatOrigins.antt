-- Where the code of a format call comes from: one origin for each expression of its tree, in preorder.
use Rattle.std.specs.Prelude.{List, [], ◌∷◌, ◌++◌, cond, slice_get, Option, Some, None}
use Rattle.std.specs.Option.{option_and_then}
use Rattle.sym_core.specs.declared.files.AstPtr.{AstPtr}
use Rattle.sym_core.specs.declared.files.HirFileId.{HirFileId}
use Rattle.hir_store.specs.declared.lang_item.LangItem.TheVariants.{FormatArgument}
use Rattle.hir_store.specs.declared.lang_item.LangItems.{LangItems}
use Rattle.hir_build.specs.Origins.{Origin, bare, from_source}
use Rattle.hir_build.specs.Callee.{callee_origin}
use Rattle.code_meaning.specs.Write.{Write}
use Rattle.template_bytes.specs.Canonical.{Reference}
use Rattle.template_bytes.specs.Pairs.{Pair, pairs_of}
use Rattle.format_code.specs.Code.{has_placeholder}

-- where the argument of a reference stands, given where each argument stands: nowhere, for the unresolved argument
abbrev pub syntax_of : List (Option AstPtr) → Reference → Option AstPtr
syntax_of syntaxes None = None
syntax_of syntaxes (Some place) = option_and_then (λ (syntax : Option AstPtr). syntax) (slice_get syntaxes place)

-- `&ARG` for each argument, in order
abbrev pub references_origins : List (List Origin) → List Origin
references_origins [] = []
references_origins (arg ∷ args) = bare ∷ (arg ++ references_origins args)

-- `Argument::FUNCTION(#n.PLACE)`: the call, the function, the field and its tuple; trait errors of the argument show at the function
abbrev pub element_origins : HirFileId → LangItems → Option AstPtr → List Origin
element_origins file items syntax = bare ∷ callee_origin items FormatArgument file syntax ∷ bare ∷ bare ∷ []

-- one element for each pair, in order
abbrev pub elements_origins : HirFileId → LangItems → List (Option AstPtr) → List Pair → List Origin
elements_origins file items syntaxes [] = []
elements_origins file items syntaxes (pair ∷ pairs) = element_origins file items (syntax_of syntaxes pair.argument) ++ elements_origins file items syntaxes pairs

-- each as a statement, and behind them a tail
abbrev pub statements_origins : List (List Origin) → List Origin → List Origin
statements_origins [] tail = tail
statements_origins (id ∷ ids) tail = id ++ statements_origins ids tail

-- the tail behind the statements, in a block at this origin where there are statements
abbrev pub behind_origins : Origin → List (List Origin) → List Origin → List Origin
behind_origins here [] tail = tail
behind_origins here (id ∷ ids) tail = here ∷ statements_origins (id ∷ ids) tail

-- `unsafe { Arguments::new(BYTES, &LIST) }`: the block at this origin, the call, the function, the bytes and the reference
abbrev pub new_origins : Origin → List Origin → List Origin
new_origins here list = here ∷ bare ∷ bare ∷ bare ∷ bare ∷ list

-- `let #n = (&ARG, ..);`
abbrev pub tuple_origins : List (List Origin) → List Origin
tuple_origins args = bare ∷ references_origins args

-- `let #n = [Argument::FUNCTION(#n.PLACE), ..];`
abbrev pub array_origins : HirFileId → LangItems → List (Option AstPtr) → List Pair → List Origin
array_origins file items syntaxes pairs = bare ∷ elements_origins file items syntaxes pairs

-- a block at this origin of the `let`s, the orphans and the template
abbrev pub let_origins : Origin → HirFileId → LangItems → List (Option AstPtr) → List (List Origin) → List (List Origin) → List Pair → List Origin
let_origins here file items syntaxes args orphans pairs = here ∷ (tuple_origins args ++ (array_origins file items syntaxes pairs ++ statements_origins orphans (new_origins here (bare ∷ []))))

-- the same, or without arguments the template alone behind the orphans
abbrev pub with_arguments_origins : Origin → HirFileId → LangItems → List (Option AstPtr) → List (List Origin) → List (List Origin) → List Pair → List Origin
with_arguments_origins here file items syntaxes [] orphans pairs = behind_origins here orphans (new_origins here (bare ∷ []))
with_arguments_origins here file items syntaxes (arg ∷ args) orphans pairs = let_origins here file items syntaxes (arg ∷ args) orphans pairs

-- `Arguments::from_str(TEXT)`: the call at this origin, the function and the text
abbrev pub from_str_origins : Origin → List Origin
from_str_origins here = here ∷ bare ∷ bare ∷ []

-- a text behind all arguments as statements
abbrev pub text_origins : Origin → List (List Origin) → List Origin
text_origins here args = behind_origins here args (from_str_origins here)

-- the code of a format call at this pointer of a file, given where each argument stands, and the origins of the arguments and of the orphans
abbrev pub format_origins : HirFileId → LangItems → AstPtr → List (Option AstPtr) → List (List Origin) → List (List Origin) → List (Write Reference) → List Origin
format_origins file items ptr syntaxes args orphans pieces =
    cond (has_placeholder pieces) (with_arguments_origins (from_source file (Some ptr)) file items syntaxes args orphans (pairs_of pieces)) (text_origins (from_source file (Some ptr)) args)
