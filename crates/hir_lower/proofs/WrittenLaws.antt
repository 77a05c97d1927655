-- The written arguments of a call, one more of them placed.
use Rattle.std.specs.Prelude.{◌≡◌, ℕ, ◌+◌, ◌<◌, ◌≤◌, List, [], ◌∷◌, ◌++◌, length, map, take, Option, Some, None, refl}
use Rattle.std.proofs.Common.{sym, ◌∙◌, ap, ap₂, subst, arith, append_assoc, append-nil, length-append, get_or}
use Rattle.std.proofs.lemmas.List.{take_more, map-append}
use Rattle.sym_core.specs.declared.files.HirFileId.{HirFileId}
use Rattle.syn_trees.specs.declared.format_call.FormatArgSyntax.{FormatArgSyntax}
use Rattle.hir_store.specs.declared.ids.ExprId.{ExprId}
use Rattle.hir_store.specs.declared.store.ExpressionStore.{ExpressionStore}
use Rattle.hir_store.specs.Unfolding.{tree_at}
use Rattle.hir_store.specs.PartsBelow.{AllBelow}
use Rattle.hir_build.specs.Frame.{Frame}
use Rattle.hir_build.specs.Building.{Builds}
use Rattle.hir_build.specs.Origins.{origins_at}
use Rattle.hir_build.proofs.Origins.{origins_later}
use Rattle.hir_build.proofs.Within.{below_later}
use Rattle.hir_fmt.specs.Arguments.{no_arguments, with_argument, explicit_count, listed}
use Rattle.hir_fmt.specs.declared.format_args.FormatArgument.{FormatArgument}
use Rattle.hir_fmt.specs.declared.format_args.FormatArguments.{FormatArguments}
use Rattle.format_code.specs.FormatCall.{name_at, names_from}
use Rattle.format_code.specs.CallCode.{written_tree}
use Rattle.hir_lower.specs.FormatArgs.{exprs_of, syntaxes_of}
use Rattle.hir_lower.specs.Written.{written_syntax, written_origins, kind_for, IsWritten, AreWritten}

-- Lists with one more behind them

exprs_of-append : (xs ys : List FormatArgument) → exprs_of (xs ++ ys) ≡ exprs_of xs ++ exprs_of ys
exprs_of-append xs ys = map-append (λ (arg : FormatArgument). arg.expr) xs ys

syntaxes_of-append : (xs ys : List FormatArgument) → syntaxes_of (xs ++ ys) ≡ syntaxes_of xs ++ syntaxes_of ys
syntaxes_of-append xs ys = map-append (λ (arg : FormatArgument). arg.syntax) xs ys

names_from-append : (at : ℕ) (xs ys : List FormatArgSyntax) → names_from at (xs ++ ys) ≡ names_from at xs ++ names_from (at + length xs) ys
names_from-append at [] ys = ap (λ n. names_from n ys) (omega arith)
names_from-append at (x ∷ xs) ys =
    ap (λ names. name_at x.name at ++ names) (names_from-append (at + 1) xs ys ∙ ap (λ n. names_from (at + 1) xs ++ names_from n ys) (omega arith))
    ∙ sym (append_assoc (name_at x.name at) (names_from (at + 1) xs) (names_from (at + length (x ∷ xs)) ys))

pub below_both : (limit : ℕ) (xs ys : List ExprId) → AllBelow limit xs → AllBelow limit ys → AllBelow limit (xs ++ ys)
below_both limit [] ys are more = more
below_both limit (x ∷ xs) ys are more = (are.0, below_both limit xs ys are.1 more)

-- Older expressions

-- trees and origins of older expressions stay
pub trees_later : {old new : Frame} {most lets : ℕ} → Builds old new most lets → (ids : List ExprId) → AllBelow (length old.store.exprs) ids → map (tree_at new.store) ids ≡ map (tree_at old.store) ids
trees_later builds [] below = refl
trees_later builds (id ∷ ids) below = ap₂ (λ t ts. t ∷ ts) (builds.trees id below.0) (trees_later builds ids below.1)

pub all_origins_later : {old new : Frame} {most lets : ℕ} → Builds old new most lets → (ids : List ExprId) → AllBelow (length old.store.exprs) ids → map (origins_at new.store) ids ≡ map (origins_at old.store) ids
all_origins_later builds [] below = refl
all_origins_later {old} {new} builds (id ∷ ids) below = ap₂ (λ os more. os ∷ more) (origins_later old.store new.store id builds.grows below.0) (all_origins_later builds ids below.1)

-- a store only grows
pub longer : {old new : Frame} {most lets : ℕ} → Builds old new most lets → length old.store.exprs ≤ length new.store.exprs
longer {old} {new} builds = let e = ap length builds.grows.exprs.1 ∙ length-append old.store.exprs builds.grows.exprs.0 in omega (arith, e)

-- what the arguments are in a store that grew
pub written_later : {old new : Frame} {most lets : ℕ} → Builds old new most lets → (file : HirFileId) (written : List FormatArgSyntax) (args : FormatArguments)
    → AreWritten old.store file written args → AreWritten new.store file written args
written_later {old} {new} builds file written args are = record {
  explicit = are.explicit;
  count = are.count;
  names = are.names;
  syntaxes = are.syntaxes;
  within = below_later (length old.store.exprs) (length new.store.exprs) (exprs_of args.arguments) (longer builds) are.within;
  trees = trees_later builds (exprs_of args.arguments) are.within ∙ are.trees;
  origins = all_origins_later builds (exprs_of args.arguments) are.within ∙ are.origins;
}

-- no arguments
pub written_none : (store : ExpressionStore) (file : HirFileId) → AreWritten store file [] no_arguments
written_none store file = record { explicit = refl; count = refl; names = refl; syntaxes = refl; within = tt; trees = refl; origins = refl }

explicit_one : (name : Option (List ℕ)) → explicit_count (kind_for name) ≡ 1
explicit_one None = refl
explicit_one (Some name) = refl

listed_one : (name : Option (List ℕ)) (place : ℕ) → listed (kind_for name) place ≡ name_at name place
listed_one None place = refl
listed_one (Some name) place = refl

-- an argument more
pub written_more : (store : ExpressionStore) (file : HirFileId) (written : List FormatArgSyntax) (args : FormatArguments) (syntax : FormatArgSyntax) (arg : FormatArgument)
    → AreWritten store file written args → IsWritten store file syntax arg → AreWritten store file (written ++ syntax ∷ []) (with_argument args arg)
written_more store file written args syntax arg are is = record {
  explicit = ap₂ (λ m n. m + n) are.explicit (ap explicit_count is.kind ∙ explicit_one syntax.name) ∙ sym (length-append written (syntax ∷ []));
  count = length-append args.arguments (arg ∷ []) ∙ ap (λ n. n + 1) are.count ∙ sym (length-append written (syntax ∷ []));
  names = ap₂ (λ xs ys. xs ++ ys) are.names (ap₂ listed is.kind are.count ∙ listed_one syntax.name (length written))
      ∙ ap (λ names. names_from 0 written ++ names) (sym (append-nil (name_at syntax.name (length written))) ∙ ap (λ n. name_at syntax.name n ++ []) (omega arith))
      ∙ sym (names_from-append 0 written (syntax ∷ []));
  syntaxes = syntaxes_of-append args.arguments (arg ∷ []) ∙ ap₂ (λ xs ys. xs ++ ys ∷ []) are.syntaxes is.syntax ∙ sym (map-append written_syntax written (syntax ∷ []));
  within = subst (AllBelow (length store.exprs)) (sym ids) (below_both (length store.exprs) (exprs_of args.arguments) (arg.expr ∷ []) are.within (is.placed.stands.within, tt));
  trees = ap (map (tree_at store)) ids ∙ map-append (tree_at store) (exprs_of args.arguments) (arg.expr ∷ [])
      ∙ ap₂ (λ ts t. ts ++ t ∷ []) are.trees is.placed.stands.tree ∙ sym (map-append written_tree written (syntax ∷ []));
  origins = ap (map (origins_at store)) ids ∙ map-append (origins_at store) (exprs_of args.arguments) (arg.expr ∷ [])
      ∙ ap₂ (λ os more. os ++ more ∷ []) are.origins is.placed.comes ∙ sym (map-append (written_origins file) written (syntax ∷ []));
}
  where
    ids : exprs_of (args.arguments ++ arg ∷ []) ≡ exprs_of args.arguments ++ arg.expr ∷ []
    ids = exprs_of-append args.arguments (arg ∷ [])

-- a turn of the loop: one more of the written arguments
pub written_turn : {begun old new : Frame} {most lets : ℕ} (written : List FormatArgSyntax) (i : ℕ) (syntax : FormatArgSyntax) (args more : FormatArguments) (arg : FormatArgument)
    → i < length written → syntax ≡ get_or written i syntax → Builds begun old i 0 → Builds old new most lets → more ≡ with_argument args arg
    → AreWritten old.store begun.file (take i written) args → IsWritten new.store old.file syntax arg → AreWritten new.store begun.file (take (i + 1) written) more
written_turn {begun} {old} {new} written i syntax args more arg within at first builds added are is =
    subst (λ xs. AreWritten new.store begun.file xs more) (sym (take_more written i syntax within ∙ ap (λ (x : FormatArgSyntax). take i written ++ x ∷ []) (sym at)))
    (subst (AreWritten new.store begun.file (take i written ++ syntax ∷ [])) (sym added)
    (written_more new.store begun.file (take i written) args syntax arg (written_later builds begun.file (take i written) args are) (subst (λ file. IsWritten new.store file syntax arg) first.file is)))
