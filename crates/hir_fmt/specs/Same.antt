-- Whether two format calls are the same.
use Rattle.std.specs.Prelude.{◌≡◌, ℕ, Bool, true, false, ◌&&◌, Option, Some, None, nat_eq, refl}
use Rattle.std.proofs.Common.{ap}
use Rattle.std.specs.Bool.{Decides}
use Rattle.std.specs.Cmp.{IsEquivalence, decided, unsigned_Decides, first_so, second_so, and_equiv, on_equiv}
use Rattle.std.specs.Cmp.Lexicographic.{pointwise, pointwise_decides, lists_equiv}
use Rattle.std.specs.Option.{option_eq}
use Rattle.sym_core.specs.declared.name.Name.{Name}
use Rattle.sym_core.specs.declared.files.AstPtr.{AstPtr}
use Rattle.sym_core.specs.contracts.files.AstPtrPartialEq.TheImpl as ptr_eq
use Rattle.la_arena.specs.Idx.{number_of}
use Rattle.hir_store.specs.declared.ids.ExprId.{ExprId}
use Rattle.hir_store.specs.contracts.ids.ExprIdPartialEq.TheImpl as id_eq
use Rattle.hir_store.specs.contracts.ids.ExprIdEq.TheImpl.Laws as id_laws
use Rattle.hir_fmt.specs.declared.format_args.FormatArgs.{FormatArgs}
use Rattle.hir_fmt.specs.declared.format_args.FormatArguments.{FormatArguments}
use Rattle.hir_fmt.specs.declared.format_args.FormatArgument.{FormatArgument}
use Rattle.hir_fmt.specs.declared.format_args.FormatArgumentKind.{FormatArgumentKind}
use Rattle.hir_fmt.specs.declared.format_args.FormatArgumentKind.TheVariants.{Normal, Named, Captured}
use Rattle.hir_fmt.specs.contracts.format_args.FormatArgsPiecePartialEq.TheImpl as piece_eq
use Rattle.hir_fmt.specs.contracts.format_args.FormatArgsPieceEq.TheImpl.Laws as piece_laws
use Rattle.hir_fmt.specs.contracts.format_args.FormatArgumentPartialEq.TheImpl as argument_eq
use Rattle.hir_fmt.specs.contracts.format_args.FormatArgumentKindPartialEq.TheImpl as kind_eq
use Rattle.hir_fmt.specs.Firsts.{same_name, same_name_is}

-- whether two names with their places are the same
abbrev pub same_entry : Name × ℕ → Name × ℕ → Bool
same_entry p q = same_name p.0 q.0 && nat_eq p.1 q.1

-- whether two lists of arguments are the same, with their names and counts
abbrev pub same_arguments : FormatArguments → FormatArguments → Bool
same_arguments a b =
    pointwise (argument_eq.ghosts).eq a.arguments b.arguments
    && (nat_eq a.num_unnamed_args b.num_unnamed_args && (nat_eq a.num_explicit_args b.num_explicit_args && pointwise same_entry a.names b.names))

-- whether two format calls have the same template, arguments and orphans
abbrev pub same_call : FormatArgs → FormatArgs → Bool
same_call a b = pointwise (piece_eq.ghosts).eq a.template b.template && (same_arguments a.arguments b.arguments && pointwise (id_eq.ghosts).eq a.orphans b.orphans)

both_so : (a b : Bool) → a ≡ true → b ≡ true → (a && b) ≡ true
both_so true b e f = f
both_so false b e f = e

-- two facts that are each decided are decided together
both_decided : {P Q : Type 0} {a b : Bool} → Decides a P → Decides b Q → Decides (a && b) (P × Q)
both_decided {P} {Q} {a} {b} p q = (λ e. (p.0 (first_so a b e), q.0 (second_so a b e)), λ r. both_so a b (p.1 r.0) (q.1 r.1))

option_decided : {K : Type 0} {E : K → K → Bool} → ((x y : K) → Decides (E x y) (x ≡ y)) → (p q : Option K) → Decides (option_eq E p q) (p ≡ q)
option_decided each None None = (λ e. refl, λ e. refl)
option_decided each None (Some y) = (λ e. absurd cc, λ e. absurd cc)
option_decided each (Some x) None = (λ e. absurd cc, λ e. absurd cc)
option_decided each (Some x) (Some y) = (λ e. ap Some ((each x y).0 e), λ e. (each x y).1 cc)

kind_is : (k l : FormatArgumentKind) → Decides ((kind_eq.ghosts).eq k l) (k ≡ l)
kind_is Normal Normal = (λ e. refl, λ e. refl)
kind_is (Named m) (Named n) = (λ e. ap Named ((same_name_is m n).0 e), λ e. (same_name_is m n).1 cc)
kind_is (Captured m) (Captured n) = (λ e. ap Captured ((same_name_is m n).0 e), λ e. (same_name_is m n).1 cc)
kind_is Normal (Named n) = (λ e. absurd cc, λ e. absurd cc)
kind_is Normal (Captured n) = (λ e. absurd cc, λ e. absurd cc)
kind_is (Named m) Normal = (λ e. absurd cc, λ e. absurd cc)
kind_is (Named m) (Captured n) = (λ e. absurd cc, λ e. absurd cc)
kind_is (Captured m) Normal = (λ e. absurd cc, λ e. absurd cc)
kind_is (Captured m) (Named n) = (λ e. absurd cc, λ e. absurd cc)

id_is : (a b : ExprId) → Decides ((id_eq.ghosts).eq a b) (a ≡ b)
id_is a b =
    let number = unsigned_Decides (number_of a.raw) (number_of b.raw) in
    (λ e. ap (λ n. record { raw = record { 0 = n } }) (number.0 e), λ e. number.1 (ap (λ (id : ExprId). number_of id.raw) e))

ptr_is : (a b : AstPtr) → Decides ((ptr_eq.ghosts).eq a b) (a ≡ b)
ptr_is a b =
    let number = unsigned_Decides a.node b.node in
    (λ e. ap (λ n. record { node = n }) (number.0 e), λ e. number.1 (ap (λ (ptr : AstPtr). ptr.node) e))

argument_is : (a b : FormatArgument) → Decides ((argument_eq.ghosts).eq a b) (a ≡ b)
argument_is a b =
    let parts = both_decided (kind_is a.kind b.kind) (both_decided (id_is a.expr b.expr) (option_decided ptr_is a.syntax b.syntax)) in (
      λ e i. record { kind = (parts.0 e).0 i; expr = (parts.0 e).1.0 i; syntax = (parts.0 e).1.1 i },
      λ e. parts.1 (ap (λ (x : FormatArgument). x.kind) e, (ap (λ (x : FormatArgument). x.expr) e, ap (λ (x : FormatArgument). x.syntax) e)),
    )

entry_is : (p q : Name × ℕ) → Decides (same_entry p q) (p ≡ q)
entry_is p q =
    let parts = both_decided (same_name_is p.0 q.0) (unsigned_Decides p.1 q.1) in
    (λ e i. ((parts.0 e).0 i, (parts.0 e).1 i), λ e. parts.1 (ap (λ r. r.0) e, ap (λ r. r.1) e))

-- the test of arguments is true exactly where they are equal
pub same_arguments_is : (a b : FormatArguments) → Decides (same_arguments a b) (a ≡ b)
same_arguments_is a b =
    let counts = both_decided (unsigned_Decides a.num_explicit_args b.num_explicit_args) (pointwise_decides entry_is a.names b.names) in
    let parts = both_decided (pointwise_decides argument_is a.arguments b.arguments) (both_decided (unsigned_Decides a.num_unnamed_args b.num_unnamed_args) counts) in (
      λ e i. record { arguments = (parts.0 e).0 i; num_unnamed_args = (parts.0 e).1.0 i; num_explicit_args = (parts.0 e).1.1.0 i; names = (parts.0 e).1.1.1 i },
      λ e. parts.1 (ap (λ (x : FormatArguments). x.arguments) e, (ap (λ (x : FormatArguments). x.num_unnamed_args) e, (ap (λ (x : FormatArguments). x.num_explicit_args) e, ap (λ (x : FormatArguments). x.names) e))),
    )

pub same_arguments_equiv : IsEquivalence same_arguments
same_arguments_equiv = decided same_arguments same_arguments_is

pub same_call_equiv : IsEquivalence same_call
same_call_equiv =
    and_equiv (on_equiv (λ (x : FormatArgs). x.template) (lists_equiv piece_laws.laws-law))
    (and_equiv (on_equiv (λ (x : FormatArgs). x.arguments) same_arguments_equiv) (on_equiv (λ (x : FormatArgs). x.orphans) (lists_equiv id_laws.laws-law)))
