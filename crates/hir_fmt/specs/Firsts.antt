-- Where the first argument of a name stands.
use Rattle.std.specs.Prelude.{◌≡◌, ℕ, Bool, List, Option}
use Rattle.std.specs.Option.{option_or}
use Rattle.std.proofs.Common.{ap}
use Rattle.std.specs.Bool.{Decides, then_some}
use Rattle.std.specs.Cmp.{unsigned_Decides}
use Rattle.std.specs.Cmp.Lexicographic.{bytes_decides}
use Rattle.std.specs.Map.{lookup}
use Rattle.std.specs.HashMap.{HashMap, get}
use Rattle.sym_core.specs.declared.name.Name.{Name}
use Rattle.sym_core.specs.declared.name.Name.TheVariants.{Text, TupleField, Fresh}
use Rattle.sym_core.specs.contracts.name.NamePartialEq.TheImpl as name_eq
use Rattle.hir_fmt.specs.declared.format_args.FormatArguments.{FormatArguments}
use Rattle.hir_fmt.specs.Arguments.{AreWithin}

-- whether two names are the same
abbrev pub same_name : Name → Name → Bool
same_name = (name_eq.ghosts).eq

-- it is true exactly of equal names
pub same_name_is : (m n : Name) → Decides (same_name m n) (m ≡ n)
same_name_is (Text s) (Text t) = (λ e. ap Text ((bytes_decides s t).0 e), λ e. (bytes_decides s t).1 cc)
same_name_is (TupleField m) (TupleField n) = (λ e. ap TupleField ((unsigned_Decides m n).0 e), λ e. (unsigned_Decides m n).1 cc)
same_name_is (Fresh m) (Fresh n) = (λ e. ap Fresh ((unsigned_Decides m n).0 e), λ e. (unsigned_Decides m n).1 cc)
same_name_is (Text s) (TupleField n) = (λ e. absurd cc, λ e. absurd cc)
same_name_is (Text s) (Fresh n) = (λ e. absurd cc, λ e. absurd cc)
same_name_is (TupleField m) (Text t) = (λ e. absurd cc, λ e. absurd cc)
same_name_is (TupleField m) (Fresh n) = (λ e. absurd cc, λ e. absurd cc)
same_name_is (Fresh m) (Text t) = (λ e. absurd cc, λ e. absurd cc)
same_name_is (Fresh m) (TupleField n) = (λ e. absurd cc, λ e. absurd cc)

-- the place of the first argument that bears a name, of all names with their places
abbrev pub first_place : List (Name × ℕ) → Name → Option ℕ
first_place names name = lookup (same_name name) names

module _ {S : Type 0} where
  -- a map has for each name the place of the first argument that bears it
  abbrev pub HasFirsts : List (Name × ℕ) → HashMap Name ℕ S → Type 0
  HasFirsts names places = (name : Name) → get same_name places name ≡ first_place names name

  -- a name is entered with a place, unless it had one
  abbrev pub EntersFirst : HashMap Name ℕ S → Name → ℕ → HashMap Name ℕ S → Type 0
  EntersFirst old name place new = (other : Name) → get same_name new other ≡ option_or (get same_name old other) (then_some (same_name other name) place)

  -- the counts and the places lie within the arguments, and the map has the first place of each name
  pub record IsCollected (args : FormatArguments) (places : HashMap Name ℕ S) : Type 0 where
    pub within : AreWithin args
    pub firsts : HasFirsts args.names places
