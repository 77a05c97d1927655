-- Where the first argument of a name stands, as names are entered.
use Rattle.std.proofs.Common.{◌≡◌, ℕ, Bool, true, false, ◌<◌, List, [], ◌∷◌, ◌++◌, length, Option, Some, None, IfSome, refl, sym, ap, subst, ◌∙◌}
use Rattle.std.specs.Prelude.{cond}
use Rattle.std.specs.Option.{option_or}
use Rattle.std.specs.Bool.{then_some}
use Rattle.std.specs.Map.{lookup}
use Rattle.std.specs.HashMap.{HashMap}
use Rattle.std.proofs.lemmas.Map.Entries.{All-lookup}
use Rattle.sym_core.specs.declared.name.Name.{Name}
use Rattle.hir_fmt.specs.declared.format_args.FormatArguments.{FormatArguments}
use Rattle.hir_fmt.specs.Arguments.{AreWithin}
use Rattle.hir_fmt.specs.Firsts.{same_name, first_place, HasFirsts, EntersFirst}

last_alone : {X : Type 0} (b : Bool) (x : X) → cond b (Some x) None ≡ then_some b x
last_alone true x = refl
last_alone false x = refl

last_behind : {X : Type 0} (b : Bool) (x : X) (rest more found : Option X) → rest ≡ option_or found more → cond b (Some x) rest ≡ option_or (cond b (Some x) found) more
last_behind true x rest more found e = refl
last_behind false x rest more found e = e

-- of names with one more behind them, the last counts where none of the others is it
pub lookup_last : {K X : Type 0} (test : K → Bool) (entries : List (K × X)) (k : K) (x : X) → lookup test (entries ++ (k, x) ∷ []) ≡ option_or (lookup test entries) (then_some (test k) x)
lookup_last test [] k x = last_alone (test k) x
lookup_last test (entry ∷ entries) k x =
    last_behind (test entry.0) entry.1 (lookup test (entries ++ (k, x) ∷ [])) (then_some (test k) x) (lookup test entries) (lookup_last test entries k x)

module _ {S : Type 0} where
  -- what was entered behind all names has the first place of each
  pub firsts_entered : (names : List (Name × ℕ)) (old new : HashMap Name ℕ S) (name : Name) (place : ℕ) → HasFirsts names old → EntersFirst old name place new → HasFirsts (names ++ (name, place) ∷ []) new
  firsts_entered names old new name place firsts enters other =
      enters other ∙ ap (λ found. option_or found (then_some (same_name other name) place)) (firsts other) ∙ sym (lookup_last (same_name other) names name place)

  -- equal entries have the first places of the same names
  pub firsts_unchanged : (names : List (Name × ℕ)) (old new : HashMap Name ℕ S) → HasFirsts names old → new.entries ≡ old.entries → HasFirsts names new
  firsts_unchanged names old new firsts same other = ap (λ entries. lookup (same_name other) entries) same ∙ firsts other

  -- the same of a list that is those names with one more behind them
  pub firsts_pushed : (names more : List (Name × ℕ)) (old new : HashMap Name ℕ S) (name : Name) (place : ℕ) → HasFirsts names old → EntersFirst old name place new → more ≡ names ++ (name, place) ∷ [] → HasFirsts more new
  firsts_pushed names more old new name place firsts enters pushed other = firsts_entered names old new name place firsts enters other ∙ ap (λ listed. first_place listed other) (sym pushed)

-- the first place of a name lies within the arguments
pub first_below : (args : FormatArguments) (name : Name) (place : ℕ) → AreWithin args → first_place args.names name ≡ Some place → place < length args.arguments
first_below args name place within found =
    subst (λ first. IfSome first (λ n. n < length args.arguments)) found (All-lookup (λ n. n < length args.arguments) (same_name name) args.names within.places)
