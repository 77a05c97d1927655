-- Copies of a collector's parts are the originals.
use Rattle.std.proofs.Common.{◌≡◌, ℕ, sym, ap, subst, ◌∙◌}
use Rattle.std.specs.HashMap.{HashMap, IsClone}
use Rattle.std.proofs.lemmas.Map.Entries.{entries_from_clone}
use Rattle.sym_core.specs.contracts.name.NameClone.TheImpl as name_clone
use Rattle.sym_core.specs.declared.name.Name.{Name}
use Rattle.sym_core.specs.declared.name.Name.TheVariants.{Text, TupleField, Fresh}
use Rattle.hir_fmt.specs.declared.format_args.FormatArguments.{FormatArguments}
use Rattle.hir_fmt.specs.Arguments.{AreWithin}
use Rattle.hir_fmt.specs.Firsts.{IsCollected, first_place}
use Rattle.hir_fmt.proofs.FirstPlaces.{firsts_unchanged}

-- a copy of a name is the name
pub name_copied : (name copy : Name) → (name_clone.ghosts).is_clone name copy → copy ≡ name
name_copied (Text s) (Text t) is = ap Text is
name_copied (TupleField m) (TupleField n) is = ap TupleField is
name_copied (Fresh m) (Fresh n) is = ap Fresh is
name_copied (Text s) (TupleField n) is = absurd is
name_copied (Text s) (Fresh n) is = absurd is
name_copied (TupleField m) (Text t) is = absurd is
name_copied (TupleField m) (Fresh n) is = absurd is
name_copied (Fresh m) (Text t) is = absurd is
name_copied (Fresh m) (TupleField n) is = absurd is

module _ {S : Type 0} where
  -- a copy of a map of names to places has its entries
  pub places_copied : (places copy : HashMap Name ℕ S) → IsClone (name_clone.ghosts).is_clone (λ place other. other ≡ place) places copy → copy.entries ≡ places.entries
  places_copied places copy = entries_from_clone (name_clone.ghosts).is_clone (λ place other. other ≡ place) name_copied (λ place other e. e) places.entries copy.entries

  -- copies of all parts are collected
  pub collected_copied : (args copy : FormatArguments) (places others : HashMap Name ℕ S) → IsCollected args places → copy ≡ args → others.entries ≡ places.entries → IsCollected copy others
  collected_copied args copy places others collected same entries = record {
    within = subst AreWithin (sym same) collected.within;
    firsts = λ name. firsts_unchanged args.names places others collected.firsts entries name ∙ ap (λ (a : FormatArguments). first_place a.names name) (sym same);
  }
