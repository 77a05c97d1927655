-- Whatever is done to options, the flag `true` stays set, and no other reserved atom comes in.
use Rattle.std.proofs.Common.{◌≡◌, ℕ, Bool, true, false, if◌then◌else◌, List, [], ◌∷◌, refl, sym, subst, ◌∙◌}
use Rattle.std.specs.List.Sorted.{IsStrictlySortedBy}
use Rattle.std.specs.Map.{keys_of}
use Rattle.std.specs.Ordering.{nat_cmp}
use Rattle.std.specs.Cmp.Lexicographic.{slice_cmp}
use Rattle.std.specs.FinSet as set
use Rattle.ra_cfg.specs.declared.cfg_expr.CfgAtom.{CfgAtom}
use Rattle.ra_cfg.specs.Diff.{Diff, with_diff}
use Rattle.ra_cfg.specs.Hashable.{IsOfOptions}
use Rattle.ra_cfg.specs.Options.{OptionSet, IsReserved, IsSettable, atom_cmp, is_reserved, name_of, with_atom, with_free, with_all, without_free, without_all, appended}
use Rattle.ra_cfg.proofs.Appending.{settable_union}
use Rattle.ra_cfg.proofs.OptionSets.{options, settable_insert, settable_remove}
use Rattle.ra_cfg.proofs.Reserved.{reserved_is}

-- a name that is not told as reserved is not
not_reserved : (name : List ℕ) → is_reserved name ≡ false → IsReserved name → ⊥
not_reserved name told reserved = let both : false ≡ true = sym told ∙ reserved_is name reserved in cc

pub settable-with_free : (o : OptionSet) (a : CfgAtom) → IsSettable o.atoms → IsSettable (with_free o a).atoms
settable-with_free o a is =
    elim (is_reserved (name_of a)) as (λ b. is_reserved (name_of a) ≡ b → IsSettable (if b then o else with_atom o a).atoms) [
      | true ↦ λ told. is
      | false ↦ λ told. settable_insert o.atoms a is (not_reserved (name_of a) told)
    ] refl

settable-without_free : (o : OptionSet) (a : CfgAtom) → IsSettable o.atoms → IsSettable (without_free o a).atoms
settable-without_free o a is =
    elim (is_reserved (name_of a)) as (λ b. is_reserved (name_of a) ≡ b → IsSettable (if b then o else options (set.remove o.atoms a) o.versions).atoms) [
      | true ↦ λ told. is
      | false ↦ λ told. settable_remove o.atoms a is (not_reserved (name_of a) told)
    ] refl

pub settable-with_all : (o : OptionSet) (atoms : List CfgAtom) → IsSettable o.atoms → IsSettable (with_all o atoms).atoms
settable-with_all o [] is = is
settable-with_all o (a ∷ rest) is = settable-with_all (with_free o a) rest (settable-with_free o a is)

settable-without_all : (o : OptionSet) (atoms : List CfgAtom) → IsSettable o.atoms → IsSettable (without_all o atoms).atoms
settable-without_all o [] is = is
settable-without_all o (a ∷ rest) is = settable-without_all (without_free o a) rest (settable-without_free o a is)

pub settable-with_diff : (o : OptionSet) (diff : Diff) → IsSettable o.atoms → IsSettable (with_diff o diff).atoms
settable-with_diff o diff is = settable-without_all (with_all o diff.enabled) diff.disabled (settable-with_all o diff.enabled is)

pub settable-appended : (o other : OptionSet) → IsSettable o.atoms → IsSettable other.atoms → IsSettable (appended o other).atoms
settable-appended o other is so = settable_union o.atoms other.atoms is so

-- copies of what options keep are a listing of some options
pub copied_of_options : (keys atoms : List CfgAtom) (entries versions : List (List ℕ × Bool)) → atoms ≡ keys → versions ≡ entries →
    IsStrictlySortedBy atom_cmp keys → IsStrictlySortedBy (slice_cmp nat_cmp) (keys_of entries) → IsSettable (set.from_list keys) → IsOfOptions (record { atoms = atoms; versions = versions })
copied_of_options keys atoms entries versions same alike sorted ordered is = record {
  sorted = subst (IsStrictlySortedBy atom_cmp) (sym same) sorted;
  settable = subst (λ as_list. IsSettable (set.from_list as_list)) (sym same) is;
  answers = subst (λ as_list. IsStrictlySortedBy (slice_cmp nat_cmp) (keys_of as_list)) (sym alike) ordered;
}
