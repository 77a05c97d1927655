-- What an atom that is put in leaves: a reserved name or key changes nothing.
use Rattle.std.proofs.Common.{◌≡◌, ℕ, Bool, true, false, ◌||◌, List, inl, inr, refl, codes}
use Rattle.std.specs.Str.{bytes_eq}
use Rattle.std.proofs.lemmas.Slice.Eq.{bytes_eq-Decides}
use Rattle.ra_cfg.specs.declared.cfg_expr.CfgAtom.{CfgAtom}
use Rattle.ra_cfg.specs.Options.{OptionSet, IsReserved, is_reserved, name_of, with_atom, with_free, without_free}
use Rattle.std.specs.FinSet as set
use Rattle.ra_cfg.proofs.OptionSets.{options}

first_true : (a b : Bool) → a ≡ true → (a || b) ≡ true
first_true a b e = rw e refl

second_true : (a b : Bool) → b ≡ true → (a || b) ≡ true
second_true true b e = refl
second_true false b e = e

both_false : (a b : Bool) → (a ≡ true → ⊥) → (b ≡ true → ⊥) → (a || b) ≡ false
both_false true b former latter = absurd (former refl)
both_false false true former latter = absurd (latter refl)
both_false false false former latter = refl

-- a reserved name is told as one
pub reserved_is : (name : List ℕ) → IsReserved name → is_reserved name ≡ true
reserved_is name reserved = elim reserved as (λ _. is_reserved name ≡ true) [
  | inl e ↦ first_true (bytes_eq name (codes "true")) (bytes_eq name (codes "false")) ((bytes_eq-Decides name (codes "true")).1 e)
  | inr e ↦ second_true (bytes_eq name (codes "true")) (bytes_eq name (codes "false")) ((bytes_eq-Decides name (codes "false")).1 e)
]

-- and no other
pub free_is : (name : List ℕ) → (IsReserved name → ⊥) → is_reserved name ≡ false
free_is name free = both_false (bytes_eq name (codes "true")) (bytes_eq name (codes "false"))
    (λ e. free (inl ((bytes_eq-Decides name (codes "true")).0 e)))
    (λ e. free (inr ((bytes_eq-Decides name (codes "false")).0 e)))

-- an atom with a reserved name or key changes nothing
pub kept_free : (o : OptionSet) (a : CfgAtom) → IsReserved (name_of a) → with_free o a ≡ o
kept_free o a reserved = rw (reserved_is (name_of a) reserved) refl

-- another atom is put in
pub new_free : (o : OptionSet) (a : CfgAtom) → (IsReserved (name_of a) → ⊥) → with_free o a ≡ with_atom o a
new_free o a free = rw (free_is (name_of a) free) refl

-- an atom with a reserved name or key stays
pub stays_free : (o : OptionSet) (a : CfgAtom) → IsReserved (name_of a) → without_free o a ≡ o
stays_free o a reserved = rw (reserved_is (name_of a) reserved) refl

-- another atom is taken out
pub gone_free : (o : OptionSet) (a : CfgAtom) → (IsReserved (name_of a) → ⊥) → without_free o a ≡ options (set.remove o.atoms a) o.versions
gone_free o a free = rw (free_is (name_of a) free) refl
