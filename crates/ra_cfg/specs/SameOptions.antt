-- Whether two options are equal.
use Rattle.std.specs.Prelude.{◌≡◌, ℕ, Bool, true, false, ◌&&◌, List, nat_eq, refl}
use Rattle.std.proofs.Common.{ap, sym, ◌∙◌}
use Rattle.std.specs.Bool.{Decides, beq}
use Rattle.std.specs.Cmp.{IsEquivalence, decided, booleans_Decides, both_ways}
use Rattle.std.specs.Cmp.Lexicographic.{pointwise, pointwise_decides, bytes_decides}
use Rattle.std.specs.FinSet as set
use Rattle.std.specs.FinMap as map
use Rattle.ra_cfg.specs.AtomOrder.{atom_total, same_atom}
use Rattle.ra_cfg.specs.Options.{OptionSet, atom_cmp}

-- whether two answers are for the same version, and the same
abbrev pub same_answer : List ℕ × Bool → List ℕ × Bool → Bool
same_answer p q = pointwise nat_eq p.0 q.0 && beq p.1 q.1

-- whether two sets have the same atoms
abbrev pub same_atoms : set.FinSet atom_cmp → set.FinSet atom_cmp → Bool
same_atoms s t = set.is_subset s t && set.is_subset t s

-- whether two options have the same atoms and the same answers
abbrev pub same_options : OptionSet → OptionSet → Bool
same_options o other = same_atoms o.atoms other.atoms && pointwise same_answer (map.entries o.versions) (map.entries other.versions)

first_so : (a b : Bool) → (a && b) ≡ true → a ≡ true
first_so true b e = refl
first_so false b e = e

second_so : (a b : Bool) → (a && b) ≡ true → b ≡ true
second_so true b e = e
second_so false b e = absurd cc

both_so : (a b : Bool) → a ≡ true → b ≡ true → (a && b) ≡ true
both_so true b e f = f
both_so false b e f = e

-- two facts that are each decided are decided together
pub both_decided : {P Q : Type 0} (a b : Bool) → Decides a P → Decides b Q → Decides (a && b) (P × Q)
both_decided a b p q = (λ e. (p.0 (first_so a b e), q.0 (second_so a b e)), λ r. both_so a b (p.1 r.0) (q.1 r.1))

pub same_answer_is : (p q : List ℕ × Bool) → Decides (same_answer p q) (p ≡ q)
same_answer_is p q =
    let parts = both_decided (pointwise nat_eq p.0 q.0) (beq p.1 q.1) (bytes_decides p.0 q.0) (booleans_Decides p.1 q.1) in
    (λ e i. ((parts.0 e).0 i, (parts.0 e).1 i), λ e. parts.1 (ap (λ r. r.0) e, ap (λ r. r.1) e))

itself_subset : (s t : set.FinSet atom_cmp) → s ≡ t → set.is_subset s t ≡ true
itself_subset s t e = set.contains-is_subset atom_total s t (λ q one. sym (ap (λ u. set.contains u q) e) ∙ one)

-- sets with the same atoms are equal
pub same_atoms_is : (s t : set.FinSet atom_cmp) → Decides (same_atoms s t) (s ≡ t)
same_atoms_is s t = (
  λ e. set.same_set atom_total same_atom s t (λ q. both_ways _ _
      (set.is_subset-contains atom_total s t (first_so (set.is_subset s t) (set.is_subset t s) e) q)
      (set.is_subset-contains atom_total t s (second_so (set.is_subset s t) (set.is_subset t s) e) q)),
  λ e. both_so (set.is_subset s t) (set.is_subset t s) (itself_subset s t e) (itself_subset t s (sym e)),
)

-- options with the same atoms and the same answers are equal
pub same_options_is : (o other : OptionSet) → Decides (same_options o other) (o ≡ other)
same_options_is o other =
    let answers = pointwise_decides same_answer_is (map.entries o.versions) (map.entries other.versions) in
    let parts = both_decided (same_atoms o.atoms other.atoms) (pointwise same_answer (map.entries o.versions) (map.entries other.versions)) (same_atoms_is o.atoms other.atoms) answers in (
      λ e i. record { atoms = (parts.0 e).0 i; versions = map.same_entries_map o.versions other.versions (parts.0 e).1 i },
      λ e. parts.1 (ap (λ (p : OptionSet). p.atoms) e, ap (λ (p : OptionSet). map.entries p.versions) e),
    )

pub same_options_equiv : IsEquivalence same_options
same_options_equiv = decided same_options same_options_is
