-- Options are the same where what they keep is the same.
use Rattle.std.proofs.Common.{◌≡◌, ◌↔◌, ℕ, Bool, true, false, ◌&&◌, List, refl, sym, ap, subst, ◌∙◌}
use Rattle.std.specs.List.Sorted.{IsStrictlySortedBy}
use Rattle.std.specs.Map.{keys_of}
use Rattle.std.specs.Ordering.{nat_cmp}
use Rattle.std.specs.Cmp.{both_ways}
use Rattle.std.specs.Cmp.Lexicographic.{slice_cmp, pointwise, pointwise_decides}
use Rattle.std.specs.FinSet as set
use Rattle.std.specs.FinMap as finite
use Rattle.ra_cfg.specs.contracts.cfg_expr.CfgAtomPartialEq.TheImpl as atom_eq
use Rattle.ra_cfg.specs.declared.cfg_expr.CfgAtom.{CfgAtom}
use Rattle.ra_cfg.specs.AtomOrder.{atom_eq_is}
use Rattle.ra_cfg.specs.Hashable.{Listing, IsListing}
use Rattle.ra_cfg.specs.Options.{OptionSet, atom_cmp}
use Rattle.ra_cfg.specs.SameOptions.{same_answer, same_atoms, same_atoms_is, same_options}
use Rattle.ra_cfg.proofs.OptionSets.{options}
use Rattle.ra_cfg.proofs.Kept.{same_kept, answers_kept}

-- sets that are kept in order are the same where the lists are
pub same_atoms_kept : (ks ls : List CfgAtom) → IsStrictlySortedBy atom_cmp ks → IsStrictlySortedBy atom_cmp ls → same_atoms (set.from_list ks) (set.from_list ls) ≡ pointwise (atom_eq.ghosts).eq ks ls
same_atoms_kept ks ls is so =
    let lists = pointwise_decides atom_eq_is ks ls in
    let sets = same_atoms_is (set.from_list ks) (set.from_list ls) in
    both_ways _ _ (λ e. lists.1 (same_kept ks ls is so (sets.0 e))) (λ e. sets.1 (ap (λ atoms. set.from_list {R = atom_cmp} atoms) (lists.0 e)))

-- options are the same where what they keep is
pub same_options_kept : (ks ls : List CfgAtom) (es fs : List (List ℕ × Bool)) (o other : OptionSet) →
    IsStrictlySortedBy atom_cmp ks → IsStrictlySortedBy atom_cmp ls → IsStrictlySortedBy (slice_cmp nat_cmp) (keys_of es) → IsStrictlySortedBy (slice_cmp nat_cmp) (keys_of fs) →
    options (set.from_list ks) (finite.from_entries es) ≡ o → options (set.from_list ls) (finite.from_entries fs) ≡ other →
    same_options o other ≡ (pointwise (atom_eq.ghosts).eq ks ls && pointwise same_answer es fs)
same_options_kept ks ls es fs o other is so are ore seen shown =
    sym (λ i. same_options (seen i) (shown i))
    ∙ (λ i. same_atoms_kept ks ls is so i && pointwise same_answer (answers_kept es are i) (answers_kept fs ore i))

pub first_holds : (a b : Bool) → a ≡ true → (a && b) ≡ b
first_holds true b e = refl
first_holds false b e = absurd cc

pub first_fails : (a b : Bool) → a ≡ false → (a && b) ≡ false
first_fails true b e = absurd cc
first_fails false b e = refl

-- what is kept is a listing of the options
pub listing_kept : (ks : List CfgAtom) (es : List (List ℕ × Bool)) (o : OptionSet) (listing : Listing) → IsStrictlySortedBy atom_cmp ks → IsStrictlySortedBy (slice_cmp nat_cmp) (keys_of es) →
    options (set.from_list ks) (finite.from_entries es) ≡ o → listing.atoms ≡ ks → listing.versions ≡ es → IsListing o listing
listing_kept ks es o listing is are seen atoms versions = record {
  sorted = subst (IsStrictlySortedBy atom_cmp) (sym atoms) is;
  atoms = ap (λ as_list. set.from_list {R = atom_cmp} as_list) atoms ∙ ap (λ (p : OptionSet). p.atoms) seen;
  versions = versions ∙ sym (answers_kept es are) ∙ ap (λ (p : OptionSet). finite.entries p.versions) seen;
}

-- two options have equal listings exactly where they are equal
pub listings_of : (o other : OptionSet) (l m : Listing) → IsListing o l → IsListing other m → (l ≡ m) ↔ (o ≡ other)
listings_of o other l m is so = (
  λ e i. record {
    atoms = (sym is.atoms ∙ ap (λ (k : Listing). set.from_list {R = atom_cmp} k.atoms) e ∙ so.atoms) i;
    versions = finite.same_entries_map o.versions other.versions (sym is.versions ∙ ap (λ (k : Listing). k.versions) e ∙ so.versions) i;
  },
  λ e i. record {
    atoms = same_kept l.atoms m.atoms is.sorted so.sorted (is.atoms ∙ ap (λ (p : OptionSet). p.atoms) e ∙ sym so.atoms) i;
    versions = (is.versions ∙ ap (λ (p : OptionSet). finite.entries p.versions) e ∙ sym so.versions) i;
  },
)
