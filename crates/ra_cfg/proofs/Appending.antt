-- What appending leaves of the atoms and the answers that are kept.
use Rattle.std.proofs.Common.{◌≡◌, ℕ, Bool, true, ◌||◌, cond, List, [], ◌∷◌, ◌⊎◌, inl, inr, Some, Option, refl, sym, ap, subst, ◌∙◌}
use Rattle.std.specs.List.{AllZip}
use Rattle.std.specs.List.Sorted.{IsStrictlySortedBy}
use Rattle.std.specs.Map.{keys_of, update_all}
use Rattle.std.specs.Ordering.{nat_cmp, eq_by_cmp}
use Rattle.std.specs.Cmp.{eq_by_cmp_equiv}
use Rattle.std.specs.Cmp.Lexicographic.{slice_cmp, nat_list_cmp_total}
use Rattle.std.specs.BTreeSet as kept
use Rattle.std.specs.BTreeMap as kept_map
use Rattle.std.specs.FinSet as set
use Rattle.std.specs.FinMap as finite
use Rattle.std.proofs.lemmas.List.Elements.{same_from_all_zip}
use Rattle.std.proofs.lemmas.Map.Entries.{entries_from_clone}
use Rattle.ra_cfg.specs.contracts.cfg_expr.CfgAtomClone.TheImpl as atom_clone
use Rattle.ra_cfg.specs.declared.cfg_expr.CfgAtom.{CfgAtom}
use Rattle.ra_cfg.specs.declared.cfg_expr.CfgAtom.TheVariants.{Flag, KeyValue}
use Rattle.ra_cfg.specs.AtomOrder.{atom_total, same_atom, same_text}
use Rattle.ra_cfg.specs.Options.{OptionSet, atom_cmp, true_flag, with_answers, appended, IsSettable}
use Rattle.ra_cfg.proofs.OptionSets.{options, kept_answer, only_other}
use Rattle.ra_cfg.proofs.Kept.{answers_kept}

-- the set of what is kept after an append is the union
pub set_of_append : (old other new : kept.BTreeSet CfgAtom) → kept.InsertsAll atom_cmp old other.keys new → set.from_list {R = atom_cmp} new.keys ≡ set.union (set.from_list old.keys) (set.from_list other.keys)
set_of_append old other new inserts =
    set.same_set atom_total same_atom _ _ (λ q.
    set.contains-from_list atom_total new.keys q
    ∙ inserts.0 q
    ∙ (λ i. sym (set.contains-from_list atom_total old.keys q) i || sym (set.contains-from_list atom_total other.keys q) i)
    ∙ sym (set.contains-union atom_total (set.from_list old.keys) (set.from_list other.keys) q))

-- a copy of an atom is the atom
pub atom_copied : (a copy : CfgAtom) → (atom_clone.ghosts).is_clone a copy → copy ≡ a
atom_copied (Flag x) (Flag y) is = ap Flag is
atom_copied (KeyValue k v) (KeyValue l w) is = λ i. KeyValue (is.0 i) (is.1 i)
atom_copied (Flag x) (KeyValue k v) is = absurd is
atom_copied (KeyValue k v) (Flag x) is = absurd is

-- copies of atoms, and of answers, are the originals
pub atoms_copied : (atoms copies : List CfgAtom) → AllZip (atom_clone.ghosts).is_clone atoms copies → copies ≡ atoms
atoms_copied atoms copies all = same_from_all_zip (atom_clone.ghosts).is_clone atoms copies all atom_copied

pub answers_copied : (answers copies : List (List ℕ × Bool)) → AllZip (λ p q. (q.0 ≡ p.0) × (q.1 ≡ p.1)) answers copies → copies ≡ answers
answers_copied = entries_from_clone (λ x y. y ≡ x) (λ x y. y ≡ x) (λ x y e. e) (λ x y e. e)

-- what a map answers where answers are put in
get-with_answers : (m : finite.FinMap (slice_cmp nat_cmp) Bool) (answers : List (List ℕ × Bool)) (q : List ℕ) →
    finite.get (with_answers m answers) q ≡ update_all (eq_by_cmp (slice_cmp nat_cmp)) (finite.get m) answers q
get-with_answers m [] q = refl
get-with_answers m (e ∷ rest) q =
    get-with_answers (finite.insert m e.0 e.1) rest q
    ∙ ap (λ (f : List ℕ → Option Bool). update_all (eq_by_cmp (slice_cmp nat_cmp)) f rest q)
    (λ i text. (finite.get-insert nat_list_cmp_total m e.0 e.1 text ∙ ap (λ b. cond b (Some e.1) (finite.get m text)) ((eq_by_cmp_equiv nat_list_cmp_total).symm text e.0)) i)

-- the map of what is kept after an append has the other's answers over the older ones
pub map_of_append : (old other new : kept_map.BTreeMap (List ℕ) Bool) → kept_map.InsertsAll (slice_cmp nat_cmp) old other.entries new → IsStrictlySortedBy (slice_cmp nat_cmp) (keys_of other.entries) →
    finite.from_entries {R = slice_cmp nat_cmp} new.entries ≡ with_answers (finite.from_entries old.entries) (finite.entries (finite.from_entries {R = slice_cmp nat_cmp} other.entries))
map_of_append old other new inserts ordered =
    finite.same_map nat_list_cmp_total same_text _ _ (λ q.
    sym (kept_answer new.entries q)
    ∙ inserts.0 q
    ∙ ap (λ (f : List ℕ → Option Bool). update_all (eq_by_cmp (slice_cmp nat_cmp)) f other.entries q) (λ i text. kept_answer old.entries text i)
    ∙ sym (get-with_answers (finite.from_entries old.entries) other.entries q)
    ∙ ap (λ answers. finite.get (with_answers (finite.from_entries old.entries) answers) q) (sym (answers_kept other.entries ordered)))

-- the union of settable sets is settable
pub settable_union : (s t : set.FinSet atom_cmp) → IsSettable s → IsSettable t → IsSettable (set.union s t)
settable_union s t is so = record {
  holds_true = set.contains-union atom_total s t true_flag ∙ ap (λ b. b || set.contains t true_flag) is.holds_true;
  no_other = λ a there reserved.
      let which : (set.contains s a ≡ true) ⊎ (set.contains t a ≡ true) = only_other _ _ (sym (set.contains-union atom_total s t a) ∙ there) in
      elim which as (λ _. a ≡ true_flag) [ inl mine ↦ is.no_other a mine reserved | inr theirs ↦ so.no_other a theirs reserved ];
}

-- what is kept after copies take in the other's is what appending leaves
pub options_of_append : (old copy other new : kept.BTreeSet CfgAtom) (olds copies others news : kept_map.BTreeMap (List ℕ) Bool) (before more : OptionSet) →
    copy.keys ≡ old.keys → kept.InsertsAll atom_cmp copy other.keys new →
    copies.entries ≡ olds.entries → kept_map.InsertsAll (slice_cmp nat_cmp) copies others.entries news → IsStrictlySortedBy (slice_cmp nat_cmp) (keys_of others.entries) →
    options (set.from_list old.keys) (finite.from_entries olds.entries) ≡ before → options (set.from_list other.keys) (finite.from_entries others.entries) ≡ more →
    options (set.from_list new.keys) (finite.from_entries news.entries) ≡ appended before more
options_of_append old copy other new olds copies others news before more copied inserts recopied reinserts ordered seen shown =
    (λ i. options (set_of_append copy other new inserts i) (map_of_append copies others news reinserts ordered i))
    ∙ (λ i. appended (options (set.from_list (copied i)) (finite.from_entries (recopied i))) (options (set.from_list other.keys) (finite.from_entries others.entries)))
    ∙ (λ i. appended (seen i) (shown i))

pub settable_append : (old copy other new : kept.BTreeSet CfgAtom) → copy.keys ≡ old.keys → kept.InsertsAll atom_cmp copy other.keys new →
    IsSettable (set.from_list old.keys) → IsSettable (set.from_list other.keys) → IsSettable (set.from_list new.keys)
settable_append old copy other new copied inserts is so =
    subst IsSettable (sym (set_of_append copy other new inserts ∙ ap (λ keys. set.union (set.from_list {R = atom_cmp} keys) (set.from_list other.keys)) copied)) (settable_union _ _ is so)
