-- The atoms of options, as they are kept in order, are the set that contracts speak of; and what one more atom leaves of it.
use Rattle.std.proofs.Common.{◌≡◌, ℕ, Bool, true, false, cond, List, [], ◌∷◌, ◌++◌, ◌⊎◌, Some, ◌||◌, ◌&&◌, not, refl, sym, ap, subst, ◌∙◌, codes}
use Rattle.std.specs.List.{list_any}
use Rattle.std.specs.Map.{lookup}
use Rattle.std.proofs.Common.{inl, inr}
use Rattle.std.specs.Ordering.{nat_cmp, eq_by_cmp}
use Rattle.std.specs.Cmp.{eq_by_cmp_equiv, Equal-is}
use Rattle.std.specs.Cmp.Lexicographic.{slice_cmp, nat_list_cmp_total}
use Rattle.std.specs.BTreeSet as kept
use Rattle.std.specs.BTreeMap as kept_map
use Rattle.std.specs.FinSet as set
use Rattle.std.specs.FinMap as finite
use Rattle.ra_cfg.specs.declared.cfg_expr.CfgAtom.{CfgAtom}
use Rattle.ra_cfg.specs.declared.cfg_expr.CfgAtom.TheVariants.{Flag}
use Rattle.ra_cfg.specs.AtomOrder.{atom_total, same_atom, same_text}
use Rattle.ra_cfg.specs.Options.{OptionSet, atom_cmp, true_flag, name_of, with_atom, with_free, with_all, IsReserved, IsSettable}

-- options, of their parts
abbrev pub options : set.FinSet atom_cmp → finite.FinMap (slice_cmp nat_cmp) Bool → OptionSet
options atoms versions = record { atoms = atoms; versions = versions }

false_true : false ≡ true → ⊥
false_true e = cc

cond_or : (a b : Bool) → cond a true b ≡ (a || b)
cond_or true b = refl
cond_or false b = refl

-- the kept atoms after an insertion are the set with one more atom
pub set_of_insert : (old new : kept.BTreeSet CfgAtom) (a : CfgAtom) → kept.Updates atom_cmp old new a true → set.from_list {R = atom_cmp} new.keys ≡ set.insert (set.from_list old.keys) a
set_of_insert old new a updates =
    set.same_set atom_total same_atom _ _ (λ q.
    set.contains-from_list atom_total new.keys q
    ∙ updates.0 q
    ∙ cond_or (eq_by_cmp atom_cmp a q) (list_any (eq_by_cmp atom_cmp q) old.keys)
    ∙ ap (λ b. b || list_any (eq_by_cmp atom_cmp q) old.keys) ((eq_by_cmp_equiv atom_total).symm a q)
    ∙ ap (λ b. eq_by_cmp atom_cmp q a || b) (sym (set.contains-from_list atom_total old.keys q))
    ∙ sym (set.contains-insert atom_total (set.from_list old.keys) a q))

or_true : (a : Bool) → (a || true) ≡ true
or_true true = refl
or_true false = refl

pub only_other : (a b : Bool) → (a || b) ≡ true → (a ≡ true) ⊎ (b ≡ true)
only_other true b e = inl refl
only_other false b e = inr e

-- a settable set stays so where an atom is set whose name or key is not reserved
pub settable_insert : (atoms : set.FinSet atom_cmp) (added : CfgAtom) → IsSettable atoms → (IsReserved (name_of added) → ⊥) → IsSettable (set.insert atoms added)
settable_insert atoms added is free = record {
  holds_true = set.contains-insert atom_total atoms added true_flag ∙ ap (λ b. eq_by_cmp atom_cmp true_flag added || b) is.holds_true ∙ or_true _;
  no_other = λ a there reserved.
      let which : (eq_by_cmp atom_cmp a added ≡ true) ⊎ (set.contains atoms a ≡ true) = only_other _ _ (sym (set.contains-insert atom_total atoms added a) ∙ there) in
      elim which as (λ _. a ≡ true_flag) [
        | inl new ↦ absurd (free (subst (λ q. IsReserved (name_of q)) (same_atom a added ((Equal-is _).0 new)) reserved))
        | inr old ↦ is.no_other a old reserved
      ];
}

-- the flag `true` alone is settable
pub settable_true : IsSettable (set.insert set.empty true_flag)
settable_true = record {
  holds_true = set.contains-insert atom_total set.empty true_flag true_flag ∙ ap (λ b. b || set.contains (set.empty {R = atom_cmp}) true_flag) ((eq_by_cmp_equiv atom_total).refl true_flag);
  no_other = λ a there reserved.
      let which : (eq_by_cmp atom_cmp a true_flag ≡ true) ⊎ (set.contains (set.empty {R = atom_cmp}) a ≡ true) = only_other _ _ (sym (set.contains-insert atom_total set.empty true_flag a) ∙ there) in
      elim which as (λ _. a ≡ true_flag) [
        | inl new ↦ same_atom a true_flag ((Equal-is _).0 new)
        | inr old ↦ absurd (false_true (sym (set.contains-empty atom_cmp a) ∙ old))
      ];
}

-- the first atom that is kept, where it is the flag `true`
pub settable_first : (old new : kept.BTreeSet CfgAtom) (name : List ℕ) → old.keys ≡ [] → name ≡ codes "true" → kept.Updates atom_cmp old new (Flag name) true → IsSettable (set.from_list new.keys)
settable_first old new name none is updates =
    subst IsSettable (sym (set_of_insert old new (Flag name) updates ∙ ap (λ keys. set.insert (set.from_list keys) (Flag name)) none ∙ ap (λ n. set.insert (set.empty {R = atom_cmp}) (Flag n)) is)) settable_true

-- an atom that is kept, where its name or key is not reserved
pub settable_later : (old new : kept.BTreeSet CfgAtom) (added : CfgAtom) → (IsReserved (name_of added) → ⊥) → kept.Updates atom_cmp old new added true → IsSettable (set.from_list old.keys) → IsSettable (set.from_list new.keys)
settable_later old new added free updates is = subst IsSettable (sym (set_of_insert old new added updates)) (settable_insert (set.from_list old.keys) added is free)

-- options are the ones before with one more atom, where the atoms that are kept are
pub options_of_insert : (old new : kept.BTreeSet CfgAtom) (versions : finite.FinMap (slice_cmp nat_cmp) Bool) (before : OptionSet) (a : CfgAtom) → kept.Updates atom_cmp old new a true →
    options (set.from_list old.keys) versions ≡ before → options (set.from_list new.keys) versions ≡ with_atom before a
options_of_insert old new versions before a updates is = ap (λ atoms. options atoms versions) (set_of_insert old new a updates) ∙ ap (λ o. with_atom o a) is

-- the answer that is kept for a version is the one of the map
pub lookup_find : (entries : List (List ℕ × Bool)) (text : List ℕ) → lookup (kept_map.is_at (slice_cmp nat_cmp text)) entries ≡ finite.find (slice_cmp nat_cmp) text entries
lookup_find [] text = refl
lookup_find (e ∷ entries) text = ap (cond (eq_by_cmp (slice_cmp nat_cmp) text e.0) (Some e.1)) (lookup_find entries text)

pub kept_answer : (entries : List (List ℕ × Bool)) (text : List ℕ) → lookup (kept_map.is_at (slice_cmp nat_cmp text)) entries ≡ finite.get (finite.from_entries {R = slice_cmp nat_cmp} entries) text
kept_answer entries text = lookup_find entries text ∙ sym (finite.get-from_entries nat_list_cmp_total entries text)

-- the map of the entries that are kept after an insertion is the one before with one more answer
pub map_of_insert : (old new : kept_map.BTreeMap (List ℕ) Bool) (text : List ℕ) (answer : Bool) → kept_map.Updates (slice_cmp nat_cmp) old new text (Some answer) →
    finite.from_entries {R = slice_cmp nat_cmp} new.entries ≡ finite.insert (finite.from_entries old.entries) text answer
map_of_insert old new text answer updates =
    finite.same_map nat_list_cmp_total same_text _ _ (λ q.
    sym (kept_answer new.entries q)
    ∙ updates.0 q
    ∙ ap (λ b. cond b (Some answer) (lookup (kept_map.is_at (slice_cmp nat_cmp q)) old.entries)) ((eq_by_cmp_equiv nat_list_cmp_total).symm text q)
    ∙ ap (cond (eq_by_cmp (slice_cmp nat_cmp) q text) (Some answer)) (kept_answer old.entries q)
    ∙ sym (finite.get-insert nat_list_cmp_total (finite.from_entries old.entries) text answer q))

-- atoms that are put in one after the other, and one more
pub with_all_last : (o : OptionSet) (atoms : List CfgAtom) (a : CfgAtom) → with_all o (atoms ++ a ∷ []) ≡ with_free (with_all o atoms) a
with_all_last o [] a = refl
with_all_last o (b ∷ rest) a = with_all_last (with_free o b) rest a

not_true : (b : Bool) → (b ≡ true → ⊥) → b ≡ false
not_true true no_way = absurd (no_way refl)
not_true false no_way = refl

second_of_and : (a b : Bool) → (a && b) ≡ true → b ≡ true
second_of_and true b e = e
second_of_and false b e = absurd (false_true e)

-- a settable set stays so where an atom is taken out whose name or key is not reserved
pub settable_remove : (atoms : set.FinSet atom_cmp) (taken : CfgAtom) → IsSettable atoms → (IsReserved (name_of taken) → ⊥) → IsSettable (set.remove atoms taken)
settable_remove atoms taken is free = record {
  holds_true =
      let other : eq_by_cmp atom_cmp true_flag taken ≡ false = not_true _ (λ e. free (subst (λ q. IsReserved (name_of q)) (same_atom true_flag taken ((Equal-is _).0 e)) (inl refl))) in
      set.contains-remove atom_total atoms taken true_flag ∙ ap (λ b. not b && set.contains atoms true_flag) other ∙ is.holds_true;
  no_other = λ a there reserved. is.no_other a (second_of_and (not (eq_by_cmp atom_cmp a taken)) (set.contains atoms a) (sym (set.contains-remove atom_total atoms taken a) ∙ there)) reserved;
}

not_or : (a b : Bool) → cond a false b ≡ (not a && b)
not_or true b = refl
not_or false b = refl

-- the kept atoms after a removal are the set without the atom
pub set_of_remove : (old new : kept.BTreeSet CfgAtom) (a : CfgAtom) → kept.Updates atom_cmp old new a false → set.from_list {R = atom_cmp} new.keys ≡ set.remove (set.from_list old.keys) a
set_of_remove old new a updates =
    set.same_set atom_total same_atom _ _ (λ q.
    set.contains-from_list atom_total new.keys q
    ∙ updates.0 q
    ∙ not_or (eq_by_cmp atom_cmp a q) (list_any (eq_by_cmp atom_cmp q) old.keys)
    ∙ ap (λ b. not b && list_any (eq_by_cmp atom_cmp q) old.keys) ((eq_by_cmp_equiv atom_total).symm a q)
    ∙ ap (λ b. not (eq_by_cmp atom_cmp q a) && b) (sym (set.contains-from_list atom_total old.keys q))
    ∙ sym (set.contains-remove atom_total (set.from_list old.keys) a q))

pub settable_less : (old new : kept.BTreeSet CfgAtom) (taken : CfgAtom) → (IsReserved (name_of taken) → ⊥) → kept.Updates atom_cmp old new taken false → IsSettable (set.from_list old.keys) → IsSettable (set.from_list new.keys)
settable_less old new taken free updates is = subst IsSettable (sym (set_of_remove old new taken updates)) (settable_remove (set.from_list old.keys) taken is free)

-- options are the ones before without the atom, where the atoms that are kept are
pub options_of_remove : (old new : kept.BTreeSet CfgAtom) (versions : finite.FinMap (slice_cmp nat_cmp) Bool) (before : OptionSet) (a : CfgAtom) → kept.Updates atom_cmp old new a false →
    options (set.from_list old.keys) versions ≡ before → options (set.from_list new.keys) versions ≡ options (set.remove before.atoms a) before.versions
options_of_remove old new versions before a updates is = ap (λ atoms. options atoms versions) (set_of_remove old new a updates) ∙ ap (λ (o : OptionSet). options (set.remove o.atoms a) o.versions) is
