-- Each hint works, and hints are complete.
use Rattle.std.proofs.Common.{◌≡◌, ℕ, Bool, true, false, not, ◌&&◌, ◌||◌, List, ◌⊎◌, inl, inr, refl, sym, ap, subst, ◌∙◌}
use Rattle.std.specs.Option.{option_map}
use Rattle.std.specs.List.{list_any, list_all, filter, filter_map}
use Rattle.std.specs.FinSet as set
use Rattle.std.specs.FinMap as finite
use Rattle.ra_cfg.specs.declared.cfg_expr.CfgAtom.{CfgAtom}
use Rattle.ra_cfg.specs.declared.cfg_expr.CfgExpr.{CfgExpr}
use Rattle.ra_cfg.specs.Options.{OptionSet, IsSettable, IsReserved, atom_cmp, is_reserved, name_of, true_flag}
use Rattle.ra_cfg.specs.Diff.{Diff, IsDiff, stands_in, with_diff}
use Rattle.ra_cfg.specs.Reading.{reads_true}
use Rattle.ra_cfg.proofs.DiffLaws.{diff_of_free, diff_of_reserved, diff_of_versions}
use Rattle.std.specs.Str.{bytes_eq}
use Rattle.std.proofs.lemmas.Slice.Eq.{bytes_eq-Decides}
use Rattle.std.proofs.Common.{codes}
use Rattle.cfg_dnf.specs.declared.literal.Leaf.TheVariants.{Atom, Invalid, Version}
use Rattle.cfg_dnf.specs.declared.literal.Literal.{Literal}
use Rattle.cfg_dnf.specs.declared.literal.Literal.TheVariants.{Plain, Negated}
use Rattle.cfg_dnf.specs.Conjunctions.{conjunctions}
use Rattle.cfg_dnf.specs.Hints.{holds, is_true, is_settled, is_fixed, plain_atom, negated_atom, wants, wants_off, is_among, contradicts, gives_hint, hint, hints}
use Rattle.cfg_dnf.specs.Laws.{Stands, HintsWork, HintsAreComplete, HasChanges, with_atoms}
use Rattle.cfg_dnf.specs.Truth.{SurelyTrue}
use Rattle.cfg_dnf.proofs.InOrder.{sorted_in_order, among_in_order}
use Rattle.cfg_dnf.proofs.Standing.{first_so, second_so, both_so, not_so, no_both, of_all, all_of, some_of, found, none_of, of_map, in_map, of_filter, in_filter}
use Rattle.cfg_dnf.proofs.Truths.{surely_if, surely_only}
use Rattle.cfg_dnf.proofs.Wanted.{none_among, none_pass, told_true, among_wants, among_wants_off, among_plain, among_negated, plain_among, negated_among}

not_true : (b : Bool) → not b ≡ true → b ≡ false
not_true true e = absurd cc
not_true false e = refl

is_not : (b : Bool) → b ≡ false → not b ≡ true
is_not true e = absurd cc
is_not false e = refl

either : (b : Bool) → (b ≡ true) ⊎ (b ≡ false)
either true = inl refl
either false = inr refl

pub record Kept (options : OptionSet) (c : List Literal) : Type 0 where
  pub settled : list_all (is_settled options) c ≡ true
  pub apart : contradicts c ≡ false
  pub not_all : list_all (is_true options) c ≡ false
  pub free_on : list_any is_fixed (wants options c) ≡ false
  pub free_off : list_any is_fixed (wants_off options c) ≡ false

kept_by : (options : OptionSet) (c : List Literal) (s a t d e : Bool) → list_all (is_settled options) c ≡ s → contradicts c ≡ a → list_all (is_true options) c ≡ t → list_any is_fixed (wants options c) ≡ d → list_any is_fixed (wants_off options c) ≡ e →
    ((s && not a) && (not t && (not d && not e))) ≡ true → Kept options c
kept_by options c s a t d e hs ha ht hd he h =
    let front = first_so (s && not a) (not t && (not d && not e)) h in
    let rest = second_so (s && not a) (not t && (not d && not e)) h in
    let last = second_so (not t) (not d && not e) rest in
    record {
      settled = hs ∙ first_so s (not a) front;
      apart = ha ∙ not_true a (second_so s (not a) front);
      not_all = ht ∙ not_true t (first_so (not t) (not d && not e) rest);
      free_on = hd ∙ not_true d (first_so (not d) (not e) last);
      free_off = he ∙ not_true e (second_so (not d) (not e) last);
    }

kept_of : (options : OptionSet) (c : List Literal) → gives_hint options c ≡ true → Kept options c
kept_of options c h = kept_by options c (list_all (is_settled options) c) (contradicts c) (list_all (is_true options) c) (list_any is_fixed (wants options c)) (list_any is_fixed (wants_off options c)) refl refl refl refl refl h

pub is_kept : (options : OptionSet) (c : List Literal) → Kept options c → gives_hint options c ≡ true
is_kept options c k =
    both_so (list_all (is_settled options) c && not (contradicts c)) (not (list_all (is_true options) c) && (not (list_any is_fixed (wants options c)) && not (list_any is_fixed (wants_off options c))))
    (both_so (list_all (is_settled options) c) (not (contradicts c)) k.settled (is_not (contradicts c) k.apart))
    (both_so (not (list_all (is_true options) c)) (not (list_any is_fixed (wants options c)) && not (list_any is_fixed (wants_off options c))) (is_not (list_all (is_true options) c) k.not_all)
    (both_so (not (list_any is_fixed (wants options c))) (not (list_any is_fixed (wants_off options c))) (is_not (list_any is_fixed (wants options c)) k.free_on) (is_not (list_any is_fixed (wants_off options c)) k.free_off)))

pub apart_by : (p n h w d : Bool) → w ≡ (p && not h) → d ≡ (n && h) → w ≡ true → d ≡ false
apart_by p n true w d hw hd e = no_both (p && false) (sym hw ∙ e) (and_none p)
  where
    and_none : (p : Bool) → (p && false) ≡ false
    and_none true = refl
    and_none false = refl
apart_by p true false w d hw hd e = hd
apart_by p false false w d hw hd e = hd

-- the values of one atom: p, n that it is plain and negated among the literals, h that it is set, w, d that it is enabled and
-- disabled, x that it is reserved, and v its new value
record At (p n h w d x v : Bool) : Type 0 where
  on : w ≡ (p && not h)
  off : d ≡ (n && h)
  apart : n ≡ true → p ≡ false
  free_on : w ≡ true → x ≡ false
  free_off : d ≡ true → x ≡ false
  fixed : x ≡ true → v ≡ h
  free : x ≡ false → v ≡ (w || (h && not d))

plain_on : (p n h w d x v : Bool) → At p n h w d x v → p ≡ true → v ≡ true
plain_on p n true w d true v at e = at.fixed refl
plain_on p n false w d true v at e = no_both true refl (at.free_on (at.on ∙ ap (λ p. p && true) e))
plain_on p n false w d false v at e = at.free refl ∙ ap (λ w. w || false) (at.on ∙ ap (λ p. p && true) e)
plain_on p true true w d false v at e = no_both p e (at.apart refl)
plain_on p false true w d false v at e = at.free refl ∙ ap (λ d. w || not d) at.off ∙ or_so w
  where
    or_so : (w : Bool) → (w || true) ≡ true
    or_so true = refl
    or_so false = refl

negated_off : (p n h w d x v : Bool) → At p n h w d x v → n ≡ true → v ≡ false
negated_off p n false w d true v at e = at.fixed refl
negated_off p n true w d true v at e = no_both true refl (at.free_off (at.off ∙ ap (λ n. n && true) e))
negated_off p n true w d false v at e =
    at.free refl ∙ ap (λ d. w || not d) (at.off ∙ ap (λ n. n && true) e) ∙ ap (λ w. w || false) (at.on ∙ ap (λ p. p && false) (at.apart e))
negated_off p n false w d false v at e = at.free refl ∙ ap (λ w. w || false) (at.on ∙ ap (λ p. p && true) (at.apart e))

module _ (options : OptionSet) (c : List Literal) where
  pub hint_is_diff : IsDiff (hint options c)
  hint_is_diff = record {
    enabled = sorted_in_order (wants options c);
    disabled = sorted_in_order (wants_off options c);
    apart = λ a e. apart_by (is_among (filter_map plain_atom c) a) (is_among (filter_map negated_atom c) a) (holds options a) (stands_in a (hint options c).enabled) (stands_in a (hint options c).disabled)
        (among_in_order a (wants options c) ∙ among_wants options c a) (among_in_order a (wants_off options c) ∙ among_wants_off options c a) e;
  }

  module _ (kept : Kept options c) where
    at_atom : (a : CfgAtom) → At (is_among (filter_map plain_atom c) a) (is_among (filter_map negated_atom c) a) (holds options a) (stands_in a (hint options c).enabled) (stands_in a (hint options c).disabled) (is_fixed a) (holds (with_diff options (hint options c)) a)
    at_atom a = record {
      on = among_in_order a (wants options c) ∙ among_wants options c a;
      off = among_in_order a (wants_off options c) ∙ among_wants_off options c a;
      apart = λ n. none_among (is_among (filter_map plain_atom c)) (filter_map negated_atom c) a kept.apart n;
      free_on = λ w. none_among is_fixed (wants options c) a kept.free_on (sym (among_in_order a (wants options c)) ∙ w);
      free_off = λ d. none_among is_fixed (wants_off options c) a kept.free_off (sym (among_in_order a (wants_off options c)) ∙ d);
      fixed = λ x. diff_of_reserved options (hint options c) a x;
      free = λ x. diff_of_free options (hint options c) a hint_is_diff x;
    }

    literal_on : (l : Literal) → Stands l c → is_settled options l ≡ true → is_true (with_diff options (hint options c)) l ≡ true
    literal_on (Plain (Atom a)) s e = told_true (holds (with_diff options (hint options c)) a) ∙ plain_on _ _ _ _ _ _ _ (at_atom a) (among_plain options c a s)
    literal_on (Plain Invalid) s e = absurd cc
    literal_on (Plain (Version text)) s e = ap (λ versions. reads_true (finite.get versions text)) (diff_of_versions options (hint options c)) ∙ e
    literal_on (Negated (Atom a)) s e = told_true (not (holds (with_diff options (hint options c)) a)) ∙ ap not (negated_off _ _ _ _ _ _ _ (at_atom a) (among_negated options c a s))
    literal_on (Negated Invalid) s e = absurd cc
    literal_on (Negated (Version text)) s e = ap (λ versions. reads_true (option_map not (finite.get versions text))) (diff_of_versions options (hint options c)) ∙ e

    all_on : list_all (is_true (with_diff options (hint options c))) c ≡ true
    all_on = all_of (is_true (with_diff options (hint options c))) c (λ l s. literal_on l s (of_all (is_settled options) l c s kept.settled))

-- where a hint comes from
from_hints : (options : OptionSet) (expr : CfgExpr) (diff : Diff) → Stands diff (hints options expr) → (c : List Literal) × Stands c (conjunctions expr) × Kept options c × (diff ≡ hint options c)
from_hints options expr diff s =
    let from = of_map (hint options) diff (filter (gives_hint options) (conjunctions expr)) s in
    let given = of_filter (gives_hint options) from.0 (conjunctions expr) from.1 in
    (from.0, given.0, kept_of options from.0 given.1, from.2)

-- each hint works
pub hints_work : HintsWork
hints_work = record {
  are_diffs = λ options expr diff s. let from = from_hints options expr diff s in subst IsDiff (sym from.3) (hint_is_diff options from.0);
  work = λ options expr diff s.
      let from = from_hints options expr diff s in
      subst (λ d. SurelyTrue (with_diff options d) expr) (sym from.3)
      (surely_if (with_diff options (hint options from.0)) expr (some_of (list_all (is_true (with_diff options (hint options from.0)))) from.0 (conjunctions expr) from.1 (all_on options from.0 from.2)));
}

-- what is reserved is told as it
reserved_so : (name : List ℕ) → is_reserved name ≡ true → IsReserved name
reserved_so name e =
    elim (either (bytes_eq name (codes "true"))) [
      | inl t ↦ inl ((bytes_eq-Decides name (codes "true")).0 t)
      | inr f ↦ inr ((bytes_eq-Decides name (codes "false")).0 (second_only (bytes_eq name (codes "true")) (bytes_eq name (codes "false")) f e))
    ]
  where
    second_only : (a b : Bool) → a ≡ false → (a || b) ≡ true → b ≡ true
    second_only true b f e = absurd cc
    second_only false b f e = e

module _ (options : OptionSet) (atoms : set.FinSet atom_cmp) (settable : IsSettable options.atoms) (aim : IsSettable atoms) (c : List Literal) (on : list_all (is_true (with_atoms options atoms)) c ≡ true) where
  plain_so : (a : CfgAtom) → is_among (filter_map plain_atom c) a ≡ true → set.contains atoms a ≡ true
  plain_so a h = sym (told_true (set.contains atoms a)) ∙ of_all (is_true (with_atoms options atoms)) (Plain (Atom a)) c (plain_among options c a h) on

  negated_so : (a : CfgAtom) → is_among (filter_map negated_atom c) a ≡ true → set.contains atoms a ≡ false
  negated_so a h = not_true (set.contains atoms a) (sym (told_true (not (set.contains atoms a))) ∙ of_all (is_true (with_atoms options atoms)) (Negated (Atom a)) c (negated_among options c a h) on)

  literal_settled : (l : Literal) → is_true (with_atoms options atoms) l ≡ true → is_settled options l ≡ true
  literal_settled (Plain (Atom a)) e = refl
  literal_settled (Plain Invalid) e = absurd cc
  literal_settled (Plain (Version text)) e = e
  literal_settled (Negated (Atom a)) e = refl
  literal_settled (Negated Invalid) e = absurd cc
  literal_settled (Negated (Version text)) e = e

  -- no reserved atom is on in one and off in the other
  same_fixed : (a : CfgAtom) (s t : set.FinSet atom_cmp) → IsSettable s → IsSettable t → set.contains s a ≡ true → set.contains t a ≡ false → is_fixed a ≡ false
  same_fixed a s t is so h k = not_so (is_fixed a) (λ x. no_both (set.contains t true_flag) so.holds_true (sym (ap (set.contains t) (is.no_other a h (reserved_so (name_of a) x))) ∙ k))

  wanted : (a : CfgAtom) → is_among (wants options c) a ≡ true → (is_among (filter_map plain_atom c) a ≡ true) × (holds options a ≡ false)
  wanted a h =
      let both : (is_among (filter_map plain_atom c) a && not (holds options a)) ≡ true = sym (among_wants options c a) ∙ h in
      (first_so (is_among (filter_map plain_atom c) a) (not (holds options a)) both, not_true (holds options a) (second_so (is_among (filter_map plain_atom c) a) (not (holds options a)) both))

  wanted_off : (a : CfgAtom) → is_among (wants_off options c) a ≡ true → (is_among (filter_map negated_atom c) a ≡ true) × (holds options a ≡ true)
  wanted_off a h =
      let both : (is_among (filter_map negated_atom c) a && holds options a) ≡ true = sym (among_wants_off options c a) ∙ h in
      (first_so (is_among (filter_map negated_atom c) a) (holds options a) both, second_so (is_among (filter_map negated_atom c) a) (holds options a) both)

  is_kept_so : list_all (is_true options) c ≡ false → Kept options c
  is_kept_so not_now = record {
    settled = all_of (is_settled options) c (λ l s. literal_settled l (of_all (is_true (with_atoms options atoms)) l c s on));
    apart = none_pass (is_among (filter_map plain_atom c)) (filter_map negated_atom c) (λ a n. not_so (is_among (filter_map plain_atom c) a) (λ p. no_both (set.contains atoms a) (plain_so a p) (negated_so a n)));
    not_all = not_now;
    free_on = none_pass is_fixed (wants options c) (λ a h. let w = wanted a h in same_fixed a atoms options.atoms aim settable (plain_so a w.0) w.1);
    free_off = none_pass is_fixed (wants_off options c) (λ a h. let w = wanted_off a h in same_fixed a options.atoms atoms settable aim w.1 (negated_so a w.0));
  }

  has_changes : HasChanges atoms (hint options c)
  has_changes = record {
    enabled = λ a h. plain_so a (wanted a (sym (among_in_order a (wants options c)) ∙ h)).0;
    disabled = λ a h. negated_so a (wanted_off a (sym (among_in_order a (wants_off options c)) ∙ h)).0;
  }

-- hints are complete
pub hints_are_complete : HintsAreComplete
hints_are_complete = record {
  complete = λ options expr atoms settable aim not_now on.
      let one = found (list_all (is_true (with_atoms options atoms))) (conjunctions expr) (surely_only (with_atoms options atoms) expr on) in
      let none : list_any (list_all (is_true options)) (conjunctions expr) ≡ false = not_so (list_any (list_all (is_true options)) (conjunctions expr)) (λ e. not_now (surely_if options expr e)) in
      let kept = is_kept_so options atoms settable aim one.0 one.2 (none_of (list_all (is_true options)) one.0 (conjunctions expr) one.1 none) in (
        hint options one.0,
        in_map (hint options) one.0 (filter (gives_hint options) (conjunctions expr)) (in_filter (gives_hint options) one.0 (conjunctions expr) one.1 (is_kept options one.0 kept)),
        has_changes options atoms settable aim one.0 one.2,
      );
}
