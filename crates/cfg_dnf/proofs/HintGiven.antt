-- The hint that is made is that of the conjunction.
use Rattle.std.proofs.Common.{◌≡◌, Bool, true, false, not, ◌&&◌, if◌then◌else◌, List, [], ◌++◌, Some, None, refl, sym, ap, ◌∙◌}
use Rattle.std.specs.List.{list_any, list_all, filter_map}
use Rattle.ra_cfg.specs.Options.{OptionSet}
use Rattle.ra_cfg.specs.Diff.{Diff, IsDiff, HasOnly, stands_in}
use Rattle.ra_cfg.proofs.SameDiffs.{same_diffs}
use Rattle.cfg_dnf.specs.declared.literal.Literal.{Literal}
use Rattle.cfg_dnf.specs.declared.counted.FalseAtoms.{FalseAtoms}
use Rattle.cfg_dnf.specs.Gathering.{TakesIn}
use Rattle.cfg_dnf.specs.Hints.{holds, is_settled, is_true, is_fixed, contradicts, plain_atom, negated_atom, is_among, wants, wants_off, hint, hint_if}
use Rattle.cfg_dnf.proofs.InOrder.{among_in_order}
use Rattle.cfg_dnf.proofs.Wanted.{among_wants, among_wants_off}
use Rattle.cfg_dnf.proofs.HintLaws.{Kept, is_kept, hint_is_diff, apart_by}

only : (w d : Bool) → (w ≡ true → d ≡ false) → (w && not d) ≡ w
only true d h = ap not (h refl)
only false d h = refl

only_off : (w d : Bool) → (w ≡ true → d ≡ false) → (d && not w) ≡ d
only_off true d h = ap (λ d. d && false) (h refl) ∙ sym (h refl)
only_off false true h = refl
only_off false false h = refl

pub hint_made : (options : OptionSet) (c : List Literal) (old found : FalseAtoms) (diff : Diff) (settled all on off contrary : Bool) →
    settled ≡ list_all (is_settled options) c → settled ≡ true → all ≡ list_all (is_true options) c → all ≡ false → contrary ≡ contradicts c → contrary ≡ false → old.enabled.items ≡ [] → old.disabled.items ≡ [] → TakesIn options c old found →
    off ≡ list_any is_fixed found.enabled.items → off ≡ false → on ≡ list_any is_fixed found.disabled.items → on ≡ false →
    IsDiff diff → HasOnly found.disabled.items found.enabled.items diff.enabled → HasOnly found.enabled.items found.disabled.items diff.disabled → Some diff ≡ hint_if options c
hint_made options c old found diff settled all on off contrary hs es ha ea hc ec none_on none_off taken hoff eoff hon eon is enabled disabled =
    let on_is : found.disabled.items ≡ wants options c = taken.disabled ∙ ap (λ l. l ++ wants options c) none_off in
    let off_is : found.enabled.items ≡ wants_off options c = taken.enabled ∙ ap (λ l. l ++ wants_off options c) none_on in
    let kept : Kept options c = record {
      settled = sym hs ∙ es;
      apart = sym hc ∙ ec;
      not_all = sym ha ∙ ea;
      free_on = ap (list_any is_fixed) (sym on_is) ∙ sym hon ∙ eon;
      free_off = ap (list_any is_fixed) (sym off_is) ∙ sym hoff ∙ eoff;
    } in
    let apart : (a : _) → is_among (wants options c) a ≡ true → is_among (wants_off options c) a ≡ false =
    λ a. apart_by (is_among (filter_map plain_atom c) a) (is_among (filter_map negated_atom c) a) (holds options a) (is_among (wants options c) a) (is_among (wants_off options c) a) (among_wants options c a) (among_wants_off options c a) in
    let same : diff ≡ hint options c = same_diffs diff (hint options c) is (hint_is_diff options c)
    (λ a. enabled a ∙ (λ i. stands_in a (on_is i) && not (stands_in a (off_is i))) ∙ only (is_among (wants options c) a) (is_among (wants_off options c) a) (apart a) ∙ sym (among_in_order a (wants options c)))
    (λ a. disabled a ∙ (λ i. stands_in a (off_is i) && not (stands_in a (on_is i))) ∙ only_off (is_among (wants options c) a) (is_among (wants_off options c) a) (apart a) ∙ sym (among_in_order a (wants_off options c))) in
    ap Some same ∙ sym (ap (λ b. if b then Some (hint options c) else None) (is_kept options c kept))
