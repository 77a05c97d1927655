-- What was gathered is the reason.
use Rattle.std.proofs.Common.{◌≡◌, Bool, true, false, ◌||◌, if◌then◌else◌, [], ◌++◌, Some, None, refl, sym, ap, subst, ◌∙◌}
use Rattle.std.specs.List.{list_any}
use Rattle.ra_cfg.specs.declared.cfg_expr.CfgExpr.{CfgExpr}
use Rattle.ra_cfg.specs.Options.{OptionSet}
use Rattle.cfg_dnf.specs.declared.counted.FalseAtoms.{FalseAtoms}
use Rattle.cfg_dnf.specs.Form.{form}
use Rattle.cfg_dnf.specs.Gathering.{GathersIf, GathersSo}
use Rattle.cfg_dnf.specs.Hints.{Reason, reason, reason_of, in_order, is_open, is_true, wants, wants_off}
use Rattle.cfg_dnf.specs.Leaves.{counted, passes}
use Rattle.cfg_dnf.proofs.ReasonLaws.{same_reasons}

or_so : (a : Bool) → (a || true) ≡ true
or_so true = refl
or_so false = refl

module _ (options : OptionSet) (expr : CfgExpr) where
  -- where a conjunction is true there is no reason
  pub none_where_true : (told : Bool) → told ≡ passes (is_true options) (form expr false) → told ≡ true → None ≡ reason options expr
  none_where_true told is yes_told =
      sym (same_reasons options expr ∙ ap (λ b. if list_any (is_open options) (counted (form expr false)) || b then None else Some (reason_of options (counted (form expr false)))) (sym is ∙ yes_told)
      ∙ ap (λ b. if b then None else Some (reason_of options (counted (form expr false)))) (or_so (list_any (is_open options) (counted (form expr false)))))

  -- where a literal is open there is none
  pub none_where_open : (told : Bool) (old new : FalseAtoms) → told ≡ false → GathersIf options (counted (form expr false)) old new told → None ≡ reason options expr
  none_where_open told old new e gathers =
      let is_some_open : list_any (is_open options) (counted (form expr false)) ≡ true = subst (GathersIf options (counted (form expr false)) old new) e gathers in
      sym (same_reasons options expr ∙ ap (λ b. if b || passes (is_true options) (form expr false) then None else Some (reason_of options (counted (form expr false)))) is_some_open)

  -- otherwise what was gathered is the reason
  pub some_gathered : (told on : Bool) (old new : FalseAtoms) (found : Reason) → on ≡ passes (is_true options) (form expr false) → on ≡ false → told ≡ true → GathersIf options (counted (form expr false)) old new told →
      old.enabled.items ≡ [] → old.disabled.items ≡ [] → found.enabled ≡ in_order new.enabled.items → found.disabled ≡ in_order new.disabled.items → Some found ≡ reason options expr
  some_gathered told on old new found is not_on e gathers none_on none_off enabled disabled =
      let so : GathersSo options (counted (form expr false)) old new = subst (GathersIf options (counted (form expr false)) old new) e gathers in
      sym (same_reasons options expr
      ∙ ap (λ b. if b || passes (is_true options) (form expr false) then None else Some (reason_of options (counted (form expr false)))) so.closed
      ∙ ap (λ b. if b then None else Some (reason_of options (counted (form expr false)))) (sym is ∙ not_on)
      ∙ ap Some (λ i. record {
        enabled = ap in_order (sym (so.taken.enabled ∙ ap (λ l. l ++ wants_off options (counted (form expr false))) none_on)) i;
        disabled = ap in_order (sym (so.taken.disabled ∙ ap (λ l. l ++ wants options (counted (form expr false))) none_off)) i;
      })
      ∙ ap Some (λ i. record { enabled = sym enabled i; disabled = sym disabled i }))
