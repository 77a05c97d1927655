use Rattle.std.proofs.Common.{◌≡◌, ℕ, List, length, codes, IfOk, string_bytes, sym, subst, arith}
use Rattle.cfg_dnf.proofs.TextSteps.{group_more}
use Rattle.cfg_dnf.proofs.conjunction_text.conjunction_text.Goals as goal

pub returns : goal.returns
returns c =
    let several : length c.args.literals.now ≡ 1 → ⊥ = λ h. omega arith in
    subst (λ (l : List ℕ). IfOk c.bracketed_text.result (λ text. string_bytes text ≡ l)) (sym (group_more (codes "all(") c.args.literals.now several)) c.bracketed_text.ensures
