use Rattle.std.proofs.Common.{◌≡◌, List, [], ◌∷◌, ◌++◌, ◌∙◌}
use Rattle.ra_cfg.proofs.SameDiffs.{one_is_left}
use Rattle.ra_cfg_tests.proofs.tests.one_is_left.Goals as goal

-- a list to which one element is pushed
pushed : {X : Type 0} (old new whole : List X) (x y : X) → old ≡ whole → new ≡ old ++ x ∷ [] → x ≡ y → new ≡ whole ++ y ∷ []
pushed old new whole x y so_far is same = is ∙ (λ i. so_far i ++ same i ∷ [])

pub returns : goal.returns
returns c =
    let first = pushed _ _ [] _ _ c.new-enable.ensures.items c.in_ok-push.ensures.items c.in_ok-flag.ensures in
    let second = pushed _ _ _ _ _ first c.in_ok-push-2.ensures.items c.in_ok-flag-2.ensures in
    let third = pushed _ _ _ _ _ second c.in_ok-push-3.ensures.items c.in_ok-flag-3.ensures in
    let other = pushed _ _ [] _ _ c.new-disable.ensures.items c.in_ok-push-4.ensures.items c.in_ok-flag-4.ensures in
    c.len-2.ensures.value ∙ one_is_left c.new.result _ _ third other c.new.ensures.is_diff c.new.ensures.enabled c.new.ensures.disabled
