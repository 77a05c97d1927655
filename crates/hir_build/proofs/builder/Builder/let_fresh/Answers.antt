use Rattle.hir_build.proofs.Lets.{is_next, sound_binding, binding_built, sound_let, let_is, let_built}
use Rattle.hir_build.proofs.builder.Builder.let_fresh.Goals as goal

pub invariant_of-self-in_err-pat : goal.invariant_of-self-in_err-pat
invariant_of-self-in_err-pat c =
    let next = is_next c.self.inside.fresh c.args.number _ (rw (← c.self.view_is) at c.requires.number_free) c.max-self-inside.ensures in
    rw c.in_err-pat.ensures.err (sound_binding _ _ _ _ c.in_ok-binding.ensures.placed c.in_ok-binding.ensures.maps _ _ next c.self.invariant)

pub returns-in_err-pat-clause-builds : goal.returns-in_err-pat-clause-builds
returns-in_err-pat-clause-builds c =
    let next = is_next c.self.inside.fresh c.args.number _ (rw (← c.self.view_is) at c.requires.number_free) c.max-self-inside.ensures in
    rw (c.in_err-pat.ensures.err, ← c.self.view_is) (binding_built _ _ _ _ c.in_ok-binding.ensures.placed c.in_ok-binding.ensures.maps _ _ _ _ c.self.invariant.no_dangling next)

pub invariant_of-self-2 : goal.invariant_of-self-2
invariant_of-self-2 c =
    let next = is_next c.self.inside.fresh c.args.number _ (rw (← c.self.view_is) at c.requires.number_free) c.max-self-inside.ensures in
    sound_let _ _ _ _ _ _ _ c.in_ok-binding.ensures.placed c.in_ok-binding.ensures.maps c.in_ok-pat.ensures.placed c.in_ok-pat.ensures.maps
    c.add_definition_to_binding.ensures.defines c.add_definition_to_binding.ensures.maps _ _ next c.self.invariant

pub returns-clause-is : goal.returns-clause-is
returns-clause-is c =
    rw (← c.self.view_is) (let_is _ _ _ _ _ _ _ c.in_ok-binding.ensures.placed c.in_ok-binding.ensures.maps c.in_ok-pat.ensures.placed c.in_ok-pat.ensures.maps
    c.add_definition_to_binding.ensures.defines c.add_definition_to_binding.ensures.maps c.args.initializer c.self.invariant.no_dangling (rw (← c.self.view_is) at c.requires.within))

pub returns-clause-builds : goal.returns-clause-builds
returns-clause-builds c =
    let next = is_next c.self.inside.fresh c.args.number _ (rw (← c.self.view_is) at c.requires.number_free) c.max-self-inside.ensures in
    rw (← c.self.view_is) (let_built _ _ _ _ _ _ _ c.in_ok-binding.ensures.placed c.in_ok-binding.ensures.maps c.in_ok-pat.ensures.placed c.in_ok-pat.ensures.maps
    c.add_definition_to_binding.ensures.defines c.add_definition_to_binding.ensures.maps _ _ _ _ c.self.invariant.no_dangling next)
