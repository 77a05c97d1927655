use Rattle.hir_build.proofs.Within.{whole_over}
use Rattle.hir_build.proofs.Placing.{sound_placed, sound_refused, placed_source, builds_placed, builds_refused}
use Rattle.hir_build.proofs.builder.Builder.place_at.Goals as goal

pub invariant_of-self : goal.invariant_of-self
invariant_of-self c = sound_refused _ _ c.args.expr c.self.inside.fresh c.in_err-id.ensures.kept
    (whole_over _ c.self.invariant.no_dangling c.args.expr (rw (← c.self.view_is) at c.requires.within)) c.self.invariant c.in_err-id.ensures.err

pub invariant_of-self-2 : goal.invariant_of-self-2
invariant_of-self-2 c = sound_placed _ _ c.args.expr c.self.inside.fresh c.in_ok-id.ensures.kept
    (whole_over _ c.self.invariant.no_dangling c.args.expr (rw (← c.self.view_is) at c.requires.within)) c.self.invariant _ c.in_ok-id.ensures.placed

pub returns-clause-placed : goal.returns-clause-placed
returns-clause-placed c = rw (← c.self.view_is) (placed_source _ _ c.args.expr _ c.in_ok-id.ensures.placed c.in_ok-id.ensures.grows.older c.self.invariant.no_dangling.maps
    (c.in_ok-id.ensures.stands (whole_over _ c.self.invariant.no_dangling c.args.expr (rw (← c.self.view_is) at c.requires.within))) _ c.in_ok-id.ensures.source)

pub returns-in_err-id-clause-builds : goal.returns-in_err-id-clause-builds
returns-in_err-id-clause-builds c = rw (← c.self.view_is) (builds_refused _ _ c.args.expr c.self.invariant.no_dangling c.in_err-id.ensures.grows c.in_err-id.ensures.err)

pub returns-clause-builds : goal.returns-clause-builds
returns-clause-builds c = rw (← c.self.view_is) (builds_placed _ _ c.args.expr _ c.self.invariant.no_dangling c.in_ok-id.ensures.grows c.in_ok-id.ensures.placed)
