use Rattle.hir_build.proofs.Within.{whole_over}
use Rattle.hir_build.proofs.Placing.{sound_placed, placed_bare}
use Rattle.hir_build.proofs.builder.Builder.place_bare.Goals as goal

pub invariant_of-self-2 : goal.invariant_of-self-2
invariant_of-self-2 c = sound_placed _ _ c.args.expr c.self.inside.fresh c.in_ok-id.ensures.kept
    (whole_over _ c.self.invariant.no_dangling c.args.expr (rw (← c.self.view_is) at c.requires.within)) c.self.invariant _ c.in_ok-id.ensures.placed

pub returns-clause-placed : goal.returns-clause-placed
returns-clause-placed c = rw (← c.self.view_is) (placed_bare _ _ c.args.expr _ c.in_ok-id.ensures.placed c.in_ok-id.ensures.grows.older c.self.invariant.no_dangling.maps
    (c.in_ok-id.ensures.stands (whole_over _ c.self.invariant.no_dangling c.args.expr (rw (← c.self.view_is) at c.requires.within))) c.in_ok-id.ensures.maps)
