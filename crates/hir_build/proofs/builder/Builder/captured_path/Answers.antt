use Rattle.hir_build.proofs.Captures.{captured_placed, builds_captured}
use Rattle.hir_build.proofs.builder.Builder.captured_path.Goals as goal

pub returns-clause-placed : goal.returns-clause-placed
returns-clause-placed c = rw (c.in_ok-enter_capture.ensures.enters, c.in_ok-id.ensures.builds.file) (captured_placed _ _ _ _ _ _ c.in_ok-id.ensures.newest c.in_ok-id.ensures.placed)

pub returns-clause-builds : goal.returns-clause-builds
returns-clause-builds c = rw c.in_ok-enter_capture.ensures.enters (builds_captured _ _ _ _ 1 0 c.in_ok-id.ensures.builds c.in_ok-id.ensures.later)
