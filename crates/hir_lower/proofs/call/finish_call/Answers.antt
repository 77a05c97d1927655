use Rattle.hir_build.proofs.Captures.{noted_captures, builds_noted}
use Rattle.hir_lower.proofs.CallLowered.{code_noted}
use Rattle.hir_lower.proofs.call.finish_call.Goals as goal

pub returns-clause-code : goal.returns-clause-code
returns-clause-code c = code_noted c.args.builder.now c.args.ptr c.args.parsed.fmt c.in_ok-code.code c.args.parsed.usages c.in_ok-note_captures.ensures.notes c.in_ok-code.ensures.code

pub returns-clause-captures : goal.returns-clause-captures
returns-clause-captures c = noted_captures c.build_format_args.new.builder c.note_captures.new.self c.in_ok-code.code c.args.parsed.usages c.in_ok-note_captures.ensures.notes

pub returns-clause-builds : goal.returns-clause-builds
returns-clause-builds c = builds_noted c.in_ok-code.code c.args.parsed.usages c.in_ok-code.ensures.builds c.in_ok-code.ensures.later c.in_ok-note_captures.ensures.notes
