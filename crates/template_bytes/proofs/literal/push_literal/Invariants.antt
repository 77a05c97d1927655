use denote.Shadow.{shadow}
use denote.Text.{Utf8}
use Rattle.std.specs.Prelude.{◌≡◌, ◌++◌, length}
use Rattle.template_bytes.specs.Literals.{literal_bytes}
use Rattle.template_bytes.proofs.literal.push_literal.Given as goal

abbrev pub invariant-loop-rest : goal.invariant-loop-rest
invariant-loop-rest l = record {
  text : shadow (Utf8 l.rest);
  so_far : l.bytes.items ++ literal_bytes l.rest ≡ l.fn.bytes.items ++ literal_bytes l.fn.text;
}

abbrev pub decreases-loop-rest : goal.decreases-loop-rest
decreases-loop-rest l = length l.rest
