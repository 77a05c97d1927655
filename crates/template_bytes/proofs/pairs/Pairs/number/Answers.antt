use Rattle.std.proofs.Common.{◌∙◌, ap₂}
use Rattle.template_bytes.specs.Canonical.{reference_of, options_of, asked_of}
use Rattle.template_bytes.specs.Flags.{flags_word}
use Rattle.template_bytes.proofs.PairLaws.{slot_kept}
use Rattle.template_bytes.proofs.pairs.Pairs.number.Goals as goal

pub returns-clause-slot : goal.returns-clause-slot
returns-clause-slot c = record {
  among = slot_kept c.insert.new.self c.count.new.self c.count-2.new.self (reference_of c.args.placeholder.now.argument) (asked_of c.args.placeholder.now) _ _ _
      c.in_ok-width.ensures.pairs c.in_ok-precision.ensures.pairs (rw c.reference.ensures at c.in_ok-place.ensures.place) c.in_ok-width.ensures.count c.in_ok-precision.ensures.count;
  flags = c.flags_word.ensures.word ∙ ap₂ (λ width precision. flags_word (options_of c.args.placeholder.now.format_options) width precision) c.in_ok-width.ensures.given c.in_ok-precision.ensures.given;
  writable = record { fill = c.flags_word.ensures.fill; width = c.in_ok-width.ensures.short; precision = c.in_ok-precision.ensures.short };
}
