use Rattle.std.proofs.Common.{◌≡◌, Some, arith, rules, subst, sym}
use Rattle.std.proofs.lemmas.Result.{err_from_is_err_and}
use Rattle.script.specs.Script.{contents}
use Rattle.cfgfmt.specs.Command.{command_of}
use Rattle.cfgfmt.specs.Refusal.{IsJustified}
use Rattle.cfgfmt.proofs.Refusals.{memory_justified, lower_justified}
use Rattle.cfgfmt.proofs.program.answer.Goals as goal

pub returns-in_err-made-clause-refused : goal.returns-in_err-made-clause-refused
returns-in_err-made-clause-refused g c =
    let asked : command_of c.args.words.now ≡ Some c.in-Some.command = search (rules, c.of_words.ensures, c.in-Some.is) in
    let refused = err_from_is_err_and c.from_residual-in_err-made.result c.from_residual-in_err-made.ensures.1 in
    rw (refused.1, refused.2) (lower_justified c.args.words.now (g.S.Source.state c.args.source.now) (g.S.Source.state c.input.new.source) c.in-Some.command asked
    c.in_ok-bytes.bytes.items c.in_ok-bytes.ensures.came (omega (arith, c.in_ok-bytes.bytes.ok, c.in_ok-bytes.ensures.fits))
    (contents c.in_ok-script.script) c.in_ok-script.ensures.script c.in_err-made.field-0.0 c.in_err-made.ensures.refused)

pub returns-in_err-output-clause-refused : goal.returns-in_err-output-clause-refused
returns-in_err-output-clause-refused g c =
    let asked : command_of c.args.words.now ≡ Some c.in-Some.command = search (rules, c.of_words.ensures, c.in-Some.is) in
    let refused = err_from_is_err_and c.from_residual-in_err-output.result c.from_residual-in_err-output.ensures.1 in
    rw (refused.1, refused.2) (subst (IsJustified c.args.words.now (g.S.Source.state c.args.source.now) (g.S.Source.state c.input.new.source)) (sym c.in_err-output.ensures.refused)
    (memory_justified c.args.words.now (g.S.Source.state c.args.source.now) (g.S.Source.state c.input.new.source) c.in-Some.command asked c.in_ok-bytes.bytes.items c.in_ok-bytes.ensures.came))

pub returns-in_err-output-clause-unread : goal.returns-in_err-output-clause-unread
returns-in_err-output-clause-unread g c = λ other. c.input.ensures.unread (λ run. other (search (rules, c.of_words.ensures, c.in-Some.is, run)))

pub returns-clause-unread : goal.returns-clause-unread
returns-clause-unread g c = λ other. c.input.ensures.unread (λ run. other (search (rules, c.of_words.ensures, c.in-Some.is, run)))

pub returns-clause-made : goal.returns-clause-made
returns-clause-made g c = record {
  command = c.in-Some.command;
  asked = search (rules, c.of_words.ensures, c.in-Some.is);
  holds = record {
    bytes = c.in_ok-bytes.bytes.items;
    came = c.in_ok-bytes.ensures.came;
    answers = record {
      fits = omega (arith, c.in_ok-bytes.bytes.ok, c.in_ok-bytes.ensures.fits);
      contents = contents c.in_ok-script.script;
      script = c.in_ok-script.ensures.script;
      options = c.in_ok-made.ensures.options;
      outcomes = c.in_ok-made.ensures.outcomes;
      within = c.in_ok-made.ensures.within;
      rising = c.in_ok-made.ensures.rising;
      no_dangling = c.print.ensures.no_dangling;
      lowered = c.in_ok-made.ensures.lowered;
    };
    printed = c.in_ok-output.ensures.printed;
  };
}
