use Rattle.std.proofs.Common.{◌≡◌, ◌++◌, string_bytes, drop, map}
use Rattle.printer.specs.Assembly.{set_words, options_in_brackets}
use Rattle.printer.proofs.Options.{words_behind}
use Rattle.printer.proofs.asm.push_set_options.Given as goal

-- the words so far, with those of the options that are left behind them, are all words
abbrev pub invariant-loop-option : goal.invariant-loop-option
invariant-loop-option l = string_bytes l.out ++ words_behind l.is_first (set_words l.options.0 (map (λ row. (row.0.0, row.1.now)) (drop l.option-index l.words))) ≡ string_bytes l.initial.out ++ options_in_brackets (set_words l.options.0 (map (λ row. (row.0.0, row.1.now)) l.words))
