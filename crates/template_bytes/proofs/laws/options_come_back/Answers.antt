use Rattle.template_bytes.proofs.FlagLaws.{flags_are, options_back, width_back, precision_back}
use Rattle.template_bytes.proofs.laws.options_come_back.Goals as goal

pub returns : goal.returns
returns c = λ options width precision fill.
    (flags_are options width precision fill, options_back options width precision fill, width_back options width precision fill, precision_back options width precision fill)
