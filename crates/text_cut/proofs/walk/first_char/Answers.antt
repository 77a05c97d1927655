use Rattle.std.proofs.Common.{◌≡◌, ◌++◌}
use Rattle.std.proofs.Math.Utf8.{encode}
use Rattle.std.proofs.lemmas.Str.{chars_past_char}
use Rattle.text_cut.proofs.Chars.{size_is}
use Rattle.text_cut.proofs.walk.first_char.Goals as goal

pub returns-clause-value : goal.returns-clause-value
returns-clause-value c =
    let e : c.args.text.now ≡ encode c.in_ok-c.c ++ c.as_str.result.now = cc c.in_ok-c.ensures.steps.0 in
    chars_past_char _ _ _ c.utf8.text e

pub returns-clause-size : goal.returns-clause-size
returns-clause-size c =
    let e : c.args.text.now ≡ encode c.in_ok-c.c ++ c.as_str.result.now = cc c.in_ok-c.ensures.steps.0 in
    size_is _ _ _ e
