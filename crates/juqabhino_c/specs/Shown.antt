-- What the code's texts with numbers stand for.
use Rattle.std.specs.Prelude.{string_bytes}
use Rattle.juqabhino_c.specs.Questions.{NumberedText}
use Rattle.juqabhino_c.specs.declared.numbered_text.NumberedText.{NumberedText as Stored}

abbrev pub shown : Stored → NumberedText
shown found = record { number = found.number; text = string_bytes found.text }
