-- What a cursor stands for: a place in front of characters.
use Rattle.std.specs.Prelude.{chars}
use Rattle.text_cut.specs.declared.cursor.Cursor.{Cursor}
use Rattle.text_cut.specs.Place.{Place, place}

-- the place that the cursor stands at
abbrev pub seen : Cursor → Place
seen c = place c.at (chars c.rest.now)
