-- Worked examples of what stands between plain quotes.
use Rattle.std.specs.Prelude.{◌≡◌, [], ◌∷◌, Some, None, refl}
use Rattle.text_cut.specs.Place.{place}
use Rattle.syn_trees.specs.Escape.{HasUnits, meant_of}
use Rattle.syn_trees.specs.ReadString.{unit_at}
use Rattle.syn_trees.proofs.Units.{units_are}

-- `a\x41` is `a` and `A`
of_ascii : HasUnits (97 ∷ 92 ∷ 120 ∷ 52 ∷ 49 ∷ []) (Some 97 ∷ Some 65 ∷ [])
of_ascii = units_are _ _ refl

-- `\u{1_F600}` is one character
of_unicode : HasUnits (92 ∷ 117 ∷ 123 ∷ 49 ∷ 95 ∷ 70 ∷ 54 ∷ 48 ∷ 48 ∷ 125 ∷ []) (Some 128512 ∷ [])
of_unicode = units_are _ _ refl

-- `\`, a line feed, a space, a TAB and a line feed are nothing, and then `b` is itself
of_continuation : HasUnits (92 ∷ 10 ∷ 32 ∷ 9 ∷ 10 ∷ 98 ∷ []) (None ∷ Some 98 ∷ [])
of_continuation = units_are _ _ refl

-- of which only `b` is meant
meant_there : meant_of (None ∷ Some 98 ∷ []) ≡ 98 ∷ []
meant_there = refl

-- `\q` is no escape
no_q : unit_at (place 0 (92 ∷ 113 ∷ [])) ≡ None
no_q = refl

-- `\x80` is above 7F
no_x80 : unit_at (place 0 (92 ∷ 120 ∷ 56 ∷ 48 ∷ [])) ≡ None
no_x80 = refl

-- `\u{D800}` is a surrogate
no_surrogate : unit_at (place 0 (92 ∷ 117 ∷ 123 ∷ 68 ∷ 56 ∷ 48 ∷ 48 ∷ 125 ∷ [])) ≡ None
no_surrogate = refl

-- `\u{}` has no digit
no_digit : unit_at (place 0 (92 ∷ 117 ∷ 123 ∷ 125 ∷ [])) ≡ None
no_digit = refl

-- `\u{_1}` begins with no digit
no_first_digit : unit_at (place 0 (92 ∷ 117 ∷ 123 ∷ 95 ∷ 49 ∷ 125 ∷ [])) ≡ None
no_first_digit = refl

-- `\u{1234567}` has seven digits
no_seven_digits : unit_at (place 0 (92 ∷ 117 ∷ 123 ∷ 49 ∷ 50 ∷ 51 ∷ 52 ∷ 53 ∷ 54 ∷ 55 ∷ 125 ∷ [])) ≡ None
no_seven_digits = refl

-- nothing stands behind a lone `\`
no_lone : unit_at (place 0 (92 ∷ [])) ≡ None
no_lone = refl
