-- Worked examples of tokens and lines.
use Rattle.std.proofs.Common.{◌≡◌, ℕ, ◌||◌, Bool, true, false, nat_eq, List, [], ◌∷◌, get_or, Some, None, refl, ap, arith}
use Rattle.text_cut.specs.Reading.{Spelled}
use Rattle.syn_trees.specs.declared.token_tree.Spacing.TheVariants.{Alone, Joint}
use Rattle.unicode_ident.proofs.IdentLemmas.{is_xid_start-ascii, is_xid_continue-ascii}
use Rattle.std.specs.Str.{encode_utf8_all}
use Rattle.script_tokens.specs.Words.{begins_word, continues_word}
use Rattle.script_tokens.specs.Tokens.{Kind, Word, Numeral, Mark, Tok, AsWord, AsNumeral, AsMark, spacing}
use Rattle.script_tokens.specs.ReadTokens.{mark_of}
use Rattle.script_tokens.specs.Lines.{IsLine, IsBlankLine}
use Rattle.script_tokens.specs.Items.{ended}

abbrev tok : Bool → Kind → Tok
tok spaced kind = record { spaced = spaced; kind = kind }

abbrev piece : List ℕ → Tok → Spelled Tok
piece text item = record { text = text; item = item }

-- `=>` is a joint mark and a mark
arrow : IsLine (61 ∷ 62 ∷ 10 ∷ []) (tok false (Mark 61 Joint) ∷ tok false (Mark 62 Alone) ∷ [])
arrow = record {
  spelled = piece (61 ∷ []) (tok false (Mark 61 Joint)) ∷ piece (62 ∷ []) (tok false (Mark 62 Alone)) ∷ [];
  after = [];
  whole = refl;
  are_blanks = tt;
  are = (
    record { blanks = []; bare = 61 ∷ []; whole = refl; are_blanks = tt; spelling = AsMark 61 refl refl; spaced = refl; kind = refl },
    (record { blanks = []; bare = 62 ∷ []; whole = refl; are_blanks = tt; spelling = AsMark 62 refl refl; spaced = refl; kind = refl }, tt),
  );
  values = refl;
}

-- `= > ` is two marks alone
no_arrow : IsLine (61 ∷ 32 ∷ 62 ∷ 32 ∷ 10 ∷ []) (tok false (Mark 61 Alone) ∷ tok true (Mark 62 Alone) ∷ [])
no_arrow = record {
  spelled = piece (61 ∷ []) (tok false (Mark 61 Alone)) ∷ piece (32 ∷ 62 ∷ []) (tok true (Mark 62 Alone)) ∷ [];
  after = 32 ∷ [];
  whole = refl;
  are_blanks = (refl, tt);
  are = (
    record { blanks = []; bare = 61 ∷ []; whole = refl; are_blanks = tt; spelling = AsMark 61 refl refl; spaced = refl; kind = refl },
    (record { blanks = 32 ∷ []; bare = 62 ∷ []; whole = refl; are_blanks = (refl, tt); spelling = AsMark 62 refl refl; spaced = refl; kind = refl }, tt),
  );
  values = refl;
}

ends_word : continues_word 10 ≡ false
ends_word = is_xid_continue-ascii 10 (omega arith)

-- `@7` is a mark and a numeral without blanks in front
leaf : IsLine (64 ∷ 55 ∷ 10 ∷ []) (tok false (Mark 64 Alone) ∷ tok false (Numeral (encode_utf8_all (55 ∷ []))) ∷ [])
leaf = record {
  spelled = piece (64 ∷ []) (tok false (Mark 64 Alone)) ∷ piece (55 ∷ []) (tok false (Numeral (encode_utf8_all (55 ∷ [])))) ∷ [];
  after = [];
  whole = refl;
  are_blanks = tt;
  are = (
    record { blanks = []; bare = 64 ∷ []; whole = refl; are_blanks = tt; spelling = AsMark 64 refl refl; spaced = refl; kind = refl },
    (
      record {
        blanks = [];
        bare = 55 ∷ [];
        whole = refl;
        are_blanks = tt;
        spelling = AsNumeral (record { digit = 55; more = []; whole = refl; is_digit = refl; longest = record { pass = tt; stops = ends_word } });
        spaced = refl;
        kind = refl;
      },
      tt,
    ),
  );
  values = refl;
}

-- `x` is a word
word : IsLine (120 ∷ 10 ∷ []) (tok false (Word (encode_utf8_all (120 ∷ []))) ∷ [])
word = record {
  spelled = piece (120 ∷ []) (tok false (Word (encode_utf8_all (120 ∷ [])))) ∷ [];
  after = [];
  whole = refl;
  are_blanks = tt;
  are = (
    record {
      blanks = [];
      bare = 120 ∷ [];
      whole = refl;
      are_blanks = tt;
      spelling = AsWord (record { word = (begins, tt); ends = ends_word; no_raw = λ e opens. omega (arith, ap (λ l. get_or l 0 0) e) });
      spaced = refl;
      kind = refl;
    },
    tt,
  );
  values = refl;
}
  where
    begins : begins_word 120 ≡ true
    begins = ap (λ b. b || nat_eq 120 95) (is_xid_start-ascii 120 (omega arith))

-- ` # x` is a line without meaning
comment : IsBlankLine (32 ∷ 35 ∷ 32 ∷ 120 ∷ 10 ∷ [])
comment = record { blanks = 32 ∷ []; comment = 35 ∷ 32 ∷ 120 ∷ []; whole = refl; are_blanks = (refl, tt); is = (refl, (refl, (refl, tt))) }

-- `_` and `"` are no marks
no_mark : mark_of 95 [] ≡ None
no_mark = refl

no_quote : mark_of 34 (61 ∷ []) ≡ None
no_quote = refl

-- a mark in front of a bracket is alone
before_bracket : spacing (40 ∷ []) ≡ Alone
before_bracket = refl

-- tokens that are an item are none where their line does not end
no_end : ended {I = ℕ} (Some 1) None ≡ None
no_end = refl
