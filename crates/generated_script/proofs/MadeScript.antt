-- The script that is made for a number is one, and says what it is to say.
use Rattle.std.proofs.Common.{◌≡◌, ℕ, zero, suc, ◌+◌, ◌<◌, ◌^◌, true, min, cond, List, [], ◌∷◌, ◌++◌, flat_map, map, Option, Some, decimal, codes, refl, ap, ◌∙◌, sym, subst, append_assoc, append-nil, arith}
use Rattle.std.specs.Char.{is_ascii, is_ascii_digit}
use Rattle.std.specs.List.{fold, range_with_len}
use Rattle.std.specs.Str.{IsUtf8, chars}
use Rattle.std.proofs.lemmas.Bool.{and_parts}
use Rattle.std.proofs.lemmas.Bool.Decides.{nat_tests}
use Rattle.std.proofs.lemmas.Str.{chars_from_encodes}
use lib.Utf8.{scalars, scalar}
use Rattle.text_cut.specs.Reading.{Spelled, texts, items}
use Rattle.ra_cfg.specs.Options.{only_true}
use Rattle.script_generator.specs.Generated.{items_text, name_text, names_text, last_line}
use Rattle.script_tokens.specs.Numbers.{all_digits}
use Rattle.script_grammar.specs.Limits.{usual_limit}
use Rattle.script_grammar.specs.declared.item.Item.{Item}
use Rattle.script_grammar.specs.declared.item.Item.TheVariants.{Flag, Format}
use Rattle.script.specs.Contents.{Contents, contents_of, options_with, all_items}
use Rattle.script.specs.Script.{ends_line, with_end, Says}
use Rattle.generated_script.specs.Made.{format_of, call_at, last_call}
use Rattle.generated_script.specs.Laws.{MadeAreScripts}
use Rattle.generated_script.proofs.Decimals.{decimal_digits}
use Rattle.generated_script.proofs.Written.{all_pass, are_some, is_plain}
use Rattle.generated_script.proofs.Spelled.{same_bytes, all_both}
use Rattle.generated_script.proofs.MadeItems.{format_line, format_sound, format_read, opt_line, opt_sound, opt_read}
use Rattle.generated_script.proofs.MadePieces.{piece_of, ArePieces, piece_is, pieces_spelled, pieces_ascii, pieces_in, AddsAll, adds_all}

-- names in braces are plain
digits_plain : (cs : List ℕ) → all_digits cs ≡ true → all_pass is_plain cs ≡ true
digits_plain [] e = refl
digits_plain (c ∷ cs) e = let both = and_parts (is_ascii_digit c) (all_digits cs) e in rw (known c both.0) (digits_plain cs both.1)
  where
    known : (c : ℕ) → is_ascii_digit c ≡ true → is_plain c ≡ true
    known c e = grind (arith, nat_tests)

name_plain : (i : ℕ) → i < 2 ^ 32 → all_pass is_plain (name_text i) ≡ true
name_plain i small =
    all_both is_plain (codes "{n" ++ decimal i) (codes "}") (digits_plain (decimal i) (and_parts (are_some (decimal i)) (all_digits (decimal i)) (decimal_digits i small)).1) refl

pub names_plain : (first count : ℕ) → first + count < 2 ^ 32 → all_pass is_plain (flat_map name_text (range_with_len first count)) ≡ true
names_plain first zero small = refl
names_plain first (suc count) small =
    all_both is_plain (name_text first) (flat_map name_text (range_with_len (first + 1) count)) (name_plain first (omega (arith, small))) (names_plain (first + 1) count (omega (arith, small)))

-- the last line, behind so many calls
abbrev last_pieces : ℕ → ℕ → List (Spelled (Option Item))
last_pieces number names = piece_of (format_line (names_text names) []) (Format (format_of number (names_text names) [])) ∷ []

last_are : (number names : ℕ) → names < 2 ^ 32 → ArePieces number (last_pieces number names)
last_are number names small =
    (piece_is number (format_line (names_text names) []) _ (format_sound (names_text names) [] (names_plain 0 names (omega (arith, small))) tt) (format_read number (names_text names) [] tt), tt)

last_text : (text : List ℕ) → ((((text ++ 34 ∷ []) ++ []) ++ 10 ∷ []) ++ []) ≡ text ++ 34 ∷ 10 ∷ []
last_text text = append-nil _ ∙ (ap (λ l. l ++ 10 ∷ []) (append-nil (text ++ 34 ∷ [])) ∙ append_assoc text (34 ∷ []) (10 ∷ []))

-- the script of so many calls and names, and what it says
abbrev bytes_of : ℕ → ℕ → List ℕ
bytes_of count names = codes "opt a\n" ++ items_text count ++ last_line names

abbrev said : ℕ → ℕ → Contents
said count names = record { options = fold options_with only_true (Some (Flag (codes "a")) ∷ []); macros = []; limit = usual_limit; items = all_items; calls = map call_at (range_with_len 0 count) ++ last_call count names ∷ [] }

-- its lines
abbrev lines_of : ℕ → ℕ → List (Spelled (Option Item))
lines_of count names = piece_of opt_line (Flag (codes "a")) ∷ pieces_in 0 count (last_pieces count names)

lines_are : (count names : ℕ) → count < 2 ^ 32 → names < 2 ^ 32 → ArePieces 0 (lines_of count names)
lines_are count names few small =
    let number : count ≡ 0 + count = omega arith in
    (piece_is 0 opt_line _ opt_sound (opt_read 0), (adds_all 0 count (last_pieces count names) (omega (arith, few))).are (subst (λ n. ArePieces n (last_pieces count names)) number (last_are count names small)))

lines_text : (count names : ℕ) → count < 2 ^ 32 → texts (lines_of count names) ≡ bytes_of count names
lines_text count names few =
    ap (λ l. codes "opt a\n" ++ l) ((adds_all 0 count (last_pieces count names) (omega (arith, few))).text_is ∙ ap (λ l. items_text count ++ (codes "format \"" ++ l)) (last_text (names_text names)))

-- what they say
lines_say : (count names : ℕ) → count < 2 ^ 32 → contents_of (items (lines_of count names)) ≡ said count names
lines_say count names few =
    let all : AddsAll 0 count (last_pieces count names) = adds_all 0 count (last_pieces count names) (omega (arith, few)) in
    λ i. record {
      options = all.options (fold options_with only_true (Some (Flag (codes "a")) ∷ [])) i;
      macros = all.macros [] i;
      limit = all.limit usual_limit i;
      items = all.langs all_items i;
      calls = all.calls i;
    }

-- the last byte alone says whether a line is ended
ends_last : (front : List ℕ) (b : ℕ) (bytes : List ℕ) → ends_line (front ++ b ∷ bytes) ≡ ends_line (b ∷ bytes)
ends_last [] b bytes = refl
ends_last (c ∷ []) b bytes = refl
ends_last (c ∷ d ∷ front) b bytes = ends_last (d ∷ front) b bytes

script_ends : (count names : ℕ) → ends_line (bytes_of count names) ≡ true
script_ends count names =
    ends_last (codes "opt a\n" ++ items_text count) 102 (codes "ormat \"" ++ names_text names ++ 34 ∷ 10 ∷ [])
    ∙ ends_last (codes "format \"" ++ names_text names) 34 (10 ∷ [])

script_whole : (count names : ℕ) → with_end (bytes_of count names) ≡ bytes_of count names
script_whole count names =
    ap (λ t. cond t (bytes_of count names) ((bytes_of count names) ++ 10 ∷ [])) (script_ends count names)

-- characters of ASCII are text, and its characters
ascii_scalars : (cs : List ℕ) → all_pass is_ascii cs ≡ true → scalars cs ≡ true
ascii_scalars [] e = refl
ascii_scalars (c ∷ cs) e = let both = and_parts (is_ascii c) (all_pass is_ascii cs) e in rw (known c both.0) (ascii_scalars cs both.1)
  where
    known : (c : ℕ) → is_ascii c ≡ true → scalar c ≡ true
    known c e = grind (arith, nat_tests)

pub ascii_utf8 : (cs : List ℕ) → all_pass is_ascii cs ≡ true → IsUtf8 cs
ascii_utf8 cs e = (cs, (ascii_scalars cs e, same_bytes cs e))

ascii_chars : (cs : List ℕ) → all_pass is_ascii cs ≡ true → cs ≡ chars cs
ascii_chars cs e = chars_from_encodes cs cs (ascii_utf8 cs e) (same_bytes cs e)

says : (count names : ℕ) → count < 2 ^ 32 → names < 2 ^ 32 → Says (texts (lines_of count names)) (contents_of (items (lines_of count names)))
says count names few small =
    let are : ArePieces 0 (lines_of count names) = lines_are count names few small in
    let ascii : all_pass is_ascii (texts (lines_of count names)) ≡ true = pieces_ascii 0 (lines_of count names) are in
    record {
      spelled = lines_of count names;
      are = record {
        utf8 = ascii_utf8 (texts (lines_of count names)) ascii;
        reading = record { there = sym (ascii_chars (texts (lines_of count names)) ascii) ∙ sym (append-nil (texts (lines_of count names))); are = pieces_spelled [] (lines_of count names) [] are };
      };
      is = refl;
    }

pub made_are_scripts : MadeAreScripts
made_are_scripts n = by_parts (min n 1000) (min n 60000) (omega arith) (omega arith)
  where
    by_parts : (count names : ℕ) → count < 2 ^ 32 → names < 2 ^ 32 → Says (with_end (bytes_of count names)) (said count names)
    by_parts count names few small =
        subst (λ bytes. Says bytes (said count names)) (lines_text count names few ∙ sym (script_whole count names))
        (subst (λ contents. Says (texts (lines_of count names)) contents) (lines_say count names few) (says count names few small))
