-- The lines of a made script: what each number adds to its text, its items and its calls.
use Rattle.std.proofs.Common.{◌≡◌, ℕ, zero, suc, ◌+◌, ◌<◌, ◌^◌, ◌%◌, ◌==◌, Bool, true, false, if◌then◌else◌, List, [], ◌∷◌, ◌++◌, flat_map, map, Option, Some, None, decimal, codes, refl, ap, ◌∙◌, sym, subst, append_assoc, append-nil, arith}
use Rattle.std.specs.Char.{is_ascii}
use Rattle.std.specs.List.{fold, range_with_len}
use Rattle.text_cut.specs.Reading.{Spelled, texts, items, AreSpelled}
use Rattle.ra_cfg.specs.Options.{OptionSet}
use Rattle.hir_store.specs.declared.lang_item.LangItems.{LangItems}
use Rattle.hir_expander.specs.Table.{Definition}
use Rattle.gated_calls.specs.declared.call.GatedCall.{GatedCall}
use Rattle.gated_calls.specs.declared.call.Call.TheVariants as called
use Rattle.script_generator.specs.Generated.{plain_item, options_item, braces_item, assembly_item, item_text}
use Rattle.script_tokens.specs.Items.{IsTaken}
use Rattle.script_grammar.specs.declared.item.Item.{Item}
use Rattle.script_grammar.specs.declared.item.Item.TheVariants.{Cfg, Format, Asm}
use Rattle.script_grammar.specs.Items.{item_of}
use Rattle.script_grammar.specs.Script.{IsItem, calls_in, counted}
use Rattle.script.specs.Contents.{options_with, macros_with, limit_with, items_with, calls_behind}
use Rattle.script.proofs.SoFar.{steps_by}
use Rattle.generated_script.specs.Made.{format_of, asm_of, plain_call, options_call, braces_call, assembly_call, call_at}
use Rattle.generated_script.proofs.Written.{Written, toks_of, line_of, all_pass, are_sound}
use Rattle.generated_script.proofs.Spelled.{all_both, line_written, line_ascii}
use Rattle.generated_script.proofs.MadeItems.{format_line, format_sound, format_read, asm_line, asm_sound, asm_read, flag_line, flag_trees, flag_sound, flag_read, flag_means, three_line, three_trees, three_sound, three_read, three_means, off_line, off_trees, off_sound, off_read, off_means}

-- a line that is written, and its item
abbrev pub piece_of : List Written → Item → Spelled (Option Item)
piece_of ws item = record { text = line_of ws; item = Some item }

-- the text is this item where so many calls stand in front of it, and of ASCII
abbrev IsPiece : ℕ → List ℕ → Option Item → Type 0
IsPiece number text None = ⊥
IsPiece number text (Some item) = IsTaken (item_of number) text item × (all_pass is_ascii text ≡ true)

-- each text is its item, behind so many calls
abbrev pub ArePieces : ℕ → List (Spelled (Option Item)) → Type 0
ArePieces number [] = Unit {0}
ArePieces number (s ∷ ss) = IsPiece number s.text s.item × ArePieces (counted s.item number) ss

pub piece_is : (number : ℕ) (ws : List Written) (item : Item) → are_sound ws ≡ true → item_of number (toks_of ws) ≡ Some item → IsPiece number (line_of ws) (Some item)
piece_is number ws item sound read = (record { toks = toks_of ws; line = line_written ws sound; taken = read }, line_ascii ws sound)

-- they are the lines of a script
item_is : (front : List (Spelled (Option Item))) (text : List ℕ) (item : Option Item) (rest : List ℕ) → IsPiece (calls_in front) text item → IsItem front text item rest
item_is front text None rest is = absurd is
item_is front text (Some item) rest is = is.0

pub pieces_spelled : (front ss : List (Spelled (Option Item))) (rest : List ℕ) → ArePieces (calls_in front) ss → AreSpelled IsItem front ss rest
pieces_spelled front [] rest are = tt
pieces_spelled front (s ∷ ss) rest are =
    (item_is front s.text s.item (texts ss ++ rest) are.0, pieces_spelled (front ++ s ∷ []) ss rest (subst (λ number. ArePieces number ss) (sym (steps_by.more front s)) are.1))

-- and of ASCII
piece_ascii : (number : ℕ) (text : List ℕ) (item : Option Item) → IsPiece number text item → all_pass is_ascii text ≡ true
piece_ascii number text None is = absurd is
piece_ascii number text (Some item) is = is.1

pub pieces_ascii : (number : ℕ) (ss : List (Spelled (Option Item))) → ArePieces number ss → all_pass is_ascii (texts ss) ≡ true
pieces_ascii number [] are = refl
pieces_ascii number (s ∷ ss) are = all_both is_ascii s.text (texts ss) (piece_ascii number s.text s.item are.0) (pieces_ascii (counted s.item number) ss are.1)

-- the lines of a number's call
abbrev plain_pieces : ℕ → List (Spelled (Option Item))
plain_pieces i = piece_of (format_line (codes "p{}q") (i ∷ [])) (Format (format_of i (codes "p{}q") (i ∷ []))) ∷ []

abbrev options_pieces : ℕ → List (Spelled (Option Item))
options_pieces i = piece_of three_line (Cfg three_trees) ∷ piece_of (format_line (codes "{0:>5}{0:x}{1:?}") (i ∷ i ∷ [])) (Format (format_of i (codes "{0:>5}{0:x}{1:?}") (i ∷ i ∷ []))) ∷ []

abbrev braces_pieces : ℕ → List (Spelled (Option Item))
braces_pieces i = piece_of off_line (Cfg off_trees) ∷ piece_of (format_line (codes "{{}}") []) (Format (format_of i (codes "{{}}") [])) ∷ []

abbrev assembly_pieces : ℕ → List (Spelled (Option Item))
assembly_pieces i = piece_of flag_line (Cfg flag_trees) ∷ piece_of (asm_line i) (Asm (asm_of i i)) ∷ []

abbrev pieces_at : ℕ → List (Spelled (Option Item))
pieces_at i = if i % 4 == 0 then plain_pieces i else (if i % 4 == 1 then options_pieces i else (if i % 4 == 2 then braces_pieces i else assembly_pieces i))

-- in front of other lines, these lines add this text and this call, and nothing else
record Adds (i : ℕ) (pieces rest : List (Spelled (Option Item))) (text : List ℕ) (call : GatedCall) : Type 0 where
  are : ArePieces (suc i) rest → ArePieces i (pieces ++ rest)
  text_is : texts (pieces ++ rest) ≡ text ++ texts rest
  options : (s : OptionSet) → fold options_with s (items (pieces ++ rest)) ≡ fold options_with s (items rest)
  macros : (s : List Definition) → fold macros_with s (items (pieces ++ rest)) ≡ fold macros_with s (items rest)
  limit : (s : ℕ) → fold limit_with s (items (pieces ++ rest)) ≡ fold limit_with s (items rest)
  langs : (s : LangItems) → fold items_with s (items (pieces ++ rest)) ≡ fold items_with s (items rest)
  calls : calls_behind [] (items (pieces ++ rest)) ≡ call ∷ calls_behind [] (items rest)

-- the end of a line with one leaf, and of one with two
one_leaf : (digits rest : List ℕ) → ((digits ++ []) ++ 10 ∷ []) ++ rest ≡ (digits ++ 10 ∷ []) ++ rest
one_leaf digits rest = ap (λ l. (l ++ 10 ∷ []) ++ rest) (append-nil digits)

two_leaves : (digits rest : List ℕ) → ((digits ++ (32 ∷ 64 ∷ (digits ++ []))) ++ 10 ∷ []) ++ rest ≡ (digits ++ (32 ∷ 64 ∷ (digits ++ 10 ∷ []))) ++ rest
two_leaves digits rest =
    ap (λ l. ((digits ++ (32 ∷ 64 ∷ l)) ++ 10 ∷ []) ++ rest) (append-nil digits)
    ∙ ap (λ l. l ++ rest) (append_assoc digits (32 ∷ 64 ∷ digits) (10 ∷ []))

plain_adds : (i : ℕ) (rest : List (Spelled (Option Item))) → i < 2 ^ 32 → Adds i (plain_pieces i) rest (plain_item i) (plain_call i)
plain_adds i rest small = record {
  are = λ more. (piece_is i (format_line (codes "p{}q") (i ∷ [])) _ (format_sound (codes "p{}q") (i ∷ []) refl (small, tt)) (format_read i (codes "p{}q") (i ∷ []) (small, tt)), more);
  text_is = ap (λ l. codes "format \"p{}q\" @" ++ l) (one_leaf (decimal i) (texts rest));
  options = λ s. refl;
  macros = λ s. refl;
  limit = λ s. refl;
  langs = λ s. refl;
  calls = refl;
}

options_adds : (i : ℕ) (rest : List (Spelled (Option Item))) → i < 2 ^ 32 → Adds i (options_pieces i) rest (options_item i) (options_call i)
options_adds i rest small = record {
  are = λ more. (
    piece_is i three_line _ three_sound (three_read i),
    (piece_is i (format_line (codes "{0:>5}{0:x}{1:?}") (i ∷ i ∷ [])) _ (format_sound (codes "{0:>5}{0:x}{1:?}") (i ∷ i ∷ []) refl (small, (small, tt))) (format_read i (codes "{0:>5}{0:x}{1:?}") (i ∷ i ∷ []) (small, (small, tt))), more),
  );
  text_is = ap (λ l. codes "cfg all(any(a, b), not(c))\nformat \"{0:>5}{0:x}{1:?}\" @" ++ l) (two_leaves (decimal i) (texts rest));
  options = λ s. refl;
  macros = λ s. refl;
  limit = λ s. refl;
  langs = λ s. refl;
  calls = ap (λ expr. record { cfgs = expr ∷ []; call = called.Format (format_of i (codes "{0:>5}{0:x}{1:?}") (i ∷ i ∷ [])) } ∷ calls_behind [] (items rest)) three_means;
}

braces_adds : (i : ℕ) (rest : List (Spelled (Option Item))) → Adds i (braces_pieces i) rest braces_item (braces_call i)
braces_adds i rest = record {
  are = λ more. (piece_is i off_line _ off_sound (off_read i), (piece_is i (format_line (codes "{{}}") []) _ (format_sound (codes "{{}}") [] refl tt) (format_read i (codes "{{}}") [] tt), more));
  text_is = refl;
  options = λ s. refl;
  macros = λ s. refl;
  limit = λ s. refl;
  langs = λ s. refl;
  calls = ap (λ expr. record { cfgs = expr ∷ []; call = called.Format (format_of i (codes "{{}}") []) } ∷ calls_behind [] (items rest)) off_means;
}

assembly_adds : (i : ℕ) (rest : List (Spelled (Option Item))) → i < 2 ^ 32 → Adds i (assembly_pieces i) rest (assembly_item i) (assembly_call i)
assembly_adds i rest small = record {
  are = λ more. (piece_is i flag_line _ flag_sound (flag_read i), (piece_is i (asm_line i) _ (asm_sound i small) (asm_read i i small), more));
  text_is = ap (λ l. codes "cfg a\nasm \"{}\"; in reg @" ++ l) (one_leaf (decimal i) (texts rest));
  options = λ s. refl;
  macros = λ s. refl;
  limit = λ s. refl;
  langs = λ s. refl;
  calls = ap (λ expr. record { cfgs = expr ∷ []; call = called.Asm (asm_of i i) } ∷ calls_behind [] (items rest)) flag_means;
}

by_turn : (first second third : Bool) (i : ℕ) (rest : List (Spelled (Option Item))) → i < 2 ^ 32
    → Adds i (if first then plain_pieces i else (if second then options_pieces i else (if third then braces_pieces i else assembly_pieces i))) rest
    (if first then plain_item i else (if second then options_item i else (if third then braces_item else assembly_item i)))
    (if first then plain_call i else (if second then options_call i else (if third then braces_call i else assembly_call i)))
by_turn true second third i rest small = plain_adds i rest small
by_turn false true third i rest small = options_adds i rest small
by_turn false false true i rest small = braces_adds i rest
by_turn false false false i rest small = assembly_adds i rest small

adds_at : (i : ℕ) (rest : List (Spelled (Option Item))) → i < 2 ^ 32 → Adds i (pieces_at i) rest (item_text i) (call_at i)
adds_at i rest small = by_turn (i % 4 == 0) (i % 4 == 1) (i % 4 == 2) i rest small

-- the lines of the calls of so many numbers, in front of others
abbrev pub pieces_in : ℕ → ℕ → List (Spelled (Option Item)) → List (Spelled (Option Item))
pieces_in first zero rest = rest
pieces_in first (suc count) rest = pieces_at first ++ pieces_in (first + 1) count rest

-- in front of other lines, these lines add these texts and calls, and nothing else
pub record AddsAll (first count : ℕ) (rest : List (Spelled (Option Item))) : Type 0 where
  pub are : ArePieces (first + count) rest → ArePieces first (pieces_in first count rest)
  pub text_is : texts (pieces_in first count rest) ≡ flat_map item_text (range_with_len first count) ++ texts rest
  pub options : (s : OptionSet) → fold options_with s (items (pieces_in first count rest)) ≡ fold options_with s (items rest)
  pub macros : (s : List Definition) → fold macros_with s (items (pieces_in first count rest)) ≡ fold macros_with s (items rest)
  pub limit : (s : ℕ) → fold limit_with s (items (pieces_in first count rest)) ≡ fold limit_with s (items rest)
  pub langs : (s : LangItems) → fold items_with s (items (pieces_in first count rest)) ≡ fold items_with s (items rest)
  pub calls : calls_behind [] (items (pieces_in first count rest)) ≡ map call_at (range_with_len first count) ++ calls_behind [] (items rest)

pub adds_all : (first count : ℕ) (rest : List (Spelled (Option Item))) → first + count < 2 ^ 32 → AddsAll first count rest
adds_all first zero rest small = record {
  are = λ more. let same : first + 0 ≡ first = omega arith in subst (λ number. ArePieces number rest) same more;
  text_is = refl;
  options = λ s. refl;
  macros = λ s. refl;
  limit = λ s. refl;
  langs = λ s. refl;
  calls = refl;
}
adds_all first (suc count) rest small =
    let more : AddsAll (first + 1) count rest = adds_all (first + 1) count rest (omega (arith, small)) in
    let one : Adds first (pieces_at first) (pieces_in (first + 1) count rest) (item_text first) (call_at first) = adds_at first (pieces_in (first + 1) count rest) (omega (arith, small)) in
    let number : first + suc count ≡ (first + 1) + count = omega arith in
    let next : first + 1 ≡ suc first = omega arith in
    record {
      are = λ are. one.are (subst (λ n. ArePieces n (pieces_in (first + 1) count rest)) next (more.are (subst (λ n. ArePieces n rest) number are)));
      text_is = one.text_is ∙ (ap (λ l. item_text first ++ l) more.text_is ∙ sym (append_assoc (item_text first) (flat_map item_text (range_with_len (first + 1) count)) (texts rest)));
      options = λ s. one.options s ∙ more.options s;
      macros = λ s. one.macros s ∙ more.macros s;
      limit = λ s. one.limit s ∙ more.limit s;
      langs = λ s. one.langs s ∙ more.langs s;
      calls = one.calls ∙ ap (λ l. call_at first ∷ l) more.calls;
    }
