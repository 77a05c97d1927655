-- Each kind of line of a made script is one item.
use Rattle.std.proofs.Common.{◌≡◌, ℕ, zero, suc, ◌<◌, ◌≤◌, ◌^◌, true, false, List, [], ◌∷◌, length, map, Some, decimal, codes, refl, ap, ◌∙◌, arith}
use Rattle.syn_trees.specs.declared.token_tree.Spacing.TheVariants.{Alone}
use Rattle.syn_trees.specs.declared.token_tree.TokenTree.{TokenTree, Ident, Punct, Subtree}
use Rattle.syn_trees.specs.declared.format_call.Template.TheVariants.{Str}
use Rattle.syn_trees.specs.declared.format_call.FormatArgSyntax.{FormatArgSyntax}
use Rattle.script_tokens.specs.declared.token.Bracket.TheVariants.{Round}
use Rattle.script_tokens.specs.Tokens.{Numeral, Mark, Tok}
use Rattle.script_tokens.specs.Many.{then_many, many_within}
use Rattle.script_tokens.specs.Readers.{whole}
use Rattle.script_grammar.specs.declared.item.Item.TheVariants.{Flag, Cfg, Format, Asm}
use Rattle.script_grammar.specs.Templates.{arg, call_of}
use Rattle.script_grammar.specs.Trees.{trees_in, group_in}
use Rattle.script_grammar.specs.AsmOperands.{operand}
use Rattle.script_grammar.specs.AsmPieces.{piece}
use Rattle.script_grammar.specs.Items.{item_of}
use Rattle.ra_cfg.specs.TokenRules.{next_predicate}
use Rattle.ra_cfg.proofs.Items as trees
use Rattle.generated_script.specs.Made.{quoted, argument, format_of, asm_of, flag, three_parts, off_parts}
use Rattle.generated_script.proofs.Decimals.{decimal_digits, number_decimal}
use Rattle.generated_script.proofs.Written.{Sign, Name, Digits, Quoted, Point, Opens, Closes, Written, is_wordy, next_is, toks_of, all_pass, is_plain, are_sound}

-- a token behind a space, and one without
abbrev pub apart : Sign → Written
apart sign = record { spaced = true; sign = sign }

abbrev pub joined : Sign → Written
joined sign = record { spaced = false; sign = sign }

-- leaves, one after the other
abbrev pub leaves_line : List ℕ → List Written
leaves_line [] = []
leaves_line (i ∷ leaves) = apart (Point 64) ∷ joined (Digits (decimal i)) ∷ leaves_line leaves

-- numbers that a leaf can have
abbrev pub AreLeaves : List ℕ → Type 0
AreLeaves [] = Unit {0}
AreLeaves (i ∷ leaves) = (i < 2 ^ 32) × AreLeaves leaves

leaves_end : (leaves : List ℕ) → next_is is_wordy (leaves_line leaves) ≡ false
leaves_end [] = refl
leaves_end (i ∷ leaves) = refl

leaves_sound : (leaves : List ℕ) → AreLeaves leaves → are_sound (leaves_line leaves) ≡ true
leaves_sound [] are = refl
leaves_sound (i ∷ leaves) are = rw (decimal_digits i are.0, leaves_end leaves) (leaves_sound leaves are.1)

arg_read : (number i : ℕ) (rest : List Tok) → i < 2 ^ 32
    → arg number (record { spaced = true; kind = Mark 64 Alone } ∷ record { spaced = false; kind = Numeral (decimal i) } ∷ rest) ≡ Some (argument number i, rest)
arg_read number i rest small = rw (number_decimal i small) refl

leaves_read : (number : ℕ) (leaves : List ℕ) (most : ℕ) → AreLeaves leaves → length leaves ≤ most → many_within (arg number) most (toks_of (leaves_line leaves)) ≡ (map (argument number) leaves, [])
leaves_read number [] zero are enough = refl
leaves_read number [] (suc most) are enough = refl
leaves_read number (i ∷ leaves) zero are enough = absurd (omega (arith, enough))
leaves_read number (i ∷ leaves) (suc most) are enough =
    ap (λ o. then_many o (many_within (arg number) most) (toks_of (leaves_line (i ∷ leaves)))) (arg_read number i (toks_of (leaves_line leaves)) are.0)
    ∙ ap (λ (m : List FormatArgSyntax × List Tok). (argument number i ∷ m.0, m.1)) (leaves_read number leaves most are.1 (omega (arith, enough)))

leaves_few : (leaves : List ℕ) → length leaves ≤ length (toks_of (leaves_line leaves))
leaves_few [] = omega arith
leaves_few (i ∷ leaves) = omega (arith, leaves_few leaves)

-- `format`, a string, and leaves
abbrev pub format_line : List ℕ → List ℕ → List Written
format_line text leaves = joined (Name (codes "format")) ∷ apart (Quoted text) ∷ leaves_line leaves

pub format_sound : (text leaves : List ℕ) → all_pass is_plain text ≡ true → AreLeaves leaves → are_sound (format_line text leaves) ≡ true
format_sound text leaves plain are = rw plain (leaves_sound leaves are)

pub format_read : (number : ℕ) (text leaves : List ℕ) → AreLeaves leaves → item_of number (toks_of (format_line text leaves)) ≡ Some (Format (format_of number text leaves))
unfolding item_of
format_read number text leaves are =
    ap (λ (m : List FormatArgSyntax × List Tok). whole (Format (call_of number (Some (Str (quoted text))) m).0, m.1))
    (leaves_read number leaves (length (toks_of (leaves_line leaves))) are (leaves_few leaves))

-- `opt a`
abbrev pub opt_line : List Written
opt_line = joined (Name (codes "opt")) ∷ apart (Name (codes "a")) ∷ []

pub opt_sound : are_sound opt_line ≡ true
opt_sound = refl

pub opt_read : (number : ℕ) → item_of number (toks_of opt_line) ≡ Some (Flag (codes "a"))
unfolding item_of
opt_read number = refl

-- `asm "{}"; in reg`, and a leaf
abbrev pub asm_line : ℕ → List Written
asm_line i = joined (Name (codes "asm")) ∷ apart (Quoted (codes "{}")) ∷ joined (Point 59) ∷ apart (Name (codes "in")) ∷ apart (Name (codes "reg")) ∷ leaves_line (i ∷ [])

pub asm_sound : (i : ℕ) → i < 2 ^ 32 → are_sound (asm_line i) ≡ true
asm_sound i small = leaves_sound (i ∷ []) (small, tt)

pub asm_read : (number i : ℕ) → i < 2 ^ 32 → item_of number (toks_of (asm_line i)) ≡ Some (Asm (asm_of number i))
unfolding item_of piece operand
asm_read number i small = rw (number_decimal i small) refl

-- `cfg a`
abbrev pub flag_line : List Written
flag_line = joined (Name (codes "cfg")) ∷ apart (Name (codes "a")) ∷ []

abbrev pub flag_trees : List TokenTree
flag_trees = Ident (codes "a") ∷ []

pub flag_sound : are_sound flag_line ≡ true
flag_sound = refl

pub flag_read : (number : ℕ) → item_of number (toks_of flag_line) ≡ Some (Cfg flag_trees)
unfolding item_of trees_in group_in
flag_read number = refl

pub flag_means : next_predicate flag_trees ≡ flag (codes "a")
flag_means = simp trees.items

-- two names with a comma between them
abbrev pair_trees : List ℕ → List ℕ → List TokenTree
pair_trees first second = Ident first ∷ Punct 44 Alone ∷ Ident second ∷ []

-- `cfg all(any(a, b), not(c))`
abbrev pub three_line : List Written
three_line =
    joined (Name (codes "cfg")) ∷ apart (Name (codes "all")) ∷ joined (Opens Round) ∷ joined (Name (codes "any")) ∷ joined (Opens Round) ∷ joined (Name (codes "a")) ∷ joined (Point 44) ∷ apart (Name (codes "b"))
    ∷ joined (Closes Round) ∷ joined (Point 44) ∷ apart (Name (codes "not")) ∷ joined (Opens Round) ∷ joined (Name (codes "c")) ∷ joined (Closes Round) ∷ joined (Closes Round) ∷ []

abbrev pub three_trees : List TokenTree
three_trees = Ident (codes "all") ∷ Subtree (Ident (codes "any") ∷ Subtree (pair_trees (codes "a") (codes "b")) ∷ Punct 44 Alone ∷ Ident (codes "not") ∷ Subtree (Ident (codes "c") ∷ []) ∷ []) ∷ []

pub three_sound : are_sound three_line ≡ true
three_sound = refl

pub three_read : (number : ℕ) → item_of number (toks_of three_line) ≡ Some (Cfg three_trees)
unfolding item_of trees_in group_in
three_read number = refl

pub three_means : next_predicate three_trees ≡ three_parts
three_means = simp trees.items

-- `cfg any(b, all(c, d))`
abbrev pub off_line : List Written
off_line =
    joined (Name (codes "cfg")) ∷ apart (Name (codes "any")) ∷ joined (Opens Round) ∷ joined (Name (codes "b")) ∷ joined (Point 44) ∷ apart (Name (codes "all")) ∷ joined (Opens Round) ∷ joined (Name (codes "c")) ∷ joined (Point 44)
    ∷ apart (Name (codes "d")) ∷ joined (Closes Round) ∷ joined (Closes Round) ∷ []

abbrev pub off_trees : List TokenTree
off_trees = Ident (codes "any") ∷ Subtree (Ident (codes "b") ∷ Punct 44 Alone ∷ Ident (codes "all") ∷ Subtree (pair_trees (codes "c") (codes "d")) ∷ []) ∷ []

pub off_sound : are_sound off_line ≡ true
off_sound = refl

pub off_read : (number : ℕ) → item_of number (toks_of off_line) ≡ Some (Cfg off_trees)
unfolding item_of trees_in group_in
off_read number = refl

pub off_means : next_predicate off_trees ≡ off_parts
off_means = simp trees.items
