-- PIECE: what stands behind a `;` of an assembly call.
use Rattle.std.specs.Prelude.{ℕ, List, [], ◌∷◌, Option, Some, None, codes}
use Rattle.syn_trees.specs.declared.cfg_predicate.CfgPredicate.{CfgPredicate}
use Rattle.syn_trees.specs.declared.asm_call.AsmPieceKind.{AsmPieceKind}
use Rattle.syn_trees.specs.declared.asm_call.AsmPieceKind.TheVariants.{ClobberAbi, Options, Operand}
use Rattle.syn_trees.specs.declared.asm_call.AsmPiece.{AsmPiece}
use Rattle.script_tokens.specs.Tokens.{Kind, Text, Mark, Tok}
use Rattle.script_tokens.specs.Readers.{◌>>=◌, if_there, take, word, mark, open_round, close_round, behind}
use Rattle.script_tokens.specs.Many.{many}
use Rattle.script_grammar.specs.Preds.{pred}
use Rattle.script_grammar.specs.AsmWords.{exact_word, left_out}
use Rattle.script_grammar.specs.AsmOperands.{operand}

-- `cfg` `(` PRED `)`
abbrev pub piece_cfg : List Tok → Option (CfgPredicate × List Tok)
piece_cfg toks = do
  cfg ← exact_word (codes "cfg") toks
  opens ← open_round cfg.1
  syntax ← pred opens.1
  closes ← close_round syntax.1
  Some (syntax.0, closes.1)

-- as many words behind commas as stand there, behind a first
abbrev pub and_more_words : List ℕ × List Tok → List (List ℕ) × List Tok
and_more_words first = (first.0 ∷ (many (behind 44 word) first.1).0, (many (behind 44 word) first.1).1)

-- no word, or some with commas between them
abbrev pub option_words : List Tok → List (List ℕ) × List Tok
option_words toks = if_there (word toks) (λ first. and_more_words first) ([], toks)

-- behind `options`: words in brackets
abbrev pub options : List Tok → Option (AsmPieceKind × List Tok)
options toks = do
  opens ← open_round toks
  closes ← close_round (option_words opens.1).1
  Some (Options (option_words opens.1).0, closes.1)

-- the ABI that a token names; `?` names none
abbrev pub abi_of : Kind → Option (Option (List ℕ))
abi_of (Text token) = Some (Some token.text)
abi_of (Mark c spacing) = left_out c
abi_of other = None

-- behind `clobber_abi`: a string, or `?` for none
abbrev pub clobber_abi : List Tok → Option (AsmPieceKind × List Tok)
clobber_abi toks = take (λ tok. abi_of tok.kind) toks >>= λ abi. Some (ClobberAbi abi.0, abi.1)

-- the name of an operand, in front of `=`: whatever word stands there
abbrev pub operand_name : List Tok → Option (List ℕ × List Tok)
operand_name toks = do
  name ← word toks
  equals ← mark 61 name.1
  Some (name.0, equals.1)

-- an operand with this name, or without one
abbrev pub operand_of : ℕ → Option (List ℕ) → List Tok → Option (AsmPieceKind × List Tok)
operand_of number name toks = operand number toks >>= λ op. Some (Operand name op.0, op.1)

-- BODY: an operand with its name, options, a clobbered ABI, or an operand without a name
abbrev pub body : ℕ → List Tok → Option (AsmPieceKind × List Tok)
body number toks =
    if_there (operand_name toks) (λ name. operand_of number (Some name.0) name.1)
    (if_there (exact_word (codes "options") toks) (λ w. options w.1)
    (if_there (exact_word (codes "clobber_abi") toks) (λ w. clobber_abi w.1)
    (operand_of number None toks)))

-- what stands behind these predicates, with them
abbrev pub piece_behind : ℕ → List CfgPredicate × List Tok → Option (AsmPiece × List Tok)
piece_behind number cfgs = body number cfgs.1 >>= λ kind. Some (record { cfgs = cfgs.0; kind = kind.0 }, kind.1)

-- PIECE: as many predicates as stand there, and what they are about
unfoldable pub piece : ℕ → List Tok → Option (AsmPiece × List Tok)
piece number toks = piece_behind number (many piece_cfg toks)
