-- Groups and brackets, by the depth that is left.
use Rattle.std.proofs.Common.{◌≡◌, ℕ, zero, suc, ◌-◌, ◌<◌, List, None, refl, arith}
use Rattle.script_tokens.specs.declared.token.Bracket.{Bracket}
use Rattle.script_tokens.specs.Tokens.{Tok}
use Rattle.script_tokens.specs.Many.{many}
use Rattle.script_grammar.specs.Trees.{group_of, tree_by, group_in}
use Rattle.script_grammar.specs.Preds.{in_brackets, brackets_in, pred_in}

-- no group stands where no depth is left
pub no_group : (depth : ℕ) (bracket : Bracket) (toks : List Tok) → depth ≡ 0 → group_in depth bracket toks ≡ None
unfolding group_in
no_group zero bracket toks none = refl
no_group (suc depth) bracket toks none = absurd (omega (arith, none))

-- in a group the depth is one less
pub group_deeper : (depth : ℕ) (bracket : Bracket) (toks : List Tok) → 0 < depth → group_in depth bracket toks ≡ group_of bracket (many (tree_by (group_in (depth - 1))) toks)
unfolding group_in
group_deeper zero bracket toks some = absurd (omega (arith, some))
group_deeper (suc depth) bracket toks some = let same : suc depth - 1 ≡ depth = omega arith in rw same refl

pub ruleset groups = (no_group, group_deeper)

-- no brackets stand where no depth is left
pub no_brackets : (depth : ℕ) (keyword : List ℕ) (toks : List Tok) → depth ≡ 0 → brackets_in depth keyword toks ≡ None
unfolding brackets_in
no_brackets zero keyword toks none = refl
no_brackets (suc depth) keyword toks none = absurd (omega (arith, none))

-- in brackets the depth is one less
pub one_fewer : (depth : ℕ) (keyword : List ℕ) (toks : List Tok) → 0 < depth → brackets_in depth keyword toks ≡ in_brackets (pred_in (depth - 1)) keyword toks
unfolding brackets_in
one_fewer zero keyword toks some = absurd (omega (arith, some))
one_fewer (suc depth) keyword toks some = let same : suc depth - 1 ≡ depth = omega arith in rw same refl

pub ruleset brackets = (no_brackets, one_fewer)
