-- Which predicate stands at the front of token trees, and how many trees it takes, by the first rule that holds:
--     1  No tree is left: there is no predicate.
--     2  A tree that is no name: `Invalid`, which takes that tree alone, and no comma.
--     3  A name, then `=` which is Alone or is not followed by a mark, then a literal: a key with the literal's kept text.
--     4  A name and such an `=` without a literal behind it: `Invalid`, which takes the name alone, and no comma.
--     5  A name and a group: `all` and `any` with the predicates inside, one after the other; `not` with the first of them, or with
--        `Invalid`; `version` with a literal that stands inside alone. Any other group, and any other name, is `Invalid`.
--     6  Otherwise a flag of that name.
--     7  After rules 3, 5 and 6 one comma is taken where it stands next.
use Rattle.std.specs.Prelude.{◌≡◌, ℕ, zero, suc, Bool, true, false, ◌&&◌, ◌||◌, nat_eq, if◌then◌else◌, List, [], ◌∷◌, map, drop, Option, Some, None, is_none, codes}
use Rattle.std.specs.Str.{bytes_eq}
use Rattle.syn_trees.specs.declared.token_tree.Spacing.{Spacing}
use Rattle.syn_trees.specs.declared.token_tree.Spacing.TheVariants.{Alone, Joint}
use Rattle.syn_trees.specs.declared.token_tree.TokenTree.{TokenTree, TokenTree-F}
use Rattle.syn_trees.specs.declared.token_tree.TokenTree.TheFolds.{fold-TokenTree}
use Rattle.ra_cfg.specs.declared.cfg_expr.CfgAtom.TheVariants.{Flag, KeyValue}
use Rattle.ra_cfg.specs.declared.cfg_expr.CfgExpr.{CfgExpr, Invalid, Atom, All, Any, Not, Version}

-- a group, as the rules see it: the predicates inside, and the text of the literal inside where it stands there alone
pub record Inside : Type 0 where
  pub predicates : List CfgExpr
  pub literal : Option (List ℕ)

-- a tree, as the rules see it
pub data TreeItem : Type 0 where
  Word : List ℕ → TreeItem
  Text : List ℕ → TreeItem
  Mark : ℕ → Spacing → TreeItem
  Group : Inside → TreeItem

-- a predicate, and how many trees it takes behind its first one
pub record Front : Type 0 where
  pub expr : CfgExpr
  pub behind : ℕ

abbrev front : CfgExpr → ℕ → Front
front expr behind = record { expr = expr; behind = behind }

-- the name of a name
abbrev pub name : TreeItem → Option (List ℕ)
name (Word word) = Some word
name (Text text) = None
name (Mark c spacing) = None
name (Group inside) = None

-- the kept text of a literal
abbrev pub literal : TreeItem → Option (List ℕ)
literal (Word word) = None
literal (Text text) = Some text
literal (Mark c spacing) = None
literal (Group inside) = None

-- the character and the spacing of a punctuation mark
abbrev pub mark : TreeItem → Option (ℕ × Spacing)
mark (Word word) = None
mark (Text text) = None
mark (Mark c spacing) = Some (c, spacing)
mark (Group inside) = None

-- what stands inside a group
abbrev pub group : TreeItem → Option Inside
group (Word word) = None
group (Text text) = None
group (Mark c spacing) = None
group (Group inside) = Some inside

-- what the next tree gives
abbrev pub next : {A : Type 0} → (TreeItem → Option A) → List TreeItem → Option A
next part [] = None
next part (i ∷ rest) = part i

abbrev pub is_alone : Spacing → Bool
is_alone Alone = true
is_alone Joint = false

-- whether a mark says that a value comes: `=` which is alone, or is not followed by a mark
abbrev pub is_equals : Option (ℕ × Spacing) → Option (ℕ × Spacing) → Bool
is_equals None follower = false
is_equals (Some m) follower = nat_eq m.0 61 && (is_alone m.1 || is_none follower)

-- whether such an `=` stands next
abbrev pub equals_next : List TreeItem → Bool
equals_next rest = is_equals (next mark rest) (next mark (drop 1 rest))

-- how many commas are taken: one where it is the mark (rule 7)
abbrev pub comma : Option (ℕ × Spacing) → ℕ
comma None = 0
comma (Some m) = if nat_eq m.0 44 then 1 else 0

-- how many commas are taken in front of these trees
abbrev pub commas : List TreeItem → ℕ
commas rest = comma (next mark rest)

-- the first predicate, and `Invalid` where there is none
abbrev pub first_of : List CfgExpr → CfgExpr
first_of [] = Invalid
first_of (expr ∷ rest) = expr

-- `version` with the text of its literal, where it stands there alone
abbrev pub version_of : Option (List ℕ) → CfgExpr
version_of None = Invalid
version_of (Some text) = Version text

-- a name and a group (rule 5)
abbrev pub grouped : List ℕ → Inside → CfgExpr
grouped word inside =
    if bytes_eq word (codes "all") then All inside.predicates else
    if bytes_eq word (codes "any") then Any inside.predicates else
    if bytes_eq word (codes "not") then Not (first_of inside.predicates) else
    if bytes_eq word (codes "version") then version_of inside.literal else Invalid

-- a name and `=`, with the literal behind it, and the trees behind that (rules 3 and 4)
abbrev pub valued : List ℕ → Option (List ℕ) → List TreeItem → Front
valued word None rest = front Invalid 0
valued word (Some value) rest = front (Atom (KeyValue word value)) (suc (suc (commas rest)))

-- a name without `=`, with the group behind it, and the trees behind the name (rules 5 and 6)
abbrev pub unvalued : List ℕ → Option Inside → List TreeItem → Front
unvalued word None rest = front (Atom (Flag word)) (commas rest)
unvalued word (Some inside) rest = front (grouped word inside) (suc (commas (drop 1 rest)))

-- a name, and the trees behind it
abbrev pub behind_name : List ℕ → List TreeItem → Front
behind_name word rest =
    if equals_next rest
    then valued word (next literal (drop 1 rest)) (drop 2 rest)
    else unvalued word (next group rest) rest

-- what begins with a tree that is a name or not (rule 2)
abbrev pub begun : Option (List ℕ) → List TreeItem → Front
begun None rest = front Invalid 0
begun (Some word) rest = behind_name word rest

-- the predicates of these trees, one after the other, behind so many trees that are taken
abbrev pub predicates_behind : ℕ → List TreeItem → List CfgExpr
predicates_behind taken [] = []
predicates_behind (suc taken) (i ∷ rest) = predicates_behind taken rest
predicates_behind zero (i ∷ rest) = (begun (name i) rest).expr ∷ predicates_behind (begun (name i) rest).behind rest

-- all predicates of these trees
abbrev pub predicates : List TreeItem → List CfgExpr
predicates items = predicates_behind 0 items

-- the text of a literal that stands alone
abbrev pub only_literal : List TreeItem → Option (List ℕ)
only_literal [] = None
only_literal (i ∷ []) = literal i
only_literal (i ∷ j ∷ rest) = None

-- what stands inside a group of these trees
abbrev pub inside_of : List TreeItem → Inside
inside_of items = record { predicates = predicates items; literal = only_literal items }

-- how a tree is seen, of how the trees inside are seen
abbrev pub item_step : TokenTree-F TreeItem → TreeItem
item_step (TokenTree-F.Ident word) = Word word
item_step (TokenTree-F.Literal kept) = Text kept.text
item_step (TokenTree-F.Punct c spacing) = Mark c spacing
item_step (TokenTree-F.Subtree items) = Group (inside_of items)

-- how a tree is seen
unfoldable pub item : TokenTree → TreeItem
item = fold-TokenTree TreeItem item_step

-- the predicate at the front of these trees; `Invalid` where no tree is left
abbrev pub expr_at : List TreeItem → CfgExpr
expr_at [] = Invalid
expr_at (i ∷ rest) = (begun (name i) rest).expr

-- how many trees it takes
abbrev pub taken_at : List TreeItem → ℕ
taken_at [] = 0
taken_at (i ∷ rest) = suc (begun (name i) rest).behind

-- the next predicate of token trees
abbrev pub next_predicate : List TokenTree → CfgExpr
next_predicate trees = expr_at (map item trees)

-- the trees behind it
abbrev pub behind_predicate : List TokenTree → List TokenTree
behind_predicate trees = drop (taken_at (map item trees)) trees

-- all predicates of token trees, one after the other
abbrev pub all_predicates : List TokenTree → List CfgExpr
all_predicates trees = predicates (map item trees)

-- what was read is this predicate, and the trees behind it are left
abbrev pub Reads : Front → List TokenTree → CfgExpr → List TokenTree → Type 0
Reads read trees expr left = (expr ≡ read.expr) × (left ≡ drop read.behind trees)
