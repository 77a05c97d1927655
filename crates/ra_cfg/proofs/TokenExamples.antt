-- Worked examples of predicates at the front of token trees.
use Rattle.std.proofs.Common.{◌≡◌, ℕ, List, [], ◌∷◌, codes, refl}
use Rattle.syn_trees.specs.declared.token_tree.Spacing.TheVariants.{Alone, Joint}
use Rattle.syn_trees.specs.declared.token_tree.TokenTree.{TokenTree, Ident, Literal, Punct, Subtree}
use Rattle.ra_cfg.specs.declared.cfg_expr.CfgAtom.TheVariants.{Flag, KeyValue}
use Rattle.ra_cfg.specs.declared.cfg_expr.CfgExpr.{CfgExpr, Invalid, Atom, All, Any, Not, Version}
use Rattle.ra_cfg.specs.TokenRules.{next_predicate, behind_predicate}
use Rattle.ra_cfg.proofs.Items.{items}

abbrev k : TokenTree
k = Ident (codes "k")

abbrev a : TokenTree
a = Ident (codes "a")

abbrev b : TokenTree
b = Ident (codes "b")

abbrev five : TokenTree
five = Literal (record { text = codes "5" })

abbrev comma : TokenTree
comma = Punct 44 Alone

-- `=` with a space behind it
abbrev equals : TokenTree
equals = Punct 61 Alone

-- `=` with a mark or another tree directly behind it
abbrev joint : TokenTree
joint = Punct 61 Joint

abbrev flag : List ℕ → CfgExpr
flag word = Atom (Flag word)

-- a name and a group
abbrev call : List ℕ → List TokenTree → List TokenTree
call word inside = Ident word ∷ Subtree inside ∷ []

-- rule 1: no tree, no predicate
none_left : next_predicate [] ≡ Invalid
none_left = refl

-- rule 2: what is no name is consumed alone, and the comma behind it is left
no_name : next_predicate (five ∷ comma ∷ a ∷ []) ≡ Invalid
no_name = simp items

no_name_left : behind_predicate (five ∷ comma ∷ a ∷ []) ≡ comma ∷ a ∷ []
no_name_left = simp items

-- `all(5, windows)`
all_with_a_number : next_predicate (call (codes "all") (five ∷ comma ∷ Ident (codes "windows") ∷ [])) ≡ All (Invalid ∷ Invalid ∷ flag (codes "windows") ∷ [])
all_with_a_number = simp items

-- rule 3: `k = 5, a`, and the comma is eaten
pair : next_predicate (k ∷ equals ∷ five ∷ comma ∷ a ∷ []) ≡ Atom (KeyValue (codes "k") (codes "5"))
pair = simp items

pair_left : behind_predicate (k ∷ equals ∷ five ∷ comma ∷ a ∷ []) ≡ a ∷ []
pair_left = simp items

-- rule 3: a Joint `=` in front of what is no mark
joint_pair : next_predicate (k ∷ joint ∷ five ∷ []) ≡ Atom (KeyValue (codes "k") (codes "5"))
joint_pair = simp items

-- rule 4: `k = , a` takes the name alone
no_value_left : behind_predicate (k ∷ equals ∷ comma ∷ a ∷ []) ≡ equals ∷ comma ∷ a ∷ []
no_value_left = simp items

-- `all(k = , a)`
all_without_a_value : next_predicate (call (codes "all") (k ∷ equals ∷ comma ∷ a ∷ [])) ≡ All (Invalid ∷ Invalid ∷ Invalid ∷ flag (codes "a") ∷ [])
all_without_a_value = simp items

-- `all(k =, a)`: the `=` is Joint with the comma
all_with_a_joint_mark : next_predicate (call (codes "all") (k ∷ joint ∷ comma ∷ a ∷ [])) ≡ All (flag (codes "k") ∷ Invalid ∷ Invalid ∷ flag (codes "a") ∷ [])
all_with_a_joint_mark = simp items

-- `k => a`: the name is a flag, and the rest is left
arrow_left : behind_predicate (k ∷ joint ∷ Punct 62 Alone ∷ a ∷ []) ≡ joint ∷ Punct 62 Alone ∷ a ∷ []
arrow_left = simp items

-- rule 5: `any(a, b,)`
any_of_two : next_predicate (call (codes "any") (a ∷ comma ∷ b ∷ comma ∷ [])) ≡ Any (flag (codes "a") ∷ flag (codes "b") ∷ [])
any_of_two = simp items

-- `not(a, b)`
not_of_two : next_predicate (call (codes "not") (a ∷ comma ∷ b ∷ [])) ≡ Not (flag (codes "a"))
not_of_two = simp items

-- `not()`
not_of_none : next_predicate (call (codes "not") []) ≡ Not Invalid
not_of_none = simp items

-- `version(5)`
version_of_one : next_predicate (call (codes "version") (five ∷ [])) ≡ Version (codes "5")
version_of_one = simp items

-- `version(5,)`
version_of_more : next_predicate (call (codes "version") (five ∷ comma ∷ [])) ≡ Invalid
version_of_more = simp items

-- `version(a)`
version_of_a_word : next_predicate (call (codes "version") (a ∷ [])) ≡ Invalid
version_of_a_word = simp items

-- `k(a)`
unknown_call : next_predicate (call (codes "k") (a ∷ [])) ≡ Invalid
unknown_call = simp items

-- rules 5 and 7: `all(), a`
call_left : behind_predicate (Ident (codes "all") ∷ Subtree [] ∷ comma ∷ a ∷ []) ≡ a ∷ []
call_left = simp items

-- rules 6 and 7, three times on `a, b`
first_flag : next_predicate (a ∷ comma ∷ b ∷ []) ≡ flag (codes "a")
first_flag = simp items

first_flag_left : behind_predicate (a ∷ comma ∷ b ∷ []) ≡ b ∷ []
first_flag_left = simp items

second_flag : next_predicate (b ∷ []) ≡ flag (codes "b")
second_flag = simp items

second_flag_left : behind_predicate (b ∷ []) ≡ []
second_flag_left = simp items

-- rule 7: one comma is eaten, and not two
two_commas : behind_predicate (a ∷ comma ∷ comma ∷ []) ≡ comma ∷ []
two_commas = simp items
