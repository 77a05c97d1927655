-- Predicates at the front of trees, one after the other.
use Rattle.std.proofs.Common.{◌≡◌, ℕ, zero, suc, ◌≤◌, List, [], ◌∷◌, ◌++◌, append_assoc, map, drop, refl, arith, sym, ap, ◌∙◌}
use Rattle.syn_trees.specs.declared.token_tree.TokenTree.{TokenTree}
use Rattle.ra_cfg.specs.declared.cfg_expr.CfgExpr.{CfgExpr}
use Rattle.ra_cfg.specs.TokenRules.{TreeItem, item, name, begun, predicates_behind, predicates, first_of, expr_at, taken_at, next_predicate, behind_predicate}
use Rattle.ra_cfg.specs.Weights.{weights}

-- how the trees behind n are seen
pub map-drop : {A B : Type 0} (f : A → B) (n : ℕ) (xs : List A) → map f (drop n xs) ≡ drop n (map f xs)
map-drop f zero xs = refl
map-drop f (suc n) [] = refl
map-drop f (suc n) (x ∷ xs) = map-drop f n xs

-- behind n trees that are taken the predicates are those of the trees behind them
pub predicates-taken : (n : ℕ) (items : List TreeItem) → predicates_behind n items ≡ predicates (drop n items)
predicates-taken zero items = refl
predicates-taken (suc n) [] = refl
predicates-taken (suc n) (i ∷ items) = predicates-taken n items

-- the first of all predicates stands at the front
pub first_predicate : (items : List TreeItem) → first_of (predicates items) ≡ expr_at items
first_predicate [] = refl
first_predicate (i ∷ items) = refl

-- where trees are left, the predicate at their front is followed by those of the trees behind it
pub predicates-next : (first : TokenTree) (rest trees : List TokenTree) → trees ≡ first ∷ rest →
    predicates (map item trees) ≡ expr_at (map item trees) ∷ predicates (map item (drop (taken_at (map item trees)) trees))
predicates-next first rest trees is = rw is (ap (λ l. expr_at (map item (first ∷ rest)) ∷ l)
    (predicates-taken (begun (name (item first)) (map item rest)).behind (map item rest) ∙ ap predicates (sym (map-drop item (begun (name (item first)) (map item rest)).behind rest))))

-- behind n trees there is no more than before
pub weights-drop : (n : ℕ) (trees : List TokenTree) → weights (drop n trees) ≤ weights trees
weights-drop zero trees = omega arith
weights-drop (suc n) [] = omega arith
weights-drop (suc n) (t ∷ trees) = let less : weights (drop n trees) ≤ weights trees = weights-drop n trees in omega arith

-- of the trees `inside` these parts were read, and `trees` are left
pub record PartsRead (inside : List TokenTree) (parts : List CfgExpr) (trees : List TokenTree) : Type 0 where
  pub whole : parts ++ predicates (map item trees) ≡ predicates (map item inside)
  pub fits : weights trees ≤ weights inside

-- one more part is read
pub read_on : (inside trees left rest : List TokenTree) (parts : List CfgExpr) (first : TokenTree) (expr : CfgExpr) → PartsRead inside parts trees → trees ≡ first ∷ rest →
    expr ≡ next_predicate trees → left ≡ behind_predicate trees → PartsRead inside (parts ++ expr ∷ []) left
read_on inside trees left rest parts first expr so_far is read behind = record {
  whole = rw (read, behind) (append_assoc parts (next_predicate trees ∷ []) (predicates (map item (behind_predicate trees))) ∙ (ap (λ l. parts ++ l) (sym (predicates-next first rest trees is)) ∙ so_far.whole));
  fits = rw behind (search (arith, so_far.fits, weights-drop (taken_at (map item trees)) trees));
}

pub ruleset drops = (map-drop)

pub ruleset firsts = (first_predicate, map-drop)

pub ruleset turns = (read_on)
