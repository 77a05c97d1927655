-- Values of literals in the syntax of predicates.
use Rattle.std.proofs.Common.{◌≡◌, ℕ, List, Some, None, sym}
use Rattle.syn_trees.specs.Literal.{HasValue, HasNoValue}
use Rattle.syn_trees.specs.ReadString.{value_of}
use Rattle.syn_trees.proofs.Values.{value_found, value_none}

-- the value that a literal has is read
pub value-found : (token value : List ℕ) → HasValue token value → Some value ≡ value_of token
value-found token value has = sym (value_found token value has)

-- of a literal without a value none is read
pub value-none : (token : List ℕ) → HasNoValue token → None ≡ value_of token
value-none token none = sym (value_none token none)

pub ruleset values = (value-found, value-none)
