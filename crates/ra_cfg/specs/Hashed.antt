-- What is fed to a hasher of a predicate: a number for its kind, and what it holds.
use Rattle.std.specs.Prelude.{◌++◌}
use Rattle.std.specs.Hash as fed
use Rattle.ra_cfg.specs.contracts.cfg_expr.CfgAtomHash.TheImpl as atom
use Rattle.ra_cfg.specs.declared.cfg_expr.CfgExpr.{CfgExpr, CfgExpr-F}
use Rattle.ra_cfg.specs.declared.cfg_expr.CfgExpr.TheFolds.{fold-CfgExpr}

-- what is fed of a predicate, of what is fed of its parts
abbrev pub hash_step : CfgExpr-F fed.HashWrites → fed.HashWrites
hash_step CfgExpr-F.Invalid = fed.u8 0
hash_step (CfgExpr-F.Atom a) = fed.u8 1 ++ (atom.ghosts).hash_input a
hash_step (CfgExpr-F.All parts) = fed.u8 2 ++ fed.slice (λ part. part) parts
hash_step (CfgExpr-F.Any parts) = fed.u8 3 ++ fed.slice (λ part. part) parts
hash_step (CfgExpr-F.Not part) = fed.u8 4 ++ part
hash_step (CfgExpr-F.Version text) = fed.u8 5 ++ fed.str text

-- what is fed of a predicate
abbrev pub hashed : CfgExpr → fed.HashWrites
hashed = fold-CfgExpr fed.HashWrites hash_step
