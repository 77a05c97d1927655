use Rattle.std.proofs.Common.{◌≡◌, ◌++◌, length, take, map, fold}
use Rattle.std.specs.List.{flat_map}
use Rattle.std.specs.Hash as fed
use Rattle.ra_cfg.specs.Hashed.{hashed}
use Rattle.ra_cfg.proofs.cfg_expr.+hashing.Given as goal

abbrev pub invariant-hash_all-loop-part : goal.invariant-hash_all-loop-part
invariant-hash_all-loop-part g l =
    l.state ≡ fold g.H.Hasher.write l.fn.state (fed.usize (length l.parts) ++ flat_map (λ part. part) (map hashed (take l.part-index l.parts)))
