use Rattle.std.proofs.Common.{Bool, ℕ, List, Option, map, drop}
use Rattle.std.specs.List.{flat_map}
use Rattle.std.specs.Fn.{FnReturnsAt}
use Rattle.ra_cfg.specs.declared.cfg_expr.CfgAtom.{CfgAtom as AtomValue}
use Rattle.ra_cfg.specs.Reading.{read_all, read_any, atoms_of, versions_of, Agrees}
use Rattle.ra_cfg.proofs.Folding.{Remains}
use Rattle.ra_cfg.proofs.cfg_expr.+folding.Given as goal

abbrev pub invariant-fold_all-loop-part : goal.invariant-fold_all-loop-part
invariant-fold_all-loop-part g l =
    (holds : AtomValue → Bool) (answer : List ℕ → Option Bool) →
    Agrees (FnReturnsAt g.F.Fn l.query) holds (flat_map (λ part. part) (map atoms_of l.parts)) →
    Agrees (FnReturnsAt g.G.Fn l.version) answer (flat_map (λ part. part) (map versions_of l.parts)) →
    Remains holds answer (FnReturnsAt g.F.Fn l.query) (FnReturnsAt g.G.Fn l.version) read_all l.parts (drop l.part-index l.parts)

abbrev pub invariant-fold_any-loop-part : goal.invariant-fold_any-loop-part
invariant-fold_any-loop-part g l =
    (holds : AtomValue → Bool) (answer : List ℕ → Option Bool) →
    Agrees (FnReturnsAt g.F.Fn l.query) holds (flat_map (λ part. part) (map atoms_of l.parts)) →
    Agrees (FnReturnsAt g.G.Fn l.version) answer (flat_map (λ part. part) (map versions_of l.parts)) →
    Remains holds answer (FnReturnsAt g.F.Fn l.query) (FnReturnsAt g.G.Fn l.version) read_any l.parts (drop l.part-index l.parts)
