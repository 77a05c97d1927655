use Rattle.std.specs.Prelude.{◌≡◌, take}
use Rattle.std.specs.HashMap.{get}
use Rattle.sym_core.specs.declared.name.Name.{Name}
use Rattle.hir_fmt.specs.Firsts.{same_name}
use Rattle.hir_asm.specs.Mapping.{last_from}
use Rattle.hir_asm.specs.Heads.{heads_of}
use Rattle.hir_asm.proofs.mapping.Operands.new.Given as goal

abbrev pub invariant-loop-place : goal.invariant-loop-place
invariant-loop-place l = (name : Name) → get same_name l.places name ≡ last_from 0 (heads_of (take l.place l.list)) name
