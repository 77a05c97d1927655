use Rattle.std.proofs.Common.{◌<◌, ◌||◌, ◌+◌, length, drop, ap, sym, ◌∙◌, arith}
use Rattle.std.specs.List.{list_any, filter_map}
use Rattle.std.specs.FinSet as set
use Rattle.ra_cfg.specs.Options.{atom_cmp}
use Rattle.cfg_dnf.specs.Hints.{negated_atom}
use Rattle.cfg_dnf.proofs.Gathered.{any_step}
use Rattle.cfg_dnf.proofs.hinting.any_negated.Goals as goal

pub loop-literal-preserved : goal.loop-literal-preserved
loop-literal-preserved c =
    let within : c.loop-literal.literal-index < length c.args.literals.now = omega arith in
    sym (any_step (set.contains (set.from_list {R = atom_cmp} c.args.plain.now.keys)) c.args.literals.now c.loop-literal.literal-index _ within c.literal-item.is
    ∙ ap (λ b. b || list_any (set.contains (set.from_list {R = atom_cmp} c.args.plain.now.keys)) (filter_map negated_atom (drop (c.loop-literal.literal-index + 1) c.args.literals.now))) (sym c.is_negated_in.ensures ∙ c.if-is_negated_in.false))
    ∙ c.loop-literal.invariant

pub returns-then-is_negated_in : goal.returns-then-is_negated_in
returns-then-is_negated_in c =
    let within : c.loop-literal.literal-index < length c.args.literals.now = omega arith in
    sym (ap (λ b. b || list_any (set.contains (set.from_list {R = atom_cmp} c.args.plain.now.keys)) (filter_map negated_atom (drop (c.loop-literal.literal-index + 1) c.args.literals.now))) (sym c.is_negated_in.ensures ∙ c.if-is_negated_in.true))
    ∙ sym (any_step (set.contains (set.from_list {R = atom_cmp} c.args.plain.now.keys)) c.args.literals.now c.loop-literal.literal-index _ within c.literal-item.is) ∙ c.loop-literal.invariant
