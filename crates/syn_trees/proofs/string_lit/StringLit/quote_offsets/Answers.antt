use Rattle.std.proofs.Common.{◌+◌, ◌∙◌, ap, sym}
use Rattle.text_cut.specs.Runs.{size}
use Rattle.syn_trees.proofs.Lengths.{between_part, between_ends}
use Rattle.syn_trees.proofs.string_lit.StringLit.quote_offsets.Goals as goal

pub returns-clause-between : goal.returns-clause-between
returns-clause-between c =
    let parts = c.parts-parts.ensures.parts in
    record {
      quoting = parts.quoting;
      inside = parts.inside;
      quoted = parts.quoted;
      starts = c.range_between.ensures.start ∙ parts.starts;
      ends = c.range_between.ensures.end ∙ (parts.ends ∙ ap (λ n. n + size parts.inside) (sym (c.range_between.ensures.start ∙ parts.starts)));
    }

pub returns-clause-part : goal.returns-clause-part
returns-clause-part c = between_part _ _ _ c.parts-parts.ensures.utf8 (returns-clause-between c)

pub returns-clause-quoted : goal.returns-clause-quoted
returns-clause-quoted c = between_ends _ _ _ c.parts-parts.ensures.utf8 (returns-clause-between c)
