use Rattle.std.proofs.Common.{◌∙◌, sym, ap, subst, IsTrue}
use Rattle.std.specs.Str.{chars}
use Rattle.text_cut.specs.Place.{place}
use Rattle.text_cut.specs.Seen.{seen}
use Rattle.syn_trees.specs.Literal.{IsUnescaped}
use Rattle.syn_trees.proofs.Literals.{unescaped_by_end}
use Rattle.syn_trees.proofs.string_lit.StringLit.is_plain.Goals as goal

pub returns-else-starts_with : goal.returns-else-starts_with
returns-else-starts_with c = subst (λ l. (IsTrue c.is_at_end.result → IsUnescaped l) × (IsUnescaped l → IsTrue c.is_at_end.result)) c.self.view_is
    (unescaped_by_end c.self.inside.token (seen c.begin-here.result) (seen c.before_backslash.result) c.is_at_end.result (c.begin-here.ensures ∙ ap (λ l. place 0 (chars l)) c.as_str.ensures)
    c.before_backslash.ensures (sym c.starts_with.ensures ∙ c.if-starts_with.false) c.is_at_end.ensures)
