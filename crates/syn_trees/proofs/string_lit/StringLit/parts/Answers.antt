use Rattle.std.proofs.Common.{◌∙◌, sym, ap, subst}
use Rattle.std.specs.Str.{IsUtf8, chars}
use Rattle.text_cut.specs.Place.{place}
use Rattle.syn_trees.specs.ReadString.{found_of, token_at, PartsOf}
use Rattle.syn_trees.proofs.Literals.{literal_found, literal_parts}
use Rattle.syn_trees.proofs.string_lit.StringLit.parts.Goals as goal

pub unreachable-requires : goal.unreachable-requires
unreachable-requires c = literal_found c.self.inside.token c.self.invariant
    (sym (c.in-None.ensures.value ∙ ap (λ p. token_at p) (c.begin.ensures ∙ ap (λ l. place 0 (chars l)) c.as_str.ensures)))

pub returns-clause-parts : goal.returns-clause-parts
returns-clause-parts c = subst (λ l. PartsOf l (found_of c.in-Some.parts)) c.self.view_is
    (literal_parts c.self.inside.token (found_of c.in-Some.parts) c.self.invariant (c.in-Some.ensures.value ∙ ap (λ p. token_at p) (c.begin.ensures ∙ ap (λ l. place 0 (chars l)) c.as_str.ensures)))

pub returns-clause-utf8 : goal.returns-clause-utf8
returns-clause-utf8 c = subst (λ l. IsUtf8 l) (c.as_str.ensures ∙ c.self.view_is) c.as_str.utf8
