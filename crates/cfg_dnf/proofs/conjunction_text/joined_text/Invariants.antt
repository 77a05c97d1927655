use Rattle.std.proofs.Common.{◌≡◌, ◌++◌, map, take, string_bytes}
use Rattle.std.specs.List.{flat_map}
use Rattle.ra_cfg.specs.Text.{after_comma}
use Rattle.cfg_dnf.specs.DnfText.{literal_text}
use Rattle.cfg_dnf.proofs.conjunction_text.joined_text.Given as goal

abbrev pub invariant-loop-literal : goal.invariant-loop-literal
invariant-loop-literal l = string_bytes l.text ≡ string_bytes l.initial.text ++ flat_map after_comma (map literal_text (take l.literal-index l.rest))
