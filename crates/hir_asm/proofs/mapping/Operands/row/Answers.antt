use Rattle.std.proofs.Common.{◌∙◌, ap, subst, refl, inl}
use Rattle.fmt_parse.specs.Asm.{IsAsmRead}
use Rattle.hir_asm.specs.Mapping.{places_in}
use Rattle.hir_asm.specs.Text.{source_of, IsTemplate, IsTemplateRead}
use Rattle.hir_asm.specs.Heads.{heads_of}
use Rattle.hir_asm.proofs.mapping.Operands.row.Goals as goal

pub returns : goal.returns
returns c =
    let template : IsTemplate c.args.literal.now c.args.is_direct c.in-Some.text = subst (IsTemplateRead c.args.literal.now c.args.is_direct) c.in-Some.is c.in_ok-text.ensures in
    inl (record {
      source = source_of c.in-Some.text;
      value = template.value.value;
      shift = template.shift;
      read = c.in_ok-read.read;
      is = subst (λ text. IsAsmRead c.args.counter text c.in_ok-read.read) c.as_str.ensures c.in_ok-read.ensures.read;
      puts = c.in_ok-places.ensures ∙ ap (places_in (heads_of c.args.self.now.list.now) (source_of c.in-Some.text)) c.as_slice.ensures.value;
      counts = refl;
    })
