use Rattle.template_bytes.proofs.LiteralLaws.{IsChunk-at}
use Rattle.template_bytes.proofs.literal.first_chunk.Goals as goal

pub returns : goal.returns
returns c = rw (c.split_at.ensures.front, c.split_at.ensures.back)
    (IsChunk-at c.args.text.now c.floor_char_boundary.result c.utf8.text c.requires c.floor_char_boundary.ensures.bound c.floor_char_boundary.ensures.boundary c.floor_char_boundary.ensures.nearest)
