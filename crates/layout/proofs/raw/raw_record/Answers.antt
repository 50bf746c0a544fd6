use Rattle.std.proofs.Common.{rules}
use Rattle.layout.proofs.Chunks.{read_at}
use Rattle.layout.proofs.raw.raw_record.Goals as goal

pub returns : goal.returns
returns c =
    read_at c.args.layout.now c.as_chunks.result.0.now c.args.number c.get.result c.default.result c.map_or.result
    c.as_chunks.ensures.front c.as_chunks.ensures.front_len c.get.ensures.lookup.1 c.get.ensures.lookup.3 (search rules) c.map_or.ensures
