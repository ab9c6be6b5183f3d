use Rattle.http_messages.specs.Block.{from_block}
use Rattle.http_messages.proofs.BlockLemmas.{HasNoEndUpTo-zero}
use Rattle.http_messages.proofs.block.find_block.Goals as goal

pub find_block_from-requires : goal.find_block_from-requires
find_block_from-requires c = HasNoEndUpTo-zero (from_block c.args.bytes.now)
