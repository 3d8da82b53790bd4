use Rattle.std.proofs.Common.{arith}
use Rattle.name_state.proofs.NameTypes.Knowing.{parts_more}
use Rattle.name_state.proofs.name_types.types.Types.with_words.Goals as goal

-- the parts of the shape that gets more words are below the size of the table
pub add-requires : goal.add-requires
add-requires c =
    c.in_ok-shape.ensures.parts _
    (parts_more c.args.ty _ c.shape.result.now (let low = c.requires in omega arith) c.shape.ensures.low)
