use Rattle.std.proofs.Common.{refl}
use Rattle.cqual_tool.proofs.Joining.{one_more_may}
use Rattle.cqual_tool.proofs.preparing.added.Goals as goal

-- a unit of its tokens and its tape joins the earlier units, behind them
pub returns : goal.returns
returns c = λ wide lattices number file bytes before unit earlier taped parses. (
  unit,
  parses,
  record {
    are = c.in_ok-push.ensures before unit earlier.are taped;
    may = one_more_may number before unit earlier.may parses.lexes.unit parses.formed;
  },
  refl,
)
