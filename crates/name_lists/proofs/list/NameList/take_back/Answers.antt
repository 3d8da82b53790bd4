use Rattle.std.proofs.Common.{drop, ap, ◌∙◌}
use Rattle.name_lists.proofs.Cutting.{drop_next}
use Rattle.name_lists.proofs.list.NameList.take_back.Goals as goal

pub loop-preserved : goal.loop-preserved
loop-preserved g c =
    c.pop.ensures ∙ ap (λ xs. drop 1 xs) c.loop.invariant ∙ drop_next c.args.self.now c.loop.counter
