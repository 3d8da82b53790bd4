use Rattle.qual_types.proofs.Laws.{top_owner}
use Rattle.qual_types.proofs.table.VarTable.own_owner.Goals as goal

pub returns-in-Some : goal.returns-in-Some
returns-in-Some c =
    λ top. rw c.owner_of_parent.ensures (top_owner _ _ _ c.in-Some.ensures (top c.in-Some.ensures.below))
