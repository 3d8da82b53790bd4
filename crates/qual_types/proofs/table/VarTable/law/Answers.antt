use Rattle.qual_types.proofs.Laws.{own_positions, own_root}
use Rattle.qual_types.proofs.table.VarTable.law.Goals as goal

pub returns-clause-own_root : goal.returns-clause-own_root
returns-clause-own_root c = own_root _ (rw c.self.view_is at c.self.invariant)

pub returns-clause-apart : goal.returns-clause-apart
returns-clause-apart c = own_positions _
