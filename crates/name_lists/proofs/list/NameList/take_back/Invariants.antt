use Rattle.std.proofs.Common.{◌≡◌, drop}
use Rattle.name_lists.proofs.list.NameList.take_back.Given as goal

abbrev pub invariant-loop : goal.invariant-loop
invariant-loop g l = l.self ≡ drop l.counter l.fn.self
