use Rattle.std.proofs.Common.{◌≡◌, drop}
use Rattle.row_rules.specs.Indexing as rules
use Rattle.row_adding.proofs.indexed.has_number.Given as goal

abbrev pub invariant-loop-m : goal.invariant-loop-m
invariant-loop-m l = rules.has_number l.n (drop l.m-index l.numbers) ≡ rules.has_number l.n l.numbers
