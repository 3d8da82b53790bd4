use Rattle.std.proofs.Common.{◌≡◌, drop}
use Rattle.row_rules.specs.Indexing as rules
use Rattle.row_adding.proofs.indexed.is_within.Given as goal

abbrev pub invariant-loop-n : goal.invariant-loop-n
invariant-loop-n l = rules.is_within (drop l.n-index l.numbers) l.others ≡ rules.is_within l.numbers l.others
