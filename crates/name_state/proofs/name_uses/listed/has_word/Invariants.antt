use Rattle.std.proofs.Common.{◌≡◌, drop}
use Rattle.name_rules.specs.Declaring.{has_word}
use Rattle.name_state.proofs.name_uses.listed.has_word.Given as goal

abbrev pub invariant-loop-other : goal.invariant-loop-other
invariant-loop-other l = has_word l.word (drop l.other-index l.words) ≡ has_word l.word l.words
