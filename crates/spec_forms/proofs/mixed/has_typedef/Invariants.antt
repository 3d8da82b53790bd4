use Rattle.std.proofs.Common.{◌≡◌, drop}
use Rattle.spec_forms.proofs.Typedefs.{has_typedef_in}
use Rattle.spec_forms.proofs.mixed.has_typedef.Given as goal

abbrev pub invariant-loop-word : goal.invariant-loop-word
invariant-loop-word l = has_typedef_in (drop l.word-index l.words) ≡ has_typedef_in l.words
