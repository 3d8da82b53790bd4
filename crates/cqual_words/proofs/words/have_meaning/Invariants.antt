use Rattle.std.proofs.Common.{◌≡◌, map, drop}
use Rattle.std.specs.List.{list_all}
use Rattle.cqual_words.specs.Words.{has_meaning}
use Rattle.cqual_words.proofs.words.have_meaning.Given as goal

abbrev pub invariant-loop-text : goal.invariant-loop-text
invariant-loop-text l =
    list_all has_meaning (map (λ s. s.now) (drop l.text-index l.texts))
    ≡ list_all has_meaning (map (λ s. s.now) l.texts)
