use Rattle.std.proofs.Common.{List, subst}
use Rattle.c_syntax.specs.declared.specifier.SpecWord.{SpecWord}
use Rattle.c_tree.specs.Unit.{spec_words_from}
use Rattle.c_specs.specs.Faults.{IsFault}
use Rattle.c_specs.proofs.reading.read_specs.Goals as goal

pub returns-in-Err-clause-fault : goal.returns-in-Err-clause-fault
returns-in-Err-clause-fault c =
    subst (λ (ws : List SpecWord). IsFault (spec_words_from ws) c.in-Err.fault) c.as_slice.ensures.value
    c.in-Err.ensures.fault
