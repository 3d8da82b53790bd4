-- What is known of the readers of each number, of no tokens: those that read trees take tokens.
use Rattle.std.proofs.Common.{ℕ, suc, []}
use Rattle.c_specs.specs.Laws.{WholeAreMixes, MixesGoOn}
use Rattle.c_reading.specs.Reading.{IsNumbered}
use Rattle.c_reading.specs.Knot.{knot}
use Rattle.c_reading.proofs.Aims.{TokenLaws, Laws}
use Rattle.c_reading.proofs.TokensShown.{token_laws}
use Rattle.c_reading.proofs.Tied.{laws_of}

pub none_numbered : IsNumbered []
none_numbered n t h = absurd cc

pub none_tokens : TokenLaws []
none_tokens = token_laws [] none_numbered

pub knot_laws : WholeAreMixes → MixesGoOn → (n : ℕ) → Laws [] (suc n) (knot n)
knot_laws whole_are goes n = laws_of whole_are goes [] none_numbered n
