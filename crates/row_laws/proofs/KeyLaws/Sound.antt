-- Sources that were read are sound.
use Rattle.std.proofs.Common.{All, List, [], ◌∷◌}
use Rattle.std.proofs.lemmas.List.Elements.{All-nil, All-cons, All-head, All-tail}
use Rattle.type_rules.specs.Program.{Source}
use Rattle.resolve_laws.specs.NameLaws.NameLaws.{IsSound}
use Rattle.row_laws.specs.KeyLaws.Differing.{IsRead}

-- sources that are read are sound
pub sound_of : (sources : List Source) → All IsRead sources → All IsSound sources
sound_of [] h = All-nil IsSound
sound_of (it ∷ sources) h =
    let read = All-head IsRead it sources h in
    All-cons IsSound it sources (read.all, read.rules) (sound_of sources (All-tail IsRead it sources h))
