-- What the parts of what is around stand for.
use Rattle.row_rules.specs.RowSteps.Rounds as rules
use Rattle.row_world.specs.declared.tape_rounds.rounds.Naming.{Naming}
use Rattle.row_world.specs.declared.tape_rounds.rounds.Naming.TheVariants as namings
use Rattle.row_world.specs.declared.tape_rounds.rounds.Round.{Round}

-- what the name of a declarator is, as the definitions have it
abbrev pub naming_of : Naming → rules.Naming
naming_of namings.Name = rules.a_name
naming_of (namings.OwnParam function number) = rules.own_param function number
naming_of namings.OtherParam = rules.other_param
naming_of (namings.Identified function) = rules.identified_param function

-- what is begun and not at its end, as the definitions have it
abbrev pub round_of : Round → rules.Round
round_of it = record { naming = naming_of it.naming; is_quiet = it.is_quiet }
