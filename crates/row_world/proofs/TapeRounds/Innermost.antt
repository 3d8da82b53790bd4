-- The innermost of what is begun, through views.
use Rattle.std.proofs.Common.{◌≡◌, false, List, [], ◌∷◌, map, drop, get_or, refl, ap}
use Rattle.name_rules.specs.ShapeSteps.State as states
use Rattle.expr_shapes.specs.declared.shape_stacks.stacks.OpenDeclaration.{OpenDeclaration}
use Rattle.expr_shapes.specs.ShapeStacks.Stacked.{with_first, no_declaration}
use Rattle.expr_shapes.specs.ShapeStacks.Views.{open_as}
use Rattle.row_rules.specs.RowSteps.Rounds as rules
use Rattle.row_world.specs.declared.tape_rounds.rounds.Naming.TheVariants as namings
use Rattle.row_world.specs.declared.tape_rounds.rounds.Round.{Round}
use Rattle.row_world.specs.TapeRounds.Views.{round_of}

abbrev nothing : Round
nothing = record { naming = namings.Name; is_quiet = false }

pub innermost_found : (its : List Round) → round_of (get_or its 0 nothing) ≡ rules.innermost (map round_of its)
innermost_found [] = refl
innermost_found (it ∷ its) = refl

-- whether the second of the open rounds is quiet is the same on the stack and by the rules
pub outside_found : (its : List Round) → (get_or its 1 nothing).is_quiet
    ≡ (rules.innermost (states.without_innermost (map round_of its))).is_quiet
outside_found [] = refl
outside_found (it ∷ []) = refl
outside_found (it ∷ outer ∷ its) = refl

pub innermost_left : (its : List Round) → map round_of (drop 1 its) ≡ states.without_innermost (map round_of its)
innermost_left [] = refl
innermost_left (it ∷ its) = refl

pub innermost_changed : (its : List Round) (new : Round)
    → round_of new ≡ rules.next_round (round_of (get_or its 0 nothing))
    → map round_of (with_first new its) ≡ states.changed rules.next_round (map round_of its)
innermost_changed [] new e = refl
innermost_changed (it ∷ its) new e = ap (λ (x : rules.Round). x ∷ map round_of its) e

pub innermost_identified : (its : List Round) (new : Round)
    → round_of new ≡ rules.identified_round (round_of (get_or its 0 nothing))
    → map round_of (with_first new its) ≡ states.changed rules.identified_round (map round_of its)
innermost_identified [] new e = refl
innermost_identified (it ∷ its) new e = ap (λ (x : rules.Round). x ∷ map round_of its) e

pub name_found : (its : List OpenDeclaration) → (get_or its 0 no_declaration).name ≡ rules.name_so_far (map open_as its)
name_found [] = refl
name_found (it ∷ its) = refl

pub declared_found : (its : List OpenDeclaration) → (get_or its 0 no_declaration).declared
    ≡ states.declared_last (map open_as its)
declared_found [] = refl
declared_found (it ∷ its) = refl
