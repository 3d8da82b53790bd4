use Rattle.std.proofs.Common.{◌≡◌, ◌<◌, ◌≤◌, ℕ, Bool, Err, IsErrOf, sym, ap, subst}
use Rattle.lattice_core.specs.View.{orders_of}
use Rattle.flow_graph.specs.System.{System, IsWellOwned, most_variables}
use Rattle.flow_graph.specs.Unfolding.{NamesElements}
use Rattle.unit_starts.specs.declared.unit_skeletons.skeletons.Skeletons.{Skeletons}
use Rattle.c_types.specs.Sources.{sources_in}
use Rattle.constraint_rules.specs.Systems.{AreNamed}
use Rattle.unit_system.specs.declared.fault.GenerateFault.{GenerateFault}
use Rattle.unit_starts.specs.PositionLaws.Positions.{positions_of}
use Rattle.row_rules.specs.Annotations.{has_access}
use Rattle.row_rules.specs.Sites.{variables_among}
use Rattle.unit_system.specs.Numberings.{IsNumberingOf}
use Rattle.unit_system.specs.Systems.{AreNumbered, names_on, starts_on}
use Rattle.row_laws.proofs.KeyLaws.Sound.{sound_of}
use Rattle.constraint_gen.specs.Listing.{is_listed, listed_at}
use Rattle.constraint_gen.specs.Programs.{program_in}
use Rattle.constraint_gen.proofs.Sources.{counted, generated}
use Rattle.constraint_gen.proofs.Units.{numbers_differ}
use Rattle.constraint_gen.proofs.generating.generate.Goals as goal

same_fault : {A : Type 0} (x y : GenerateFault) → IsErrOf {T = A} (Err x) y → x ≡ y
same_fault x y is = cc

-- the constraints, skeletons and listed variables that are made are those generated of the program
pub returns-in-Ok-constrain-clause-made : goal.returns-in-Ok-constrain-clause-made
returns-in-Ok-constrain-clause-made c = λ all is.
    generated c.args.program.now all c.args.units.now is c.args.lattices.now c.args.prelude.now
    c.starts_of_program_are_found.ensures c.positions_are_counted.ensures c.positions_stand.ensures _
    (c.in-Ok-constrain.ensures.system all is) (subst (λ (s : Skeletons). AreNumbered
    (starts_on (has_access c.args.lattices.now) c.args.program.now) s) (sym c.in-Ok-constrain.ensures.skeletons)
    (subst (λ (b : Bool). IsNumberingOf b c.args.program.now c.in-Ok.it.numbering) c.bounds_accesses.ensures
    c.in-Ok.ensures.numbers).skeletons) (subst (λ (b : Bool). c.in-Ok.it.listed.items ≡ listed_at
    (is_listed c.args.units.now (names_on c.args.program.now)) 0 (positions_of (starts_on b c.args.program.now)))
    c.bounds_accesses.ensures (c.in-Ok.ensures.listed (numbers_differ all c.args.units.now is.lexed is.differ)))

-- the graph that is made is well owned: no flow leaves a function but by a call
pub returns-in-Ok-constrain-clause-owned : goal.returns-in-Ok-constrain-clause-owned
returns-in-Ok-constrain-clause-owned c = λ all is.
    subst IsWellOwned (sym (c.in-Ok-constrain.ensures.system all is))
    (c.systems_are_owned.ensures (program_in c.args.lattices.now c.args.prelude.now all) is.read is.differ)

-- each constant and bound of the graph that is made names an element of its lattice, as reports need
pub returns-in-Ok-constrain-clause-named : goal.returns-in-Ok-constrain-clause-named
returns-in-Ok-constrain-clause-named c = λ all is.
    subst (λ (sys : System). AreNamed c.args.lattices.now sys) (sym (c.in-Ok-constrain.ensures.system all is))
    (c.elements_are_named.ensures.named (program_in c.args.lattices.now c.args.prelude.now all)
    (sound_of (sources_in all) is.read) c.law.ensures.sized)

-- each constant and bound of the graph that is made is an element of the order of its lattice
pub returns-in-Ok-constrain-clause-elements : goal.returns-in-Ok-constrain-clause-elements
returns-in-Ok-constrain-clause-elements c = λ all is.
    subst (λ (sys : System). NamesElements sys (orders_of c.args.lattices.now))
    (sym (c.in-Ok-constrain.ensures.system all is))
    (c.elements_are_named.ensures.lattices (program_in c.args.lattices.now c.args.prelude.now all)
    (sound_of (sources_in all) is.read) c.law.ensures.sized)

-- where constraints are made, the program has no more than the most variables
pub returns-in-Ok-constrain-clause-few_variables : goal.returns-in-Ok-constrain-clause-few_variables
returns-in-Ok-constrain-clause-few_variables c = λ all is.
    subst (λ (n : ℕ). n ≤ most_variables)
    (counted c.args.program.now (sources_in all) (sound_of (sources_in all) is.read) is.named is.taped
    c.starts_of_program_are_found.ensures c.positions_are_counted.ensures (has_access c.args.lattices.now))
    (subst (λ (b : Bool). variables_among (starts_on b c.args.program.now) ≤ most_variables) c.bounds_accesses.ensures
    c.in-Ok.ensures.few)

-- where the constraints are too many, the program has no more than the most variables
pub returns-in-Err-constrain-clause-fit_variables : goal.returns-in-Err-constrain-clause-fit_variables
returns-in-Err-constrain-clause-fit_variables c = λ many all is.
    subst (λ (n : ℕ). n ≤ most_variables)
    (counted c.args.program.now (sources_in all) (sound_of (sources_in all) is.read) is.named is.taped
    c.starts_of_program_are_found.ensures c.positions_are_counted.ensures (has_access c.args.lattices.now))
    (subst (λ (b : Bool). variables_among (starts_on b c.args.program.now) ≤ most_variables) c.bounds_accesses.ensures
    c.in-Ok.ensures.few)

-- where the variables are refused as too many, the program has more than the most variables
pub returns-in-Err-clause-too_many_variables : goal.returns-in-Err-clause-too_many_variables
returns-in-Err-clause-too_many_variables c = λ many all is.
    subst (λ (n : ℕ). most_variables < n)
    (counted c.args.program.now (sources_in all) (sound_of (sources_in all) is.read) is.named is.taped
    c.starts_of_program_are_found.ensures c.positions_are_counted.ensures (has_access c.args.lattices.now))
    (subst (λ (b : Bool). most_variables < variables_among (starts_on b c.args.program.now)) c.bounds_accesses.ensures
    (c.in-Err.ensures.too_many (ap Err (same_fault _ _ many))))
