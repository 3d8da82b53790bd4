use Rattle.std.proofs.Common.{◌≡◌, subst, sym, ◌∙◌}
use Rattle.std.specs.Int.{bit_at}
use Rattle.flow_graph.specs.Paths.{anew}
use Rattle.flow_graph.specs.declared.phase.Phase.TheVariants.{First, Second}
use Rattle.lattice_solver.specs.Phases.{set_of}
use Rattle.lattice_solver.proofs.Carried.{moves_room, raised_leads, raised_has, raised_keeps}
use Rattle.lattice_solver.proofs.work.start_anew.Goals as goal

-- at a variable of nobody only its first set grows
pub returns-in-Nobody-clause-raised : goal.returns-in-Nobody-clause-raised
returns-in-Nobody-clause-raised c = record {
  room = moves_room c.args.sets.now c.raise.new.self c.raise.result c.raise.ensures.moves;
  size = c.raise.ensures.moves.size;
  kept = raised_keeps c.args.sets.now c.raise.new.self First c.args.at c.set-elems.result c.raise.ensures.here
      c.raise.ensures.others;
  others = λ p v ne. c.raise.ensures.others p v (λ q. ne);
}

-- at a variable of nobody the first set has all of the second afterwards
pub returns-in-Nobody-clause-anew : goal.returns-in-Nobody-clause-anew
returns-in-Nobody-clause-anew c = λ nobody e has.
    let second : set_of c.raise.new.self Second c.args.at ≡ set_of c.args.sets.now Second c.args.at =
    c.raise.ensures.others Second c.args.at (λ q. absurd cc) in
    raised_has c.args.sets.now c.raise.new.self First c.args.at c.set-elems.result c.raise.ensures.here e
    (subst (λ set. bit_at set e ≡ 1) (second ∙ sym c.set-elems.ensures) has)

-- at a variable of nobody what leads to it in the second phase leads to it in the first
pub returns-in-Nobody-clause-sound : goal.returns-in-Nobody-clause-sound
returns-in-Nobody-clause-sound c = λ lattice all.
    raised_leads c.args.sets.now c.raise.new.self First c.args.at c.set-elems.result c.raise.ensures.here
    c.args.graph.now lattice c.raise.ensures.others all
    (λ e has. anew c.args.at (all Second c.args.at e (subst (λ set. bit_at set e ≡ 1) c.set-elems.ensures has))
    (sym c.in-Nobody.ensures))
