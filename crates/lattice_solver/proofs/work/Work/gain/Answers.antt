use Rattle.std.proofs.Common.{subst, sym}
use Rattle.std.proofs.lemmas.Bool.{OnTrue_at}
use Rattle.lattice_solver.specs.Phases.{AllLeadIn}
use Rattle.lattice_solver.specs.Working.{Held, Gains}
use Rattle.lattice_solver.proofs.Carried.{raised_leads, raised_has}
use Rattle.lattice_solver.proofs.Gaining.{gained}
use Rattle.lattice_solver.proofs.work.Work.gain.Goals as goal

-- a set that has grown, whose variable waits from then on, is a gain
pub returns-then-raise-clause-gains : goal.returns-then-raise-clause-gains
returns-then-raise-clause-gains c =
    let new : Held = record { sets = c.raise.new.self; waiting = c.push.new.self } in
    let old : Held = record { sets = c.self.inside.sets; waiting = c.self.inside.waiting } in
    subst (λ held. Gains held new) c.self.view_is (gained old new c.args.phase c.args.at c.args.elems
    (OnTrue_at c.if-raise.true c.raise.ensures.moves.less) c.raise.ensures.moves.size c.raise.ensures.here
    c.raise.ensures.others c.push.ensures.here c.push.ensures.others c.push.ensures.count)

pub returns-then-raise-clause-has : goal.returns-then-raise-clause-has
returns-then-raise-clause-has c =
    raised_has c.self.inside.sets c.raise.new.self c.args.phase c.args.at c.args.elems c.raise.ensures.here

-- raising a set by elements that lead to its variable keeps the sets sound
pub returns-then-raise-clause-sound : goal.returns-then-raise-clause-sound
returns-then-raise-clause-sound c = λ sys lattice lead all.
    raised_leads c.self.inside.sets c.raise.new.self c.args.phase c.args.at c.args.elems c.raise.ensures.here sys
    lattice c.raise.ensures.others
    (subst (λ (held : Held). AllLeadIn sys lattice held.sets) (sym c.self.view_is) all) lead

pub returns-else-raise-clause-has : goal.returns-else-raise-clause-has
returns-else-raise-clause-has c =
    raised_has c.self.inside.sets c.raise.new.self c.args.phase c.args.at c.args.elems c.raise.ensures.here
