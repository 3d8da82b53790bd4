use Rattle.bounds_below.specs.declared.work.Work.{Work}
use Rattle.bounds_below.proofs.Gaining.{gained, raised_has, raised_sound}
use Rattle.bounds_below.proofs.work.Work.gain.Goals as goal

-- a set that has grown, whose variable waits, is a gain
pub returns-clause-gains : goal.returns-clause-gains
returns-clause-gains c =
    let new : Work = record { sets = c.raise.new.sets; waiting = c.push.new.self } in
    gained c.args.self.now new c.args.at c.args.elems c.if-not-raise.ensures.grown c.raise.ensures.length
    c.raise.ensures.here c.raise.ensures.others c.in_ok-push.ensures.items

pub returns-clause-has : goal.returns-clause-has
returns-clause-has c =
    raised_has c.args.self.now.sets.items c.raise.new.sets.items c.args.at c.args.elems c.raise.ensures.here
    c.raise.ensures.others

pub returns-clause-sound : goal.returns-clause-sound
returns-clause-sound c = λ sys lattice more sound.
    raised_sound c.args.self.now.sets.items c.raise.new.sets.items c.args.at c.args.elems c.raise.ensures.here
    c.raise.ensures.others sys lattice more sound

pub returns-then-not-raise-clause-has : goal.returns-then-not-raise-clause-has
returns-then-not-raise-clause-has c =
    raised_has c.args.self.now.sets.items c.raise.new.sets.items c.args.at c.args.elems c.raise.ensures.here
    c.raise.ensures.others
