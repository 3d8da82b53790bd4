use Rattle.std.proofs.lemmas.Bool.{eq-eqb}
use Rattle.lattice_file.proofs.FrontLemmas.{dollar_alone}
use Rattle.lattice_file.proofs.words.short_dollar_front.Goals as goal

pub returns-then-dollar-eq36 : goal.returns-then-dollar-eq36
returns-then-dollar-eq36 c = dollar_alone c.args.dollar (eq-eqb c.args.dollar 36 c.if-dollar-eq36.true)
