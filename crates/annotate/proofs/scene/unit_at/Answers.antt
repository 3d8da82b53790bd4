use Rattle.annotate.proofs.SceneLemmas.{named_by_one}
use Rattle.annotate.proofs.scene.unit_at.Goals as goal

pub returns-in-Some : goal.returns-in-Some
returns-in-Some c =
    named_by_one c.args.units.now c.in-Some.unit c.args.number c.in-Some.ensures.one c.in-Some.ensures.number
