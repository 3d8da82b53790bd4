use Rattle.std.proofs.Common.{ap, Some, None}
use Rattle.std.specs.declared.option.Option.{Option}
use Rattle.annotate.specs.Texts.{UnitText, place_in, place_text}
use Rattle.annotate.specs.Scenes.{unit_of}
use Rattle.annotate.proofs.Writing.{on_ok, fixed, nothing, same_text}
use Rattle.annotate.proofs.SceneLemmas.{unit_is}
use Rattle.annotate.proofs.texts.put_place.Goals as goal

-- the place of a token is its place in the unit of its number
pub returns-in-Some : goal.returns-in-Some
returns-in-Some c =
    let lent = c.args.scene.now in
    on_ok c.put_place_in.result c.put_place_in.ensures (λ put.
    same_text (λ s. place_text s c.args.unit c.args.token) (fixed lent c.args.out.now.items c.put_place_in.new.out.items
    (place_in (Some (unit_of c.in-Some.found)) c.args.token) put)
    (λ s shows. ap (λ (u : Option UnitText). place_in u c.args.token) (unit_is lent s shows c.args.unit c.unit_at.result
    (Some c.in-Some.found) c.in-Some.is (c.unit_at.ensures shows.apart))))

-- a token of a unit that is not there has no place
pub returns-in-None : goal.returns-in-None
returns-in-None c =
    let lent = c.args.scene.now in
    nothing lent c.args.out.now.items (λ s. place_text s c.args.unit c.args.token)
    (λ s shows. ap (λ (u : Option UnitText). place_in u c.args.token)
    (unit_is lent s shows c.args.unit c.unit_at.result None c.in-None.is (c.unit_at.ensures shows.apart)))
