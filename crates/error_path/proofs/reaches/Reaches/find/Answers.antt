use Rattle.std.proofs.Common.{◌<◌, Some, ap, arith, length, refl, sym, ◌∙◌}
use Rattle.std.proofs.lemmas.Option.{slice_get-get_or}
use Rattle.error_path.proofs.reaches.Reaches.find.Goals as goal

-- a found search that says it is of the lattice and the element is so at its place
pub returns-then-is_of : goal.returns-then-is_of
returns-then-is_of c =
    let found = c.args.self.now.found.items in
    let place = c.loop-place.place in
    let test = c.loop-place-test.true in
    let within : place < length found = omega arith in
    let own = c.if-is_of.ensures refl in (
      c.index-found.result.now,
      slice_get-get_or found place c.index-found.result.now within ∙ ap Some (sym c.index-found.ensures),
      own.0,
      own.1,
    )
