use Rattle.std.proofs.Common.{◌<◌, ◌++◌, length, sym, ap, ◌∙◌, arith}
use Rattle.annotate.specs.Texts.{spot_text}
use Rattle.annotate.specs.Scenes.{unit_of}
use Rattle.annotate.proofs.Writing.{on_ok}
use Rattle.annotate.proofs.SceneLemmas.{place_there}
use Rattle.annotate.proofs.texts.put_place_in.Goals as goal

-- the place of a token in its unit is the name of the file, the line and the column
pub returns : goal.returns
returns c =
    let unit = c.args.unit.now in
    let within : c.args.token < length unit.tokens.now.tokens = omega arith in
    on_ok c.put_spot.result c.put_spot.ensures (λ put.
    put ∙ ap (λ t. c.args.out.now.items ++ t)
    (ap (λ bytes. spot_text unit.file.now bytes c.place_of-spot.result) c.unit_bytes.ensures
    ∙ ap (λ spot. spot_text unit.file.now unit.tokens.now.bytes spot) c.place_of-spot.ensures.spot
    ∙ sym (place_there (unit_of unit) c.args.token within)))
