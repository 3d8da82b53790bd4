use Rattle.std.specs.Prelude.{codes}
use Rattle.std.specs.Str.{bytes_eq}
use Rattle.lattice_core.specs.declared.Direction.TheVariants.{Up, Down}
use Rattle.lattice_file.specs.Steps.{only_if}
use Rattle.lattice_file.proofs.FrontLemmas.{front_either, front_only}
use Rattle.lattice_file.proofs.passing.direction_front.Goals as goal

-- the front of a direction is the longer of those of `up` and `down`
pub returns : goal.returns
returns c =
    front_either (λ w. only_if (bytes_eq w (codes "up")) Up)
    (λ w. only_if (bytes_eq w (codes "down")) Down) c.args.word.now c.shared_front.result c.shared_front-2.result
    c.longer.result c.longer.ensures.first c.longer.ensures.second c.longer.ensures.which
    (front_only c.args.word.now (codes "up") Up c.shared_front.result c.shared_front.ensures)
    (front_only c.args.word.now (codes "down") Down c.shared_front-2.result c.shared_front-2.ensures)
