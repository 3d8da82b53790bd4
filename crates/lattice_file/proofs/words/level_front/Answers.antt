use Rattle.std.specs.Prelude.{codes}
use Rattle.std.specs.Str.{bytes_eq}
use Rattle.lattice_core.specs.declared.Level.TheVariants.{Ref, Value}
use Rattle.lattice_file.specs.Steps.{only_if}
use Rattle.lattice_file.proofs.FrontLemmas.{front_either, front_only}
use Rattle.lattice_file.proofs.words.level_front.Goals as goal

-- the front of a level is the longer of those of `ref` and `value`
pub returns : goal.returns
returns c =
    front_either (λ w. only_if (bytes_eq w (codes "ref")) Ref)
    (λ w. only_if (bytes_eq w (codes "value")) Value) c.args.word.now c.shared_front.result c.shared_front-2.result
    c.longer.result c.longer.ensures.first c.longer.ensures.second c.longer.ensures.which
    (front_only c.args.word.now (codes "ref") Ref c.shared_front.result c.shared_front.ensures)
    (front_only c.args.word.now (codes "value") Value c.shared_front-2.result c.shared_front-2.ensures)
