use Rattle.std.specs.Prelude.{◌&&◌, codes}
use Rattle.std.specs.Str.{bytes_eq}
use Rattle.lattice_core.specs.declared.Deref.TheVariants.{Yes, Access}
use Rattle.lattice_file.specs.Steps.{only_if}
use Rattle.lattice_file.proofs.FrontLemmas.{front_either, front_only, front_allowed}
use Rattle.lattice_file.proofs.words.deref_front.Goals as goal

-- the front of a value of `deref` is the longer of those of `yes` and `access`, in wider C
pub returns : goal.returns
returns c =
    let wide = c.args.wide in
    front_either (λ w. only_if (bytes_eq w (codes "yes")) Yes)
    (λ w. only_if (wide && bytes_eq w (codes "access")) Access) c.args.word.now c.shared_front.result
    c.access_front-access.result c.longer.result c.longer.ensures.first c.longer.ensures.second c.longer.ensures.which
    (front_only c.args.word.now (codes "yes") Yes c.shared_front.result c.shared_front.ensures)
    (front_allowed (λ w. wide && bytes_eq w (codes "access"))
    (λ w. Access) c.args.word.now c.access_front-access.result c.access_front-access.ensures)
