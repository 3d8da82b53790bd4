use Rattle.std.specs.Prelude.{codes, is_some}
use Rattle.std.specs.Str.{bytes_eq}
use Rattle.std.specs.Option.{option_or}
use Rattle.lattice_core.specs.declared.Sign.TheVariants.{Pos, Neg, Eq}
use Rattle.lattice_file.specs.Steps.{only_if}
use Rattle.lattice_file.specs.Extents.{IsFront}
use Rattle.lattice_file.proofs.FrontLemmas.{front_either, front_only}
use Rattle.lattice_file.proofs.words.sign_front.Goals as goal

-- the front of a sign is the longest of those of `pos`, `neg` and `eq`
pub returns : goal.returns
returns c =
    let word = c.args.word.now in
    let last : IsFront (λ w. is_some (option_or (only_if (bytes_eq w (codes "neg")) Neg)
    (only_if (bytes_eq w (codes "eq")) Eq))) word c.longer-neg_or_eq.result =
    front_either (λ w. only_if (bytes_eq w (codes "neg")) Neg) (λ w. only_if (bytes_eq w (codes "eq")) Eq) word
    c.shared_front.result c.shared_front-2.result c.longer-neg_or_eq.result c.longer-neg_or_eq.ensures.first
    c.longer-neg_or_eq.ensures.second c.longer-neg_or_eq.ensures.which
    (front_only word (codes "neg") Neg c.shared_front.result c.shared_front.ensures)
    (front_only word (codes "eq") Eq c.shared_front-2.result c.shared_front-2.ensures) in
    front_either (λ w. only_if (bytes_eq w (codes "pos")) Pos) (λ w. option_or (only_if (bytes_eq w (codes "neg")) Neg)
    (only_if (bytes_eq w (codes "eq")) Eq)) word c.shared_front-3.result c.longer-neg_or_eq.result c.longer.result
    c.longer.ensures.first c.longer.ensures.second c.longer.ensures.which
    (front_only word (codes "pos") Pos c.shared_front-3.result c.shared_front-3.ensures) last
