use Rattle.std.specs.Prelude.{◌||◌, codes}
use Rattle.std.specs.Str.{bytes_eq}
use Rattle.lattice_file.specs.Text.{begins_with_dollar}
use Rattle.lattice_file.specs.Extents.{IsFront}
use Rattle.lattice_file.proofs.FrontLemmas.{front_or}
use Rattle.lattice_file.proofs.words.name_front.Goals as goal

-- the front of an element's name is the longest of a name with a dollar and of C's three qualifiers
pub returns : goal.returns
returns c =
    let word = c.args.word.now in
    let one : IsFront (λ w. begins_with_dollar w || bytes_eq w (codes "const")) word c.longer-dollar_or_const.result =
    front_or begins_with_dollar (λ w. bytes_eq w (codes "const")) word c.dollar_front.result c.shared_front.result
    c.longer-dollar_or_const.result c.longer-dollar_or_const.ensures.first c.longer-dollar_or_const.ensures.second
    c.longer-dollar_or_const.ensures.which c.dollar_front.ensures c.shared_front.ensures in
    let two : IsFront (λ w. begins_with_dollar w || bytes_eq w (codes "const")
    || bytes_eq w (codes "volatile")) word c.longer-no_restrict.result =
    front_or (λ w. begins_with_dollar w || bytes_eq w (codes "const"))
    (λ w. bytes_eq w (codes "volatile")) word c.longer-dollar_or_const.result c.shared_front-2.result
    c.longer-no_restrict.result c.longer-no_restrict.ensures.first c.longer-no_restrict.ensures.second
    c.longer-no_restrict.ensures.which one c.shared_front-2.ensures in
    front_or (λ w. begins_with_dollar w || bytes_eq w (codes "const") || bytes_eq w (codes "volatile"))
    (λ w. bytes_eq w (codes "restrict")) word c.longer-no_restrict.result c.shared_front-3.result c.longer.result
    c.longer.ensures.first c.longer.ensures.second c.longer.ensures.which two c.shared_front-3.ensures
