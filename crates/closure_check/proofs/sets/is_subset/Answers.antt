use Rattle.std.proofs.Common.{◌≡◌, bit_and}
use Rattle.qual_base.proofs.Tests.{eq_is}
use Rattle.closure_check.proofs.BitSets.{eq_to, of_subset, subset_of}
use Rattle.closure_check.proofs.sets.is_subset.Goals as goal

-- a set is within another just if their common bits are all of its bits
pub returns : goal.returns
returns c =
    let one : c.number.result ≡ c.args.one = c.number.ensures in
    let other : c.number-2.result ≡ c.args.other = c.number-2.ensures in
    let same : c.number-3.result ≡ c.args.one = c.number-3.ensures in (
      λ is. let both : bit_and c.number.result c.number-2.result ≡ c.number-3.result = eq_is _ _ is in
          subset_of c.args.one c.args.other cc,
      λ within.
          let both : bit_and c.args.one c.args.other ≡ c.args.one = of_subset c.args.one c.args.other within in
          eq_to _ _ cc,
    )
