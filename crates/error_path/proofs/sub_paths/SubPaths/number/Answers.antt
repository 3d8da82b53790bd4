use Rattle.std.proofs.Common.{arith, sym, ◌∙◌}
use Rattle.error_path.proofs.sub_paths.SubPaths.number.Goals as goal

-- the place of a sub-path fits into 32 bits
pub overflow_cast-result : goal.overflow_cast-result
overflow_cast-result c =
    let made = c.requires.1 in
    let low = (made.found c.args.pair.now.from c.args.pair.now.to c.in-Some.at (sym c.get.ensures ∙ c.in-Some.is)).0 in
    let few = made.few in omega (arith, low, few)

-- the number of a sub-path, one more than its place, fits into 32 bits
pub overflow_add-result : goal.overflow_add-result
overflow_add-result c =
    let made = c.requires.1 in
    let low = (made.found c.args.pair.now.from c.args.pair.now.to c.in-Some.at (sym c.get.ensures ∙ c.in-Some.is)).0 in
    let few = made.few in omega (arith, low, few)
