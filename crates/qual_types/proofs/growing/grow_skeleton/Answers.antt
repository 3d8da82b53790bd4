use Rattle.std.proofs.Common.{◌≡◌, ◌+◌, ◌≤◌, ◌^◌, length, vec_len, arith}
use Rattle.type_table.specs.Types.{size}
use Rattle.type_table.specs.Rows.{type_of}
use Rattle.qual_types.specs.Skel.{within}
use Rattle.qual_types.proofs.Growth.{grown}
use Rattle.qual_types.proofs.growing.grow_skeleton.Goals as goal

-- a table with the rows of a type pushed behind it has grown by that type's skeleton
pub returns : goal.returns
returns c =
    let many : vec_len c.args.rows.now ≡ length c.args.rows.now.items = grind arith in
    let few : vec_len c.args.rows.now + size (within c.args.outer (type_of c.args.types.now c.args.ty)) ≤ 2 ^ 24 =
    c.requires.few in
    rw c.grow_within.ensures (grown _ _ _ _ _ _ c.requires.held many
    (omega (arith, many, few)) c.top.ensures.none c.top.ensures.owner c.top.ensures.mark)
