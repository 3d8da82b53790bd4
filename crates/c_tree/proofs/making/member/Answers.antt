use Rattle.c_tree.proofs.ViewLemmas.{member_is}
use Rattle.c_tree.proofs.making.member.Goals as goal

pub returns : goal.returns
returns c = member_is
    (record { extensions = c.args.extensions; specs = c.args.specs; declrs = c.args.declrs; semi = c.args.semi })
