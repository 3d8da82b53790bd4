use Rattle.cq_prelude.proofs.MarkLemmas.{set_says}
use Rattle.cq_prelude.proofs.rules.set_of.Goals as goal

pub returns-clause-none : goal.returns-clause-none
returns-clause-none c none _ set says =
    let h = set_says c.args.tokens.now c.args.at _ set c.bytes.ensures says in
    c.numbers_of.ensures.none none h.written h.spelled
