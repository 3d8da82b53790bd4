use Rattle.certificate_reader.proofs.FrontLemmas.{pair_front}
use Rattle.certificate_reader.proofs.fronts.pair_front.Goals as goal

pub returns-in-Some-name_before : goal.returns-in-Some-name_before
returns-in-Some-name_before c =
    pair_front c.args.text.now c.in-Some-name_before.behind.now c.in-Some.more.now c.in-Some.from
    c.in-Some-name_before.to c.in-Some.ensures c.in-Some-name_before.ensures
