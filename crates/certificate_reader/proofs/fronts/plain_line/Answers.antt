use Rattle.std.proofs.Common.{codes, refl}
use Rattle.certificate_reader.specs.Lines.{pair_kind, set_kind}
use Rattle.certificate_reader.specs.Fronts.{BeginsLine, BeginsWords}
use Rattle.certificate_reader.proofs.Bytes.{pair_begins, set_begins}
use Rattle.certificate_reader.proofs.FrontLemmas.{if_some, line_begins}
use Rattle.certificate_reader.proofs.fronts.plain_line.Goals as goal

pub returns-in-Some : goal.returns-in-Some
returns-in-Some c =
    if_some (λ x. BeginsWords (λ words. set_kind words) c.in-Some.sets.now x.0 x.1.now)
    (λ x. BeginsLine c.args.text.now x.0 x.1.now) c.set_front.result
    (λ x it. line_begins (codes "  set ") c.args.text.now c.in-Some.sets.now x.1.now x.0
    (λ words. set_kind words) c.in-Some.ensures refl set_begins it) c.set_front.ensures

pub returns-in-Some-after_pair : goal.returns-in-Some-after_pair
returns-in-Some-after_pair c =
    if_some (λ x. BeginsWords (λ words. pair_kind words) c.in-Some-after_pair.pair.now x.0 x.1.now)
    (λ x. BeginsLine c.args.text.now x.0 x.1.now) c.pair_front.result
    (λ x it. line_begins (codes "  pair ") c.args.text.now c.in-Some-after_pair.pair.now x.1.now x.0
    (λ words. pair_kind words) c.in-Some-after_pair.ensures refl pair_begins it) c.pair_front.ensures
