use Rattle.certificate_reader.proofs.FrontLemmas.{sets_front}
use Rattle.certificate_reader.proofs.fronts.set_front.Goals as goal

-- a name, two numerals and a line feed are a line of sets
pub returns-in-Some-number_before-2 : goal.returns-in-Some-number_before-2
returns-in-Some-number_before-2 c =
    sets_front c.args.text.now c.in-Some-number_before-2.behind.now c.in-Some.sets.now c.in-Some-number_before.more.now
    c.in-Some.name c.in-Some-number_before.first c.in-Some-number_before-2.second c.in-Some.ensures
    c.in-Some-number_before.ensures.ends c.in-Some-number_before-2.ensures.ends c.in-Some-number_before.ensures.small
    c.in-Some-number_before-2.ensures.small
