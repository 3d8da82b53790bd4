use Rattle.std.proofs.Common.{◌∙◌}
use Rattle.qual_base.proofs.WordLemmas.{looked_up}
use Rattle.qual_base.proofs.words.QualWords.find.Goals as goal

pub returns : goal.returns
returns c =
    rw (← c.self.view_is)
    (c.copied.ensures ∙ c.get.ensures.value ∙ looked_up c.self.inside.pairs.entries c.args.word.now)
