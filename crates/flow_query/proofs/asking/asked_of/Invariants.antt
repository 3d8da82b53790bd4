use Rattle.std.proofs.Common.{◌≡◌, take}
use Rattle.std.specs.List.{filter}
use Rattle.annotate.specs.Texts.{Scene}
use Rattle.annotate.specs.Scenes.{Shows}
use Rattle.flow_query.specs.Answers.{is_of_name}
use Rattle.flow_query.proofs.asking.asked_of.Given as goal

abbrev pub invariant-loop-var : goal.invariant-loop-var
invariant-loop-var l =
    (s : Scene) → Shows l.scene s → l.vars.items ≡ filter (is_of_name s l.name) (take l.var-index l.scene.listed.now)
