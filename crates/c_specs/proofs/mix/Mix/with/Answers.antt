use Rattle.std.proofs.Common.{◌∙◌, sym, ap, subst}
use Rattle.c_tree.specs.View.{spec_word_of}
use Rattle.c_specs.specs.Mix.{with_class}
use Rattle.c_specs.specs.Reading.{pushed}
use Rattle.c_specs.proofs.MixSteps.{with_right}
use Rattle.c_specs.proofs.WordsRead.{Stands, class_step}
use Rattle.c_specs.proofs.mix.Mix.with.Goals as goal

-- a mix with one word more is read of the words and it, or no mix begins so, as the step says
pub returns : goal.returns
returns c =
    let word = spec_word_of c.args.word.now in
    let steps = c.with_class.ensures ∙ ap (with_class c.args.self) c.class_of.ensures in
    record {
      read = λ ws read. subst (λ o. Stands (pushed ws word) o) (sym (steps ∙ class_step c.args.self word))
          (with_right c.args.self ws word read);
      steps = steps;
    }
