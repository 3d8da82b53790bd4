use Rattle.std.proofs.Common.{refl, ◌∙◌, map, string_bytes}
use Rattle.std.proofs.lemmas.Result.{IfOk-weaker}
use Rattle.clap.specs.Words.{found_of}
use Rattle.cqual_words.proofs.Agrees.{matches_right, refusal_right}
use Rattle.cqual_words.proofs.words.meaning_behind.Goals as goal

-- where the words match, what is asked is what they mean
pub returns-in-Ok : goal.returns-in-Ok
returns-in-Ok c =
    let words = map (λ s. string_bytes s) c.args.words.now in
    let read = matches_right words (found_of c.in-Ok.matches) c.in-Ok.ensures.kinds (c.in-Ok.ensures.ok refl).0 in
    record {
      meaning = IfOk-weaker c.of_matches.result _ _ (λ found h. h read.0 read.1 ∙ read.2) c.of_matches.ensures.task;
      made = c.of_matches.ensures.made;
      sources = c.of_matches.ensures.sources;
    }

-- where the words are refused, but not for want of memory, they mean nothing
pub returns : goal.returns
returns c =
    let words = map (λ s. string_bytes s) c.args.words.now in
    record {
      meaning =
          refusal_right words c.in-Err.error c.in-Err.ensures.kinds (λ e. c.in_default.not-OutOfMemory (c.kind.ensures
          ∙ e));
      made = tt;
      sources = tt;
    }
