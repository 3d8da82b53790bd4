use Rattle.std.proofs.Common.{rules, ltb}
use Rattle.std.proofs.lemmas.List.Sorted.{answers_always}
use Rattle.cq_prelude.proofs.Different.{is_ascending, is_no_ascending}
use Rattle.cq_prelude.proofs.word.are_ascending.Goals as goal

pub returns-clause-yes : goal.returns-clause-yes
returns-clause-yes c is =
    is_ascending c.args.numbers.now _
    (c.is_sorted_by.ensures.cases ltb (answers_always _ _ _ (λ f a r f' k. search rules))) is

pub returns-clause-no : goal.returns-clause-no
returns-clause-no c is =
    is_no_ascending c.args.numbers.now _
    (c.is_sorted_by.ensures.cases ltb (answers_always _ _ _ (λ f a r f' k. search rules))) is
