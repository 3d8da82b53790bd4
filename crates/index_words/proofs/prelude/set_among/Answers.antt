use Rattle.std.proofs.Common.{nat_lt, Some, sym, ◌∙◌, ap, rules}
use Rattle.std.proofs.lemmas.List.Sorted.{IsPartitionPoint-from_clause}
use Rattle.index_words.specs.declared.prelude.Word.{Word}
use Rattle.index_words.proofs.Ascending.{parted, found, none_there, other_there}
use Rattle.index_words.proofs.prelude.set_among.Goals as goal

-- the word at the cut, where it is at the token, is the one that is asked for
pub returns-then-number : goal.returns-then-number
returns-then-number c =
    let up = parted c.args.words.now c.args.token c.requires in
    ap Some c.as_slice.ensures.value
    ∙ found c.args.words.now c.args.token c.partition_point-at.result c.in-Some.word.now
    (IsPartitionPoint-from_clause (λ (w : Word). nat_lt w.token c.args.token) _ _
    c.partition_point-at.ensures.partitioned up (λ a r q k. search rules)) (search rules) (search rules)
    (sym c.number.ensures ∙ c.if-number.true ∙ c.number-in-Some.ensures)

-- where the word at the cut is at another token, no word is at this one
pub returns-else-number : goal.returns-else-number
returns-else-number c =
    let up = parted c.args.words.now c.args.token c.requires in
    other_there c.args.words.now c.args.token c.partition_point-at.result c.in-Some.word.now c.requires
    (IsPartitionPoint-from_clause (λ (w : Word). nat_lt w.token c.args.token) _ _
    c.partition_point-at.ensures.partitioned up (λ a r q k. search rules)) (search rules) (search rules)
    (λ is. c.if-number.false (c.number.ensures ∙ is ∙ sym c.number-in-Some.ensures))

-- where the cut is past the last word, no word is at the token
pub returns-in-None : goal.returns-in-None
returns-in-None c =
    let up = parted c.args.words.now c.args.token c.requires in
    none_there c.args.words.now c.args.token c.partition_point-at.result
    (IsPartitionPoint-from_clause (λ (w : Word). nat_lt w.token c.args.token) _ _
    c.partition_point-at.ensures.partitioned up (λ a r q k. search rules)) (search rules)
