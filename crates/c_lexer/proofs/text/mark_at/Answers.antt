use Rattle.std.proofs.Common.{nat_le, rules}
use Rattle.std.proofs.lemmas.List.Sorted.{IsPartitionPoint-from_clause, IsPartitionedBy-leb}
use Rattle.c_lexer.specs.declared.places.Mark.{Mark}
use Rattle.c_lexer.proofs.FeedLemmas.{governs-last, governs-none}
use Rattle.c_lexer.proofs.text.mark_at.Goals as goal

-- where no mark begins at or before a place, none governs it
pub returns-then-count-eq0-clause-governs : goal.returns-then-count-eq0-clause-governs
returns-then-count-eq0-clause-governs c =
    let parted = IsPartitionedBy-leb (λ (m : Mark). m.from) c.args.marks.now c.args.at c.requires in
    governs-none c.args.marks.now c.args.at c.partition_point-count.result c.if-count-eq0.true
    (IsPartitionPoint-from_clause (λ (m : Mark). nat_le m.from c.args.at) _ _
    c.partition_point-count.ensures.partitioned parted (λ a r q k. search rules))

-- the last mark that begins at or before a place governs it
pub returns-clause-governs : goal.returns-clause-governs
returns-clause-governs c =
    let parted = IsPartitionedBy-leb (λ (m : Mark). m.from) c.args.marks.now c.args.at c.requires in
    (governs-last c.args.marks.now c.args.at c.partition_point-count.result c.partition_point-count.ensures.bound
    c.if-count-eq0.false
    (IsPartitionPoint-from_clause (λ (m : Mark). nat_le m.from c.args.at) _ _
    c.partition_point-count.ensures.partitioned parted (λ a r q k. search rules)) _).0

-- the mark that governs a place begins at or before it
pub returns-clause-before : goal.returns-clause-before
returns-clause-before c =
    let parted = IsPartitionedBy-leb (λ (m : Mark). m.from) c.args.marks.now c.args.at c.requires in
    (governs-last c.args.marks.now c.args.at c.partition_point-count.result c.partition_point-count.ensures.bound
    c.if-count-eq0.false
    (IsPartitionPoint-from_clause (λ (m : Mark). nat_le m.from c.args.at) _ _
    c.partition_point-count.ensures.partitioned parted (λ a r q k. search rules)) _).1
