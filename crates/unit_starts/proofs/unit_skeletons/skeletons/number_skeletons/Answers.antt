use Rattle.std.proofs.Common.{List, ◌++◌, ◌+◌, drop, length, map, sym, ◌∙◌, ap, subst, append-nil}
use Rattle.row_rules.specs.Starting as rules
use Rattle.unit_starts.specs.declared.start.Start.{Start}
use Rattle.unit_starts.specs.Views.{start_in}
use Rattle.row_rules.specs.Worlds.{Numbered, numbered_from}
use Rattle.unit_starts.specs.UnitSkeletons.Found.{AreMarked, IsNumbering, found_with}
use Rattle.unit_starts.proofs.UnitSkeletons.Placing.{found_all, numbering_on, one_left, none_left}
use Rattle.unit_starts.proofs.unit_skeletons.skeletons.number_skeletons.Goals as goal

-- behind the last skeleton the one found at each place is that among all
pub returns-clause-found : goal.returns-clause-found
returns-clause-found c = λ p.
    let rows = c.loop-start.it.vars in
    let found = c.loop-start.it.starts in
    let types = c.args.types.now in
    let starts = c.args.starts.now in
    found_all rows found p c.law.ensures.few
    ∙ sym (ap (λ (rest : List Start). found_with rows found (numbered_from (length rows) (map (start_in types) rest)) p)
    (none_left starts c.loop-start.start-index c.loop-start-test.false))
    ∙ c.loop-start.invariant.found p

-- behind the last skeleton each skeleton of the table is one of those that were added
pub returns-clause-marked : goal.returns-clause-marked
returns-clause-marked c =
    let rows = c.loop-start.it.vars in
    let types = c.args.types.now in
    let starts = c.args.starts.now in
    let before = c.loop-start.invariant.before in
    subst (λ (all : List Numbered). AreMarked rows all)
    (sym (c.loop-start.invariant.split
    ∙ (ap (λ (rest : List Start). before ++ numbered_from (length rows) (map (start_in types) rest))
    (none_left starts c.loop-start.start-index c.loop-start-test.false)
    ∙ append-nil before)))
    c.loop-start.invariant.marked

-- one skeleton more keeps the table and the index the numbering of the skeletons so far
pub loop-start-preserved : goal.loop-start-preserved
loop-start-preserved c =
    let it = c.loop-start.it in
    let types = c.args.types.now in
    let starts = c.args.starts.now in
    let i = c.loop-start.start-index in
    let one = one_left (start_in types) starts i c.start-item.result c.loop-start-test.true c.start-item.is in
    let more = c.in_ok-add.ensures in
    numbering_on it.vars c.add.new.self.vars it.starts c.add.new.self.starts
    (start_in types c.start-item.result) (map (start_in types) (drop (i + 1) starts)) (map (start_in types) starts)
    (subst (λ (rest : List rules.Start). IsNumbering it.vars it.starts rest (map (start_in types) starts))
    one c.loop-start.invariant)
    more.below more.count more.found more.marked
