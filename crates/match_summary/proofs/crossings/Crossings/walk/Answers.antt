use Rattle.std.proofs.Common.{◌≡◌, ◌+◌, ◌≤◌, ◌<◌, inl, inr, slice_get, refl, sym, ◌∙◌, ap, subst, arith}
use Rattle.std.proofs.lemmas.Bool.{cases_lt, false≢true}
use Rattle.match_summary.specs.Chained.{link_of}
use Rattle.match_summary.specs.Crossings.{Crosses, buckets_in}
use Rattle.match_summary.proofs.Crossing.{crosses_bucket, has_end_at, place_within}
use Rattle.match_summary.proofs.crossings.Crossings.walk.Goals as goal

-- at first nothing behind where the walk begins was passed
pub loop-next-init : goal.loop-next-init
loop-next-init c = record {
  there = c.requires.from.1.there;
  within = omega arith;
  passed = λ bound n link le lt crosses.
      link.last n le lt (crosses_bucket c.args.self.now.count c.args.graph.now c.args.end.now n crosses);
}

-- a place of the chain is a number of 32 bits, as constraints have such numbers
pub overflow_cast-at : goal.overflow_cast-at
overflow_cast-at c =
    let within = place_within c.args.self.now.count c.args.graph.now.constraints c.in-Some.at _
    (c.loop-next.invariant.there c.in-Some.at (ap link_of c.in-Some.is)) in
    omega (arith, within, c.law.ensures)

-- a place of the chain is that of a constraint
pub constraint-constraint-requires : goal.constraint-constraint-requires
constraint-constraint-requires c =
    let within = place_within c.args.self.now.count c.args.graph.now.constraints c.in-Some.at _
    (c.loop-next.invariant.there c.in-Some.at (ap link_of c.in-Some.is)) in
    omega (arith, within)

-- the first constraint of the chain with the inner end is the last crossing below the bound
pub returns-then-has_end : goal.returns-then-has_end
returns-then-has_end c = λ bound link.
    let is : link_of c.loop-next.next ≡ c.in-Some.at + 1 = ap link_of c.in-Some.is in
    record {
      within = omega (arith, is, c.loop-next.invariant.within, link.within);
      there = λ n one.
          let same : c.in-Some.at ≡ n = omega (arith, one) in
          subst (Crosses c.args.graph.now c.args.end.now) same
          (subst (Crosses c.args.graph.now c.args.end.now) c.new-edge.ensures
          (record {
            constraint = c.constraint-constraint.result;
            there = c.constraint-constraint.ensures.there;
            has = c.if-has_end.ensures.0 refl;
          }));
      last = λ n le lt. c.loop-next.invariant.passed bound n link (omega (arith, le, is)) lt;
    }

-- the place before this one in the bucket is lower
pub loop-next-smaller : goal.loop-next-smaller
loop-next-smaller c =
    let at = c.loop-next.invariant.there c.in-Some.at (ap link_of c.in-Some.is) in
    let link = c.before-next.ensures
    (buckets_in c.args.self.now.count c.args.graph.now.constraints) _ c.requires.crossings.chained at in
    let less : link_of c.before-next.result ≤ c.in-Some.at = link.within in
    let is : link_of c.loop-next.next ≡ c.in-Some.at + 1 = ap link_of c.in-Some.is in
    let goes : link_of c.before-next.result < link_of c.loop-next.next = omega (arith, less, is) in
    goes

-- a constraint without the inner end leaves only lower places of the bucket to look at
pub loop-next-preserved : goal.loop-next-preserved
loop-next-preserved c =
    let at = c.loop-next.invariant.there c.in-Some.at (ap link_of c.in-Some.is) in
    let link = c.before-next.ensures
    (buckets_in c.args.self.now.count c.args.graph.now.constraints) _ c.requires.crossings.chained at in
    let is : link_of c.loop-next.next ≡ c.in-Some.at + 1 = ap link_of c.in-Some.is in
    let less = link.within in
    record {
      there = link.there;
      within = omega (arith, less, is, c.loop-next.invariant.within);
      passed = λ bound n from le lt crosses. elim (cases_lt c.in-Some.at n) [
        | inl after ↦ c.loop-next.invariant.passed bound n from (omega (arith, after, is)) lt crosses
        | inr early ↦ elim (cases_lt n c.in-Some.at) [
          | inl before ↦
              link.last n le before (crosses_bucket c.args.self.now.count c.args.graph.now c.args.end.now n crosses)
          | inr last ↦
              let same : n ≡ c.in-Some.at = omega (arith, early, last) in
              false≢true (c.if-has_end.ensures.1
              (has_end_at c.args.graph.now c.args.end.now n c.constraint-constraint.result crosses
              (ap (λ k. slice_get c.args.graph.now.constraints k) (same ∙ sym c.new-edge.ensures)
              ∙ c.constraint-constraint.ensures.there)))
        ]
      ];
    }

-- where the chain ends, no constraint below the bound has the inner end
pub returns : goal.returns
returns c = λ bound link.
    let none : link_of c.loop-next.next ≡ 0 = ap link_of c.in_default.is in
    record {
      within = omega arith;
      there = λ n one. absurd (omega (arith, one));
      last = λ n le lt. c.loop-next.invariant.passed bound n link (omega (arith, none)) lt;
    }
