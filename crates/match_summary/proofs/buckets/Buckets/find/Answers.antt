use Rattle.std.proofs.Common.{◌≡◌, ℕ, ◌+◌, ◌≤◌, ◌<◌, inl, inr, length, refl, sym, ◌∙◌, ap, subst, arith, get_or}
use Rattle.std.proofs.lemmas.Bool.{cases_lt, false≢true}
use Rattle.std.proofs.lemmas.Option.{get_or_from_slice_get, slice_get_read, slice_get_within}
use Rattle.match_summary.specs.declared.reason.Summary.{Summary}
use Rattle.match_summary.specs.Chained.{IsLink, link_of}
use Rattle.match_summary.specs.Buckets.{buckets_of}
use Rattle.match_summary.proofs.Growth.{at_contains}
use Rattle.match_summary.proofs.Hashing.{bucket_of_pair, bucket_row, of_pair}
use Rattle.match_summary.proofs.buckets.Buckets.find.Goals as goal

-- at first no place behind the newest one of the pair's bucket has the pair
pub loop-next-init : goal.loop-next-init
loop-next-init c =
    let link = subst (λ (b : ℕ). IsLink (buckets_of c.args.self.now.count c.args.rows.now) b
    (length (buckets_of c.args.self.now.count c.args.rows.now)) (link_of c.newest-next.result)) c.bucket.ensures
    (c.newest-next.ensures (buckets_of c.args.self.now.count c.args.rows.now) c.requires.chained) in
    record {
      there = link.there;
      passed = λ n row le is from to.
          let at = bucket_of_pair c.args.self.now.count c.args.rows.now n c.args.from c.args.to row is from to in
          link.last n le (slice_get_within (buckets_of c.args.self.now.count c.args.rows.now) n _ at) at;
    }

pub bounds-rows-at : goal.bounds-rows-at
bounds-rows-at c =
    bucket_row c.args.self.now.count c.args.rows.now c.in-Some.at _
    (c.loop-next.invariant.there c.in-Some.at (ap link_of c.in-Some.is))

-- a place of the chain of a bucket is within the rows
pub offset_bounds-rows-at : goal.offset_bounds-rows-at
offset_bounds-rows-at c =
    let within = bucket_row c.args.self.now.count c.args.rows.now c.in-Some.at _
    (c.loop-next.invariant.there c.in-Some.at (ap link_of c.in-Some.is)) in
    omega (arith, within)

-- the row that is found has both variables of the pair
pub returns-then-is_of : goal.returns-then-is_of
returns-then-is_of c =
    let within = bucket_row c.args.self.now.count c.args.rows.now c.in-Some.at _
    (c.loop-next.invariant.there c.in-Some.at (ap link_of c.in-Some.is)) in
    let is = slice_get_read c.args.rows.now
    (length c.args.rows.now) c.in-Some.at c.index-rows-at.result refl within c.index-rows-at.is in
    let same = c.if-is_of.ensures.0 refl in
    of_pair c.args.rows.now c.in-Some.at c.args.from c.args.to c.index-rows-at.result is same.0 same.1

-- the place before this one in its bucket is lower
pub loop-next-smaller : goal.loop-next-smaller
loop-next-smaller c =
    let at = c.loop-next.invariant.there c.in-Some.at (ap link_of c.in-Some.is) in
    let link = c.before-next.ensures (buckets_of c.args.self.now.count c.args.rows.now) _ c.requires.chained at in
    let less : link_of c.before-next.result ≤ c.in-Some.at = link.within in
    let is : link_of c.loop-next.next ≡ c.in-Some.at + 1 = ap link_of c.in-Some.is in
    let goes : link_of c.before-next.result < link_of c.loop-next.next = omega (arith, less, is) in
    goes

-- a row that is not of the pair leaves only lower places of its bucket to look at
pub loop-next-preserved : goal.loop-next-preserved
loop-next-preserved c =
    let at = c.loop-next.invariant.there c.in-Some.at (ap link_of c.in-Some.is) in
    let link = c.before-next.ensures (buckets_of c.args.self.now.count c.args.rows.now) _ c.requires.chained at in
    let is : link_of c.loop-next.next ≡ c.in-Some.at + 1 = ap link_of c.in-Some.is in
    record {
      there = link.there;
      passed = λ n row le there from to. elim (cases_lt c.in-Some.at n) [
        | inl after ↦ c.loop-next.invariant.passed n row (omega (arith, after, is)) there from to
        | inr early ↦ elim (cases_lt n c.in-Some.at) [
          | inl before ↦ link.last n le before
              (bucket_of_pair c.args.self.now.count c.args.rows.now n c.args.from c.args.to row there from to)
          | inr last ↦
              let same : n ≡ c.in-Some.at = omega (arith, early, last) in
              let one : c.index-rows-at.result ≡ row =
              c.index-rows-at.is ∙ ap (λ (k : ℕ). get_or c.args.rows.now k c.index-rows-at.result) (sym same)
              ∙ get_or_from_slice_get c.args.rows.now n row c.index-rows-at.result there in
              false≢true
              (c.if-is_of.ensures.1 (ap (λ (r : Summary). r.from) one ∙ from, ap (λ (r : Summary). r.to) one ∙ to))
        ]
      ];
    }

-- where the chain ends without the pair, no row has it
pub returns : goal.returns
returns c = λ pair.
    let place = at_contains c.args.rows.now _ pair.1 in
    let none : link_of c.loop-next.next ≡ 0 = ap link_of c.in_default.is in
    c.loop-next.invariant.passed place.0 (record { from = c.args.from; to = c.args.to; why = pair.0 })
    (omega (arith, none)) place.2 refl refl
