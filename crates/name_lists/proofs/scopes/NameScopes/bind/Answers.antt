use Rattle.std.proofs.Common.{arith, length, ap, refl}
use Rattle.name_lists.proofs.Cutting.{count_bound, total_bound, cut_bound}
use Rattle.name_lists.proofs.scopes.NameScopes.bind.Goals as goal

-- the count of the innermost scope with one entry more fits, as it is at most the number of all
pub overflow_add-count : goal.overflow_add-count
overflow_add-count g c =
    let counts = c.self.inside.counts in
    let last = c.in-Some.ensures in
    let low = count_bound counts.items _ c.in-Some.count.now counts.ok.0 (last.variant.0 refl) last.value in
    let all = c.self.invariant in
    let more = ap length c.in_ok-push.ensures.pushed in
    let len = c.len-all.ensures in
    let top = c.len-all.type_inv in
    omega (arith, low, all, more, len, top)

-- the counts of the scopes stay those of all entries where the innermost gets one more
pub invariant_of-self-in-Some : goal.invariant_of-self-in-Some
invariant_of-self-in-Some g c =
    let counts = c.self.inside.counts in
    let last = c.in-Some.ensures in
    total_bound counts.items _ c.in-Some.count.now counts.ok.0 (last.variant.0 refl) last.value
    (length c.self.inside.names) (length c.push.new.self) c.self.invariant (ap length c.in_ok-push.ensures.pushed)

-- an entry more that the innermost scope counts stands before its others, and other scopes stay
pub returns-in-Some-clause-bound : goal.returns-in-Some-clause-bound
returns-in-Some-clause-bound g c =
    let counts = c.self.inside.counts in
    let last = c.in-Some.ensures in
    cut_bound counts.items _ c.in-Some.count.now counts.ok.0 (last.variant.0 refl) last.value c.self.inside.names
    c.push.new.self (c.args.name, c.args.value) c.args.self.now c.in_ok-push.ensures.pushed c.self.view_is
