use Rattle.std.proofs.Common.{◌≡◌, false, true, refl, subst, sym, slice_get, Some}
use Rattle.sig_writer.proofs.Shared.{own_more, first_is}
use Rattle.sig_writer.proofs.suiting.first_shared.Goals as goal

-- a constraint that is shared, where none before it is, is the first shared one
pub returns-then-is_shared-clause-some : goal.returns-then-is_shared-clause-some
returns-then-is_shared-clause-some c =
    let at : c.new-then-is_shared.result ≡ c.new.result = cc in
    first_is c.args.graph.now c.new-then-is_shared.result c.loop-n.n c.constraint.result c.new-then-is_shared.ensures
    (subst (λ k. slice_get c.args.graph.now.constraints k ≡ Some c.constraint.result)
    (sym at) c.constraint.ensures.there)
    (c.if-is_shared.ensures.0 refl) c.loop-n.invariant

-- a constraint that is not shared keeps those so far unshared
pub loop-n-preserved : goal.loop-n-preserved
loop-n-preserved c =
    own_more c.args.graph.now c.loop-n.n c.constraint.result
    (subst
    (λ k. slice_get c.args.graph.now.constraints k ≡ Some c.constraint.result) c.new.ensures c.constraint.ensures.there)
    (λ shared. let no : false ≡ true = c.if-is_shared.ensures.1 shared in absurd cc) c.loop-n.invariant
