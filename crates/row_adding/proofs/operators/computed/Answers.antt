use Rattle.std.proofs.Common.{Bool, [], ◌++◌, if◌then◌else◌, sym, ◌∙◌, subst}
use Rattle.std.proofs.lemmas.Result.{IfErr-weaker}
use Rattle.row_rules.specs.Worlds.{all_lattices}
use Rattle.row_rules.specs.Rows.{flowing}
use Rattle.row_world.specs.Shown.{skel}
use Rattle.row_adding.specs.Adding.{Halts, StopsEarly}
use Rattle.row_adding.proofs.Lists.{stop_back}
use Rattle.row_adding.proofs.operators.computed.Goals as goal

-- where the flow of the last operand halts, a computation halts behind that of the first
pub returns-clause-err : goal.returns-clause-err
returns-clause-err c =
    let k = c.args.known.now in
    let old = c.args.graph.now in
    let middle = c.flowing_in_all.new.graph in
    let new = c.flowing_in_all-2.new.graph in
    let own = skel k c.args.own in
    IfErr-weaker c.flowing_in_all-2.result
    (λ fault. Halts k middle new fault
    (λ w. flowing c.args.last_is_zero (skel k c.args.last) own (all_lattices w) c.args.span.now)) _
    (λ fault stop w s.
    let first = flowing c.args.first_is_zero (skel k c.args.first) own (all_lattices w) c.args.span.now in
    let last = flowing c.args.last_is_zero (skel k c.args.last) own (all_lattices w) c.args.span.now in
    subst (λ (b : Bool). StopsEarly old new fault (if b then [] else first ++ last))
    (sym c.if-computes_none.false ∙ c.computes_none.ensures)
    (stop_back old middle new fault first last (c.in_ok-flowing_in_all.ensures.ok w s) (stop w s)))
    c.flowing_in_all-2.ensures.err
