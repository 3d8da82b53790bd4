use Rattle.std.proofs.Common.{◌≡◌, ◌+◌, ◌-◌, ◌<◌, Some, [], length, suc, drop, arith, sym, ◌∙◌, ap}
use Rattle.qual_base.proofs.Lists.{drop_past}
use Rattle.certificate_text.specs.Names.{ends_in, first_from}
use Rattle.certificate_text.proofs.EndLemmas.{ends_length, known_before, set_length}
use Rattle.certificate_text.proofs.names.name_table.Goals as goal

-- at first there is no end behind the last, so no variable has a name
pub ends-init : goal.ends-init
ends-init c =
    let all : drop c.ends-end.result (ends_in c.args.graph.now) ≡ [] =
    drop_past (ends_in c.args.graph.now) c.ends-end.result
    (omega (arith, ends_length c.args.graph.now.constraints, c.ends-end.ensures)) in
    record {
      size = c.in_ok-names.ensures.size ∙ c.vars.ensures.value;
      within = omega (arith, c.ends-end.ensures);
      known = λ v. c.in_ok-names.ensures.nameless v ∙ ap (λ xs. first_from c.ends-end.result xs v) (sym all);
    }

-- naming the variable at one end before makes it the first end of that variable
pub ends-preserved : goal.ends-preserved
ends-preserved c =
    let table = c.ends.names.items in
    let k = c.ends.end - 1 in
    let more : k + 1 ≡ c.ends.end = omega arith in
    let next : suc k ≡ c.ends.end = omega arith in
    let inside : c.number.result < length table =
    omega (arith, c.number.ensures, c.ends.invariant.size, c.end_at.ensures.below) in
    record {
      size = set_length table c.number.result _ ∙ c.ends.invariant.size;
      within = omega (arith, c.ends.invariant.within);
      known = known_before table (ends_in c.args.graph.now) k c.number.result
          (c.end_at.ensures.there ∙ ap Some (sym c.number.ensures)) inside (rw (more, next) c.ends.invariant.known);
    }
