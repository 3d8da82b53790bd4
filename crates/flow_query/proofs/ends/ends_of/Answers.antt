use Rattle.std.proofs.Common.{ℕ, ◌+◌, List, sym, subst, arith}
use Rattle.flow_query.specs.declared.ends.Constant.{Constant}
use Rattle.flow_query.specs.Ends.{AreStartsBelow, AreThoseBelow, IsBound, IsConstant, Lists}
use Rattle.flow_query.proofs.Ending.{bound_low, constant_low, starts_all, starts_none}
use Rattle.flow_query.proofs.Those.{those_all, those_none}
use Rattle.flow_query.proofs.ends.ends_of.Goals as goal

-- before the first constraint no constant and no bound is listed
pub loop-n-init : goal.loop-n-init
loop-n-init c =
    let Constants : List ℕ → Type 0 = λ numbers. AreThoseBelow (IsConstant c.args.graph.now c.args.lattice) 0 numbers in
    let Bounds : List ℕ → Type 0 = λ numbers. AreThoseBelow (IsBound c.args.graph.now c.args.lattice) 0 numbers in
    let Starts : List Constant → Type 0 = λ list. AreStartsBelow c.args.graph.now c.args.lattice 0 list in
    record {
      constants =
          subst Constants (sym c.new-constants.ensures.items) (those_none (IsConstant c.args.graph.now c.args.lattice));
      bounds = subst Bounds (sym c.new-bounds.ensures.items) (those_none (IsBound c.args.graph.now c.args.lattice));
      starts = subst Starts (sym c.new-starts.ensures.items) (starts_none c.args.graph.now c.args.lattice);
    }

-- one constraint more keeps the lists those of the constants and bounds below the next number
pub loop-n-preserved : goal.loop-n-preserved
loop-n-preserved c =
    let sys = c.args.graph.now in
    let lattice = c.args.lattice in
    let Constants : ℕ → Type 0 =
    λ n. Lists (IsConstant sys lattice) n c.loop-n.constants.items c.list_constant.new.constants.items in
    let Bounds : ℕ → Type 0 = λ n. Lists (IsBound sys lattice) n c.loop-n.bounds.items c.list_bound.new.bounds.items in
    let Starts : ℕ → Type 0 = λ n. AreStartsBelow sys lattice n c.loop-n.starts.items
    → AreStartsBelow sys lattice (n + 1) c.list_constant.new.starts.items in
    record {
      constants =
          subst Constants c.new-number.ensures c.in_ok-list_constant.ensures.constants c.loop-n.invariant.constants;
      bounds = subst Bounds c.new-number.ensures c.in_ok-list_bound.ensures c.loop-n.invariant.bounds;
      starts = subst Starts c.new-number.ensures c.in_ok-list_constant.ensures.starts c.loop-n.invariant.starts;
    }

-- behind the last constraint the lists are all constants and bounds, and the starts of all constants in order
pub returns : goal.returns
returns c =
    let sys = c.args.graph.now in
    let lattice = c.args.lattice in
    let past = c.loop-n-test.false in
    let most = c.len-n-end.ensures.length in
    record {
      constants = those_all (IsConstant sys lattice) c.loop-n.n c.loop-n.constants.items c.loop-n.invariant.constants
          (λ m has. let low = constant_low sys lattice m has in omega (arith, low, past, most));
      bounds = those_all (IsBound sys lattice) c.loop-n.n c.loop-n.bounds.items c.loop-n.invariant.bounds
          (λ m has. let low = bound_low sys lattice m has in omega (arith, low, past, most));
      starts = starts_all sys lattice c.loop-n.n c.loop-n.starts.items c.order.new.starts.items
          (omega (arith, past, most)) c.in_ok-order.ensures c.loop-n.invariant.starts;
    }
