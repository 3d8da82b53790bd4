use Rattle.std.proofs.Common.{◌≡◌, ◌<◌, ◌+◌, true, false, length, get_or, set, arith, sym, ◌∙◌, subst}
use Rattle.std.proofs.lemmas.List.{length-set, get_or_read}
use Rattle.lattice_solver.specs.Stack.{marked}
use Rattle.lattice_solver.specs.Waiting.{Waiters}
use Rattle.lattice_solver.proofs.Marks.{marked_most, marked_set}
use Rattle.lattice_solver.proofs.Stacking.{free_place, Low, Held, push_low, push_held}
use Rattle.lattice_solver.proofs.waiting.Waiting.push.Goals as goal

-- where a variable is not marked, the stack has a place left for it
pub index_mut-requires : goal.index_mut-requires
index_mut-requires c =
    let within : c.number-index.result < length c.self.inside.marks.items =
    subst (λ (w : Waiters). c.number-index.result < length w.marks) (sym c.self.view_is)
    (omega (arith, c.requires, c.number-index.ensures)) in
    let low = free_place c.self.inside.places.items c.self.inside.count c.number-index.result c.self.inside.marks.items
    c.index.result.now c.self.invariant.same c.self.invariant.height within c.index.ensures c.if-index.false in
    omega (arith, low, c.self.inside.places.ok.0)

-- the height of the stack and one more fits into 32 bits
pub overflow_add-self : goal.overflow_add-self
overflow_add-self c =
    let most = marked_most c.self.inside.marks.items in
    let within : c.number-index.result < length c.self.inside.marks.items =
    subst (λ (w : Waiters). c.number-index.result < length w.marks) (sym c.self.view_is)
    (omega (arith, c.requires, c.number-index.ensures)) in
    let low = free_place c.self.inside.places.items c.self.inside.count c.number-index.result c.self.inside.marks.items
    c.index.result.now c.self.invariant.same c.self.invariant.height within c.index.ensures c.if-index.false in
    omega (arith, low, c.self.invariant.same, c.self.invariant.few)

-- a stack with a newly marked variable on top holds all that are marked
pub invariant_of-self : goal.invariant_of-self
invariant_of-self c =
    let places = c.self.inside.places.items in
    let count = c.self.inside.count in
    let marks = c.self.inside.marks.items in
    let within : c.number-index.result < length marks =
    subst (λ (w : Waiters). c.number-index.result < length w.marks) (sym c.self.view_is)
    (omega (arith, c.requires, c.number-index.ensures)) in
    let low = free_place places count c.number-index.result marks c.index.result.now c.self.invariant.same
    c.self.invariant.height within c.index.ensures c.if-index.false in
    let free : get_or marks c.number-index.result false ≡ false =
    sym (get_or_read marks c.number-index.result c.index.result.now within c.index.ensures false) ∙ c.if-index.false in
    let more : marked (set marks c.number-index.result true) ≡ marked marks + 1 =
    marked_set marks c.number-index.result within free in
    let long : length (set places count c.args.at) ≡ length places = length-set places count c.args.at in
    let wide : length (set marks c.number-index.result true) ≡ length marks =
    length-set marks c.number-index.result true in
    let at : c.number-index.result ≡ c.args.at = c.number-index.ensures in
    record {
      same = long ∙ c.self.invariant.same ∙ sym wide;
      few = omega (arith, wide, c.self.invariant.few);
      height = omega (arith, more, c.self.invariant.height);
      low = subst (λ a. Low (set places count c.args.at) (count + 1) (set marks a true)) (sym at)
          (push_low places count c.args.at marks (omega (arith, within, at)) low c.self.invariant.low);
      held = subst (λ a. Held (set places count c.args.at) (count + 1) (set marks a true)) (sym at)
          (push_held places count c.args.at marks (omega (arith, within, at)) low c.self.invariant.held);
    }
