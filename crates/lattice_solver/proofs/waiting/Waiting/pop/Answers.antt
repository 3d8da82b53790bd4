use Rattle.std.proofs.Common.{◌≡◌, ◌<◌, ◌-◌, false, length, get_or, set, Some, slice_get, arith, sym, ◌∙◌, subst}
use Rattle.std.proofs.lemmas.List.{length-set, get_or-set_same, get_or-set_other}
use Rattle.lattice_solver.specs.Waiting.{Waiters, IsTaken}
use Rattle.lattice_solver.proofs.Marks.{marked_most, marked_unset}
use Rattle.lattice_solver.proofs.Stacking.{pop_low, pop_held, top_there}
use Rattle.lattice_solver.proofs.waiting.Waiting.pop.Goals as goal

-- the height of the stack less one is within its places
pub index-at-requires : goal.index-at-requires
index-at-requires c =
    let most = marked_most c.self.inside.marks.items in
    omega (arith, most, c.self.invariant.height, c.self.invariant.same, c.self.inside.places.ok.0, c.if-self-eq0.false)

-- the variable on top of the stack is below the number of marks
pub index_mut-requires : goal.index_mut-requires
index_mut-requires c =
    let most = marked_most c.self.inside.marks.items in
    let within : c.self.inside.count - 1 < length c.self.inside.places.items =
    omega (arith, most, c.self.invariant.height, c.self.invariant.same, c.if-self-eq0.false) in
    let top =
    top_there c.self.inside.places.items c.self.inside.count c.index-at.result.now within c.index-at.ensures in
    let low =
    c.self.invariant.low (c.self.inside.count - 1) c.index-at.result.now (omega (arith, c.if-self-eq0.false)) top in
    omega (arith, low, c.number.ensures, c.self.inside.marks.ok.0)

-- a stack without its top one, whose mark is taken away, holds all that are marked still
pub invariant_of-self : goal.invariant_of-self
invariant_of-self c =
    let places = c.self.inside.places.items in
    let count = c.self.inside.count in
    let marks = c.self.inside.marks.items in
    let at : c.number.result ≡ c.index-at.result.now = c.number.ensures in
    let most = marked_most marks in
    let some : 0 < count = omega (arith, c.if-self-eq0.false) in
    let within : count - 1 < length places =
    omega (arith, most, c.self.invariant.height, c.self.invariant.same, some) in
    let top = subst (λ x. slice_get places (count - 1) ≡ Some x) (sym at)
    (top_there places count c.index-at.result.now within c.index-at.ensures) in
    let low = c.self.invariant.low (count - 1) c.number.result (omega (arith, some)) top in
    let less = marked_unset marks c.number.result in
    let wide : length (set marks c.number.result false) ≡ length marks = length-set marks c.number.result false in
    record {
      same = c.self.invariant.same ∙ sym wide;
      few = omega (arith, wide, c.self.invariant.few);
      height = omega (arith, less, c.self.invariant.height, some);
      low = pop_low places count c.number.result marks some top c.self.invariant.low;
      held = pop_held places count c.number.result marks some top low c.self.invariant.held;
    }

-- the variable on top waits no more, and the others wait as before
pub returns-clause-taken : goal.returns-clause-taken
returns-clause-taken c =
    let places = c.self.inside.places.items in
    let count = c.self.inside.count in
    let marks = c.self.inside.marks.items in
    let at : c.number.result ≡ c.index-at.result.now = c.number.ensures in
    let most = marked_most marks in
    let some : 0 < count = omega (arith, c.if-self-eq0.false) in
    let within : count - 1 < length places =
    omega (arith, most, c.self.invariant.height, c.self.invariant.same, some) in
    let low = c.self.invariant.low (count - 1) c.index-at.result.now (omega (arith, some))
    (top_there places count c.index-at.result.now within c.index-at.ensures) in
    let Is : Waiters → Type 0 =
    λ w. IsTaken w (record { marks = set marks c.number.result false; count = count - 1 }) c.index-at.result.now in
    subst Is c.self.view_is (record {
      low = low;
      here = subst (λ x. get_or (set marks c.number.result false) x false ≡ false) at
          (get_or-set_same marks c.number.result false false (omega (arith, low, at)));
      others = λ v ne. get_or-set_other marks c.number.result v false false (λ e. ne (e ∙ at));
      count = omega (arith, some);
    })
