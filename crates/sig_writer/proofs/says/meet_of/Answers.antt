use Rattle.std.proofs.Common.{◌≡◌, ◌<◌, ◌+◌, ℕ, true, false, sym, ◌∙◌, subst, arith}
use Rattle.std.specs.Int.{bit_at}
use Rattle.lattice_core.specs.Order.{size, IsGreatestLower}
use Rattle.sig_writer.proofs.JoinsMeets.{IsMeetBelow, meet_more, meet_same}
use Rattle.sig_writer.proofs.says.meet_of.Goals as goal
use Rattle.sig_writer.proofs.says.meet_of.Goals.{then-has_element, else-has_element}

pub meet-meet-requires-clause-first : goal.meet-meet-requires-clause-first
meet-meet-requires-clause-first c = c.loop-n.invariant.element

-- before the first element the meet is the greatest one
pub loop-n-init : goal.loop-n-init
loop-n-init c = record {
  element = c.requires.greatest.0;
  lower = λ a lt. absurd (omega (arith, lt));
  greatest = λ d lt below. c.requires.greatest.1 d lt;
}

-- the meet with an element of the set is the meet of the elements of the set so far
pub loop-n-preserved : goal.loop-n-preserved
loop-n-preserved c =
    let order = c.args.known.now.lattice.now.order in
    let lt : c.loop-n.n < size order = omega (arith, c.loop-n-test.true, c.size-n-end.ensures) in
    elim c.if-has_element.branch [
      | then-has_element w ↦
          let has : bit_at c.args.set c.loop-n.n ≡ 1 = c.has_element.ensures.0 w.if-has_element.true in
          let met = subst (λ (k : ℕ). IsGreatestLower order c.loop-n.meet k w.meet-meet.result) w.new.ensures
          w.meet-meet.ensures in
          subst (λ (m : ℕ). IsMeetBelow order c.args.set (c.loop-n.n + 1) m) (sym w.meet-is)
          (meet_more order c.law.ensures.lattice c.args.set c.loop-n.n c.loop-n.meet c.loop-n.invariant
          w.meet-meet.result lt has met)
      | else-has_element w ↦
          let lacks : bit_at c.args.set c.loop-n.n ≡ 1 →
          ⊥ = λ has. let both : true ≡ false = sym (c.has_element.ensures.1 has) ∙ w.if-has_element.false in
          absurd cc in
          subst (λ (m : ℕ). IsMeetBelow order c.args.set (c.loop-n.n + 1) m) (sym w.meet-is)
          (meet_same order c.law.ensures.lattice c.args.set c.loop-n.n c.loop-n.meet c.loop-n.invariant lacks)
    ]

-- behind the last element the meet is that of the whole set
pub returns : goal.returns
returns c =
    let so_far = c.loop-n.invariant in
    record {
      element = so_far.element;
      lower = λ a lt has. so_far.lower a (omega (arith, lt, c.loop-n-test.false, c.size-n-end.ensures)) has;
      greatest = so_far.greatest;
    }
