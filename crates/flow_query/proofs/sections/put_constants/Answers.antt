use Rattle.std.proofs.Common.{◌≡◌, ◌+◌, ℕ, List, length, sym, subst, arith}
use Rattle.flow_graph.specs.Index.{AreThose}
use Rattle.flow_query.specs.Answers.{EachBelow, NoneBelow, FromText, FromsText}
use Rattle.flow_query.specs.Ends.{IsConstant}
use Rattle.annotate.proofs.Writing.{none_of, then_some}
use Rattle.flow_query.proofs.Ending.{constant_low}
use Rattle.flow_query.proofs.Listing.{no_from_text}
use Rattle.flow_query.proofs.Telling.{as_some}
use Rattle.flow_query.proofs.Those.{all_of, from_place, item_has, next_of}
use Rattle.flow_query.proofs.sections.put_constants.Goals as goal

-- before the first constant nothing is written of the constraints before it
pub loop-number-init : goal.loop-number-init
loop-number-init c =
    let section = c.args.section.now in
    record {
      low = omega arith;
      text = none_of c.args.scene.now c.args.out.now.items
          (λ s text. EachBelow (FromText s section.graph.now section.lattice section.var) 0 text)
          (λ s shows. NoneBelow);
    }

-- a constant of the list is a constraint of the graph, as `put_from` requires
pub put_from-requires-clause-number : goal.put_from-requires-clause-number
put_from-requires-clause-number c =
    let section = c.args.section.now in
    let sys = section.graph.now in
    let items = c.as_slice-constants.result.now in
    let Of : List ℕ → Type 0 = λ numbers. AreThose (IsConstant sys section.lattice) numbers in
    let those = subst Of (sym c.as_slice-constants.ensures.value) c.requires.section.ends.constants in
    constant_low sys section.lattice c.number-item.result
    (item_has (IsConstant sys section.lattice) items those c.loop-number.number-index c.number-item.result
    (omega arith) c.number-item.is)

-- what is written of one constant more comes behind the text of the constraints before it
pub loop-number-preserved : goal.loop-number-preserved
loop-number-preserved c =
    let section = c.args.section.now in
    let sys = section.graph.now in
    let items = c.as_slice-constants.result.now in
    let Of : List ℕ → Type 0 = λ numbers. AreThose (IsConstant sys section.lattice) numbers in
    let those = subst Of (sym c.as_slice-constants.ensures.value) c.requires.section.ends.constants in
    let place = c.loop-number.number-index in
    let test = c.loop-number-test.true in
    record {
      low = omega (arith, test);
      text = then_some
          (λ s text. EachBelow (FromText s sys section.lattice section.var) (from_place items (place + 1)) text)
          c.loop-number.invariant.text c.in_ok-put_from.ensures
          (λ s shows text here before next.
          next_of (FromText s sys section.lattice section.var) (IsConstant sys section.lattice) items those
          (no_from_text s sys section.lattice section.var) place c.number-item.result text here
          (omega arith) c.number-item.is before next);
    }

-- behind the last constant the text is that of all constraints
pub returns : goal.returns
returns c =
    let section = c.args.section.now in
    let sys = section.graph.now in
    let items = c.as_slice-constants.result.now in
    let Of : List ℕ → Type 0 = λ numbers. AreThose (IsConstant sys section.lattice) numbers in
    let those = subst Of (sym c.as_slice-constants.ensures.value) c.requires.section.ends.constants in
    let place = c.loop-number.number-index in
    let past = c.loop-number-test.false in
    let low = c.loop-number.invariant.low in
    let end : place ≡ length items = omega (arith, past, low) in
    as_some (λ s text. FromsText s sys section.lattice section.var text) c.loop-number.invariant.text
    (λ s shows text each.
    all_of (FromText s sys section.lattice section.var) (IsConstant sys section.lattice) items those
    (no_from_text s sys section.lattice section.var) place (length sys.constraints) text end
    (constant_low sys section.lattice) each)
