use Rattle.std.proofs.Common.{◌≡◌, ◌+◌, ◌∙◌, ℕ, List, length, sym, subst, arith}
use Rattle.std.proofs.lemmas.Bool.{eqb-true}
use Rattle.flow_graph.specs.Index.{AreThose}
use Rattle.flow_query.specs.Answers.{EachBelow, NoneBelow, ToText, TosText}
use Rattle.flow_query.specs.Ends.{IsBound}
use Rattle.annotate.proofs.Writing.{none_of, then_some}
use Rattle.flow_query.proofs.Ending.{bound_low}
use Rattle.flow_query.proofs.Listing.{no_to_text}
use Rattle.flow_query.proofs.Telling.{as_some}
use Rattle.flow_query.proofs.Those.{all_of, from_place, item_has, next_of}
use Rattle.flow_query.proofs.sections.put_tos.Goals as goal

-- before the first bound nothing is written of the constraints before it
pub loop-number-init : goal.loop-number-init
loop-number-init c =
    let section = c.args.section.now in
    record {
      low = omega arith;
      text = none_of c.args.scene.now c.args.out.now.items
          (λ s text. EachBelow (ToText s section.graph.now section.lattice section.var) 0 text) (λ s shows. NoneBelow);
    }

-- a bound of the list is a constraint of the graph, as `put_to` requires
pub put_to-requires-clause-number : goal.put_to-requires-clause-number
put_to-requires-clause-number c =
    let section = c.args.section.now in
    let sys = section.graph.now in
    let items = c.as_slice-bounds.result.now in
    let Of : List ℕ → Type 0 = λ numbers. AreThose (IsBound sys section.lattice) numbers in
    let those = subst Of (sym c.as_slice-bounds.ensures.value) c.requires.section.ends.bounds in
    bound_low sys section.lattice c.number-item.result
    (item_has (IsBound sys section.lattice) items those c.loop-number.number-index c.number-item.result
    (omega arith) c.number-item.is)

-- what is written of one bound more comes behind the text of the constraints before it
pub loop-number-preserved : goal.loop-number-preserved
loop-number-preserved c =
    let section = c.args.section.now in
    let sys = section.graph.now in
    let items = c.as_slice-bounds.result.now in
    let Of : List ℕ → Type 0 = λ numbers. AreThose (IsBound sys section.lattice) numbers in
    let those = subst Of (sym c.as_slice-bounds.ensures.value) c.requires.section.ends.bounds in
    let place = c.loop-number.number-index in
    let test = c.loop-number-test.true in
    record {
      low = omega (arith, test);
      text =
          then_some (λ s text. EachBelow (ToText s sys section.lattice section.var) (from_place items (place + 1)) text)
          c.loop-number.invariant.text c.in_ok-put_to.ensures
          (λ s shows text here before next.
          next_of (ToText s sys section.lattice section.var) (IsBound sys section.lattice) items those
          (no_to_text s sys section.lattice section.var) place c.number-item.result text here
          (omega arith) c.number-item.is before next);
    }

-- behind the last bound the text is that of all constraints
pub returns-clause-text : goal.returns-clause-text
returns-clause-text c =
    let section = c.args.section.now in
    let sys = section.graph.now in
    let items = c.as_slice-bounds.result.now in
    let Of : List ℕ → Type 0 = λ numbers. AreThose (IsBound sys section.lattice) numbers in
    let those = subst Of (sym c.as_slice-bounds.ensures.value) c.requires.section.ends.bounds in
    let place = c.loop-number.number-index in
    let past = c.loop-number-test.false in
    let low = c.loop-number.invariant.low in
    let end : place ≡ length items = omega (arith, past, low) in
    as_some (λ s text. TosText s sys section.lattice section.var text) c.loop-number.invariant.text
    (λ s shows text each.
    all_of (ToText s sys section.lattice section.var) (IsBound sys section.lattice) items those
    (no_to_text s sys section.lattice section.var) place (length sys.constraints) text end
    (bound_low sys section.lattice) each)

-- where the lattice has no bound, no constraint gives a text behind the variable
pub returns-then-is_empty-clause-text : goal.returns-then-is_empty-clause-text
returns-then-is_empty-clause-text c =
    let section = c.args.section.now in
    let sys = section.graph.now in
    let items = c.as_slice-bounds.result.now in
    let Of : List ℕ → Type 0 = λ numbers. AreThose (IsBound sys section.lattice) numbers in
    let those = subst Of (sym c.as_slice-bounds.ensures.value) c.requires.section.ends.bounds in
    let end : 0 ≡ length items = sym (eqb-true (length items) 0 (sym c.is_empty.ensures ∙ c.if-is_empty.true)) in
    as_some (λ s text. TosText s sys section.lattice section.var text)
    (none_of c.args.scene.now c.args.out.now.items
    (λ s text. EachBelow (ToText s sys section.lattice section.var) 0 text) (λ s shows. NoneBelow))
    (λ s shows text each.
    all_of (ToText s sys section.lattice section.var) (IsBound sys section.lattice) items those
    (no_to_text s sys section.lattice section.var) 0 (length sys.constraints) text end
    (bound_low sys section.lattice) each)
