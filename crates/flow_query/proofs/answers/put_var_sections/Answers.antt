use Rattle.std.proofs.Common.{◌+◌, ◌∙◌, subst}
use Rattle.flow_graph.specs.System.{System}
use Rattle.flow_query.specs.Answers.{EachBelow, NoneBelow, SectionText}
use Rattle.flow_query.specs.Searches.{IsFinder}
use Rattle.annotate.proofs.Writing.{none_of, then_some}
use Rattle.flow_query.proofs.Telling.{next_below}
use Rattle.flow_query.proofs.Keeping.{walks_at}
use Rattle.flow_query.proofs.answers.put_var_sections.Goals as goal

-- before the first lattice nothing is written of the variable
pub loop-n-init : goal.loop-n-init
loop-n-init c = record {
  finder = c.requires.finder;
  text = none_of c.args.scene.now c.args.out.now.items
      (λ s text. EachBelow (SectionText s c.args.found.now.graph.now c.args.var) 0 text) (λ s shows. NoneBelow);
}

-- the walks of a lattice to the variables that are asked of have those to this one
pub put_section-requires-clause-walks : goal.put_section-requires-clause-walks
put_section-requires-clause-walks c =
    let section = c.section_in-section.result in
    walks_at c.args.found.now.graph.now section.graph.now _ c.new-lattice.result section.lattice c.args.var section.var
    c.args.walks.now c.walks_in.result.now c.section_in-section.ensures.graph c.section_in-section.ensures.lattice
    c.section_in-section.ensures.var c.walks_in.ensures c.requires.walks

-- the section of one lattice more is written behind those so far
pub loop-n-preserved : goal.loop-n-preserved
loop-n-preserved c =
    let section = c.section_in-section.result in
    let sys = c.args.found.now.graph.now in
    let here = c.section_in-section.ensures in
    record {
      finder = subst (λ (g : System). IsFinder g c.in_ok-finder.finder) here.graph c.in_ok-finder.ensures.finder;
      text = then_some (λ s text. EachBelow (SectionText s sys c.args.var) (c.loop-n.n + 1) text)
          c.loop-n.invariant.text c.in_ok-finder.ensures.text
          (λ s shows text part before next.
          next_below (SectionText s sys c.args.var) c.loop-n.n section.lattice text part
          (here.lattice ∙ c.new-lattice.ensures) before
          (subst (λ v. SectionText s sys v section.lattice part) here.var
          (subst (λ (g : System). SectionText s g section.var section.lattice part) here.graph next)));
    }
