use Rattle.std.proofs.Common.{◌≡◌, ◌≤◌, refl, sym, ◌∙◌, ap, arith}
use Rattle.std.proofs.lemmas.Bool.{eqb-true}
use Rattle.std.proofs.lemmas.Result.{on_ok_weaker}
use Rattle.flow_graph.specs.declared.constraint.Link.{Link}
use Rattle.flow_graph.specs.declared.constraint.Link.TheVariants.{Const}
use Rattle.flow_graph.specs.System.{vars_of_link}
use Rattle.error_path.specs.declared.search.Origin.TheVariants.{Element}
use Rattle.error_path.specs.Marks.{size_of}
use Rattle.error_path.proofs.Searching.{low_of}
use Rattle.error_path.proofs.search.Search.start_at.Goals as goal

-- the variable of a constant has a mark
pub note-requires : goal.note-requires
note-requires c =
    let low : vars_of_link (Const c.in-Const.named c.in-Const.mark c.in-Const.at) ≤ size_of c.args.self.now.marks =
    low_of c.args.graph.now c.args.lattice c.args.edge c.constraint-link.result
    (Const c.in-Const.named c.in-Const.mark c.in-Const.at) c.constraint-link.ensures.there c.in-Const.is _
    c.requires.below in
    omega arith

-- a search stays good when it notes the variable of a constant of its lattice and element
pub returns-then-eq-2-clause-good : goal.returns-then-eq-2-clause-good
returns-then-eq-2-clause-good c =
    let named : c.in-Const.named ≡ c.args.lattice = eqb-true _ _ (sym c.if-eq.ensures) in
    let mark : c.in-Const.mark ≡ c.args.elem = eqb-true _ _ (sym c.if-eq-2.ensures) in
    let is : c.constraint-link.result.link ≡ Const c.args.lattice c.args.elem c.in-Const.at =
    c.in-Const.is ∙ ap (λ x. let l : Link = Const x c.in-Const.mark c.in-Const.at in l) named
    ∙ ap (λ x. let l : Link = Const c.args.lattice x c.in-Const.at in l) mark in
    on_ok_weaker c.note.result (λ on rows good. on c.args.graph.now c.args.lattice (Element c.args.elem) rows (
      c.args.elem,
      refl,
      record {
        constraint = c.constraint-link.result;
        there = c.constraint-link.ensures.there;
        link_is = is;
        carried = refl;
      },
      refl,
    ) good) c.note.ensures.good
