use Rattle.std.proofs.Common.{◌≡◌, ℕ, inl, inr, arith, subst, ◌∙◌}
use Rattle.std.proofs.lemmas.Bool.{cases_lt}
use Rattle.std.proofs.lemmas.Option.{slice_get_within}
use Rattle.flow_graph.specs.declared.constraint.Link.TheVariants.{Leave}
use Rattle.flow_graph.specs.System.{Has}
use Rattle.closure_check.specs.Index.{LiesIn, span_at}
use Rattle.closure_check.proofs.index.returns_of.Goals as goal

-- noting one more constraint keeps the returns before it in the spans of their sites
pub loop-n-preserved : goal.loop-n-preserved
loop-n-preserved c = record {
  size = c.note.ensures.size ∙ c.loop-n.invariant.size;
  all = λ n s y v low has. elim (cases_lt n c.loop-n.n) [
    | inl before ↦ c.note.ensures.kept s n (c.loop-n.invariant.all n s y v before has)
    | inr last ↦
        let same : c.loop-n.n ≡ n = omega (arith, low, last) in
        let Here : ℕ → Type 0 = λ k. Has c.args.graph.now k (Leave s y v)
        → LiesIn (span_at c.note.new.spans.items s) k in
        subst Here same (c.note.ensures.here s y v) has
  ];
}

-- when all constraints are noted, each return lies in the span of its site
pub returns : goal.returns
returns c = λ n s y v has.
    let inside = slice_get_within c.args.graph.now.constraints n has.constraint has.there in
    c.loop-n.invariant.all n s y v (omega (arith, inside, c.loop-n-test.false, c.len-n-end.ensures.length)) has
