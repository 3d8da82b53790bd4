use Rattle.std.proofs.Common.{◌≡◌, ℕ, inl, inr, length, sym, ◌∙◌, ap, subst, arith, false, get_or, replicate}
use Rattle.std.proofs.lemmas.Bool.{cases_lt, false≢true}
use Rattle.std.proofs.lemmas.List.{get_or_past, get_or-replicate, length-replicate}
use Rattle.std.proofs.lemmas.Option.{slice_get_within}
use Rattle.flow_graph.specs.System.{AllBelow, Stands}
use Rattle.flow_graph.specs.declared.constraint.Link.TheVariants.{Enter}
use Rattle.match_summary.proofs.closure.inner_ends.Goals as goal

-- new marks are not set anywhere
none_marked : (n a : ℕ) → get_or (replicate n false) a false ≡ false
none_marked n a = elim (cases_lt a n) [
  | inl within ↦ get_or-replicate n a false false within
  | inr past ↦
      let size = length-replicate n false in
      get_or_past (replicate n false) a false (omega (arith, past, size))
]

-- at first no variable is marked, and each variable of the graph has a mark
pub loop-n-init : goal.loop-n-init
loop-n-init c =
    let same = c.in_ok-ends.ensures.items_if_clones_equal (λ y e. e) in
    let count : length c.in_ok-ends.ends.items ≡ c.vars.result =
    ap length same ∙ length-replicate c.vars.result false in
    record {
      size = count ∙ c.vars.ensures.value;
      below = subst (λ (k : ℕ). AllBelow c.args.graph.now k) (sym count) c.vars.ensures.above;
      only = λ a is. absurd (false≢true (sym (none_marked _ a) ∙ ap (λ xs. get_or xs a false) (sym same) ∙ is));
      all = λ k s u a lt st. absurd (omega (arith, lt));
    }

-- marking one more constraint keeps all marks at inner ends
pub loop-n-preserved : goal.loop-n-preserved
loop-n-preserved c =
    let step = c.mark.ensures in
    let at : c.new.result ≡ c.loop-n.n = c.new.ensures in
    record {
      size = step.size ∙ c.loop-n.invariant.size;
      below = subst (λ (k : ℕ). AllBelow c.args.graph.now k) (sym step.size) c.loop-n.invariant.below;
      only = λ a is. elim (step.only a is) [ inl old ↦ c.loop-n.invariant.only a old | inr inner ↦ inner ];
      all = λ k s u a lt st. elim (cases_lt k c.loop-n.n) [
        | inl before ↦ step.kept a (c.loop-n.invariant.all k s u a before st)
        | inr last ↦
            let same : k ≡ c.new.result = omega (arith, lt, last, at) in
            step.there s u a (subst (λ n. Stands c.args.graph.now c.args.lattice n (Enter s u a)) same st)
      ];
    }

-- exactly the variables to which an `Enter` of the lattice leads are marked
pub returns-clause-ends : goal.returns-clause-ends
returns-clause-ends c = λ a. (
  c.loop-n.invariant.only a,
  λ inner.
      let lt = slice_get_within c.args.graph.now.constraints inner.0 inner.3.constraint inner.3.there in
      c.loop-n.invariant.all inner.0 inner.1 inner.2 a
      (omega (arith, lt, c.loop-n-test.false, c.len-n-end.ensures.length)) inner.3,
)
