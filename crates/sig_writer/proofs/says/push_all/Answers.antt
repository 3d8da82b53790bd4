use Rattle.std.proofs.Common.{◌≡◌, ◌+◌, ◌∷◌, [], ℕ, List, Some, inl, inr, length, length-append, slice_get, ◌∙◌, ap}
use Rattle.std.proofs.Common.{subst, arith}
use Rattle.sig_writer.specs.declared.says.Elements.{Elements}
use Rattle.sig_writer.specs.Saying.{AreFoundAt}
use Rattle.sig_writer.proofs.Numbering.{pushed_cases}
use Rattle.sig_writer.proofs.says.push_all.Goals as goal

-- before the first node no elements are added
pub loop-n-init : goal.loop-n-init
loop-n-init c =
    let none : length c.args.elements.now.items ≡ 0 = ap length c.requires.none in
    record {
      count = omega (arith, none);
      are = λ k it is. let gone : slice_get {X = Elements} [] k ≡ Some it = subst
          (λ (xs : List Elements). slice_get xs k ≡ Some it) c.requires.none is in absurd cc;
    }

-- the elements of one node more are those found of the nodes so far
pub loop-n-preserved : goal.loop-n-preserved
loop-n-preserved c =
    let so_far = c.loop-n.invariant in
    let step = c.in_ok-push_elements.ensures in
    let old = c.loop-n.elements.items in
    record {
      count =
          let long : length c.push_elements.new.elements.items ≡ length old + 1 = ap length step.pushed
          ∙ length-append old (step.it ∷ []) in
          let count = so_far.count in
          omega (arith, long, count);
      are = λ k it is. elim (pushed_cases old step.it k it
          (subst (λ (xs : List Elements). slice_get xs k ≡ Some it) step.pushed is)) [
            | inl early ↦ so_far.are k it early
            | inr last ↦
                let count = so_far.count in
                let at : c.new.result ≡ c.args.nodes.from + k = omega (arith, count, last.0, c.new.ensures) in
                subst (λ (e : Elements). AreFoundAt c.args.known.now (c.args.nodes.from + k) e) last.1
                (subst (λ (v : ℕ). AreFoundAt c.args.known.now v step.it) at step.found)
          ];
    }

-- behind the last node there are the elements found of each
pub returns : goal.returns
returns c =
    let so_far = c.loop-n.invariant in
    record {
      count = let count = so_far.count in omega arith;
      are = so_far.are;
    }
