use Rattle.std.proofs.Common.{◌≡◌, ℕ, List, length, slice_get, Some, ◌∙◌, refl, sym, ap, subst, arith}
use Rattle.annotate.specs.declared.solving.Solved.{Solved}
use Rattle.flow_query.specs.declared.ends.Ends.{Ends}
use Rattle.flow_query.specs.Ends.{AllEnds}
use Rattle.flow_query.proofs.Telling.{named_as, no_name}
use Rattle.flow_query.proofs.answers.answer_who.Goals as goal

-- where no variable is asked of, no declared name has this spelling
pub returns-then-is_empty : goal.returns-then-is_empty
returns-then-is_empty c = λ s shows.
    let none : c.in_ok-vars.vars.len ≡ 0 = grind arith in
    no_name s c.args.graph.now c.args.name.now c.in_ok-vars.vars.items (c.in_ok-vars.ensures s shows)
    (sym c.in_ok-vars.vars.ok.0 ∙ none)

-- the solutions and the ends of the graph are what `answer_found` requires of each lattice
pub answer_found-requires-clause-found : goal.answer_found-requires-clause-found
answer_found-requires-clause-found c =
    let sys = c.args.graph.now in
    let solutions = c.in_ok-solutions.ensures in
    record {
      owned = c.requires.owned;
      each = λ n solution there. solutions.each n solution
          (subst (λ (list : List Solved). slice_get list n ≡ Some solution) c.as_slice.ensures.value there);
      ends = subst (λ n. AllEnds sys n c.as_slice-2.result.now)
          (sym (ap (λ (list : List Solved). length list) c.as_slice.ensures.value ∙ solutions.count))
          (subst (λ (ends : List Ends). AllEnds sys (length c.args.scene.now.lattices.now) ends)
          (sym c.as_slice-2.ensures.value) c.in_ok-ends.ensures);
    }

-- the text of the variables, behind the line `who`, is the answer for the name
pub returns : goal.returns
returns c = λ s shows.
    let told = c.in_ok-text.ensures.part s shows in
    let some : c.in_ok-vars.vars.len ≡ 0 → ⊥ = λ none. grind arith in
    named_as s c.args.graph.now c.args.name.now c.in_ok-vars.vars.items c.deref.result.now _
    c.in_ok-text.text.items told.text (c.in_ok-vars.ensures s shows)
    (λ none. some (c.in_ok-vars.vars.ok.0 ∙ ap (λ (vars : List ℕ). length vars) none)) c.deref.ensures.value told.is
    refl told.added
