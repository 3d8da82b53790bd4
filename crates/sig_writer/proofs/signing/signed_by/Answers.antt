use Rattle.std.proofs.Common.{ℕ, ◌≡◌, None, ◌∙◌, subst}
use Rattle.std.specs.List.{flat_map}
use Rattle.std.proofs.lemmas.Result.{IfOk-weaker, IfErr-weaker}
use Rattle.bounds_below.specs.Below.{AreBelow}
use Rattle.sig_writer.specs.Library.{externals_by, FaultOr}
use Rattle.sig_writer.specs.Saying.{IsKnownOf}
use Rattle.sig_writer.specs.Signatures.{Found, first_refusal, lines_of, nodes_of}
use Rattle.sig_writer.specs.Signing.{IsFault, IsWritten}
use Rattle.sig_writer.proofs.Written.{refused, written, Lent}
use Rattle.sig_writer.proofs.signing.signed_by.Goals as goal

-- what `signed_by` is lent: a lattice, the summaries, the solver and the sets of bounds of one library
abbrev lent_in : (c : goal.After-drop-below-inside) →
    Lent c.args.graph.now c.args.lattice.now (externals_by c.args.library.now) c.args.summaries.now c.args.solver.now
    c.in_ok-below.below c.new-known.result
lent_in c = record {
  lat = c.laws.ensures.lattice;
  named = c.requires.named;
  summaries = c.requires.summaries;
  number = c.requires.number;
  solved = c.requires.solved;
  bounds = subst (λ (n : ℕ). AreBelow c.args.graph.now n c.in_ok-below.below) (c.lattice.ensures ∙ c.requires.number)
      c.in_ok-below.ensures;
  known_is = c.new-known.ensures.known;
  lattice_is = c.new-known.ensures.lattice;
  summaries_are = c.new-known.ensures.summaries;
  solver_is = c.new-known.ensures.solver;
  below_is = c.new-known.ensures.below;
}

-- the lines of a library are written of what is found, and serve every client
pub returns-clause-lines : goal.returns-clause-lines
returns-clause-lines c =
    let functions = externals_by c.args.library.now in
    let known = c.new-known.result in
    IfOk-weaker c.signatures.result
    (λ text. (it : Found) → IsKnownOf known (flat_map nodes_of functions) it →
    (first_refusal it known.lattice.now functions ≡ None) × (text.items ≡ lines_of it known.lattice.now functions))
    (λ text. IsWritten c.args.graph.now c.args.lattice.now functions text.items)
    (λ text said. written c.args.graph.now c.args.lattice.now functions c.args.summaries.now c.args.solver.now
    c.in_ok-below.below known (lent_in c) c.requires.owned c.requires.apart c.requires.accepted c.laws.ensures.paths
    c.laws.ensures.served c.laws.ensures.whole text.items said)
    c.signatures.ensures.lines

-- a fault is the first refusal of a function by what is found
pub returns-clause-fault : goal.returns-clause-fault
returns-clause-fault c =
    let functions = externals_by c.args.library.now in
    let known = c.new-known.result in
    IfErr-weaker c.signatures.result
    (λ fault. (it : Found) → IsKnownOf known (flat_map nodes_of functions) it →
    FaultOr fault (first_refusal it known.lattice.now functions))
    (IsFault c.args.graph.now c.args.lattice.now functions)
    (refused c.args.graph.now c.args.lattice.now functions c.args.summaries.now c.args.solver.now c.in_ok-below.below
    known (lent_in c))
    c.signatures.ensures.refused
