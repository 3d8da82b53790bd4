use Rattle.std.proofs.Common.{arith, ℕ, false, ◌≤◌, List, length, subst}
use Rattle.lattice_file.specs.Faults.{IsFileFault}
use Rattle.generated_source.specs.Source.{lattice_text}
use Rattle.cqual_tool.specs.declared.status.Status.TheVariants.{Malformed}
use Rattle.cqual_tool.specs.Outcome.{OfMade, MadeLatticesRefused, lattice_limit}
use Rattle.cqual_tool.proofs.Outcomes.{at_equal, both_ok}
use Rattle.cqual_tool.proofs.making.made_answer.Goals as goal

-- the line of the made lattice file that does not read is the answer for the made source
pub returns-clause-outcome : goal.returns-clause-outcome
returns-clause-outcome c =
    let fault = c.in-Err.fault in
    let within : length lattice_text ≤ lattice_limit = omega arith in
    both_ok c.lattice_refused.result c.lattice_refused.ensures.line c.lattice_refused.ensures.reason
    (λ answer says reason. at_equal (OfMade c.args.number) _ Malformed _ _ says.0 says.1
    (MadeLatticesRefused fault (record {
      within = within;
      refused =
          subst (λ (bytes : List ℕ). IsFileFault false bytes fault) c.lattice_bytes.ensures c.in-Err.ensures.refused;
      reason = reason;
    })))
