use Rattle.std.proofs.Common.{ℕ, List, subst}
use Rattle.std.proofs.lemmas.Result.{IfOk-weaker}
use Rattle.lattice_core.specs.View.{orders_of}
use Rattle.closure_check.specs.declared.part.Part.{Part}
use Rattle.certificate_checks.specs.Checks.{FailsFirst, ObeysAt, Proves, Breaks}
use Rattle.certificate_checks.proofs.Verdicts.{fault_comes}
use Rattle.certificate_checks.proofs.judging.judge_certificate.Goals as goal

-- a text that does not read comes to the verdict of its fault
pub returns-in-Err-clause-is : goal.returns-in-Err-clause-is
returns-in-Err-clause-is c =
    IfOk-weaker c.unread.result _ _
    (λ verdict is. fault_comes c.args.graph.now
    (orders_of c.args.lattices.now) c.args.bytes.now c.in-Err.fault verdict is c.in-Err.ensures.fault) c.unread.ensures

-- a text that reads and breaks no rule comes to `Holds`
pub returns-in-None-clause-is : goal.returns-in-None-clause-is
returns-in-None-clause-is c =
    let All : List Part → Type 0 = λ parts. (n : ℕ)
    → ObeysAt c.args.graph.now (orders_of c.args.lattices.now) parts n in
    Proves c.in-Ok.parts.items c.in-Ok.ensures.reads (subst All c.deref.ensures.value c.in-None.ensures.first)

-- a text that reads and breaks a rule comes to `Fails`, with the first lattice and the lowest rule
pub returns-clause-is : goal.returns-clause-is
returns-clause-is c =
    let First : List Part → Type 0 =
    λ parts. FailsFirst c.args.graph.now (orders_of c.args.lattices.now) parts c.in-Some.before c.in-Some.rule in
    Breaks c.in-Ok.parts.items c.in-Some.before c.in-Some.rule c.in-Ok.ensures.reads
    (subst First c.deref.ensures.value c.in-Some.ensures.first)
