use Rattle.std.proofs.Common.{sym, subst}
use Rattle.std.specs.Prelude.{IfOk}
use Rattle.cqual_words.specs.Asked.{question_in}
use Rattle.cqual_words.specs.declared.asked.Question.{Question}
use Rattle.cqual_tool.specs.Words.{names_in}
use Rattle.cqual_tool.specs.Programs.{judging_of}
use Rattle.cqual_tool.specs.Outcome.{IsAlone}
use Rattle.cqual_tool.proofs.ending.alone.Goals as goal

-- where a certificate is asked for, the certificate or the report is the answer alone
pub returns-in-Certify-clause-alone : goal.returns-in-Certify-clause-alone
returns-in-Certify-clause-alone c = λ units marks is.
    let it = judging_of (names_in c.args.named.now) c.args.lattices.now marks units in
    subst (λ (q : Question).
    IfOk c.certificate.result (λ answer. IsAlone (question_in q) it answer.status answer.text.items))
    (sym c.in-Certify.is) (c.certificate.ensures.certified units marks is)

-- where it is asked who reaches a name, who does is the answer alone
pub returns-in-Who-clause-alone : goal.returns-in-Who-clause-alone
returns-in-Who-clause-alone c = λ units marks is.
    let it = judging_of (names_in c.args.named.now) c.args.lattices.now marks units in
    subst (λ (q : Question). IfOk c.who.result (λ answer. IsAlone (question_in q) it answer.status answer.text.items))
    (sym c.in-Who.is) (c.who.ensures.answered units marks is)

-- where signatures are asked for, the answer of the library is the answer alone
pub returns-in-Sign-clause-alone : goal.returns-in-Sign-clause-alone
returns-in-Sign-clause-alone c = λ units marks is.
    let it = judging_of (names_in c.args.named.now) c.args.lattices.now marks units in
    subst (λ (q : Question).
    IfOk c.signatures.result (λ answer. IsAlone (question_in q) it answer.status answer.text.items))
    (sym c.in-Sign.is) (c.signatures.ensures.signed units marks is)
