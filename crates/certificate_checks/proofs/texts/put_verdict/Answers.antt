use Rattle.std.proofs.Common.{◌≡◌, ◌++◌, codes, OnOk, ℕ, List, sym, subst}
use Rattle.certificate_checks.specs.declared.judging.Verdict.{Verdict}
use Rattle.certificate_checks.specs.Texts.{bad_text, verdict_text}
use Rattle.certificate_checks.proofs.texts.put_verdict.Goals as goal

-- the text of an unread verdict names the line, counted from 1, and the code
pub returns-in-Unread : goal.returns-in-Unread
returns-in-Unread c =
    let put = c.put_bad-in-Unread in
    let old = c.args.out.now.items in
    let By : List ℕ → Type 0 = λ name.
    OnOk put.result (put.new.out.items ≡ old ++ bad_text (codes "certificate bad at line ") c.in-Unread.line name) in
    let Of : Verdict → Type 0 = λ verdict. OnOk put.result (put.new.out.items ≡ old ++ verdict_text verdict) in
    subst Of (sym c.in-Unread.is) (subst By c.name_of.ensures put.ensures)
