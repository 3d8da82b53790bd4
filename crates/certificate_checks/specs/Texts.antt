-- The line that says what a certificate comes to.
use Rattle.std.specs.Prelude.{ℕ, List, [], ◌∷◌, ◌++◌, codes}
use Rattle.std.specs.Fmt.{decimal}
use Rattle.certificate_laws.specs.declared.rule.CertRule.{CertRule}
use Rattle.certificate_laws.specs.declared.rule.CertRule.TheVariants.{A1, A2, A3, A4, A5, A6, A7, A8, A9}
use Rattle.certificate_checks.specs.declared.judging.CertCode.{CertCode}
use Rattle.certificate_checks.specs.declared.judging.CertCode.TheVariants.{V1, V2}
use Rattle.certificate_checks.specs.declared.judging.Verdict.{Verdict}
use Rattle.certificate_checks.specs.declared.judging.Verdict.TheVariants.{Holds, Fails, Unread}

-- the name of a rule
abbrev pub rule_text : CertRule → List ℕ
rule_text A1 = codes "A1"
rule_text A2 = codes "A2"
rule_text A3 = codes "A3"
rule_text A4 = codes "A4"
rule_text A5 = codes "A5"
rule_text A6 = codes "A6"
rule_text A7 = codes "A7"
rule_text A8 = codes "A8"
rule_text A9 = codes "A9"

-- the name of a reason why a certificate does not read
abbrev pub code_text : CertCode → List ℕ
code_text V1 = codes "V1"
code_text V2 = codes "V2"

-- a line that says where a certificate is bad, and why, with its line feed
abbrev pub bad_text : List ℕ → ℕ → List ℕ → List ℕ
bad_text front number name = front ++ decimal number ++ codes ": " ++ name ++ 10 ∷ []

-- the line that says what a certificate comes to, with its line feed
abbrev pub verdict_text : Verdict → List ℕ
verdict_text Holds = codes "certificate holds" ++ 10 ∷ []
verdict_text (Fails lattice rule) = bad_text (codes "certificate bad in lattice ") lattice (rule_text rule)
verdict_text (Unread line code) = bad_text (codes "certificate bad at line ") line (code_text code)
