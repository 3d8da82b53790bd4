-- The line that says what a report comes to.
use Rattle.std.specs.Prelude.{ℕ, List, [], ◌∷◌, ◌++◌, codes}
use Rattle.std.specs.Fmt.{decimal}
use Rattle.flow_graph.specs.declared.proof.Why.{Why}
use Rattle.flow_graph.specs.declared.proof.Why.TheVariants.{B1, B2, B3, B4, B5, B6, B7}
use Rattle.path_checker.specs.declared.report_checks.judging.Checked.{Checked}
use Rattle.path_checker.specs.declared.report_checks.judging.Checked.TheVariants.{Hold, Bad}
use Rattle.path_checker.specs.declared.report_checks.judging.Code.{Code}
use Rattle.path_checker.specs.declared.report_checks.judging.Code.TheVariants.{K1, K2, Rule}

-- the name of a rule of paths that is broken
abbrev pub why_text : Why → List ℕ
why_text B1 = codes "B1"
why_text B2 = codes "B2"
why_text B3 = codes "B3"
why_text B4 = codes "B4"
why_text B5 = codes "B5"
why_text B6 = codes "B6"
why_text B7 = codes "B7"

-- the name of a reason why a report is bad
abbrev pub code_text : Code → List ℕ
code_text K1 = codes "K1"
code_text K2 = codes "K2"
code_text (Rule why) = why_text why

-- with its line feed
abbrev pub checked_text : Checked → List ℕ
checked_text Hold = codes "paths hold" ++ 10 ∷ []
checked_text (Bad line code) = codes "path bad at line " ++ decimal line ++ codes ": " ++ code_text code ++ 10 ∷ []
