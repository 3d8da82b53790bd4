-- The summary of what is found in the generated source.
use Rattle.std.specs.Prelude.{ℕ, zero, suc, List, ◌++◌, codes}
use Rattle.std.specs.Fmt.{decimal}
use Rattle.annotate.specs.Texts.{line}
use Rattle.generated_source.specs.declared.summary.Counts.{Counts}

-- a number behind a word
abbrev pub count_line : List ℕ → ℕ → List ℕ
count_line word count = line (word ++ decimal count)

-- a program is accepted where no bound is exceeded
abbrev pub verdict_text : ℕ → List ℕ
verdict_text zero = line (codes "accepted")
verdict_text (suc errors) = line (codes "rejected")

-- the size of the source, what is counted of it, and whether it is accepted
abbrev pub summary_text : ℕ → Counts → List ℕ
summary_text n counts =
    count_line (codes "generated ") n
    ++ count_line (codes "variables ") counts.variables
    ++ count_line (codes "constraints ") counts.constraints
    ++ count_line (codes "sites ") counts.sites
    ++ verdict_text counts.errors
    ++ count_line (codes "errors ") counts.errors
