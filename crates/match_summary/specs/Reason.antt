-- The variable where the last part of a path begins.
use Rattle.std.specs.Prelude.{ℕ}
use Rattle.match_summary.specs.declared.reason.Reason.{Reason}
use Rattle.match_summary.specs.declared.reason.Reason.TheVariants.{Last, Group}

-- the variable where the last part of a path begins
abbrev pub before_of : Reason → ℕ
before_of (Last edge before) = before
before_of (Group before enter leave) = before
