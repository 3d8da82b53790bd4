-- The faults of a call, by whether what is called is known.
use Rattle.std.proofs.Common.{◌≡◌, ℕ, ◌++◌, Option, Some, None, refl}
use Rattle.type_table.specs.Types.{CType}
use Rattle.name_rules.specs.Spellings.{Place}
use Rattle.name_rules.specs.Faults.{not_function, argument_count, fault_where}
use Rattle.name_rules.specs.Checks.{call_faults}
use Rattle.expr_shapes.specs.Types.{is_no_function, lacks_argument}

pub calls_are : (at : Place) (t : Option CType) (n : ℕ) → call_faults at t n
    ≡ fault_where (is_no_function t) at not_function ++ fault_where (lacks_argument t n) at argument_count
calls_are at None n = refl
calls_are at (Some t) n = refl
