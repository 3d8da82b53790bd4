-- What a declarator becomes with a part more, by whether it has a name.
use Rattle.std.specs.Prelude.{◌≡◌, Result, IfOk, if◌then◌else◌}
use Rattle.qual_base.specs.declared.faults.NoMemory.{NoMemory}
use Rattle.c_nodes.specs.declared.sized.SizedDeclr.{SizedDeclr}
use Rattle.c_tree.specs.Tree.{Declr, SomeDeclr, no_declr, some_declr}
use Rattle.c_tree.specs.Lists.{some_declr_from}
use Rattle.c_tree.specs.WellFormed.{is_named}

-- one form for a declarator with a name, another for one without or for none
abbrev pub by_name : SomeDeclr → (Declr → Declr) → (SomeDeclr → Declr) → Declr
by_name no_declr of_named of_other = of_other no_declr
by_name (some_declr d) of_named of_other =
    if is_named d then of_named d else of_other (some_declr d)

-- where there is memory, there is this declarator
abbrev pub MakesDeclr : Result SizedDeclr NoMemory → Declr → Type 0
MakesDeclr result d = IfOk result (λ made. some_declr_from made.declr ≡ some_declr d)
