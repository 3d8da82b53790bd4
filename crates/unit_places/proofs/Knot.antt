-- What each reader owes, for the readers of every number: by one induction over the families.
use Rattle.std.proofs.Common.{ℕ, zero, suc, ◌<◌, Bool, [], arith}
use Rattle.c_specs.specs.Laws.{WholeAreMixes, MixesGoOn}
use Rattle.c_reading.specs.Parts.{Inner, never}
use Rattle.c_reading.specs.Knot.{tied, knot}
use Rattle.c_reading.proofs.Aims.{Laws}
use Rattle.c_reading.proofs.Never.{never_laws}
use Rattle.c_reading.proofs.KnotLaws.{knot_laws}
use Rattle.reading_steps.specs.InnerLaws.{InnerLaws, number_of}
use Rattle.expr_places.proofs.Rows.{expr_places}
use Rattle.expr_places.proofs.Inits.{init_list_places}
use Rattle.decl_places.proofs.Specs.{specs_places}
use Rattle.decl_places.proofs.Shown.{declr_places, type_name_places}
use Rattle.stmt_places.proofs.Blocks.{block_places}
use Rattle.stmt_places.proofs.Stmts.{stmt_places}

lower : (room : ℕ) → room < 0 → ⊥
lower room h = absurd (omega (arith, h))

lower_number : (flag : Bool) (room : ℕ) → number_of flag room < 0 → ⊥
lower_number flag room h = absurd (omega (arith, h))

-- of readers that are never called nothing is owed
never_places : InnerLaws 0 never
never_places = record {
  exprs = record {
    good = λ reach begun room less. absurd (lower room less);
    ready = λ reach begun room less. absurd (lower room less);
    number = λ reach begun room less. absurd (lower room less);
    opens = λ reach room less. absurd (lower room less);
    named = λ reach room less. absurd (lower room less);
  };
  types = record { good = λ room less. absurd (lower room less); ready = λ room less. absurd (lower room less) };
  words = record {
    good = λ role words room less. absurd (lower room less);
    ready = λ role words room less. absurd (lower room less);
    begins = λ role room less. absurd (lower room less);
    room = λ role words room s ts x e. absurd cc;
    low = λ role words s ts x e. absurd cc;
    auto = λ role words room s ts x fits e. absurd cc;
    based = λ role words room less. absurd (lower room less);
  };
  declrs = record {
    good = λ mode wanted flag room less. absurd (lower_number flag room less);
    named = λ wanted flag room less. absurd (lower_number flag room less);
    absent = λ wanted flag room less. absurd (lower_number flag room less);
    either = λ wanted flag room less. absurd (lower_number flag room less);
    starred = λ mode wanted flag room absent_is less. absurd (lower_number flag room less);
    there = λ mode wanted flag room s ts x e. absurd cc;
    room = λ mode wanted flag room s ts x e. absurd cc;
  };
  lists = record { good = λ room less. absurd (lower room less); ready = λ room less. absurd (lower room less) };
  blocks = record { good = λ room less. absurd (lower room less); ready = λ room less. absurd (lower room less) };
  stmts = record { good = λ room less. absurd (lower room less); ready = λ room less. absurd (lower room less) };
}

-- over the readers of lower trees
tied_places : (n : ℕ) (inner : Inner) → Laws [] n inner → InnerLaws n inner → InnerLaws (suc n) (tied inner)
tied_places n inner laws places = record {
  exprs = expr_places n inner laws places;
  types = type_name_places n inner places laws;
  words = specs_places n inner places laws;
  declrs = declr_places n inner places laws;
  lists = init_list_places n inner laws places;
  blocks = block_places n inner laws places;
  stmts = stmt_places n inner laws places;
}

module _ (whole_are : WholeAreMixes) (goes : MixesGoOn) where
  pub knot_places : (n : ℕ) → InnerLaws (suc n) (knot n)
  unfolding knot
  knot_places zero = tied_places 0 never (never_laws []) never_places
  knot_places (suc n) = tied_places (suc n) (knot n) (knot_laws whole_are goes n) (knot_places n)
