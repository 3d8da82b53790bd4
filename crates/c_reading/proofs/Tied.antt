-- The readers of a number obey their laws, over those of the number below.
use Rattle.std.proofs.Common.{ℕ, zero, suc, List}
use Rattle.c_specs.specs.Laws.{WholeAreMixes, MixesGoOn}
use Rattle.c_tree.specs.declared.lexeme.Lexeme.{Lexeme}
use Rattle.c_reading.specs.Reading.{IsNumbered}
use Rattle.c_reading.specs.Parts.{Inner, never}
use Rattle.c_reading.specs.Knot.{tied, knot}
use Rattle.c_reading.proofs.Aims.{TokenLaws, FirstLaws, Laws}
use Rattle.c_reading.proofs.Never.{never_laws}
use Rattle.c_reading.proofs.TokensShown.{token_laws}
use Rattle.c_reading.proofs.Firsts.{first_laws}
use Rattle.c_reading.proofs.ExprShown.{expr_laws}
use Rattle.c_reading.proofs.SpecsShown.{specs_laws}
use Rattle.c_reading.proofs.DeclrShown.{declr_laws, type_name_laws}
use Rattle.c_reading.proofs.InitShown.{init_list_laws}
use Rattle.c_reading.proofs.StmtShown.{block_laws, stmt_laws}

module _ (whole_are : WholeAreMixes) (goes : MixesGoOn) (all : List Lexeme) (numbered : IsNumbered all) where
  tokens : TokenLaws all
  tokens = token_laws all numbered

  firsts : FirstLaws all
  firsts = first_laws goes all numbered

  -- over readers of lower trees
  tied_laws : (n : ℕ) (inner : Inner) → Laws all n inner → Laws all (suc n) (tied inner)
  tied_laws n inner laws = record {
    exprs = expr_laws all numbered tokens firsts n inner laws;
    types = type_name_laws all numbered tokens goes n inner laws;
    words = specs_laws all numbered tokens firsts n inner laws whole_are goes;
    declrs = declr_laws all numbered tokens goes n inner laws;
    lists = init_list_laws all numbered tokens firsts n inner laws;
    blocks = block_laws all numbered tokens firsts n inner laws whole_are goes;
    stmts = stmt_laws all numbered tokens firsts n inner laws whole_are goes;
  }

  -- each reader of the number n
  pub laws_of : (n : ℕ) → Laws all (suc n) (knot n)
  unfolding knot
  laws_of zero = tied_laws 0 never (never_laws all)
  laws_of (suc n) = tied_laws (suc n) (knot n) (laws_of n)
