use Rattle.std.proofs.Common.{List, sym, subst}
use Rattle.std.proofs.lemmas.Result.{on_ok_weaker}
use Rattle.c_lexer.specs.Tokens.{Lexed}
use Rattle.c_types.specs.SourceSpelling.Keys.{AreNamesOf}
use Rattle.c_types.specs.Units.{all_but_last}
use Rattle.c_types.proofs.Joined.{last_behind}
use Rattle.c_types.proofs.units.name_last.Goals as goal

-- where there is a last unit, the names of all units but the last become the names of all
pub returns-in-Some : goal.returns-in-Some
returns-in-Some c =
    on_ok_weaker c.push.result (λ pushed named. subst (λ (units : List Lexed). AreNamesOf units c.push.new.self)
    (last_behind c.args.tokens.now c.in-Some.last.now (sym c.in-Some.ensures.value))
    (pushed (all_but_last c.args.tokens.now) named)) c.push.ensures
