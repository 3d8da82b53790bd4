use Rattle.std.proofs.Common.{List, Err, ◌∙◌, ap, sym, subst}
use Rattle.c_lexer.specs.Tokens.{Lexed}
use Rattle.constraint_gen.specs.Generating.{IsProgramOf}
use Rattle.cqual_tool.specs.declared.preparing.Ready.{Ready}
use Rattle.cqual_tool.specs.Words.{names_in}
use Rattle.cqual_tool.specs.Outcome.{ManyConstraints, ManyVariables, UnitsRefused}
use Rattle.sig_writer.specs.Functions.{functions_in}
use Rattle.cqual_tool.proofs.Joining.{refused}
use Rattle.cqual_tool.proofs.Held.{held, may_sign}
use Rattle.cqual_tool.proofs.preparing.constrain.Goals as goal

-- a program that was generated is ready: counted, with its constraints, its external functions and what signing needs
pub returns-in-Ok : goal.returns-in-Ok
returns-in-Ok c = λ units of shaped.
    let lent : IsProgramOf units c.deref.result.now c.args.program.now =
    subst (λ (lexed : List Lexed). IsProgramOf units lexed c.args.program.now) (sym c.deref.ensures.value) of in
    let made = c.in-Ok.ensures.made units lent in
    let few = c.in-Ok.ensures.few_variables units lent in
    let ready : Ready =
    record { tokens = c.args.tokens; made = c.in-Ok.made; functions = c.in_ok-functions-in-Ok.functions } in
    let functions = c.in_ok-functions-in-Ok.ensures ∙ ap functions_in of.named in
    record {
      counted = record {
        shaped = shaped;
        few_variables = few;
        few_constraints = c.in-Ok.ensures.few_constraints units lent;
      };
      differ = of.differ;
      units_are = of.lexed;
      made = made;
      externals = held c.args.lattices.now c.args.prelude.now units ready of.lexed functions made few
          c.externals_are_held.ensures;
      signs = may_sign c.args.lattices.now c.args.prelude.now units ready of.lexed functions made few of.read of.differ
          c.skeletons_are_in_order.ensures c.owned_apart.ensures c.externals_are_held.ensures;
      owned = c.in-Ok.ensures.owned units lent;
      within = c.in-Ok.ensures.named units lent;
      elements = c.in-Ok.ensures.elements units lent;
    }

-- units with more variables than the limit are refused by code Q1
pub returns-in-Err-TooManyVariables : goal.returns-in-Err-TooManyVariables
returns-in-Err-TooManyVariables c = λ units of shaped.
    let lent : IsProgramOf units c.deref.result.now c.args.program.now =
    subst (λ (lexed : List Lexed). IsProgramOf units lexed c.args.program.now) (sym c.deref.ensures.value) of in
    let fault = ap Err c.in-Err-TooManyVariables.field-0-is in
    let Refuses = UnitsRefused (names_in c.args.named.now) c.args.lattices.now c.args.prelude.now units in
    let said = c.in_ok-malformed-in-Err-TooManyVariables in
    let last = c.last_file.ensures in
    refused Refuses _ said.field-0 said.ensures
    (rw last (ManyVariables shaped (c.in-Err-TooManyVariables.ensures.too_many_variables fault units lent)))

-- units with few enough variables and more constraints than the limit are refused by code G1
pub returns-in-Err-TooManyConstraints : goal.returns-in-Err-TooManyConstraints
returns-in-Err-TooManyConstraints c = λ units of shaped.
    let lent : IsProgramOf units c.deref.result.now c.args.program.now =
    subst (λ (lexed : List Lexed). IsProgramOf units lexed c.args.program.now) (sym c.deref.ensures.value) of in
    let no = c.in-Err-TooManyConstraints.ensures in
    let fault = ap Err c.in-Err-TooManyConstraints.field-0-is in
    let Refuses = UnitsRefused (names_in c.args.named.now) c.args.lattices.now c.args.prelude.now units in
    let said = c.in_ok-malformed-in-Err-TooManyConstraints in
    let last = c.last_file-in-Err-TooManyConstraints.ensures in
    refused Refuses _ said.field-0 said.ensures
    (rw last (ManyConstraints shaped (no.fit_variables fault units lent) (no.too_many_constraints fault units lent)))
