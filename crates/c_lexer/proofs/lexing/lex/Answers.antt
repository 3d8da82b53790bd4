use Rattle.std.proofs.Common.{ℕ, List, sym, subst}
use Rattle.c_lexer.specs.Reading.{Front, Reaches, StopsBehind}
use Rattle.c_lexer.specs.Reading.Reaches.{begins}
use Rattle.c_lexer.specs.Refusals.{IsRefusal}
use Rattle.c_lexer.proofs.OnceLemmas.{answer-once, refused-once}
use Rattle.c_lexer.proofs.lexing.lex.Goals as goal

-- a new front is the beginning, which is reached
pub read_all-requires-clause-begins : goal.read_all-requires-clause-begins
read_all-requires-clause-begins c =
    let P : Front → Type 0 = λ f. Reaches c.args.unit c.args.wide c.args.words.now c.args.bytes.now f in
    subst P (sym c.new-front.ensures) begins

-- reading stopped behind gaps and tokens of this text
pub fault_of-requires-clause-stops : goal.fault_of-requires-clause-stops
fault_of-requires-clause-stops c =
    let P : ℕ × List ℕ → Type 0 =
    λ t. StopsBehind t.0 c.args.wide c.args.words.now t.1 c.read_all.new.front c.in-Err.stop in
    (c.args.wide, c.args.words.now, subst P (sym c.in-Ok.ensures) c.in-Err.ensures.stops)

-- the fault of the place where reading stopped is a refusal of the bytes
pub returns-clause-refused : goal.returns-clause-refused
returns-clause-refused c =
    let P : ℕ × List ℕ → Type 0 =
    λ t. StopsBehind t.0 c.args.wide c.args.words.now t.1 c.read_all.new.front c.in-Err.stop in
    let Q : ℕ × List ℕ → Type 0 = λ t. IsRefusal t.0 c.args.wide c.args.words.now t.1 c.fault_of.result in
    subst Q c.in-Ok.ensures
    (c.fault_of.ensures c.args.wide c.args.words.now (subst P (sym c.in-Ok.ensures) c.in-Err.ensures.stops))

-- where reading stopped and the bytes spell tokens, it was for want of memory
pub returns-clause-only : goal.returns-clause-only
returns-clause-only c =
    let P : ℕ × List ℕ → Type 0 =
    λ t. StopsBehind t.0 c.args.wide c.args.words.now t.1 c.read_all.new.front c.in-Err.stop in
    let Q : ℕ × List ℕ → Type 0 = λ t. IsRefusal t.0 c.args.wide c.args.words.now t.1 c.fault_of.result in
    refused-once c.args.unit c.args.wide c.args.words.now c.args.bytes.now c.fault_of.result (subst Q c.in-Ok.ensures
    (c.fault_of.ensures c.args.wide c.args.words.now (subst P (sym c.in-Ok.ensures) c.in-Err.ensures.stops)))

pub returns-in-Ok-read_all-clause-only : goal.returns-in-Ok-read_all-clause-only
returns-in-Ok-read_all-clause-only c =
    answer-once c.args.unit c.args.wide c.args.words.now c.args.bytes.now c.in-Ok.text c.finish.result c.in-Ok.ensures
    c.finish.ensures.unit c.finish.ensures.wide c.finish.ensures.bytes c.finish.ensures.spelled c.finish.ensures.memory
