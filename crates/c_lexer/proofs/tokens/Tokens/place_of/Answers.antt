use Rattle.std.proofs.Common.{◌∙◌, ap}
use Rattle.c_lexer.specs.Tokens.{Lexed}
use Rattle.c_lexer.proofs.PlaceLemmas.{spot_of_start, names_start}
use Rattle.c_lexer.proofs.tokens.Tokens.place_of.Goals as goal

-- the spot of a token is that of its start
pub returns-clause-spot : goal.returns-clause-spot
returns-clause-spot c =
    spot_of_start c.args.self.now _ _ _ (ap (λ (l : Lexed). l.unit) c.self.view_is)
    (ap (λ (l : Lexed). l.bytes) c.self.view_is) (c.deref.ensures.value ∙ ap (λ (l : Lexed). l.marks) c.self.view_is)
    c.args.at c.start-start.result c.spot_of.result c.start-start.ensures c.spot_of.ensures.spot

-- the spot of a token names the place of its start
pub returns-clause-names : goal.returns-clause-names
returns-clause-names c =
    names_start c.args.self.now _ _ _ (ap (λ (l : Lexed). l.unit) c.self.view_is)
    (ap (λ (l : Lexed). l.bytes) c.self.view_is) (c.deref.ensures.value ∙ ap (λ (l : Lexed). l.marks) c.self.view_is)
    c.args.at c.start-start.result c.spot_of.result c.start-start.ensures c.spot_of.ensures.names
